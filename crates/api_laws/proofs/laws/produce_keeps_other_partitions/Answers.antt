use Rattle.api_laws.proofs.DataPartitions.{produce_keeps_partitions as the_law}
use Rattle.api_laws.proofs.WrongTenants.{not_to_the_first}
use Rattle.api_laws.proofs.laws.produce_keeps_other_partitions.Goals as goal

pub returns-clause-kept : goal.returns-clause-kept
returns-clause-kept c = the_law

pub returns-clause-its_own : goal.returns-clause-its_own
returns-clause-its_own c = not_to_the_first
