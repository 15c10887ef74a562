use Rattle.api_laws.proofs.BareAnswers.{refusals_tell_nothing as the_law}
use Rattle.api_laws.proofs.WrongReads.{not_with_acls, not_with_ends}
use Rattle.api_laws.proofs.laws.refusals_tell_nothing.Goals as goal

pub returns-clause-bare : goal.returns-clause-bare
returns-clause-bare c = the_law

pub returns-clause-no_acls : goal.returns-clause-no_acls
returns-clause-no_acls c = not_with_acls

pub returns-clause-no_offsets : goal.returns-clause-no_offsets
returns-clause-no_offsets c = not_with_ends
