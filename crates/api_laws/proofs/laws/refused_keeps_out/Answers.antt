use Rattle.api_laws.proofs.KeptOut.{refused_keeps_out as the_law}
use Rattle.api_laws.proofs.WrongTransactions.{not_adding_the_others, not_missing_as_untried}
use Rattle.api_laws.proofs.laws.refused_keeps_out.Goals as goal

pub returns-clause-kept_out : goal.returns-clause-kept_out
returns-clause-kept_out c = the_law

pub returns-clause-others : goal.returns-clause-others
returns-clause-others c = not_adding_the_others

pub returns-clause-missing : goal.returns-clause-missing
returns-clause-missing c = not_missing_as_untried
