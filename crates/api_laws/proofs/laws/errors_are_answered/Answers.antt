use Rattle.api_laws.proofs.ErrorCases.{errors_are_answered as the_law}
use Rattle.api_laws.proofs.WrongReads.{not_beating_anyway}
use Rattle.api_laws.proofs.laws.errors_are_answered.Goals as goal

pub returns-clause-told : goal.returns-clause-told
returns-clause-told c = the_law

pub returns-clause-beats : goal.returns-clause-beats
returns-clause-beats c = not_beating_anyway
