use Rattle.session_laws.proofs.Refused.{wrong_password_is_last, not_after_refusals}
use Rattle.session_laws.proofs.laws.wrong_passwords_are_last.Goals as goal

pub returns-clause-last : goal.returns-clause-last
returns-clause-last c = wrong_password_is_last

pub returns-clause-ended : goal.returns-clause-ended
returns-clause-ended c = not_after_refusals
