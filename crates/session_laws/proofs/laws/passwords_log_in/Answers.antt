use Rattle.session_laws.proofs.Logins.{logs_in_by_password, not_by_name, not_for_anybody, not_without_identity, only_rule}
use Rattle.session_laws.proofs.laws.passwords_log_in.Goals as goal

pub returns-clause-exact : goal.returns-clause-exact
returns-clause-exact c = logs_in_by_password

pub returns-clause-by_password : goal.returns-clause-by_password
returns-clause-by_password c = not_by_name

pub returns-clause-as_itself : goal.returns-clause-as_itself
returns-clause-as_itself c = not_for_anybody

pub returns-clause-by_identity : goal.returns-clause-by_identity
returns-clause-by_identity c = not_without_identity

pub returns-clause-only : goal.returns-clause-only
returns-clause-only c = only_rule
