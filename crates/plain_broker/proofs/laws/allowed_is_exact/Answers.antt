use Rattle.plain_broker.proofs.Exact.{allowed_is_exact, refused_answers}
use Rattle.plain_broker.proofs.laws.allowed_is_exact.Goals as goal

pub returns-clause-parts : goal.returns-clause-parts
returns-clause-parts c = allowed_is_exact

pub returns-clause-answers : goal.returns-clause-answers
returns-clause-answers c = refused_answers
