use Rattle.authorizer.proofs.Leaving.{literal_left, prefixed_left}
use Rattle.authorizer.proofs.index.KindIndex.clean_at.Goals as goal

pub returns-in-Literal : goal.returns-in-Literal
returns-in-Literal c = rw c.in-Literal.is (literal_left c.args.self.now c.clean_at.new.self c.args.filter.now c.args.name.now c.clean_at.ensures)

pub returns-in-Prefixed : goal.returns-in-Prefixed
returns-in-Prefixed c = rw c.in-Prefixed.is (prefixed_left c.args.self.now c.clean_at-in-Prefixed.new.self c.args.filter.now c.args.name.now c.clean_at-in-Prefixed.ensures)
