use Rattle.std.proofs.Common.{◌∙◌}
use Rattle.authorizer.proofs.Picks.{copied_all}
use Rattle.authorizer.proofs.indexed.IndexedBook.remove.Goals as goal

pub returns-clause-picked : goal.returns-clause-picked
returns-clause-picked c = c.in_ok-copies.ensures ∙ copied_all c.args.filter.now c.args.self.now.entries _ c.in_ok-picked.ensures
