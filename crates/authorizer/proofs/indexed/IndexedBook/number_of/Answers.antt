use Rattle.std.proofs.Common.{◌∙◌}
use Rattle.authorizer.proofs.indexed.IndexedBook.number_of.Goals as goal

pub returns : goal.returns
returns c = rw (← c.self.view_is) (c.copied.ensures ∙ c.get.ensures.value ∙ c.self.invariant.contents c.args.content.now)
