use Rattle.std.proofs.Common.{◌∙◌}
use Rattle.std.proofs.lemmas.Result.{IfOk-weaker}
use Rattle.authorizer.proofs.Picks.{copied_all}
use Rattle.authorizer.proofs.indexed.IndexedBook.matching.Goals as goal

pub returns : goal.returns
returns c = IfOk-weaker c.copies.result _ _ (λ copies is. is ∙ copied_all c.args.filter.now c.args.self.now.entries _ c.in_ok-picked.ensures) c.copies.ensures
