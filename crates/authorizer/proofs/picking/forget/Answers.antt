use Rattle.std.proofs.Common.{◌≡◌, List, ◌∷◌, None, cond, sym, ap, ◌∙◌, rules}
use Rattle.std.specs.List.{list_any}
use Rattle.std.specs.Map.{lookup}
use Rattle.acl_binding.specs.declared.binding.Numbered.{Numbered}
use Rattle.authorizer.specs.Contents.{says_same}
use Rattle.authorizer.proofs.Removing.{forgets_one}
use Rattle.authorizer.proofs.picking.forget.Goals as goal

pub loop-entry-preserved : goal.loop-entry-preserved
loop-entry-preserved c = λ e.
    let next : c.loop-entry.entry-iterator ≡ c.in-Some.entry.now ∷ c.next.new.self = search rules in
    forgets_one (says_same c.in-Some.entry.now e) _ (lookup (says_same e) c.loop-entry.contents.entries) _ _ (c.swap_remove.ensures.updates.0 e)
    (sym (ap (λ (l : List Numbered). cond (list_any (λ (x : Numbered). says_same x e) l) None (lookup (says_same e) c.loop-entry.contents.entries)) next) ∙ c.loop-entry.invariant e)
