use Rattle.std.proofs.Common.{◌≡◌, cond, None}
use Rattle.std.specs.BTreeMap.{values}
use Rattle.std.specs.List.{list_any}
use Rattle.std.specs.Map.{lookup}
use Rattle.acl_binding.specs.declared.binding.Numbered.{Numbered}
use Rattle.authorizer.specs.Contents.{says_same}
use Rattle.authorizer.proofs.picking.forget.Given as goal

-- what is left once the others are forgotten too
abbrev pub invariant-loop-entry : goal.invariant-loop-entry
invariant-loop-entry l = (e : Numbered) →
    cond (list_any (λ (x : Numbered). says_same x e) l.entry-iterator) None (lookup (says_same e) l.contents.entries)
    ≡ cond (list_any (λ (x : Numbered). says_same x e) (values l.picked)) None (lookup (says_same e) l.initial.contents.entries)
