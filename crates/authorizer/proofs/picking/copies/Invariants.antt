use Rattle.std.proofs.Common.{◌≡◌, ◌++◌, map}
use Rattle.std.specs.BTreeMap.{values}
use Rattle.acl_binding.specs.declared.binding.Numbered.{Numbered}
use Rattle.authorizer.proofs.picking.copies.Given as goal

-- those that were copied, and then the others
abbrev pub invariant-loop-entry : goal.invariant-loop-entry
invariant-loop-entry l = l.copies ++ map (λ (e : Numbered). e.binding) l.entry-iterator ≡ map (λ (e : Numbered). e.binding) (values l.picked)
