use Rattle.std.proofs.Common.{ℕ, List, drop}
use Rattle.acl_binding.specs.declared.binding.Numbered.{Numbered}
use Rattle.acl_binding.specs.Book.{IsRising}
use Rattle.authorizer.specs.Looking.{IsIndexed}
use Rattle.authorizer.specs.Picking.{stands_in, HasPicked}
use Rattle.authorizer.proofs.index.Index.pick.Given as goal

-- whoever looks at the other places too has looked at all
abbrev pub invariant-loop-acl_key : goal.invariant-loop-acl_key
invariant-loop-acl_key l = (es : List Numbered) (all : List (ℕ × Numbered)) → IsRising 1 es → IsIndexed l.self es →
    HasPicked l.picked.entries all l.filter es (stands_in (drop l.acl_key-index l.acl_keys)) → HasPicked l.initial.picked.entries all l.filter es (stands_in l.acl_keys)
