use Rattle.std.proofs.Common.{List, take, filter}
use Rattle.acl_binding.specs.declared.binding.Numbered.{Numbered}
use Rattle.authorizer.specs.Looking.{IsIndexed}
use Rattle.authorizer.specs.Picking.{is_left, stands_in}
use Rattle.authorizer.proofs.index.Index.clean_keys.Given as goal

-- what the filter picks at the places so far is taken out
abbrev pub invariant-loop-acl_key : goal.invariant-loop-acl_key
invariant-loop-acl_key l = (es : List Numbered) → IsIndexed l.initial.self es → IsIndexed l.self (filter (is_left l.filter (stands_in (take l.acl_key-index l.acl_keys))) es)
