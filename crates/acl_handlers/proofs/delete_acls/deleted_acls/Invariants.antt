use Rattle.std.proofs.Common.{◌≡◌, ◌++◌, drop, map}
use Rattle.acl_handlers.specs.DeleteAcls.{deleted_acl}
use Rattle.acl_handlers.proofs.delete_acls.deleted_acls.Given as goal

-- those so far, and then those that are left
abbrev pub invariant-loop-binding : goal.invariant-loop-binding
invariant-loop-binding l = l.matches ++ map deleted_acl (drop l.binding-index l.bindings) ≡ map deleted_acl l.bindings
