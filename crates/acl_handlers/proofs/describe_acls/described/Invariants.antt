use Rattle.std.proofs.Common.{◌≡◌, take}
use Rattle.acl_handlers.specs.Groups.{groups_of}
use Rattle.acl_handlers.proofs.describe_acls.described.Given as goal

-- those that were read stand by resource
abbrev pub invariant-loop-binding : goal.invariant-loop-binding
invariant-loop-binding l = l.groups.entries ≡ groups_of (take l.binding-index l.bindings)
