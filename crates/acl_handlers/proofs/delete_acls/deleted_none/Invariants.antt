use Rattle.std.proofs.Common.{◌≡◌, ◌++◌, drop, map}
use Rattle.msg_acl.specs.declared.entries.FilterEntry.{FilterEntry}
use Rattle.acl_handlers.specs.DeleteAcls.{deletion_error}
use Rattle.acl_handlers.proofs.delete_acls.deleted_none.Given as goal

-- the answers so far, and then those that are left
abbrev pub invariant-loop-entry : goal.invariant-loop-entry
invariant-loop-entry l = l.results ++ map (λ (e : FilterEntry). deletion_error l.code) (drop l._entry-index l.filters) ≡ map (λ (e : FilterEntry). deletion_error l.code) l.filters
