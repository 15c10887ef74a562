use Rattle.std.proofs.Common.{◌≡◌, ◌++◌, drop, map}
use Rattle.msg_acl.specs.declared.entries.BindingEntry.{BindingEntry}
use Rattle.acl_handlers.specs.CreateAcls.{creation_result_with}
use Rattle.acl_handlers.proofs.create_acls.created_none.Given as goal

-- the answers so far, and then those that are left
abbrev pub invariant-loop-entry : goal.invariant-loop-entry
invariant-loop-entry l = l.results ++ map (λ (e : BindingEntry). creation_result_with l.code) (drop l._entry-index l.creations) ≡ map (λ (e : BindingEntry). creation_result_with l.code) l.creations
