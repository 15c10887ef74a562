use Rattle.std.proofs.Common.{◌+◌, List, ◌++◌, drop, ap, ◌∙◌}
use Rattle.msg_acl.specs.declared.delete_acls.DeletedAcls.{DeletedAcls}
use Rattle.acl_binding.specs.Book.{BookValue}
use Rattle.acl_handlers.specs.DeleteAcls.{deletion_results}
use Rattle.acl_handlers.proofs.AclParts.{removed_further, deleted_further}
use Rattle.acl_handlers.proofs.BookBounds.{without_next}
use Rattle.acl_handlers.proofs.delete_acls.delete_all.Goals as goal

pub loop-entry-preserved : goal.loop-entry-preserved
loop-entry-preserved c = record {
  book = removed_further _ _ _ _ _ _ c.loop-entry-test.true c.entry-item.is c.in_ok-delete.ensures.book c.loop-entry.invariant.book;
  supers = c.in_ok-delete.ensures.supers ∙ c.loop-entry.invariant.supers;
  next = ap (λ (b : BookValue). b.next) c.in_ok-delete.ensures.book ∙ without_next _ _ ∙ c.loop-entry.invariant.next;
  results =
      ap (λ (l : List DeletedAcls). l ++ deletion_results c.delete.new.policy.book (drop (c.loop-entry.entry-index + 1) c.args.filters.now)) c.in_ok-push.ensures.ok
      ∙ deleted_further _ _ _ _ _ _ _ _ c.loop-entry-test.true c.entry-item.is c.in_ok-delete.ensures.book c.in_ok-delete.ensures.answer c.loop-entry.invariant.results;
}
