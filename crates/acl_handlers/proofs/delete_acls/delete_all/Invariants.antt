use Rattle.std.proofs.Common.{◌≡◌, ◌++◌, drop}
use Rattle.acl_handlers.specs.DeleteAcls.{book_deleted, deletion_results}
use Rattle.acl_handlers.proofs.delete_acls.delete_all.Given as goal

-- what is done so far, and then what is left
abbrev pub invariant-loop-entry : goal.invariant-loop-entry
invariant-loop-entry l = record {
  book : book_deleted l.policy.book (drop l.entry-index l.filters) ≡ book_deleted l.initial.policy.book l.filters;
  supers : l.policy.supers ≡ l.initial.policy.supers;
  next : l.policy.book.next ≡ l.initial.policy.book.next;
  results : l.results ++ deletion_results l.policy.book (drop l.entry-index l.filters) ≡ deletion_results l.initial.policy.book l.filters;
}
