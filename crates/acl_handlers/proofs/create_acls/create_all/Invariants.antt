use Rattle.std.proofs.Common.{◌≡◌, ◌+◌, ◌≤◌, ◌++◌, drop, map}
use Rattle.acl_handlers.specs.CreateAcls.{book_created, creation_result}
use Rattle.acl_handlers.proofs.create_acls.create_all.Given as goal

-- what is done so far, and then what is left
abbrev pub invariant-loop-entry : goal.invariant-loop-entry
invariant-loop-entry l = record {
  book : book_created l.policy.book (drop l.entry-index l.creations) ≡ book_created l.initial.policy.book l.creations;
  supers : l.policy.supers ≡ l.initial.policy.supers;
  next : l.policy.book.next ≤ l.initial.policy.book.next + l.entry-index;
  results : l.results ++ map creation_result (drop l.entry-index l.creations) ≡ map creation_result l.creations;
}
