use Rattle.std.proofs.Common.{◌≡◌, ◌+◌, ◌≤◌, drop, true}
use Rattle.std.specs.List.{list_all}
use Rattle.acl_binding.specs.Book.{empty_book}
use Rattle.acl_binding.specs.Creatable.{is_creatable}
use Rattle.broker_world.specs.First.{with_bindings}
use Rattle.broker_world.proofs.state.first_policy.Given as goal

abbrev pub invariant-loop-binding : goal.invariant-loop-binding
invariant-loop-binding l = record {
  book : with_bindings l.policy.book (drop l.binding-index l.acls) ≡ with_bindings empty_book l.acls;
  supers : l.policy.supers ≡ l.supers;
  next : l.policy.book.next ≤ l.binding-index + 1;
  creatable : list_all is_creatable (drop l.binding-index l.acls) ≡ true;
}
