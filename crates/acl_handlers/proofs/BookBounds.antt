-- Creation numbers: the settings give out at most one for each binding, and a request at most one for each entry.
use Rattle.std.proofs.Common.{◌≡◌, ℕ, ◌+◌, ◌≤◌, Bool, true, false, cond, is_some, List, [], ◌∷◌, length, Option, Some, None, refl, ◌∙◌, arith}
use Rattle.std.proofs.lemmas.List.{length-append}
use Rattle.wire_types.specs.declared.error_code.ErrorCode.{ErrorCode}
use Rattle.wire_types.specs.Spelling.{many_written, after_count_written, int_written}
use Rattle.wire_types.specs.Combinators.{◌⨟◌}
use Rattle.wire_types.specs.Schema.{int8, string, count32}
use Rattle.msg_acl.specs.declared.entries.BindingEntry.{BindingEntry}
use Rattle.msg_acl.specs.declared.entries.FilterEntry.{FilterEntry}
use Rattle.msg_acl.specs.declared.create_acls.CreateAclsRequest.{CreateAclsRequest}
use Rattle.msg_acl.specs.Entries.{binding_entry}
use Rattle.msg_acl.specs.CreateAcls.{create_acls_request}
use Rattle.acl_binding.specs.declared.binding.Binding.{Binding}
use Rattle.acl_binding.specs.declared.filter.Filter.{Filter}
use Rattle.acl_binding.specs.Book.{BookValue, number_of, with_binding, with_new_binding}
use Rattle.acl_binding.specs.Entries.{binding_of, filter_of}
use Rattle.authorizer.specs.declared.answer.Refusal.{Refusal}
use Rattle.msg_admin.specs.declared.reply.Reply.{Reply}
use Rattle.broker_world.specs.World.{World}
use Rattle.broker_world.specs.First.{with_bindings}
use Rattle.broker_world.specs.Whole.{Served, whole_outcome_by}
use Rattle.acl_handlers.specs.CreateAcls.{book_with, book_created}
use Rattle.acl_handlers.specs.DeleteAcls.{book_without, book_deleted}

-- ---- the book

added_next : (book : BookValue) (b : Binding) → (with_binding book b).next ≤ book.next + 1
added_next book b = by_there (is_some (number_of book.entries b)) where
  by_there : (there : Bool) → (cond there book (with_new_binding book b)).next ≤ book.next + 1
  by_there true = omega arith
  by_there false = omega arith

pub with_next : (book : BookValue) (bs : List Binding) → (with_bindings book bs).next ≤ book.next + length bs
with_next book [] = omega arith
with_next book (b ∷ bs) = omega (arith, with_next (with_binding book b) bs, added_next book b)

pub book_with_next : (book : BookValue) (o : Option Binding) → (book_with book o).next ≤ book.next + 1
book_with_next book None = omega arith
book_with_next book (Some b) = added_next book b

pub created_next : (book : BookValue) (es : List BindingEntry) → (book_created book es).next ≤ book.next + length es
created_next book [] = omega arith
created_next book (e ∷ es) = omega (arith, created_next (book_with book (binding_of e)) es, book_with_next book (binding_of e))

pub without_next : (book : BookValue) (o : Option Filter) → (book_without book o).next ≡ book.next
without_next book None = refl
without_next book (Some f) = refl

pub deleted_next : (book : BookValue) (es : List FilterEntry) → (book_deleted book es).next ≡ book.next
deleted_next book [] = refl
deleted_next book (e ∷ es) = deleted_next (book_without book (filter_of e)) es ∙ without_next book (filter_of e)

-- ---- no more entries than bytes

entry_some : (e : BindingEntry) → 1 ≤ length (binding_entry.written e)
unfolding int_written
entry_some e = omega (arith, length-append (int8.written e.kind) ((string ⨟ (int8 ⨟ (string ⨟ (string ⨟ (int8 ⨟ int8))))).written (e.name, (e.pattern, (e.principal, (e.host, (e.operation, e.permission)))))))

few_entries : (es : List BindingEntry) → length es ≤ length (many_written binding_entry.written es)
unfolding many_written
few_entries [] = omega arith
few_entries (e ∷ es) = omega (arith, entry_some e, few_entries es, length-append (binding_entry.written e) (many_written binding_entry.written es))

pub few_creations : (r : CreateAclsRequest) → length r.creations ≤ length (create_acls_request.written r)
unfolding after_count_written
few_creations r = omega (arith, few_entries r.creations, length-append (count32.written (length r.creations)) (many_written binding_entry.written r.creations))

-- ---- a request that is one part

pub whole_next : (o : Option Refusal) (w : World) (refused : ErrorCode → Reply) (served : Served) (most : ℕ) → served.world.book.next ≤ w.book.next + most → (whole_outcome_by o w refused served).world.book.next ≤ w.book.next + most
whole_next None w refused served most few = few
whole_next (Some r) w refused served most few = omega arith

pub whole_refusals : (o : Option Refusal) (w : World) (refused : ErrorCode → Reply) (served : Served) → length (whole_outcome_by o w refused served).refusals ≤ 1
whole_refusals None w refused served = omega arith
whole_refusals (Some r) w refused served = omega arith

pub whole_topics : (o : Option Refusal) (w : World) (refused : ErrorCode → Reply) (served : Served) → served.world.topics ≡ w.topics → (whole_outcome_by o w refused served).world.topics ≡ w.topics
whole_topics None w refused served same = same
whole_topics (Some r) w refused served same = refl
