-- What a request of any api was not granted is as before.
use Rattle.std.proofs.Common.{◌≡◌, inl, ℕ, List, [], ◌∷◌, Option, Some, refl, ap}
use Rattle.acl_binding.specs.declared.question.Caller.{Caller}
use Rattle.acl_binding.specs.declared.question.Question.{Question}
use Rattle.acl_binding.specs.declared.words.Kind.{Kind}
use Rattle.acl_binding.specs.declared.words.Kind.TheVariants.{Topic, Group, Cluster, TransactionalId}
use Rattle.acl_binding.specs.Creatable.{cluster_name}
use Rattle.acl_binding.specs.Book.{BookValue}
use Rattle.authorizer.specs.declared.answer.Refusal.{Refusal}
use Rattle.authorizer.specs.Asking.{part_refusal}
use Rattle.wire_types.specs.declared.error_code.ErrorCode.{ErrorCode}
use Rattle.msg_admin.specs.declared.request.Request.{Request}
use Rattle.msg_admin.specs.declared.request.Request.TheVariants.{Produce, Fetch, ListOffsets, Metadata, OffsetCommit, OffsetFetch, FindCoordinator, JoinGroup, Heartbeat, LeaveGroup, SyncGroup, SaslHandshake, ApiVersions, InitProducerId, AddPartitionsToTxn, AddOffsetsToTxn, EndTxn, TxnOffsetCommit, DescribeAcls, CreateAcls, DeleteAcls, SaslAuthenticate}
use Rattle.msg_admin.specs.declared.reply.Reply.{Reply}
use Rattle.audit_trail.specs.declared.event.Event.{Event}
use Rattle.audit_trail.specs.declared.event.Event.TheVariants.{Ask, Mark, Tick}
use Rattle.broker_world.specs.World.{World, rules_of}
use Rattle.broker_world.specs.Whole.{Served, whole_outcome_by}
use Rattle.broker_world.specs.Questions.{read_question}
use Rattle.group_handlers.specs.Members.{join_group_outcome, sync_group_outcome, heartbeat_outcome, leave_group_outcome, served_join, served_sync, served_heartbeat, served_leave}
use Rattle.txn_handlers.specs.InitProducerId.{init_questions, served_init}
use Rattle.txn_handlers.specs.AddOffsets.{add_offsets_questions, served_add_offsets}
use Rattle.txn_handlers.specs.EndTxn.{served_end, end_questions}
use Rattle.acl_handlers.specs.CreateAcls.{alter_questions, book_created}
use Rattle.acl_handlers.specs.DeleteAcls.{book_deleted}
use Rattle.api_dispatch.specs.Step.{request_outcome, with_event_counted, step}
use Rattle.api_laws.specs.Tenants.{SameOn}
use Rattle.api_laws.proofs.Grouped.{groups_keep}
use Rattle.txn_handlers.proofs.Adds.{add_keeps}
use Rattle.api_laws.proofs.AclEdits.{refused_edit_nothing}
use Rattle.api_dispatch.proofs.Wholes.{describe_keeps, find_keeps, offsets_keep}
use Rattle.api_dispatch.specs.Questions.{parts_of, questions_of}
use Rattle.tenant_laws.specs.Rules.{world_after}
use Rattle.tenant_laws.specs.Laws.{NoPartIsGranted, NoQuestionIsGranted, AreUngranted, pending_markers_of, KeepsSettings, UngrantedStays}
use Rattle.tenant_laws.proofs.Parts.{no_part_granted}
use Rattle.tenant_laws.proofs.Settled.{whole_keeps, settings_kept}
use Rattle.tenant_laws.proofs.Resources.{same_self, same_in, same_counted, same_then, whole_same, one_refused, member_kept}
use Rattle.tenant_laws.proofs.Walked.{produce_kept, commit_kept, stage_kept}
use Rattle.tenant_laws.proofs.Transactions.{init_kept, end_kept, add_kept, SameOwed, whole_owed, init_owed, end_owed, add_owed, add_group_kept, add_group_owed}

-- ---- edits of the book

with_book : (w : World) (book : BookValue) (kind : Kind) (name : List ℕ) → SameOn w (record w { book = book }) kind name
with_book w book Topic name = refl
with_book w book Group name = refl
with_book w book Cluster name = tt
with_book w book TransactionalId name = refl

-- ---- each api

module _ (w : World) (caller : Caller) where
  kept : (request : Request) (kind : Kind) (name : List ℕ) → NoPartIsGranted w kind name (parts_of (rules_of w) caller request) → SameOn w (request_outcome w caller request).world kind name
  kept (Produce r) kind name none = produce_kept w caller r kind name none
  kept (Fetch r) kind name none = same_self w kind name
  kept (ListOffsets r) kind name none = same_self w kind name
  kept (Metadata r) kind name none = same_self w kind name
  kept (OffsetCommit r) kind name none = commit_kept w caller r kind name none
  kept (OffsetFetch r) kind name none = same_in w (request_outcome w caller (OffsetFetch r)).world kind name (offsets_keep w caller r)
  kept (FindCoordinator r) kind name none = same_in w (request_outcome w caller (FindCoordinator r)).world kind name (find_keeps w caller r)
  kept (JoinGroup r) kind name none = member_kept w caller r.group (join_group_outcome w caller r) (groups_keep.joins w caller r) (λ refusal is. (groups_keep.refused_join w caller r refusal is).world) kind name none
  kept (Heartbeat r) kind name none = member_kept w caller r.group (heartbeat_outcome w caller r) (groups_keep.beats w caller r) (λ refusal is. (groups_keep.refused_beat w caller r refusal is).world) kind name none
  kept (LeaveGroup r) kind name none = member_kept w caller r.group (leave_group_outcome w caller r) (groups_keep.leaves w caller r) (λ refusal is. (groups_keep.refused_leave w caller r refusal is).world) kind name none
  kept (SyncGroup r) kind name none = member_kept w caller r.group (sync_group_outcome w caller r) (groups_keep.syncs w caller r) (λ refusal is. (groups_keep.refused_sync w caller r refusal is).world) kind name none
  kept (InitProducerId r) kind name none = init_kept w caller r kind name none
  kept (AddPartitionsToTxn r) kind name none = add_kept w caller r kind name none
  kept (AddOffsetsToTxn r) kind name none = add_group_kept w caller r kind name none
  kept (EndTxn r) kind name none = end_kept w caller r kind name none
  kept (TxnOffsetCommit r) kind name none = stage_kept w caller r kind name none
  kept (SaslHandshake r) kind name none = same_self w kind name
  kept ApiVersions kind name none = same_self w kind name
  kept (SaslAuthenticate r) kind name none = same_self w kind name
  kept (DescribeAcls r) kind name none = same_in w (request_outcome w caller (DescribeAcls r)).world kind name (describe_keeps w caller r)
  kept (CreateAcls r) kind name none = whole_same (part_refusal (rules_of w) (alter_questions caller)) w _ _ kind name (with_book w (book_created w.book r.creations) kind name)
  kept (DeleteAcls r) kind name none = whole_same (part_refusal (rules_of w) (alter_questions caller)) w _ _ kind name (with_book w (book_deleted w.book r.filters) kind name)

  -- what the id owes
  owed_kept : (request : Request) (id : List ℕ) → NoPartIsGranted w TransactionalId id (parts_of (rules_of w) caller request) → SameOwed w caller id (request_outcome w caller request).world
  owed_kept (Produce r) id none = refl
  owed_kept (Fetch r) id none = refl
  owed_kept (ListOffsets r) id none = refl
  owed_kept (Metadata r) id none = refl
  owed_kept (OffsetCommit r) id none = refl
  owed_kept (OffsetFetch r) id none = ap (λ (u : World). pending_markers_of id u.coordinator.warrants) (offsets_keep w caller r)
  owed_kept (FindCoordinator r) id none = ap (λ (u : World). pending_markers_of id u.coordinator.warrants) (find_keeps w caller r)
  owed_kept (JoinGroup r) id none = whole_owed w caller id (read_question caller r.group ∷ []) _ (served_join w r) refl
  owed_kept (Heartbeat r) id none = whole_owed w caller id (read_question caller r.group ∷ []) _ (served_heartbeat w r) refl
  owed_kept (LeaveGroup r) id none = whole_owed w caller id (read_question caller r.group ∷ []) _ (served_leave w r) refl
  owed_kept (SyncGroup r) id none = whole_owed w caller id (read_question caller r.group ∷ []) _ (served_sync w r) refl
  owed_kept (InitProducerId r) id none = init_owed w caller id r none
  owed_kept (AddPartitionsToTxn r) id none = add_owed w caller id r none
  owed_kept (AddOffsetsToTxn r) id none = add_group_owed w caller id r none
  owed_kept (EndTxn r) id none = end_owed w caller id r none
  owed_kept (TxnOffsetCommit r) id none = refl
  owed_kept (SaslHandshake r) id none = refl
  owed_kept ApiVersions id none = refl
  owed_kept (SaslAuthenticate r) id none = refl
  owed_kept (DescribeAcls r) id none = ap (λ (u : World). pending_markers_of id u.coordinator.warrants) (describe_keeps w caller r)
  owed_kept (CreateAcls r) id none = whole_owed w caller id (alter_questions caller) _ _ refl
  owed_kept (DeleteAcls r) id none = whole_owed w caller id (alter_questions caller) _ _ refl

  -- the book
  asked_whole : (qs : List Question) (refused : ErrorCode → Reply) (served : Served) → served.world.book ≡ w.book → (whole_outcome_by (part_refusal (rules_of w) qs) w refused served).world.book ≡ w.book
  asked_whole qs refused served same = whole_keeps (λ (u : World). u.book) (part_refusal (rules_of w) qs) w refused served same

  not_altered : (Same : Type 0) → ((r : Refusal) → part_refusal (rules_of w) (alter_questions caller) ≡ Some r → Same) → NoPartIsGranted w Cluster cluster_name (alter_questions caller ∷ []) → Same
  not_altered Same refused none = one_refused w Cluster cluster_name (alter_questions caller) Same refused none (inl (refl, refl))

  book_kept : (request : Request) → NoPartIsGranted w Cluster cluster_name (parts_of (rules_of w) caller request) → (request_outcome w caller request).world.book ≡ w.book
  book_kept (Produce r) none = refl
  book_kept (Fetch r) none = refl
  book_kept (ListOffsets r) none = refl
  book_kept (Metadata r) none = refl
  book_kept (OffsetCommit r) none = refl
  book_kept (OffsetFetch r) none = ap (λ (u : World). u.book) (offsets_keep w caller r)
  book_kept (FindCoordinator r) none = ap (λ (u : World). u.book) (find_keeps w caller r)
  book_kept (JoinGroup r) none = asked_whole (read_question caller r.group ∷ []) _ (served_join w r) refl
  book_kept (Heartbeat r) none = asked_whole (read_question caller r.group ∷ []) _ (served_heartbeat w r) refl
  book_kept (LeaveGroup r) none = asked_whole (read_question caller r.group ∷ []) _ (served_leave w r) refl
  book_kept (SyncGroup r) none = asked_whole (read_question caller r.group ∷ []) _ (served_sync w r) refl
  book_kept (InitProducerId r) none = asked_whole (init_questions (rules_of w) caller r.transactional_id) _ (served_init w r) refl
  book_kept (AddPartitionsToTxn r) none = add_keeps (λ (u : World). u.book) (λ u c. refl) w caller r
  book_kept (AddOffsetsToTxn r) none = asked_whole (add_offsets_questions caller r.transactional_id r.group) _ (served_add_offsets w r) refl
  book_kept (EndTxn r) none = asked_whole (end_questions caller r) _ (served_end w r) refl
  book_kept (TxnOffsetCommit r) none = refl
  book_kept (SaslHandshake r) none = refl
  book_kept ApiVersions none = refl
  book_kept (SaslAuthenticate r) none = refl
  book_kept (DescribeAcls r) none = ap (λ (u : World). u.book) (describe_keeps w caller r)
  book_kept (CreateAcls r) none = not_altered ((request_outcome w caller (CreateAcls r)).world.book ≡ w.book) (λ refusal is. ap (λ (u : World). u.book) (refused_edit_nothing.create w caller r refusal is).world) none
  book_kept (DeleteAcls r) none = not_altered ((request_outcome w caller (DeleteAcls r)).world.book ≡ w.book) (λ refusal is. ap (λ (u : World). u.book) (refused_edit_nothing.delete w caller r refusal is).world) none

settings_counted : (w : World) (caller : Caller) (request : Request) → KeepsSettings w (with_event_counted (request_outcome w caller request).world)
settings_counted w caller request = let kept = settings_kept w caller request in record { node = kept.node; supers = kept.supers; moment = kept.moment; names = kept.names }

pub by_questions : (w : World) (caller : Caller) (client : Option (List ℕ)) (request : Request) (kind : Kind) (name : List ℕ) → NoQuestionIsGranted w kind name (questions_of (rules_of w) caller request) → SameOn w (step w (Ask caller client request)) kind name
by_questions w caller client request kind name none = same_counted w (request_outcome w caller request).world kind name (kept w caller request kind name (no_part_granted w kind name (parts_of (rules_of w) caller request) none))

over_events : (w : World) (kind : Kind) (name : List ℕ) (events : List Event) → AreUngranted step w kind name events → SameOn w (world_after step w events) kind name
over_events w kind name [] none = same_self w kind name
over_events w kind name (Ask caller client request ∷ es) none =
    let next : World = step w (Ask caller client request) in
    same_then w next (world_after step next es) kind name (by_questions w caller client request kind name none.0) (over_events next kind name es none.1)
over_events w kind name (Mark ∷ es) none = absurd none.0
over_events w kind name (Tick told ∷ es) none = absurd none.0

pub ungranted_stays : UngrantedStays step
ungranted_stays = record {
  by_parts = λ w caller client request kind name none. same_counted w (request_outcome w caller request).world kind name (kept w caller request kind name none);
  by_questions = by_questions;
  over_events = over_events;
  owed = λ w caller client request id none. owed_kept w caller request id none;
  book = λ w caller client request none. book_kept w caller request (no_part_granted w Cluster cluster_name (parts_of (rules_of w) caller request) none);
  settings = λ w caller client request. settings_counted w caller request;
}
