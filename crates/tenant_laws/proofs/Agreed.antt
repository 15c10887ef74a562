-- Worlds that agree on what requests are granted go on agreeing, and so leave the same history.
use Rattle.std.proofs.Common.{◌≡◌, ℕ, ◌+◌, List, Option, ap}
use Rattle.acl_binding.specs.declared.question.Caller.{Caller}
use Rattle.acl_binding.specs.declared.words.Kind.{Kind}
use Rattle.acl_binding.specs.declared.words.Kind.TheVariants.{Topic, Group, Cluster, TransactionalId}
use Rattle.acl_binding.specs.Book.{BookValue}
use Rattle.authorizer.specs.Asking.{Rules}
use Rattle.msg_admin.specs.declared.request.Request.{Request}
use Rattle.msg_admin.specs.declared.request.Request.TheVariants.{Produce, Fetch, ListOffsets, Metadata, OffsetCommit, OffsetFetch, FindCoordinator, JoinGroup, Heartbeat, LeaveGroup, SyncGroup, SaslHandshake, ApiVersions, InitProducerId, AddPartitionsToTxn, AddOffsetsToTxn, EndTxn, TxnOffsetCommit, DescribeAcls, CreateAcls, DeleteAcls, SaslAuthenticate}
use Rattle.audit_trail.specs.declared.event.Event.TheVariants.{Ask}
use Rattle.broker_world.specs.World.{World}
use Rattle.data_handlers.specs.Produce.{produce_questions}
use Rattle.group_handlers.specs.OffsetCommit.{commit_questions}
use Rattle.txn_handlers.specs.TxnOffsetCommit.{staging_of, stage_questions}
use Rattle.txn_handlers.specs.AddPartitions.{add_questions}
use Rattle.acl_handlers.specs.CreateAcls.{alter_questions, book_created}
use Rattle.acl_handlers.specs.DeleteAcls.{book_deleted}
use Rattle.api_dispatch.specs.Step.{request_outcome, with_event_counted, step}
use Rattle.api_laws.specs.Tenants.{SameBase, SameOn}
use Rattle.api_dispatch.proofs.Wholes.{describe_keeps, find_keeps, offsets_keep}
use Rattle.tenant_laws.proofs.Answered.{IsSame, each, by_partitions}
use Rattle.tenant_laws.proofs.Agreeing.{AgreeAfter, unchanged, unchanged_as, by_book, by_whole}
use Rattle.tenant_laws.proofs.AgreedLogs.{produce_agrees}
use Rattle.tenant_laws.proofs.AgreedGroups.{join_agrees, sync_agrees, beat_agrees, leave_agrees, commit_agrees, stage_agrees}
use Rattle.tenant_laws.proofs.AgreedIds.{init_agrees, end_agrees, add_group_agrees, add_agrees}

-- ---- each api

module _ (v w : World) (caller : Caller) where
  reads : (request : Request) → SameBase v w → (request_outcome v caller request).world ≡ v → (request_outcome w caller request).world ≡ w → AgreeAfter v w (request_outcome v caller request).world (request_outcome w caller request).world
  reads request base one two = unchanged_as v w base (request_outcome v caller request).world (request_outcome w caller request).world one two

  same_book : SameBase v w → v.book ≡ w.book
  same_book base = ap (λ (rules : Rules). rules.book) base.rules

  agreed : (request : Request) → IsSame v w caller request → AgreeAfter v w (request_outcome v caller request).world (request_outcome w caller request).world
  agreed (Produce r) same = produce_agrees v w caller r same.base (by_partitions v w caller (produce_questions caller r.transactional_id) r.topics (each v w caller (Produce r) same))
  agreed (Fetch r) same = unchanged v w same.base
  agreed (ListOffsets r) same = unchanged v w same.base
  agreed (Metadata r) same = unchanged v w same.base
  agreed (OffsetCommit r) same = commit_agrees v w caller same.base r (by_partitions v w caller (commit_questions caller r.group) r.topics (each v w caller (OffsetCommit r) same))
  agreed (OffsetFetch r) same = reads (OffsetFetch r) same.base (offsets_keep v caller r) (offsets_keep w caller r)
  agreed (FindCoordinator r) same = reads (FindCoordinator r) same.base (find_keeps v caller r) (find_keeps w caller r)
  agreed (JoinGroup r) same = join_agrees v w caller same.base r
  agreed (Heartbeat r) same = beat_agrees v w caller same.base r
  agreed (LeaveGroup r) same = leave_agrees v w caller same.base r
  agreed (SyncGroup r) same = sync_agrees v w caller same.base r
  agreed (InitProducerId r) same = init_agrees v w caller same.base r (each v w caller (InitProducerId r) same).0
  agreed (AddPartitionsToTxn r) same = add_agrees v w caller same.base r (by_partitions v w caller (add_questions caller r.transactional_id) r.topics (each v w caller (AddPartitionsToTxn r) same))
  agreed (AddOffsetsToTxn r) same = add_group_agrees v w caller same.base r (each v w caller (AddOffsetsToTxn r) same).0
  agreed (EndTxn r) same = end_agrees v w caller same.base r (each v w caller (EndTxn r) same).0
  agreed (TxnOffsetCommit r) same = stage_agrees v w caller same.base r (by_partitions v w caller (stage_questions caller (staging_of r)) r.topics (each v w caller (TxnOffsetCommit r) same))
  agreed (SaslHandshake r) same = unchanged v w same.base
  agreed ApiVersions same = unchanged v w same.base
  agreed (SaslAuthenticate r) same = unchanged v w same.base
  agreed (DescribeAcls r) same = reads (DescribeAcls r) same.base (describe_keeps v caller r) (describe_keeps w caller r)
  agreed (CreateAcls r) same =
      by_whole v w same.base (alter_questions caller) _ _ _ (λ none. by_book v w same.base (book_created v.book r.creations) (book_created w.book r.creations) (ap (λ (b : BookValue). book_created b r.creations) (same_book same.base)))
  agreed (DeleteAcls r) same =
      by_whole v w same.base (alter_questions caller) _ _ _ (λ none. by_book v w same.base (book_deleted v.book r.filters) (book_deleted w.book r.filters) (ap (λ (b : BookValue). book_deleted b r.filters) (same_book same.base)))

-- ---- one event

pub counted_base : (x y : World) → SameBase x y → SameBase (with_event_counted x) (with_event_counted y)
counted_base x y base = record { node = base.node; rules = base.rules; moment = base.moment; events = ap (λ (n : ℕ). n + 1) base.events; given = base.given }

pub counted_on : (x y : World) (kind : Kind) (name : List ℕ) → SameOn x y kind name → SameOn (with_event_counted x) (with_event_counted y) kind name
counted_on x y Topic name same = same
counted_on x y Group name same = same
counted_on x y Cluster name same = same
counted_on x y TransactionalId name same = same

pub agreement : (v w : World) (caller : Caller) (client : Option (List ℕ)) (request : Request) → IsSame v w caller request → AgreeAfter v w (step v (Ask caller client request)) (step w (Ask caller client request))
agreement v w caller client request same =
    let agreed_after = agreed v w caller request same in
    let x : World = (request_outcome v caller request).world in
    let y : World = (request_outcome w caller request).world in
    record { base = counted_base x y agreed_after.base; resources = λ kind name on. counted_on x y kind name (agreed_after.resources kind name on) }
