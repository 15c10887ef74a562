-- Each api is answered by what its questions were granted.
use Rattle.std.proofs.Common.{◌≡◌, ℕ, ℤ, true, List, [], ◌∷◌, map, Option, Some, None, refl, ap}
use Rattle.std.specs.Prelude.{is_none}
use Rattle.std.specs.List.{AllByRecursion}
use Rattle.acl_binding.specs.declared.question.Caller.{Caller}
use Rattle.acl_binding.specs.declared.question.Question.{Question}
use Rattle.wire_types.specs.declared.topic.Topic.{Topic}
use Rattle.msg_data.specs.declared.metadata.MetadataRequest.{MetadataRequest}
use Rattle.msg_admin.specs.declared.request.Request.{Request}
use Rattle.msg_admin.specs.declared.request.Request.TheVariants.{Produce, Fetch, ListOffsets, Metadata, OffsetCommit, OffsetFetch, FindCoordinator, JoinGroup, Heartbeat, LeaveGroup, SyncGroup, SaslHandshake, ApiVersions, InitProducerId, AddPartitionsToTxn, AddOffsetsToTxn, EndTxn, TxnOffsetCommit, DescribeAcls, CreateAcls, DeleteAcls, SaslAuthenticate}
use Rattle.msg_admin.specs.declared.reply.Reply.TheVariants as replies
use Rattle.audit_trail.specs.declared.event.Event.TheVariants.{Ask}
use Rattle.walk.specs.Alike.{AllTopics}
use Rattle.broker_world.specs.World.{World, rules_of}
use Rattle.broker_world.specs.Questions.{topic_part}
use Rattle.data_handlers.specs.Metadata.{metadata_outcome}
use Rattle.data_handlers.specs.Produce.{produce_questions}
use Rattle.group_handlers.specs.OffsetCommit.{commit_questions}
use Rattle.txn_handlers.specs.AddPartitions.{add_questions}
use Rattle.txn_handlers.specs.TxnOffsetCommit.{staging_of, stage_questions}
use Rattle.api_dispatch.specs.Step.{request_outcome}
use Rattle.api_laws.specs.Tenants.{SameBase, SameGranted, SameForMetadata, topic_questions}
use Rattle.api_laws.specs.DataTenants.{SameAnswer}
use Rattle.api_laws.specs.GroupLaws.{described_slots, SameWanted}
use Rattle.api_laws.proofs.Grants.{depends_on_grants}
use Rattle.api_laws.proofs.DataGrants.{fetch_depends, list_offsets_depends, produce_depends}
use Rattle.api_laws.proofs.Grouped.{groups_depend}
use Rattle.api_laws.proofs.Initials.{init_depends}
use Rattle.api_laws.proofs.Together.{transactions_depend}
use Rattle.api_laws.proofs.Staged.{staging_depends}
use Rattle.api_laws.proofs.AclEdits.{acls_depend}
use Rattle.api_dispatch.specs.Questions.{fetch_questions, partition_parts, topic_parts, parts_of, questions_of, wants_all}
use Rattle.api_laws.specs.GroupLaws.{described_slots}
use Rattle.tenant_laws.specs.Laws.{SameTold}
use Rattle.tenant_laws.proofs.Parts.{granted_each, each_partition}
use Rattle.tenant_laws.proofs.Described.{same_listed}

-- worlds of one book that agree on all that the request is granted
pub record IsSame (v w : World) (caller : Caller) (request : Request) : Type 0 where
  pub base : SameBase v w
  pub granted : SameGranted v w (questions_of (rules_of w) caller request)
  -- where the list of topics is null, on the topics that may be described, in order
  pub described : wants_all request ≡ true → described_slots (rules_of v) caller v.topics ≡ described_slots (rules_of w) caller w.topics

module _ (v w : World) (caller : Caller) where
  pub each : (request : Request) → IsSame v w caller request → AllByRecursion (SameGranted v w) (parts_of (rules_of w) caller request)
  each request same = granted_each v w (parts_of (rules_of w) caller request) same.granted

  pub by_partitions : {P : Type 0} (asks : List ℕ → List Question) (ts : List (Topic P)) → AllByRecursion (SameGranted v w) (partition_parts asks ts) → AllTopics (λ name p. SameGranted v w (asks name)) ts
  by_partitions asks ts all = each_partition asks (SameGranted v w) (λ name p. SameGranted v w (asks name)) (λ name p is. is) ts all

  -- ---- Metadata

  by_names : (names : List (List ℕ)) → AllByRecursion (SameGranted v w) (map (topic_part caller) names) → SameGranted v w (topic_questions caller names)
  by_names [] all = tt
  by_names (name ∷ names) all = (all.0.0, by_names names all.1)

  by_list : (topics : Option (List (List ℕ))) → SameBase v w → AllByRecursion (SameGranted v w) (topic_parts caller topics) → (is_none topics ≡ true → described_slots (rules_of v) caller v.topics ≡ described_slots (rules_of w) caller w.topics) → SameForMetadata v w caller topics
  by_list None base all described = same_listed v w caller base.rules (described refl)
  by_list (Some names) base all described = by_names names all

  metadata_answered : (r : MetadataRequest) → IsSame v w caller (Metadata r) → SameAnswer (metadata_outcome v caller r) (metadata_outcome w caller r)
  metadata_answered r same =
      let both = depends_on_grants v w caller r same.base (by_list r.topics same.base (each (Metadata r) same) same.described) in
      record { reply = ap (λ m. replies.Metadata m) both.0; refusals = both.1 }

  -- ---- OffsetFetch

  wanted : (topics : Option (List (Topic ℤ))) → (is_none topics ≡ true → described_slots (rules_of v) caller v.topics ≡ described_slots (rules_of w) caller w.topics) → SameWanted v w caller topics
  wanted None described = described refl
  wanted (Some ts) described = tt

  -- ---- each api

  answered : (request : Request) → IsSame v w caller request → SameAnswer (request_outcome v caller request) (request_outcome w caller request)
  answered (Produce r) same = produce_depends v w caller r same.base (by_partitions (produce_questions caller r.transactional_id) r.topics (each (Produce r) same))
  answered (Fetch r) same = fetch_depends v w caller r same.base (by_partitions (fetch_questions caller) r.topics (each (Fetch r) same))
  answered (ListOffsets r) same = list_offsets_depends v w caller r same.base (by_partitions (topic_part caller) r.topics (each (ListOffsets r) same))
  answered (Metadata r) same = metadata_answered r same
  answered (OffsetCommit r) same = groups_depend.commits v w caller r same.base (by_partitions (commit_questions caller r.group) r.topics (each (OffsetCommit r) same))
  answered (OffsetFetch r) same = groups_depend.fetches v w caller r same.base (each (OffsetFetch r) same).0 (wanted r.topics same.described)
  answered (FindCoordinator r) same = groups_depend.finds v w caller r same.base
  answered (JoinGroup r) same = groups_depend.joins v w caller r same.base (each (JoinGroup r) same).0
  answered (Heartbeat r) same = groups_depend.beats v w caller r same.base (each (Heartbeat r) same).0
  answered (LeaveGroup r) same = groups_depend.leaves v w caller r same.base (each (LeaveGroup r) same).0
  answered (SyncGroup r) same = groups_depend.syncs v w caller r same.base (each (SyncGroup r) same).0
  answered (InitProducerId r) same = init_depends.same v w caller r same.base (each (InitProducerId r) same).0
  answered (AddPartitionsToTxn r) same = transactions_depend.adds v w caller r same.base (by_partitions (add_questions caller r.transactional_id) r.topics (each (AddPartitionsToTxn r) same))
  answered (AddOffsetsToTxn r) same = staging_depends.adds v w caller r same.base (each (AddOffsetsToTxn r) same).0
  answered (EndTxn r) same = transactions_depend.ends v w caller r same.base (each (EndTxn r) same).0
  answered (TxnOffsetCommit r) same = staging_depends.stages v w caller r same.base (by_partitions (stage_questions caller (staging_of r)) r.topics (each (TxnOffsetCommit r) same))
  answered (SaslHandshake r) same = record { reply = refl; refusals = refl }
  answered ApiVersions same = record { reply = refl; refusals = refl }
  answered (SaslAuthenticate r) same = record { reply = refl; refusals = refl }
  answered (DescribeAcls r) same = (acls_depend.describe v w caller r same.base).answer
  answered (CreateAcls r) same = (acls_depend.create v w caller r same.base).answer
  answered (DeleteAcls r) same = (acls_depend.delete v w caller r same.base).answer

-- in worlds that are the same in all but topics, groups and ids
pub agreed_answers : (v w : World) (caller : Caller) (client : Option (List ℕ)) (request : Request) → IsSame v w caller request → SameTold v w (Ask caller client request)
agreed_answers v w caller client request same = let told = answered v w caller request same in record { reply = told.reply; refusals = told.refusals }
