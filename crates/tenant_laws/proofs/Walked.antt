-- What a Produce, an OffsetCommit and a TxnOffsetCommit were not granted is as before.
use Rattle.std.proofs.Common.{◌≡◌, inl, inr, ℕ, ℤ, Bool, true, false, List, Option, Some, None, Result, Ok, Err, refl, sym}
use Rattle.std.specs.Str.{bytes_eq}
use Rattle.std.proofs.lemmas.Slice.Eq.{bytes_eq-Decides}
use Rattle.acl_binding.specs.declared.question.Caller.{Caller}
use Rattle.acl_binding.specs.declared.words.Kind.{Kind}
use Rattle.acl_binding.specs.declared.words.Kind.TheVariants.{Topic, Group}
use Rattle.authorizer.specs.Asking.{part_refusal}
use Rattle.wire_types.specs.declared.error_code.ErrorCode.{ErrorCode}
use Rattle.record_batch.specs.Batch.{BatchData}
use Rattle.msg_data.specs.declared.produce.ProduceRequest.{ProduceRequest}
use Rattle.msg_data.specs.declared.produce.ProducedRecords.{ProducedRecords}
use Rattle.msg_group.specs.declared.offset_commit.OffsetCommitRequest.{OffsetCommitRequest}
use Rattle.msg_txn.specs.declared.txn_offset_commit.TxnOffsetCommitRequest.{TxnOffsetCommitRequest}
use Rattle.group_offsets.specs.Groups.{find_group}
use Rattle.broker_world.specs.World.{World, TopicValue, LogValue, rules_of, find_topic}
use Rattle.broker_world.specs.First.{non_negative}
use Rattle.broker_world.specs.Logs.{log_at, log_after, topics_with_batch_by}
use Rattle.data_handlers.specs.Judged.{partition_at, batch_to_append, topics_produced}
use Rattle.data_handlers.specs.Produce.{produce_questions, producing_rule, produce_outcome}
use Rattle.txn_handlers.specs.TxnOffsetCommit.{staging_of, stage_questions, staging_rule, txn_offset_commit_outcome}
use Rattle.group_handlers.specs.OffsetCommit.{commit_questions, committing_rule, offset_commit_outcome}
use Rattle.api_laws.specs.Tenants.{SameOn}
use Rattle.api_laws.proofs.DataGrants.{find_other}
use Rattle.api_laws.proofs.Grouped.{groups_keep}
use Rattle.api_laws.proofs.Staged.{staging_keeps}
use Rattle.api_dispatch.specs.Questions.{partition_parts}
use Rattle.tenant_laws.specs.Laws.{AsksAbout, NoPartIsGranted}
use Rattle.tenant_laws.proofs.Parts.{each_partition}
use Rattle.tenant_laws.proofs.Walks.{Leaves, walk_leaves}
use Rattle.tenant_laws.proofs.Resources.{same_by, group_kept}

-- ---- Produce

pub other_topic : (batch : Result BatchData ErrorCode) (topics : List TopicValue) (name other : List ℕ) (index : ℤ) → bytes_eq name other ≡ false → find_topic (topics_produced batch topics name index) other ≡ find_topic topics other
other_topic (Err code) topics name other index apart = refl
other_topic (Ok b) topics name other index apart = by_log (log_at topics name index) where
  by_log : (o : Option LogValue) → find_topic (topics_with_batch_by topics name index b o) other ≡ find_topic topics other
  by_log None = refl
  by_log (Some log) = find_other topics name other index (log_after log b) apart

asks_topic : (caller : Caller) (id : Option (List ℕ)) (name other : List ℕ) (kind : Kind) → kind ≡ Topic → name ≡ other → AsksAbout kind other (produce_questions caller id name)
asks_topic caller None name other kind is same = inl (sym is, same)
asks_topic caller (Some id) name other kind is same = inr (inl (sym is, same))

module _ (w : World) (caller : Caller) (r : ProduceRequest) (kind : Kind) (other : List ℕ) where
  produced_apart : kind ≡ Topic → (name : List ℕ) (p : ProducedRecords) → (AsksAbout kind other (produce_questions caller r.transactional_id name) → part_refusal (rules_of w) (produce_questions caller r.transactional_id name) ≡ None → ⊥)
      → Leaves (producing_rule w caller r) (rules_of w) (λ topics. find_topic topics other) name p
  produced_apart is name p none granted topics = by_name (bytes_eq name other) refl where
    batch : Result BatchData ErrorCode
    batch = batch_to_append (non_negative w.node.max_batch) w.coordinator r.transactional_id r.acks (partition_at name p.index) p.records

    by_name : (b : Bool) → bytes_eq name other ≡ b → find_topic (topics_produced batch topics name p.index) other ≡ find_topic topics other
    by_name true e = absurd (none (asks_topic caller r.transactional_id name other kind is ((bytes_eq-Decides name other).0 e)) granted)
    by_name false e = other_topic batch topics name other p.index e

  pub produce_kept : NoPartIsGranted w kind other (partition_parts (produce_questions caller r.transactional_id) r.topics) → SameOn w (produce_outcome w caller r).world kind other
  produce_kept none =
      same_by w (produce_outcome w caller r).world kind other
      (λ is. walk_leaves (producing_rule w caller r) (rules_of w) (λ topics. find_topic topics other) w.topics r.topics (each_partition (produce_questions caller r.transactional_id) _ (Leaves (producing_rule w caller r) (rules_of w) (λ topics. find_topic topics other)) (produced_apart is) r.topics none))
      (λ is. refl) (λ is. refl)

-- ---- OffsetCommit

module _ (w : World) (caller : Caller) (r : OffsetCommitRequest) (kind : Kind) (name : List ℕ) where
  own_group : kind ≡ Group → name ≡ r.group → NoPartIsGranted w kind name (partition_parts (commit_questions caller r.group) r.topics) → find_group (offset_commit_outcome w caller r).world.groups name ≡ find_group w.groups name
  own_group is named none =
      walk_leaves (committing_rule w caller r) (rules_of w) (λ groups. find_group groups name) w.groups r.topics
      (each_partition (commit_questions caller r.group) _ (Leaves (committing_rule w caller r) (rules_of w) (λ groups. find_group groups name)) (λ topic p refused granted groups. absurd (refused (inl (sym is, sym named)) granted)) r.topics none)

  pub commit_kept : NoPartIsGranted w kind name (partition_parts (commit_questions caller r.group) r.topics) → SameOn w (offset_commit_outcome w caller r).world kind name
  commit_kept none = group_kept w r.group (offset_commit_outcome w caller r) (groups_keep.commits w caller r) kind name (λ is named. own_group is named none)

-- ---- TxnOffsetCommit

module _ (w : World) (caller : Caller) (r : TxnOffsetCommitRequest) (kind : Kind) (name : List ℕ) where
  staged_group : kind ≡ Group → name ≡ r.group → NoPartIsGranted w kind name (partition_parts (stage_questions caller (staging_of r)) r.topics) → find_group (txn_offset_commit_outcome w caller r).world.groups name ≡ find_group w.groups name
  staged_group is named none =
      walk_leaves (staging_rule w caller r) (rules_of w) (λ groups. find_group groups name) w.groups r.topics
      (each_partition (stage_questions caller (staging_of r)) _ (Leaves (staging_rule w caller r) (rules_of w) (λ groups. find_group groups name)) (λ topic p refused granted groups. absurd (refused (inr (inl (sym is, sym named))) granted)) r.topics none)

  pub stage_kept : NoPartIsGranted w kind name (partition_parts (stage_questions caller (staging_of r)) r.topics) → SameOn w (txn_offset_commit_outcome w caller r).world kind name
  stage_kept none = group_kept w r.group (txn_offset_commit_outcome w caller r) (staging_keeps.stages w caller r) kind name (λ is named. staged_group is named none)
