-- The numbers of a core stay below the ends of their types: an event has at most so many refusals as its request
-- has parts, and a request that fits a frame has fewer parts than bytes.
use Rattle.std.proofs.Common.{◌≡◌, ℕ, Bool, true, cond, ℤ, ◌+◌, ◌<◌, ◌≤◌, subst, false, List, [], ◌∷◌, ◌++◌, length, Option, Some, None, refl, sym, ap, arith}
use Rattle.std.specs.List.{filter_map, cons_option}
use Rattle.std.proofs.lemmas.List.{length-append}
use Rattle.acl_binding.specs.declared.question.Caller.{Caller}
use Rattle.authorizer.specs.declared.answer.Refusal.{Refusal}
use Rattle.authorizer.specs.Asking.{Rules, part_refusal}
use Rattle.wire_types.specs.declared.topic.Topic.{Topic}
use Rattle.wire_types.specs.Grammar.{Grammar}
use Rattle.wire_types.specs.Spelling.{many_written, after_null_count_written, after_count_written, int_written}
use Rattle.wire_types.specs.Combinators.{◌⨟◌}
use Rattle.wire_types.specs.Schema.{int16, int32, int64, boolean, string, compact_string, compact_nullable_string, nullable_string, nullable_bytes, array, nullable_array, compact_array, compact_nullable_array, count32, null_count32, compact_count, compact_null_count, tags}
use Rattle.wire_types.specs.Topic.{topic_of, flexible_topic_of}
use Rattle.msg_data.specs.declared.produce.ProduceRequest.{ProduceRequest}
use Rattle.msg_data.specs.declared.produce.ProducedRecords.{ProducedRecords}
use Rattle.msg_data.specs.declared.fetch.FetchRequest.{FetchRequest}
use Rattle.msg_data.specs.declared.fetch.FetchPartition.{FetchPartition}
use Rattle.msg_data.specs.declared.list_offsets.ListOffsetsRequest.{ListOffsetsRequest}
use Rattle.msg_data.specs.declared.list_offsets.WantedOffset.{WantedOffset}
use Rattle.msg_data.specs.Isolation.{isolation}
use Rattle.msg_data.specs.Produce.{produced_records, produce_request}
use Rattle.msg_data.specs.Fetch.{fetch_partition, fetch_request}
use Rattle.msg_data.specs.ListOffsets.{wanted_offset, list_offsets_request}
use Rattle.msg_admin.specs.declared.request.Request.{Request}
use Rattle.msg_acl.specs.declared.create_acls.CreateAclsRequest.{CreateAclsRequest}
use Rattle.walk.specs.Rule.{PartRule, refusal_of}
use Rattle.walk.specs.Walk.{world_after, parts_refused, refusals, parts_weight, topics_weight}
use Rattle.walk.proofs.Weights.{walk_takes}
use Rattle.msg_admin.specs.declared.request.Request.TheVariants.{Produce, Fetch, ListOffsets, Metadata, OffsetCommit, OffsetFetch, FindCoordinator, JoinGroup, Heartbeat, LeaveGroup, SyncGroup, SaslHandshake, ApiVersions, InitProducerId, AddPartitionsToTxn, AddOffsetsToTxn, EndTxn, TxnOffsetCommit, DescribeAcls, CreateAcls, DeleteAcls, SaslAuthenticate}
use Rattle.msg_admin.specs.Request.{Fits}
use Rattle.msg_admin.specs.Bodies.{request_body}
use Rattle.audit_trail.specs.declared.event.Event.{Event}
use Rattle.audit_trail.specs.declared.event.Event.TheVariants.{Ask, Mark, Tick}
use Rattle.broker_world.specs.World.{World, TopicValue, rules_of}
use Rattle.broker_world.specs.Questions.{topic_refusal}
use Rattle.data_handlers.specs.Metadata.{topic_refusals}
use Rattle.broker_world.specs.Logs.{most_end, offsets_left}
use Rattle.data_handlers.specs.Judged.{records_size}
use Rattle.data_handlers.specs.Produce.{producing_rule}
use Rattle.data_handlers.specs.Fetch.{fetch_rule}
use Rattle.data_handlers.specs.ListOffsets.{list_rule}
use Rattle.acl_handlers.specs.DescribeAcls.{describe_acls_questions}
use Rattle.acl_handlers.specs.CreateAcls.{alter_questions, book_created}
use Rattle.acl_handlers.specs.DeleteAcls.{book_deleted}
use Rattle.txn_handlers.specs.EndTxn.{end_questions}
use Rattle.txn_handlers.specs.InitProducerId.{init_questions}
use Rattle.msg_txn.specs.declared.add_partitions.AddPartitionsToTxnRequest.{AddPartitionsToTxnRequest}
use Rattle.msg_txn.specs.AddPartitions.{add_partitions_to_txn_request}
use Rattle.txn_coordinator.specs.declared.marker.PendingMarker.{PendingMarker}
use Rattle.txn_coordinator.specs.declared.target.Target.{Target}
use Rattle.txn_coordinator.specs.declared.target.Target.TheVariants.{Partition, Group}
use Rattle.txn_coordinator.specs.Warrants.{next_warrant}
use Rattle.txn_handlers.specs.AddOffsets.{add_offsets_questions}
use Rattle.txn_handlers.specs.AddPartitions.{cut_rule, is_cut, cut_outcome, added_outcome}
use Rattle.broker_world.specs.Markers.{marker_batch}
use Rattle.txn_handlers.specs.Marks.{topics_with_marker_at, mark_by}
use Rattle.broker_world.proofs.OffsetsLeft.{marked_within}
use Rattle.group_handlers.specs.OffsetCommit.{committing_rule}
use Rattle.txn_handlers.specs.TxnOffsetCommit.{staging_rule}
use Rattle.msg_txn.specs.declared.txn_offset_commit.TxnOffsetCommitRequest.{TxnOffsetCommitRequest}
use Rattle.msg_txn.specs.declared.txn_offset_commit.OffsetToStage.{OffsetToStage}
use Rattle.msg_txn.specs.TxnOffsetCommit.{offset_to_stage, txn_offset_commit_request}
use Rattle.group_handlers.specs.OffsetFetch.{group_question, offset_rule, offsets_of, fetched_outcome, offset_fetch_by}
use Rattle.msg_group.specs.declared.offset_commit.OffsetCommitRequest.{OffsetCommitRequest}
use Rattle.msg_group.specs.declared.offset_commit.OffsetToCommit.{OffsetToCommit}
use Rattle.msg_group.specs.OffsetCommit.{offset_to_commit, offset_commit_request}
use Rattle.msg_group.specs.declared.offset_fetch.OffsetFetchRequest.{OffsetFetchRequest}
use Rattle.msg_group.specs.OffsetFetch.{offset_fetch_request}
use Rattle.api_dispatch.proofs.Wholes.{offsets_keep}
use Rattle.broker_world.specs.Questions.{read_question}
use Rattle.group_handlers.specs.FindCoordinator.{kind_of, find_questions}
use Rattle.txn_handlers.proofs.Adds.{add_keeps, mark_keeps}
use Rattle.api_dispatch.specs.Step.{outcome, refusals_of}
use Rattle.api_dispatch.specs.Bounds.{EventFits, most_parts}
use Rattle.acl_handlers.proofs.BookBounds.{created_next, deleted_next, few_creations, whole_next, whole_refusals, whole_topics}

-- no more are kept than there are
few_kept : {A B : Type 0} (f : A → Option B) (xs : List A) → length (filter_map f xs) ≤ length xs
few_kept f [] = omega arith
few_kept {A} {B} f (x ∷ xs) = by_kept (f x) (few_kept f xs) where
  by_kept : (o : Option B) → length (filter_map f xs) ≤ length xs → length (cons_option o (filter_map f xs)) ≤ length (x ∷ xs)
  by_kept None rest = omega arith
  by_kept (Some y) rest = omega arith

text_bytes : (name : List ℕ) → 0 < length (string.written name)
unfolding after_count_written int_written
text_bytes name = omega arith

-- each text has a byte at least
many_bytes : (names : List (List ℕ)) → length names ≤ length (many_written string.written names)
unfolding many_written after_count_written
many_bytes [] = omega arith
many_bytes (name ∷ names) = omega (arith, many_bytes names, length-append (string.written name) (many_written string.written names), text_bytes name)

few_topics : (rules : Rules) (caller : Caller) (topics : Option (List (List ℕ))) → length ((nullable_array string).written topics) ≤ most_parts → length (topic_refusals rules caller topics) ≤ most_parts
unfolding after_null_count_written
few_topics rules caller None fits = omega arith
few_topics rules caller (Some names) fits =
    omega (arith, fits, few_kept (topic_refusal rules caller) names, many_bytes names, length-append (null_count32.written (Some (length names))) (many_written string.written names))

-- ---- requests for partitions of topics

-- a number for each part, summed
sum_parts : {P : Type 0} → (P → ℕ) → List P → ℕ
sum_parts f [] = 0
sum_parts f (p ∷ ps) = f p + sum_parts f ps

sum_topics : {P : Type 0} → (P → ℕ) → List (Topic P) → ℕ
sum_topics f [] = 0
sum_topics f (t ∷ ts) = sum_parts f t.partitions + sum_topics f ts

parts_bytes : {P : Type 0} (g : Grammar P) (f : P → ℕ) → ((p : P) → f p ≤ length (g.written p)) → (ps : List P) → sum_parts f ps ≤ length (many_written g.written ps)
unfolding many_written sum_parts
parts_bytes g f few [] = omega arith
parts_bytes g f few (p ∷ ps) = omega (arith, few p, parts_bytes g f few ps, length-append (g.written p) (many_written g.written ps))

array_bytes : {P : Type 0} (g : Grammar P) (ps : List P) → length (many_written g.written ps) ≤ length ((array g).written ps)
unfolding after_count_written
array_bytes g ps = omega (arith, length-append (count32.written (length ps)) (many_written g.written ps))

topic_bytes : {P : Type 0} (g : Grammar P) (t : Topic P) → length ((array g).written t.partitions) ≤ length ((topic_of g).written t)
topic_bytes g t = omega (arith, length-append (string.written t.name) ((array g).written t.partitions))

topics_bytes : {P : Type 0} (g : Grammar P) (f : P → ℕ) → ((p : P) → f p ≤ length (g.written p)) → (ts : List (Topic P)) → sum_topics f ts ≤ length (many_written (topic_of g).written ts)
unfolding many_written sum_topics
topics_bytes g f few [] = omega arith
topics_bytes g f few (t ∷ ts) =
    omega (arith, parts_bytes g f few t.partitions, array_bytes g t.partitions, topic_bytes g t, topics_bytes g f few ts, length-append ((topic_of g).written t) (many_written (topic_of g).written ts))

-- what is summed over the parts of a request is no more than its bytes
within_array : {P : Type 0} (g : Grammar P) (f : P → ℕ) → ((p : P) → f p ≤ length (g.written p)) → (ts : List (Topic P)) → sum_topics f ts ≤ length ((array (topic_of g)).written ts)
within_array g f few ts = omega (arith, topics_bytes g f few ts, array_bytes (topic_of g) ts)

-- no more parts are refused than there are
few_parts : {P A W : Type 0} (api : PartRule P A W) (rules : Rules) (name : List ℕ) (ps : List P) → length (parts_refused api rules name ps) ≤ sum_parts (λ p. 1) ps
unfolding sum_parts
few_parts api rules name [] = omega arith
few_parts api rules name (p ∷ ps) = by_refusal (refusal_of api rules name p) (few_parts api rules name ps) where
  by_refusal : (r : Option Refusal) → length (parts_refused api rules name ps) ≤ sum_parts (λ p. 1) ps → length (cons_option r (parts_refused api rules name ps)) ≤ 1 + sum_parts (λ p. 1) ps
  by_refusal None rest = omega arith
  by_refusal (Some r) rest = omega arith

few_walked : {P A W : Type 0} (api : PartRule P A W) (rules : Rules) (ts : List (Topic P)) → length (refusals api rules ts) ≤ sum_topics (λ p. 1) ts
unfolding sum_topics
few_walked api rules [] = omega arith
few_walked api rules (t ∷ ts) = omega (arith, few_parts api rules t.name t.partitions, few_walked api rules ts, length-append (parts_refused api rules t.name t.partitions) (refusals api rules ts))

weight_parts : {P A W : Type 0} (api : PartRule P A W) (ps : List P) → parts_weight api ps ≤ sum_parts api.weight ps
unfolding sum_parts
weight_parts api [] = omega arith
weight_parts api (p ∷ ps) = omega (arith, weight_parts api ps)

weight_topics : {P A W : Type 0} (api : PartRule P A W) (ts : List (Topic P)) → topics_weight api ts ≤ sum_topics api.weight ts
unfolding sum_topics
weight_topics api [] = omega arith
weight_topics api (t ∷ ts) = omega (arith, weight_parts api t.partitions, weight_topics api ts)

-- ---- the bytes of a part

int32_bytes : (z : ℤ) → length (int32.written z) ≡ 4
unfolding int_written
int32_bytes z = refl

records_bytes : (o : Option (List ℕ)) → records_size o ≤ length (nullable_bytes.written o)
unfolding after_null_count_written
records_bytes None = omega arith
records_bytes (Some text) = omega (arith, length-append (null_count32.written (Some (length text))) text)

produced_bytes : (p : ProducedRecords) → records_size p.records ≤ length (produced_records.written p)
produced_bytes p = omega (arith, length-append (int32.written p.index) (nullable_bytes.written p.records), records_bytes p.records)

produced_some : (p : ProducedRecords) → 1 ≤ length (produced_records.written p)
produced_some p = omega (arith, int32_bytes p.index, length-append (int32.written p.index) (nullable_bytes.written p.records))

fetch_some : (p : FetchPartition) → 1 ≤ length (fetch_partition.written p)
fetch_some p = omega (arith, int32_bytes p.index, length-append (int32.written p.index) ((int64 ⨟ int32).written (p.offset, p.max_bytes)))

index_some : (z : ℤ) → 1 ≤ length (int32.written z)
index_some z = omega (arith, int32_bytes z)

commit_some : (p : OffsetToCommit) → 1 ≤ length (offset_to_commit.written p)
commit_some p = omega (arith, int32_bytes p.index, length-append (int32.written p.index) ((int64 ⨟ nullable_string).written (p.offset, p.metadata)))

stage_some : (p : OffsetToStage) → 1 ≤ length (offset_to_stage.written p)
stage_some p =
    let rest = (int64 ⨟ int32 ⨟ compact_nullable_string).written (p.offset, (p.leader_epoch, p.metadata)) in
    omega (arith, int32_bytes p.index, length-append (int32.written p.index) rest, length-append (int32.written p.index ++ rest) (tags.written tt))

wanted_some : (p : WantedOffset) → 1 ≤ length (wanted_offset.written p)
wanted_some p = omega (arith, int32_bytes p.index, length-append (int32.written p.index) (int64.written p.timestamp))

-- ---- the topics of a request, after what stands before them

after_two : (a b c : List ℕ) → length c ≤ length (a ++ (b ++ c))
after_two a b c = omega (arith, length-append a (b ++ c), length-append b c)

produce_topics : (r : ProduceRequest) → length ((array (topic_of produced_records)).written r.topics) ≤ length (produce_request.written r)
produce_topics r =
    let rest = int32.written r.timeout ++ (array (topic_of produced_records)).written r.topics in
    omega (arith, after_two (nullable_string.written r.transactional_id) (int16.written r.acks) rest, length-append (int32.written r.timeout) ((array (topic_of produced_records)).written r.topics))

fetch_topics : (r : FetchRequest) → length ((array (topic_of fetch_partition)).written r.topics) ≤ length (fetch_request.written r)
fetch_topics r =
    let last = isolation.written r.isolation ++ (array (topic_of fetch_partition)).written r.topics in
    let more = int32.written r.min_bytes ++ (int32.written r.max_bytes ++ last) in
    omega (arith, after_two (int32.written r.replica) (int32.written r.max_wait) more, after_two (int32.written r.min_bytes) (int32.written r.max_bytes) last, length-append (isolation.written r.isolation) ((array (topic_of fetch_partition)).written r.topics))

list_topics : (r : ListOffsetsRequest) → length ((array (topic_of wanted_offset)).written r.topics) ≤ length (list_offsets_request.written r)
list_topics r = after_two (int32.written r.replica) (isolation.written r.isolation) ((array (topic_of wanted_offset)).written r.topics)

add_topics : (r : AddPartitionsToTxnRequest) → length ((array (topic_of int32)).written r.topics) ≤ length (add_partitions_to_txn_request.written r)
add_topics r =
    let rest = int16.written r.epoch ++ (array (topic_of int32)).written r.topics in
    omega (arith, after_two (string.written r.transactional_id) (int64.written r.producer) rest, length-append (int16.written r.epoch) ((array (topic_of int32)).written r.topics))

commit_topics : (r : OffsetCommitRequest) → length ((array (topic_of offset_to_commit)).written r.topics) ≤ length (offset_commit_request.written r)
commit_topics r =
    let last = int64.written r.retention ++ (array (topic_of offset_to_commit)).written r.topics in
    let more = string.written r.member ++ last in
    omega (arith, after_two (string.written r.group) (int32.written r.generation) more, after_two (string.written r.member) (int64.written r.retention) ((array (topic_of offset_to_commit)).written r.topics))

-- ---- topics of a flexible version

flexible_bytes : {P : Type 0} (g : Grammar P) (t : Topic P) → length (many_written g.written t.partitions) ≤ length ((flexible_topic_of g).written t)
unfolding flexible_topic_of after_count_written
flexible_bytes g t =
    let parts = many_written g.written t.partitions in
    omega (arith, length-append (compact_count.written (length t.partitions)) parts, length-append (compact_string.written t.name) ((compact_array g).written t.partitions), length-append (compact_string.written t.name ++ (compact_array g).written t.partitions) (tags.written tt))

within_flexible : {P : Type 0} (g : Grammar P) (f : P → ℕ) → ((p : P) → f p ≤ length (g.written p)) → (ts : List (Topic P)) → sum_topics f ts ≤ length (many_written (flexible_topic_of g).written ts)
unfolding many_written sum_topics
within_flexible g f few [] = omega arith
within_flexible g f few (t ∷ ts) =
    omega (arith, parts_bytes g f few t.partitions, flexible_bytes g t, within_flexible g f few ts, length-append ((flexible_topic_of g).written t) (many_written (flexible_topic_of g).written ts))

null_array_bytes : (ts : List (Topic ℤ)) → length (many_written (flexible_topic_of int32).written ts) ≤ length ((compact_nullable_array (flexible_topic_of int32)).written (Some ts))
unfolding after_null_count_written
null_array_bytes ts = omega (arith, length-append (compact_null_count.written (Some (length ts))) (many_written (flexible_topic_of int32).written ts))

fetch_offsets_topics : (r : OffsetFetchRequest) → length ((compact_nullable_array (flexible_topic_of int32)).written r.topics) ≤ length (offset_fetch_request.written r)
fetch_offsets_topics r =
    let topics = (compact_nullable_array (flexible_topic_of int32)).written r.topics in
    let last = topics ++ boolean.written r.require_stable in
    omega (arith, length-append topics (boolean.written r.require_stable), length-append (compact_string.written r.group) last, length-append (compact_string.written r.group ++ last) (tags.written tt))

compact_array_bytes : {P : Type 0} (g : Grammar P) (ps : List P) → length (many_written g.written ps) ≤ length ((compact_array g).written ps)
unfolding after_count_written
compact_array_bytes g ps = omega (arith, length-append (compact_count.written (length ps)) (many_written g.written ps))

stage_topics : (r : TxnOffsetCommitRequest) → length (many_written (flexible_topic_of offset_to_stage).written r.topics) ≤ length (txn_offset_commit_request.written r)
stage_topics r =
    let topics = (compact_array (flexible_topic_of offset_to_stage)).written r.topics in
    let last = compact_string.written r.member ++ (compact_nullable_string.written r.instance ++ topics) in
    let more = int16.written r.epoch ++ (int32.written r.generation ++ last) in
    let rest = int64.written r.producer ++ more in
    let whole = compact_string.written r.transactional_id ++ (compact_string.written r.group ++ rest) in
    omega (
      arith,
      compact_array_bytes (flexible_topic_of offset_to_stage) r.topics,
      after_two (compact_string.written r.member) (compact_nullable_string.written r.instance) topics,
      after_two (int16.written r.epoch) (int32.written r.generation) last,
      length-append (int64.written r.producer) more,
      after_two (compact_string.written r.transactional_id) (compact_string.written r.group) rest,
      length-append whole (tags.written tt),
    )

-- ---- an event

pub few_refusals : (w : World) (e : Event) → EventFits e → length (refusals_of w e) ≤ most_parts
unfolding request_body
few_refusals w (Ask caller client (Produce r)) fits =
    omega (arith, fits.1, few_walked (producing_rule w caller r) (rules_of w) r.topics, within_array produced_records (λ p. 1) produced_some r.topics, produce_topics r)
few_refusals w (Ask caller client (Fetch r)) fits =
    omega (arith, fits.1, few_walked (fetch_rule caller r.isolation w.topics) (rules_of w) r.topics, within_array fetch_partition (λ p. 1) fetch_some r.topics, fetch_topics r)
few_refusals w (Ask caller client (ListOffsets r)) fits =
    omega (arith, fits.1, few_walked (list_rule caller r.isolation w.topics) (rules_of w) r.topics, within_array wanted_offset (λ p. 1) wanted_some r.topics, list_topics r)
few_refusals w (Ask caller client (Metadata r)) fits = few_topics (rules_of w) caller r.topics (omega (arith, fits.1))
few_refusals w (Ask caller client (OffsetCommit r)) fits =
    omega (arith, fits.1, few_walked (committing_rule w caller r) (rules_of w) r.topics, within_array offset_to_commit (λ p. 1) commit_some r.topics, commit_topics r)
few_refusals w (Ask caller client (OffsetFetch r)) fits = by_refusal (part_refusal (rules_of w) (group_question caller r.group ∷ [])) where
  by_topics : (o : Option (List (Topic ℤ))) → length ((compact_nullable_array (flexible_topic_of int32)).written o) ≤ most_parts → length (fetched_outcome w caller (offsets_of w r.group) r.require_stable o).refusals ≤ most_parts
  by_topics None few = omega arith
  by_topics (Some ts) few = omega (arith, few, few_walked (offset_rule caller (offsets_of w r.group) r.require_stable) (rules_of w) ts, within_flexible int32 (λ p. 1) index_some ts, null_array_bytes ts)

  by_refusal : (o : Option Refusal) → length (offset_fetch_by o w caller r).refusals ≤ most_parts
  by_refusal None = by_topics r.topics (omega (arith, fits.1, fetch_offsets_topics r))
  by_refusal (Some refusal) = omega arith
few_refusals w (Ask caller client (JoinGroup r)) fits =
    let few : length (refusals_of w (Ask caller client (JoinGroup r))) ≤ 1 = whole_refusals (part_refusal (rules_of w) (read_question caller r.group ∷ [])) w _ _ in
    omega (arith, few)
few_refusals w (Ask caller client (Heartbeat r)) fits =
    let few : length (refusals_of w (Ask caller client (Heartbeat r))) ≤ 1 = whole_refusals (part_refusal (rules_of w) (read_question caller r.group ∷ [])) w _ _ in
    omega (arith, few)
few_refusals w (Ask caller client (LeaveGroup r)) fits =
    let few : length (refusals_of w (Ask caller client (LeaveGroup r))) ≤ 1 = whole_refusals (part_refusal (rules_of w) (read_question caller r.group ∷ [])) w _ _ in
    omega (arith, few)
few_refusals w (Ask caller client (SyncGroup r)) fits =
    let few : length (refusals_of w (Ask caller client (SyncGroup r))) ≤ 1 = whole_refusals (part_refusal (rules_of w) (read_question caller r.group ∷ [])) w _ _ in
    omega (arith, few)
few_refusals w (Ask caller client (FindCoordinator r)) fits =
    let few : length (refusals_of w (Ask caller client (FindCoordinator r))) ≤ 1 = whole_refusals (part_refusal (rules_of w) (find_questions caller (kind_of r.key_type) r.key)) w _ _ in
    omega (arith, few)
few_refusals w (Ask caller client (InitProducerId r)) fits =
    let few : length (refusals_of w (Ask caller client (InitProducerId r))) ≤ 1 = whole_refusals (part_refusal (rules_of w) (init_questions (rules_of w) caller r.transactional_id)) w _ _ in
    omega (arith, few)
few_refusals w (Ask caller client (AddPartitionsToTxn r)) fits = by_cut (is_cut caller r.transactional_id w.topics (rules_of w) r.topics) where
  few : length (refusals (cut_rule caller r.transactional_id w.topics) (rules_of w) r.topics) ≤ most_parts
  few = omega (arith, fits.1, few_walked (cut_rule caller r.transactional_id w.topics) (rules_of w) r.topics, within_array int32 (λ p. 1) index_some r.topics, add_topics r)

  by_cut : (b : Bool) → length (cond b (cut_outcome w caller r) (added_outcome w r)).refusals ≤ most_parts
  by_cut true = few
  by_cut false = omega arith
few_refusals w (Ask caller client (AddOffsetsToTxn r)) fits =
    let few : length (refusals_of w (Ask caller client (AddOffsetsToTxn r))) ≤ 1 = whole_refusals (part_refusal (rules_of w) (add_offsets_questions caller r.transactional_id r.group)) w _ _ in
    omega (arith, few)
few_refusals w (Ask caller client (EndTxn r)) fits =
    let few : length (refusals_of w (Ask caller client (EndTxn r))) ≤ 1 = whole_refusals (part_refusal (rules_of w) (end_questions caller r)) w _ _ in
    omega (arith, few)
few_refusals w (Ask caller client (TxnOffsetCommit r)) fits =
    omega (arith, fits.1, few_walked (staging_rule w caller r) (rules_of w) r.topics, within_flexible offset_to_stage (λ p. 1) stage_some r.topics, stage_topics r)
few_refusals w (Ask caller client (SaslHandshake r)) fits = omega arith
few_refusals w (Ask caller client ApiVersions) fits = omega arith
few_refusals w (Ask caller client (SaslAuthenticate r)) fits = omega arith
few_refusals w (Ask caller client (DescribeAcls r)) fits =
    let few : length (refusals_of w (Ask caller client (DescribeAcls r))) ≤ 1 = whole_refusals (part_refusal (rules_of w) (describe_acls_questions caller)) w _ _ in
    omega (arith, few)
few_refusals w (Ask caller client (CreateAcls r)) fits =
    let few : length (refusals_of w (Ask caller client (CreateAcls r))) ≤ 1 = whole_refusals (part_refusal (rules_of w) (alter_questions caller)) w _ _ in
    omega (arith, few)
few_refusals w (Ask caller client (DeleteAcls r)) fits =
    let few : length (refusals_of w (Ask caller client (DeleteAcls r))) ≤ 1 = whole_refusals (part_refusal (rules_of w) (alter_questions caller)) w _ _ in
    omega (arith, few)
few_refusals w Mark fits = by_front (next_warrant w.coordinator) where
  by_front : (o : Option PendingMarker) → length (mark_by w o).refusals ≤ most_parts
  by_front None = omega arith
  by_front (Some m) = omega arith
few_refusals w (Tick told) fits = omega arith

-- a Produce adds at most as many records to a log as its frame has bytes
produce_weight : (w : World) (caller : Caller) (r : ProduceRequest) → Fits (Produce r) → topics_weight (producing_rule w caller r) r.topics ≤ most_parts
unfolding request_body
produce_weight w caller r fits =
    omega (arith, fits.1, weight_topics (producing_rule w caller r) r.topics, within_array produced_records (producing_rule w caller r).weight produced_bytes r.topics, produce_topics r)

pub produce_light : (w : World) (caller : Caller) (q : Request) (r : ProduceRequest) → q ≡ Produce r → Fits q → topics_weight (producing_rule w caller r) r.topics ≤ most_parts
produce_light w caller q r is fits = produce_weight w caller r (subst Fits is fits)

same_ends : {us vs : List TopicValue} → us ≡ vs → most_end us ≤ most_end vs + most_parts
same_ends {us} {vs} same = subst (λ (ts : List TopicValue). most_end ts ≤ most_end vs + most_parts) (sym same) (omega arith)

pub ends_outcome : (w : World) (e : Event) → EventFits e → most_parts + most_end w.topics < 9223372036854775807 → most_end (outcome w e).world.topics ≤ most_end w.topics + most_parts
ends_outcome w (Ask caller client (Produce r)) fits budget =
    let after : List TopicValue = world_after (producing_rule w caller r) (rules_of w) w.topics r.topics in
    let taken : offsets_left w.topics ≤ topics_weight (producing_rule w caller r) r.topics + offsets_left after = walk_takes (producing_rule w caller r) (rules_of w) w.topics r.topics in
    let few : topics_weight (producing_rule w caller r) r.topics ≤ most_parts = produce_weight w caller r fits in
    let ends : most_end after ≤ most_end w.topics + most_parts = omega (arith, budget, few, taken) in
    ends
ends_outcome w (Ask caller client (Fetch r)) fits budget = omega arith
ends_outcome w (Ask caller client (ListOffsets r)) fits budget = omega arith
ends_outcome w (Ask caller client (Metadata r)) fits budget = omega arith
ends_outcome w (Ask caller client (OffsetCommit r)) fits budget = omega arith
ends_outcome w (Ask caller client (OffsetFetch r)) fits budget = same_ends (ap (λ (v : World). v.topics) (offsets_keep w caller r))
ends_outcome w (Ask caller client (JoinGroup r)) fits budget = same_ends (whole_topics (part_refusal (rules_of w) (read_question caller r.group ∷ [])) w _ _ refl)
ends_outcome w (Ask caller client (Heartbeat r)) fits budget = same_ends (whole_topics (part_refusal (rules_of w) (read_question caller r.group ∷ [])) w _ _ refl)
ends_outcome w (Ask caller client (LeaveGroup r)) fits budget = same_ends (whole_topics (part_refusal (rules_of w) (read_question caller r.group ∷ [])) w _ _ refl)
ends_outcome w (Ask caller client (SyncGroup r)) fits budget = same_ends (whole_topics (part_refusal (rules_of w) (read_question caller r.group ∷ [])) w _ _ refl)
ends_outcome w (Ask caller client (FindCoordinator r)) fits budget = same_ends (whole_topics (part_refusal (rules_of w) (find_questions caller (kind_of r.key_type) r.key)) w _ _ refl)
ends_outcome w (Ask caller client (InitProducerId r)) fits budget = same_ends (whole_topics (part_refusal (rules_of w) (init_questions (rules_of w) caller r.transactional_id)) w _ _ refl)
ends_outcome w (Ask caller client (AddPartitionsToTxn r)) fits budget = same_ends (add_keeps (λ v. v.topics) (λ v c. refl) w caller r)
ends_outcome w (Ask caller client (AddOffsetsToTxn r)) fits budget = same_ends (whole_topics (part_refusal (rules_of w) (add_offsets_questions caller r.transactional_id r.group)) w _ _ refl)
ends_outcome w (Ask caller client (EndTxn r)) fits budget = same_ends (whole_topics (part_refusal (rules_of w) (end_questions caller r)) w _ _ refl)
ends_outcome w (Ask caller client (TxnOffsetCommit r)) fits budget = omega arith
ends_outcome w (Ask caller client (SaslHandshake r)) fits budget = omega arith
ends_outcome w (Ask caller client ApiVersions) fits budget = omega arith
ends_outcome w (Ask caller client (SaslAuthenticate r)) fits budget = omega arith
ends_outcome w (Ask caller client (DescribeAcls r)) fits budget = same_ends (whole_topics (part_refusal (rules_of w) (describe_acls_questions caller)) w _ _ refl)
ends_outcome w (Ask caller client (CreateAcls r)) fits budget = same_ends (whole_topics (part_refusal (rules_of w) (alter_questions caller)) w _ _ refl)
ends_outcome w (Ask caller client (DeleteAcls r)) fits budget = same_ends (whole_topics (part_refusal (rules_of w) (alter_questions caller)) w _ _ refl)
ends_outcome w Mark fits budget = by_front (next_warrant w.coordinator) where
  by_target : (m : PendingMarker) (t : Target) → most_end (topics_with_marker_at w.topics t (marker_batch m w.moment)) ≤ most_end w.topics + 1
  by_target m (Partition p) = marked_within w.topics p.topic p.index m w.moment
  by_target m (Group g) = omega arith

  by_front : (o : Option PendingMarker) → most_end (mark_by w o).world.topics ≤ most_end w.topics + most_parts
  by_front None = omega arith
  by_front (Some m) = omega (arith, by_target m m.target)
ends_outcome w (Tick told) fits budget = omega arith

-- ---- creation numbers

-- a CreateAcls gives out at most as many as its frame has bytes
creations_fit : (r : CreateAclsRequest) → Fits (CreateAcls r) → length r.creations ≤ most_parts
unfolding request_body
creations_fit r fits = omega (arith, fits.1, few_creations r)

pub few_created : (q : Request) (r : CreateAclsRequest) → q ≡ CreateAcls r → Fits q → length r.creations ≤ most_parts
few_created q r is fits = creations_fit r (subst Fits is fits)

pub numbers_outcome : (w : World) (e : Event) → EventFits e → (outcome w e).world.book.next ≤ w.book.next + most_parts
numbers_outcome w (Ask caller client (Produce r)) fits = omega arith
numbers_outcome w (Ask caller client (Fetch r)) fits = omega arith
numbers_outcome w (Ask caller client (ListOffsets r)) fits = omega arith
numbers_outcome w (Ask caller client (Metadata r)) fits = omega arith
numbers_outcome w (Ask caller client (OffsetCommit r)) fits = omega arith
numbers_outcome w (Ask caller client (OffsetFetch r)) fits = omega (arith, ap (λ (v : World). v.book.next) (offsets_keep w caller r))
numbers_outcome w (Ask caller client (JoinGroup r)) fits = whole_next (part_refusal (rules_of w) (read_question caller r.group ∷ [])) w _ _ most_parts (omega arith)
numbers_outcome w (Ask caller client (Heartbeat r)) fits = whole_next (part_refusal (rules_of w) (read_question caller r.group ∷ [])) w _ _ most_parts (omega arith)
numbers_outcome w (Ask caller client (LeaveGroup r)) fits = whole_next (part_refusal (rules_of w) (read_question caller r.group ∷ [])) w _ _ most_parts (omega arith)
numbers_outcome w (Ask caller client (SyncGroup r)) fits = whole_next (part_refusal (rules_of w) (read_question caller r.group ∷ [])) w _ _ most_parts (omega arith)
numbers_outcome w (Ask caller client (FindCoordinator r)) fits = whole_next (part_refusal (rules_of w) (find_questions caller (kind_of r.key_type) r.key)) w _ _ most_parts (omega arith)
numbers_outcome w (Ask caller client (InitProducerId r)) fits = whole_next (part_refusal (rules_of w) (init_questions (rules_of w) caller r.transactional_id)) w _ _ most_parts (omega arith)
numbers_outcome w (Ask caller client (AddPartitionsToTxn r)) fits = omega (arith, add_keeps (λ v. v.book.next) (λ v c. refl) w caller r)
numbers_outcome w (Ask caller client (AddOffsetsToTxn r)) fits = whole_next (part_refusal (rules_of w) (add_offsets_questions caller r.transactional_id r.group)) w _ _ most_parts (omega arith)
numbers_outcome w (Ask caller client (EndTxn r)) fits = whole_next (part_refusal (rules_of w) (end_questions caller r)) w _ _ most_parts (omega arith)
numbers_outcome w (Ask caller client (TxnOffsetCommit r)) fits = omega arith
numbers_outcome w (Ask caller client (SaslHandshake r)) fits = omega arith
numbers_outcome w (Ask caller client ApiVersions) fits = omega arith
numbers_outcome w (Ask caller client (SaslAuthenticate r)) fits = omega arith
numbers_outcome w (Ask caller client (DescribeAcls r)) fits = whole_next (part_refusal (rules_of w) (describe_acls_questions caller)) w _ _ most_parts (omega arith)
numbers_outcome w (Ask caller client (CreateAcls r)) fits =
    let few : (book_created w.book r.creations).next ≤ w.book.next + most_parts = omega (arith, created_next w.book r.creations, creations_fit r fits) in
    whole_next (part_refusal (rules_of w) (alter_questions caller)) w _ _ most_parts few
numbers_outcome w (Ask caller client (DeleteAcls r)) fits =
    let few : (book_deleted w.book r.filters).next ≤ w.book.next + most_parts = omega (arith, deleted_next w.book r.filters) in
    whole_next (part_refusal (rules_of w) (alter_questions caller)) w _ _ most_parts few
numbers_outcome w Mark fits = omega (arith, mark_keeps (λ v. v.book.next) (λ v topics groups c. refl) w)
numbers_outcome w (Tick told) fits = omega arith
