-- A partition that a Produce has no granted part for is as before.
use Rattle.std.proofs.Common.{◌≡◌, ℕ, zero, suc, ℤ, pos, negsuc, Bool, true, false, List, [], ◌∷◌, Option, Some, None, Result, Ok, Err, refl, sym, ap, ◌∙◌}
use Rattle.std.specs.Prelude.{slice_get, slice_set}
use Rattle.std.specs.Option.{option_map, option_and_then}
use Rattle.std.specs.Str.{bytes_eq}
use Rattle.std.proofs.lemmas.Slice.Eq.{bytes_eq-Decides}
use Rattle.acl_binding.specs.declared.question.Caller.{Caller}
use Rattle.authorizer.specs.declared.answer.Refusal.{Refusal}
use Rattle.authorizer.specs.Asking.{Rules, part_refusal}
use Rattle.wire_types.specs.declared.error_code.ErrorCode.{ErrorCode}
use Rattle.wire_types.specs.declared.topic.Topic.{Topic}
use Rattle.record_batch.specs.Batch.{BatchData}
use Rattle.msg_data.specs.declared.produce.ProducedRecords.{ProducedRecords}
use Rattle.walk.specs.Alike.{AllParts, AllTopics}
use Rattle.walk.specs.Steps.{world_by, part_world, parts_world, topics_world}
use Rattle.walk.proofs.Weaving.{woven}
use Rattle.broker_world.specs.World.{TopicValue, LogValue, rules_of, find_topic}
use Rattle.broker_world.specs.First.{non_negative}
use Rattle.broker_world.specs.Logs.{log_after, log_in, log_of, log_at, logs_with, with_log, topics_with_batch_by}
use Rattle.txn_coordinator.specs.Coordinator.{CoordinatorValue}
use Rattle.data_handlers.specs.Judged.{partition_at, batch_to_append, topics_produced}
use Rattle.data_handlers.specs.Produce.{produce_questions, produce_rule, producing_rule, produce_outcome}
use Rattle.api_laws.specs.DataTenants.{IsAnother, ProduceKeepsOtherPartitions}
use Rattle.api_laws.proofs.DataGrants.{find_same, find_other}

-- ---- one log among others

other_kept : (logs : List LogValue) (m n : ℕ) (log : LogValue) → (m ≡ n → ⊥) → slice_get (slice_set logs m log) n ≡ slice_get logs n
other_kept [] m n log differ = refl
other_kept (x ∷ xs) zero zero log differ = absurd (differ refl)
other_kept (x ∷ xs) zero (suc n) log differ = refl
other_kept (x ∷ xs) (suc m) zero log differ = refl
other_kept (x ∷ xs) (suc m) (suc n) log differ = other_kept xs m n log (λ e. differ (ap suc e))

log_kept : (logs : List LogValue) (i j : ℤ) (log : LogValue) → (i ≡ j → ⊥) → log_in j (logs_with logs i log) ≡ log_in j logs
log_kept logs (pos m) (pos n) log differ = other_kept logs m n log (λ e. differ (ap pos e))
log_kept logs (pos m) (negsuc n) log differ = refl
log_kept logs (negsuc m) j log differ = refl

-- ---- one partition among topics

found_kept : (o : Option TopicValue) (i j : ℤ) (log : LogValue) → (i ≡ j → ⊥)
    → option_and_then (log_of j) (option_map (λ (t : TopicValue). record { name = t.name; partitions = logs_with t.partitions i log }) o) ≡ option_and_then (log_of j) o
found_kept None i j log differ = refl
found_kept (Some t) i j log differ = log_kept t.partitions i j log differ

-- one log was changed, of another topic or another partition
set_kept : (topics : List TopicValue) (n name : List ℕ) (i j : ℤ) (log : LogValue) → (n ≡ name → i ≡ j → ⊥) → log_at (with_log topics n i log) name j ≡ log_at topics name j
set_kept topics n name i j log differ = by_test (bytes_eq n name) refl where
  by_test : (b : Bool) → bytes_eq n name ≡ b → log_at (with_log topics n i log) name j ≡ log_at topics name j
  by_test true e =
      let same : n ≡ name = (bytes_eq-Decides n name).0 e in
      ap (λ (x : List ℕ). log_at (with_log topics x i log) name j) same
      ∙ ap (option_and_then (log_of j)) (find_same topics name i log)
      ∙ found_kept (find_topic topics name) i j log (differ same)
  by_test false e = ap (option_and_then (log_of j)) (find_other topics n name i log e)

append_kept : (topics : List TopicValue) (n name : List ℕ) (i j : ℤ) (b : BatchData) (o : Option LogValue) → (n ≡ name → i ≡ j → ⊥) → log_at (topics_with_batch_by topics n i b o) name j ≡ log_at topics name j
append_kept topics n name i j b None differ = refl
append_kept topics n name i j b (Some log) differ = set_kept topics n name i j (log_after log b) differ

batch_kept : (batch : Result BatchData ErrorCode) (topics : List TopicValue) (n name : List ℕ) (i j : ℤ) → (n ≡ name → i ≡ j → ⊥) → log_at (topics_produced batch topics n i) name j ≡ log_at topics name j
batch_kept (Err code) topics n name i j differ = refl
batch_kept (Ok b) topics n name i j differ = append_kept topics n name i j b (log_at topics n i) differ

-- ---- the walk

module _ (rules : Rules) (caller : Caller) (most : ℕ) (c : CoordinatorValue) (id : Option (List ℕ)) (acks : ℤ) (name : List ℕ) (index : ℤ) where
  part_kept : (topics : List TopicValue) (n : List ℕ) (p : ProducedRecords) → IsAnother rules caller id name index n p → log_at (part_world (produce_rule caller most c id acks) rules topics n p) name index ≡ log_at topics name index
  part_kept topics n p another = by_refusal (part_refusal rules (produce_questions caller id n)) refl where
    by_refusal : (r : Option Refusal) → part_refusal rules (produce_questions caller id n) ≡ r → log_at (world_by (produce_rule caller most c id acks) r topics n p) name index ≡ log_at topics name index
    by_refusal (Some r) e = refl
    by_refusal None e = batch_kept (batch_to_append most c id acks (partition_at n p.index) p.records) topics n name p.index index (another e)

  parts_kept : (topics : List TopicValue) (n : List ℕ) (ps : List ProducedRecords) → AllParts (IsAnother rules caller id name index) n ps → log_at (parts_world (produce_rule caller most c id acks) rules topics n ps) name index ≡ log_at topics name index
  parts_kept topics n [] others = refl
  parts_kept topics n (p ∷ ps) others =
      parts_kept (part_world (produce_rule caller most c id acks) rules topics n p) n ps others.1 ∙ part_kept topics n p others.0

  topics_kept : (topics : List TopicValue) (ts : List (Topic ProducedRecords)) → AllTopics (IsAnother rules caller id name index) ts → log_at (topics_world (produce_rule caller most c id acks) rules topics ts) name index ≡ log_at topics name index
  topics_kept topics [] others = refl
  topics_kept topics (t ∷ ts) others =
      topics_kept (parts_world (produce_rule caller most c id acks) rules topics t.name t.partitions) ts others.1 ∙ parts_kept topics t.name t.partitions others.0

pub produce_keeps_partitions : ProduceKeepsOtherPartitions produce_outcome
produce_keeps_partitions w caller r name index others =
    ap (λ (topics : List TopicValue). log_at topics name index) (sym (woven (producing_rule w caller r) (rules_of w) w.topics r.topics).world)
    ∙ topics_kept (rules_of w) caller (non_negative w.node.max_batch) w.coordinator r.transactional_id r.acks name index w.topics r.topics others
