-- An AddPartitionsToTxn that names no partition, and one of which no part is refused: it tells each the code of all.
use Rattle.std.proofs.Common.{◌≡◌, ℕ, ℤ, true, false, List, [], ◌∷◌, ◌++◌, None, refl, ap, ◌∙◌}
use Rattle.std.specs.Prelude.{◌||◌}
use Rattle.acl_binding.specs.declared.question.Caller.{Caller}
use Rattle.acl_binding.specs.declared.words.Kind.TheVariants as kinds
use Rattle.acl_binding.specs.declared.words.Operation.TheVariants as operations
use Rattle.acl_binding.specs.Verdict.{question_of}
use Rattle.authorizer.specs.Asking.{Rules, question_refusal}
use Rattle.wire_types.specs.declared.error_code.ErrorCode.{ErrorCode}
use Rattle.wire_types.specs.declared.error_code.ErrorCode.TheVariants as codes
use Rattle.wire_types.specs.declared.topic.Topic.{Topic}
use Rattle.msg_txn.specs.declared.add_partitions.AddPartitionsToTxnRequest.{AddPartitionsToTxnRequest}
use Rattle.msg_txn.specs.declared.add_partitions.AddedPartition.{AddedPartition}
use Rattle.walk.specs.Walk.{plain_parts_world, plain_parts, plain_topics, parts_refused, refusals}
use Rattle.walk.specs.Woven.{has_any, has_part}
use Rattle.walk.proofs.Granted.{first_granted as first_is_granted}
use Rattle.txn_coordinator.specs.declared.target.TopicPartition.{TopicPartition}
use Rattle.txn_coordinator.specs.Coordinator.{CoordinatorValue, apply_transition, transition_code}
use Rattle.txn_coordinator.specs.Adding.{add_partitions}
use Rattle.broker_world.specs.World.{TopicValue}
use Rattle.broker_world.specs.Questions.{id_question}
use Rattle.txn_handlers.specs.AddPartitions.{added_partition, cut_rule, code_rule, code_rule_for, add_transition, partitions_in, partitions_of}

pub no_part : (ts : List (Topic ℤ)) → has_part ts ≡ false → partitions_of ts ≡ []
no_part [] none = refl
no_part (t ∷ ts) none = by_parts t.name t.partitions none (no_part ts) where
  by_parts : (name : List ℕ) (indices : List ℤ) → (has_any indices || has_part ts) ≡ false → (has_part ts ≡ false → partitions_of ts ≡ []) → partitions_in name indices ++ partitions_of ts ≡ []
  by_parts name [] h behind = behind h
  by_parts name (index ∷ indices) h behind = absurd (let clash : true ≡ false = h in cc)

pub id_granted : (rules : Rules) (topics : List TopicValue) (caller : Caller) (id : List ℕ) (ts : List (Topic ℤ)) → has_part ts ≡ true → refusals (cut_rule caller id topics) rules ts ≡ [] → question_refusal rules (id_question caller id) ≡ None
id_granted rules topics caller id ts some none =
    first_is_granted (cut_rule caller id topics) rules (id_question caller id) ts (λ name index. (question_of caller operations.Write kinds.Topic name ∷ [], refl)) some none

module _ (c : CoordinatorValue) (moment : ℕ) (r : AddPartitionsToTxnRequest) (none : partitions_of r.topics ≡ []) where
  pub nothing_added : apply_transition c (add_transition c moment r) ≡ c
  nothing_added =
      ap (λ (ps : List TopicPartition). apply_transition c (add_partitions c r.transactional_id (record { producer = r.producer; epoch = r.epoch }) moment ps)) none

  pub nothing_told : transition_code (add_transition c moment r) ≡ codes.None
  nothing_told =
      ap (λ (ps : List TopicPartition). transition_code (add_partitions c r.transactional_id (record { producer = r.producer; epoch = r.epoch }) moment ps)) none

-- ---- what is told where nothing is refused

-- the same is refused as where nothing would be added
pub told_refused : (caller : Caller) (id : List ℕ) (code : ErrorCode) (topics : List TopicValue) (rules : Rules) (ts : List (Topic ℤ)) → refusals (code_rule_for caller id code) rules ts ≡ refusals (cut_rule caller id topics) rules ts
told_refused caller id code topics rules [] = refl
told_refused caller id code topics rules (t ∷ ts) = ap (λ rest. parts_refused (cut_rule caller id topics) rules t.name t.partitions ++ rest) (told_refused caller id code topics rules ts)

told_parts : (caller : Caller) (id : List ℕ) (code : ErrorCode) (w v : Unit {0}) (name : List ℕ) (indices : List ℤ) → plain_parts (code_rule_for caller id code) w name indices ≡ plain_parts (code_rule code) v name indices
told_parts caller id code w v name [] = refl
told_parts caller id code w v name (index ∷ indices) = ap (λ l. added_partition code index ∷ l) (told_parts caller id code w v name indices)

-- and whoever has asked, each is told the code
pub told_topics : (caller : Caller) (id : List ℕ) (code : ErrorCode) (w v : Unit {0}) (ts : List (Topic ℤ)) → plain_topics (code_rule_for caller id code) w ts ≡ plain_topics (code_rule code) v ts
told_topics caller id code w v [] = refl
told_topics caller id code w v (t ∷ ts) =
    ap (λ (l : List (Topic AddedPartition)). record { name = t.name; partitions = plain_parts (code_rule_for caller id code) w t.name t.partitions } ∷ l) (told_topics caller id code (plain_parts_world (code_rule_for caller id code) w t.name t.partitions) (plain_parts_world (code_rule code) v t.name t.partitions) ts)
    ∙ ap (λ (l : List AddedPartition). record { name = t.name; partitions = l } ∷ plain_topics (code_rule code) (plain_parts_world (code_rule code) v t.name t.partitions) ts) (told_parts caller id code w v t.name t.partitions)
