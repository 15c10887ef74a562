-- AddPartitionsToTxn: partitions become part of a transaction, all of them or none (Kafka protocol
-- guide, "AddPartitionsToTxn API (Key: 24)"; KIP-98).
use Rattle.std.specs.Prelude.{ℕ, ℤ, pos, Bool, ◌||◌, List, [], ◌∷◌, map, Option, Some, None, is_none, if◌then◌else◌}
use Rattle.std.specs.List.{list_any, flat_map}
use Rattle.std.proofs.Common.{zero-le}
use Rattle.acl_binding.specs.declared.question.Caller.{Caller}
use Rattle.acl_binding.specs.declared.question.Question.{Question}
use Rattle.acl_binding.specs.declared.words.Kind.TheVariants as kinds
use Rattle.acl_binding.specs.declared.words.Operation.TheVariants as operations
use Rattle.acl_binding.specs.Verdict.{question_of}
use Rattle.authorizer.specs.Asking.{Rules}
use Rattle.wire_types.specs.declared.error_code.ErrorCode.{ErrorCode}
use Rattle.wire_types.specs.declared.error_code.ErrorCode.TheVariants as codes
use Rattle.wire_types.specs.declared.topic.Topic.{Topic}
use Rattle.msg_txn.specs.declared.add_partitions.AddPartitionsToTxnRequest.{AddPartitionsToTxnRequest}
use Rattle.msg_txn.specs.declared.add_partitions.AddedPartition.{AddedPartition}
use Rattle.msg_admin.specs.declared.reply.Reply.{Reply}
use Rattle.msg_admin.specs.declared.reply.Reply.TheVariants as replies
use Rattle.walk.specs.Rule.{PartRule}
use Rattle.walk.specs.Walk.{plain_topics, answers, refusals, asked_in}
use Rattle.walk.specs.Woven.{has_any}
use Rattle.txn_coordinator.specs.declared.target.TopicPartition.{TopicPartition}
use Rattle.txn_coordinator.specs.Transition.{Transition}
use Rattle.txn_coordinator.specs.Coordinator.{CoordinatorValue, apply_transition, transition_code}
use Rattle.txn_coordinator.specs.Adding.{add_partitions}
use Rattle.broker_world.specs.World.{World, TopicValue, LogValue, rules_of}
use Rattle.broker_world.specs.HandlerResult.{HandlerResult}
use Rattle.broker_world.specs.Logs.{log_at}
use Rattle.broker_world.specs.Questions.{id_question}

-- ---- what is asked

-- to write with the transactional id, and then to write the topic
abbrev pub add_questions : Caller → List ℕ → List ℕ → List Question
add_questions caller id name =
    id_question caller id ∷ question_of caller operations.Write kinds.Topic name ∷ []

abbrev pub added_partition : ErrorCode → ℤ → AddedPartition
added_partition code index = record { index = index; error = code }

-- ---- a request of which something is refused or missing: nothing is added

-- a missing partition is told so, and another one that nothing was tried
abbrev pub cut_code : Option LogValue → ErrorCode
cut_code None = codes.UnknownTopicOrPartition
cut_code (Some log) = codes.OperationNotAttempted

abbrev pub cut_rule : Caller → List ℕ → List TopicValue → PartRule ℤ AddedPartition (Unit {0})
cut_rule caller id topics = record {
  questions = λ name index. add_questions caller id name;
  plain = λ w name index. added_partition (cut_code (log_at topics name index)) index;
  after = λ w name index. w;
  refused = λ code name index. added_partition code index;
  weight = λ index. 0;
  budget = λ w. 0;
  takes = λ w name index. zero-le;
}

abbrev pub is_missing_in : List TopicValue → List ℕ → List ℤ → Bool
is_missing_in topics name indices = list_any (λ index. is_none (log_at topics name index)) indices

-- some partition that is named isn't there
abbrev pub is_missing : List TopicValue → List (Topic ℤ) → Bool
is_missing topics ts = list_any (λ (t : Topic ℤ). is_missing_in topics t.name t.partitions) ts

abbrev pub is_cut : Caller → List ℕ → List TopicValue → Rules → List (Topic ℤ) → Bool
is_cut caller id topics rules ts =
    has_any (refusals (cut_rule caller id topics) rules ts) || is_missing topics ts

-- ---- any other: one code for all

abbrev pub code_rule : ErrorCode → PartRule ℤ AddedPartition (Unit {0})
code_rule code = record {
  questions = λ name index. [];
  plain = λ w name index. added_partition code index;
  after = λ w name index. w;
  refused = λ refusal name index. added_partition refusal index;
  weight = λ index. 0;
  budget = λ w. 0;
  takes = λ w name index. zero-le;
}

-- who is told so has asked for each of them
abbrev pub code_rule_for : Caller → List ℕ → ErrorCode → PartRule ℤ AddedPartition (Unit {0})
code_rule_for caller id code =
    record (code_rule code) { questions = λ name index. add_questions caller id name }

-- the parts for which permits are spent: none of a request that is cut, and else all
abbrev pub added_parts : World → Caller → AddPartitionsToTxnRequest → List (List Question)
added_parts w caller r =
    if is_cut caller r.transactional_id w.topics (rules_of w) r.topics then []
    else asked_in (cut_rule caller r.transactional_id w.topics) r.topics

abbrev pub partitions_in : List ℕ → List ℤ → List TopicPartition
partitions_in name indices = map (λ index. record { topic = name; index = index }) indices

-- the partitions that are named, in order
abbrev pub partitions_of : List (Topic ℤ) → List TopicPartition
partitions_of ts = flat_map (λ (t : Topic ℤ). partitions_in t.name t.partitions) ts

-- what the coordinator makes of it
abbrev pub add_transition : CoordinatorValue → ℕ → AddPartitionsToTxnRequest → Transition
add_transition c moment r =
    add_partitions c r.transactional_id (record { producer = r.producer; epoch = r.epoch }) moment
    (partitions_of r.topics)

-- ---- the request

abbrev pub add_reply : List (Topic AddedPartition) → Reply
add_reply topics = replies.AddPartitionsToTxn (record { throttle = pos 0; topics = topics })

abbrev pub cut_outcome : World → Caller → AddPartitionsToTxnRequest → HandlerResult
cut_outcome w caller r = record {
  world = w;
  reply = add_reply
      (answers (cut_rule caller r.transactional_id w.topics) (rules_of w) tt r.topics);
  refusals = refusals (cut_rule caller r.transactional_id w.topics) (rules_of w) r.topics;
}

abbrev pub added_outcome : World → AddPartitionsToTxnRequest → HandlerResult
added_outcome w r = record {
  world = record w
      { coordinator = apply_transition w.coordinator (add_transition w.coordinator w.moment r) };
  reply = add_reply
      (plain_topics (code_rule (transition_code (add_transition w.coordinator w.moment r))) tt
      r.topics);
  refusals = [];
}

abbrev pub add_partitions_outcome : World → Caller → AddPartitionsToTxnRequest → HandlerResult
add_partitions_outcome w caller r =
    if is_cut caller r.transactional_id w.topics (rules_of w) r.topics then cut_outcome w caller r
    else added_outcome w r
