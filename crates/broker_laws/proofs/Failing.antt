-- Each request that comes with a pair that is shut out is answered an error.
use Rattle.std.proofs.Common.{◌≡◌, ◌⊎◌, inl, inr, ℕ, ℤ, Bool, true, false, cond, eqb, List, [], ◌∷◌, ◌++◌, length, Option, Some, None, Result, Ok, Err, refl, sym, ap, subst, ◌∙◌}
use Rattle.acl_binding.specs.declared.question.Caller.{Caller}
use Rattle.authorizer.specs.declared.answer.Refusal.{Refusal}
use Rattle.authorizer.specs.Asking.{part_refusal}
use Rattle.wire_types.specs.declared.error_code.ErrorCode.{ErrorCode}
use Rattle.wire_types.specs.declared.error_code.ErrorCode.TheVariants as codes
use Rattle.wire_types.specs.declared.topic.Topic.{Topic}
use Rattle.record_batch.specs.Batch.{BatchData}
use Rattle.msg_data.specs.declared.produce.ProducedRecords.{ProducedRecords}
use Rattle.msg_txn.specs.declared.add_offsets.AddOffsetsToTxnRequest.{AddOffsetsToTxnRequest}
use Rattle.msg_txn.specs.declared.add_offsets.AddOffsetsToTxnReply.{AddOffsetsToTxnReply}
use Rattle.msg_txn.specs.declared.add_partitions.AddPartitionsToTxnRequest.{AddPartitionsToTxnRequest}
use Rattle.msg_txn.specs.declared.add_partitions.AddPartitionsToTxnReply.{AddPartitionsToTxnReply}
use Rattle.msg_txn.specs.declared.add_partitions.AddedPartition.{AddedPartition}
use Rattle.msg_txn.specs.declared.end_txn.FlexibleEndTxn.{FlexibleEndTxn}
use Rattle.msg_txn.specs.declared.end_txn.EndTxnRequest.{EndTxnRequest}
use Rattle.msg_txn.specs.declared.end_txn.EndTxnRequest.TheVariants as versions
use Rattle.txn_coordinator.specs.declared.ending.EndForm.{EndForm}
use Rattle.txn_coordinator.specs.declared.ending.EndForm.TheVariants.{Plain, Fencing, Raising}
use Rattle.msg_txn.specs.declared.end_txn.EndTxnReply.{EndTxnReply}
use Rattle.msg_txn.specs.EndTxn.{error_of}
use Rattle.msg_admin.specs.declared.reply.Reply.TheVariants as replies
use Rattle.walk.specs.Walk.{plain_parts, plain_topics, answers}
use Rattle.walk.proofs.Weaving.{woven}
use Rattle.txn_coordinator.specs.declared.producer_id.ProducerIdAndEpoch.{ProducerIdAndEpoch}
use Rattle.txn_coordinator.specs.declared.target.Target.{Target}
use Rattle.txn_coordinator.specs.declared.target.TopicPartition.{TopicPartition}
use Rattle.txn_coordinator.specs.Coordinator.{CoordinatorValue, transition_code}
use Rattle.txn_coordinator.specs.Adding.{add_partitions, add_group}
use Rattle.txn_coordinator.specs.EndTxn.{end}
use Rattle.txn_laws.specs.Sound.{Each}
use Rattle.broker_world.specs.World.{World, LogValue, rules_of}
use Rattle.broker_world.specs.Logs.{log_at}
use Rattle.broker_world.specs.Whole.{whole_outcome_by}
use Rattle.data_handlers.specs.Sent.{batch_or_fault}
use Rattle.data_handlers.specs.Judged.{partition_at, are_acks, producer_code, batch_or_error, batch_or_error_by, batch_in, batch_to_append}
use Rattle.data_handlers.specs.Produce.{produce_answer_by}
use Rattle.txn_handlers.specs.EndTxn.{served_end, end_questions, end_error, form_of, ending_id, ending_id_and_epoch, ending_outcome}
use Rattle.txn_handlers.specs.AddOffsets.{add_offsets_questions, add_offsets_reply, served_add_offsets}
use Rattle.txn_handlers.specs.AddPartitions.{cut_code, cut_rule, code_rule, is_cut, partitions_in, partitions_of, add_transition, cut_outcome, added_outcome}
use Rattle.api_laws.proofs.DataAnswers.{judged_called}
use Rattle.broker_laws.specs.Laws.{IsRepeated, TurnsAway, RequestsFail, id_and_epoch}
use Rattle.broker_laws.proofs.Passing.{never_none}
use Rattle.broker_laws.proofs.Preparing.{end_code}
use Rattle.broker_laws.proofs.Walks.{walk_is}

abbrev NotNone : ErrorCode → Type 0
NotNone code = code ≡ codes.None → ⊥

-- ---- EndTxn and AddOffsetsToTxn

group_error : (a b : AddOffsetsToTxnReply) → replies.AddOffsetsToTxn a ≡ replies.AddOffsetsToTxn b → a.error ≡ b.error
group_error a b h = let same : a ≡ b = cc in ap (λ (x : AddOffsetsToTxnReply). x.error) same

add_topics : (a b : AddPartitionsToTxnReply) → replies.AddPartitionsToTxn a ≡ replies.AddPartitionsToTxn b → a.topics ≡ b.topics
add_topics a b h = let same : a ≡ b = cc in ap (λ (x : AddPartitionsToTxnReply). x.topics) same

-- only version 5 raises the epoch
raising_version : (r : EndTxnRequest) → form_of r ≡ Raising → (body : FlexibleEndTxn) × (r ≡ versions.Version5 body)
raising_version (versions.Version0 body) form = absurd (let clash : Plain ≡ Raising = form in cc)
raising_version (versions.Version1 body) form = absurd (let clash : Plain ≡ Raising = form in cc)
raising_version (versions.Version2 body) form = absurd (let clash : Fencing ≡ Raising = form in cc)
raising_version (versions.Version3 body) form = absurd (let clash : Fencing ≡ Raising = form in cc)
raising_version (versions.Version4 body) form = absurd (let clash : Fencing ≡ Raising = form in cc)
raising_version (versions.Version5 body) form = (body, refl)

module _ (w : World) (pair : ProducerIdAndEpoch) (away : TurnsAway w.coordinator pair) where
  endings_fail : (r : EndTxnRequest) (reply : EndTxnReply) → ending_id_and_epoch r ≡ pair → (o : Option Refusal) → (whole_outcome_by o w (λ code. replies.EndTxn (end_error r code)) (served_end w r)).reply ≡ replies.EndTxn reply → error_of reply ≡ codes.None
      → (body : FlexibleEndTxn) × (r ≡ versions.Version5 body) × IsRepeated w.coordinator Raising (ending_id r) pair (ending_outcome r)
  endings_fail r reply same (Some refusal) told none = absurd (never_none refusal.question.kind (end_code r _ reply told ∙ none))
  endings_fail r reply same None told none =
      let repeated =
      away.endings (form_of r) (ending_id r) (ending_outcome r)
      (subst (λ (p : ProducerIdAndEpoch). transition_code (end w.coordinator (form_of r) (ending_id r) p (ending_outcome r)) ≡ codes.None) same (end_code r _ reply told ∙ none)) in
      let version = raising_version r repeated.raises in
      (version.0, version.1, subst (λ (f : EndForm). IsRepeated w.coordinator f (ending_id r) pair (ending_outcome r)) repeated.raises repeated)

  groups_fail : (r : AddOffsetsToTxnRequest) (reply : AddOffsetsToTxnReply) → id_and_epoch r.producer r.epoch ≡ pair → (o : Option Refusal) → (whole_outcome_by o w (λ code. replies.AddOffsetsToTxn (add_offsets_reply code)) (served_add_offsets w r)).reply ≡ replies.AddOffsetsToTxn reply → NotNone reply.error
  groups_fail r reply same (Some refusal) told none = never_none refusal.question.kind (group_error (add_offsets_reply _) reply told ∙ none)
  groups_fail r reply same None told none =
      away.group_additions r.transactional_id w.moment r.group
      (subst (λ (p : ProducerIdAndEpoch). transition_code (add_group w.coordinator r.transactional_id p w.moment r.group) ≡ codes.None) same (group_error (add_offsets_reply _) reply told ∙ none))

-- ---- AddPartitionsToTxn

abbrev Fails : AddedPartition → Type 0
Fails p = NotNone p.error

abbrev AllFail : List (Topic AddedPartition) → Type 0
AllFail ts = Each (λ (t : Topic AddedPartition). Each Fails t.partitions) ts

cut_fails : (o : Option LogValue) → NotNone (cut_code o)
cut_fails None h = let clash : codes.UnknownTopicOrPartition ≡ codes.None = h in cc
cut_fails (Some log) h = let clash : codes.OperationNotAttempted ≡ codes.None = h in cc

cut_all : (w : World) (caller : Caller) (r : AddPartitionsToTxnRequest) → AllFail (answers (cut_rule caller r.transactional_id w.topics) (rules_of w) tt r.topics)
cut_all w caller r =
    subst AllFail (woven (cut_rule caller r.transactional_id w.topics) (rules_of w) tt r.topics).answers
    (walk_is (cut_rule caller r.transactional_id w.topics) (rules_of w) Fails (λ v name index. cut_fails (log_at w.topics name index)) (λ refusal name index. never_none refusal.question.kind) tt r.topics)

told_parts : (code : ErrorCode) (name : List ℕ) (indices : List ℤ) → NotNone code → Each Fails (plain_parts (code_rule code) tt name indices)
told_parts code name [] not = tt
told_parts code name (index ∷ indices) not = (not, told_parts code name indices not)

-- no partition is named, or the code of all is an error
told_all : (code : ErrorCode) (ts : List (Topic ℤ)) → (partitions_of ts ≡ []) ⊎ NotNone code → AllFail (plain_topics (code_rule code) tt ts)
told_all code [] case = tt
told_all code (t ∷ ts) (inr not) = (told_parts code t.name t.partitions not, told_all code ts (inr not))
told_all code (t ∷ ts) (inl none) = by_parts t.partitions (λ h. told_all code ts (inl h)) none where
  by_parts : (indices : List ℤ) → (partitions_of ts ≡ [] → AllFail (plain_topics (code_rule code) tt ts)) → partitions_in t.name indices ++ partitions_of ts ≡ [] → Each Fails (plain_parts (code_rule code) tt t.name indices) × AllFail (plain_topics (code_rule code) tt ts)
  by_parts [] rest h = (tt, rest h)
  by_parts (index ∷ indices) rest h = absurd (let clash : record { topic = t.name; index = index } ∷ (partitions_in t.name indices ++ partitions_of ts) ≡ [] = h in cc)

added_case : (c : CoordinatorValue) (pair : ProducerIdAndEpoch) → TurnsAway c pair → (id : List ℕ) (own : ProducerIdAndEpoch) (moment : ℕ) → own ≡ pair → (ps : List TopicPartition) → (ps ≡ []) ⊎ NotNone (transition_code (add_partitions c id own moment ps))
added_case c pair away id own moment same [] = inl refl
added_case c pair away id own moment same (p ∷ ps) = inr (λ none. away.additions id moment p ps (subst (λ (x : ProducerIdAndEpoch). transition_code (add_partitions c id x moment (p ∷ ps)) ≡ codes.None) same none))

additions_fail : (w : World) (pair : ProducerIdAndEpoch) → TurnsAway w.coordinator pair → (caller : Caller) (r : AddPartitionsToTxnRequest) (reply : AddPartitionsToTxnReply) → id_and_epoch r.producer r.epoch ≡ pair → (b : Bool) → (cond b (cut_outcome w caller r) (added_outcome w r)).reply ≡ replies.AddPartitionsToTxn reply → AllFail reply.topics
additions_fail w pair away caller r reply same true told = subst AllFail (add_topics _ reply told) (cut_all w caller r)
additions_fail w pair away caller r reply same false told =
    subst AllFail (add_topics _ reply told)
    (told_all (transition_code (add_transition w.coordinator w.moment r)) r.topics (added_case w.coordinator pair away r.transactional_id (id_and_epoch r.producer r.epoch) w.moment same (partitions_of r.topics)))

-- ---- Produce

module _ (c : CoordinatorValue) (id : Option (List ℕ)) (target : Target) (b : BatchData) (refused : producer_code c id target b.header ≡ None → ⊥) where
  passed_never : (x : BatchData) (o : Option ErrorCode) → producer_code c id target b.header ≡ o → batch_or_error_by o b ≡ Ok x → ⊥
  passed_never x None is h = refused is
  passed_never x (Some code) is h = let clash : Err code ≡ Ok x = h in cc

  judged_never : (most : ℕ) (acks : ℤ) (records : List ℕ) (x : BatchData) → batch_or_fault most records ≡ Ok b → batch_to_append most c id acks target (Some records) ≡ Ok x → ⊥
  judged_never most acks records x is h = by_acks (are_acks acks) h where
    by_length : (t : Bool) → cond t (Err codes.InvalidRecord) (batch_or_error c id target (batch_or_fault most records)) ≡ Ok x → ⊥
    by_length true e = let clash : Err codes.InvalidRecord ≡ Ok x = e in cc
    by_length false e = passed_never x (producer_code c id target b.header) refl (sym (ap (batch_or_error c id target) is) ∙ e)

    by_acks : (t : Bool) → cond t (batch_in most c id target (Some records)) (Err codes.InvalidRequiredAcks) ≡ Ok x → ⊥
    by_acks true e = by_length (eqb (length records) 0) e
    by_acks false e = let clash : Err codes.InvalidRequiredAcks ≡ Ok x = e in cc

produced_fails : (r : Result BatchData ErrorCode) (p : ProducedRecords) (o : Option LogValue) → ((x : BatchData) → r ≡ Ok x → ⊥) → (r ≡ Err codes.None → ⊥) → NotNone (produce_answer_by r p o).error
produced_fails (Ok x) p o never called h = never x refl
produced_fails (Err code) p None never called h = let clash : codes.UnknownTopicOrPartition ≡ codes.None = h in cc
produced_fails (Err code) p (Some log) never called h = called (ap Err h)

-- ---- all of them

pub requests_fail : (w : World) (pair : ProducerIdAndEpoch) → TurnsAway w.coordinator pair → RequestsFail w pair
requests_fail w pair away = record {
  endings = λ caller client r reply same told. endings_fail w pair away r reply same (part_refusal (rules_of w) (end_questions caller r)) told;
  group_additions = λ caller client r reply same told. groups_fail w pair away r reply same (part_refusal (rules_of w) (add_offsets_questions caller r.transactional_id r.group)) told;
  additions = λ caller client r reply same told. additions_fail w pair away caller r reply same (is_cut caller r.transactional_id w.topics (rules_of w) r.topics) told;
  batches = λ most id acks topics name p records b whose is own.
      produced_fails (batch_to_append most w.coordinator id acks (partition_at name p.index) p.records) p (log_at topics name p.index)
      (λ x h. judged_never w.coordinator id (partition_at name p.index) b (λ none. away.batches id (partition_at name p.index) b.header own none) most acks records x is
      (subst (λ (o : Option (List ℕ)). batch_to_append most w.coordinator id acks (partition_at name p.index) o ≡ Ok x) whose h))
      (judged_called most w.coordinator id acks (partition_at name p.index) p.records);
}
