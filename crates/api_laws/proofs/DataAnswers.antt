-- What Produce and ListOffsets do with one partition that is allowed.
use Rattle.std.proofs.Common.{◌≡◌, ◌⊎◌, inl, inr, sym, subst, ℕ, zero, suc, ℤ, pos, negsuc, Bool, true, false, cond, eqb, List, [], ◌∷◌, ◌++◌, length, Option, Some, None, Result, Ok, Err, refl, ap, ◌∙◌}
use Rattle.std.specs.Prelude.{slice_get, slice_set, int_lt}
use Rattle.std.specs.Ordering.{int_eq}
use Rattle.std.specs.Str.{bytes_eq}
use Rattle.std.specs.Option.{option_map, option_and_then}
use Rattle.wire_types.specs.declared.error_code.ErrorCode.{ErrorCode}
use Rattle.wire_types.specs.declared.error_code.ErrorCode.TheVariants as codes
use Rattle.wire_types.specs.ErrorCode.{number_of}
use Rattle.msg_data.specs.declared.isolation.Isolation.{Isolation}
use Rattle.msg_data.specs.declared.isolation.Isolation.TheVariants.{ReadUncommitted, ReadCommitted}
use Rattle.msg_data.specs.declared.list_offsets.WantedOffset.{WantedOffset}
use Rattle.record_batch.specs.declared.header.BatchHeader.{BatchHeader}
use Rattle.record_batch.specs.declared.fault.BatchFault.{BatchFault}
use Rattle.record_batch.specs.declared.fault.BatchFault.TheVariants as faults
use Rattle.record_batch.specs.BatchHeader.{is_transactional}
use Rattle.record_batch.specs.Batch.{BatchData}
use Rattle.record_batch.specs.Fault.{code_of}
use Rattle.producer_state.specs.declared.judgment.Judgment.{Judgment}
use Rattle.producer_state.specs.declared.judgment.Judgment.TheVariants.{Next, Repeat, Refused}
use Rattle.producer_state.specs.Sequences.{is_of_producer, first_judgment, judgment_by_repeat, Sequence, sequence, repeat, judgment_in, judgment_of as judged_by_log}
use Rattle.partition_log.specs.Log.{end_of, at_end, last_stable_offset}
use Rattle.partition_log.specs.Fetch.{limit_of}
use Rattle.msg_data.specs.declared.produce.ProducedRecords.{ProducedRecords}
use Rattle.broker_world.specs.World.{TopicValue, LogValue, find_topic}
use Rattle.broker_world.specs.Logs.{log_in, log_of, log_at, logs_with, with_log, log_by, offset_by, topics_with_batch_by}
use Rattle.data_handlers.specs.Sent.{batch_or_fault}
use Rattle.txn_coordinator.specs.declared.producer_id.ProducerIdOwner.{ProducerIdOwner}
use Rattle.txn_coordinator.specs.declared.producer_id.ProducerIdOwner.TheVariants.{Never, Free, Owned}
use Rattle.txn_coordinator.specs.declared.target.Target.{Target}
use Rattle.txn_coordinator.specs.Holding.{holding_code}
use Rattle.txn_coordinator.specs.Coordinator.{CoordinatorValue, owner, given_by}
use Rattle.data_handlers.specs.Judged.{partition_at, id_and_epoch_of, held_code, are_acks, given_code, producer_code, batch_or_error_by, batch_or_error, batch_in, batch_to_append, topics_produced}
use Rattle.broker_world.specs.Codes.{code_unless_none}
use Rattle.data_handlers.specs.BudgetLaws.{IsGoodBatch, judged_batch}
use Rattle.data_handlers.specs.Produce.{produced_to, produce_answer_by, produce_answer}
use Rattle.data_handlers.specs.ListOffsets.{listed_offset_by, listed_offset, listed_at, listed_error}
use Rattle.api_laws.proofs.DataGrants.{find_same}
use Rattle.api_laws.specs.DataLaws.{IsAppended, IsRepeated, IsAgain, IsUnchanged, ProducesAsAnswered, IsUnlisted, IsListed, ListsEnds}

-- ---- ListOffsets

unlisted_time : (p : WantedOffset) → IsUnlisted 42 p (listed_error codes.InvalidRequest p)
unfolding number_of
unlisted_time p = record { index = refl; error = refl; timestamp = refl; offset = refl }

unlisted_partition : (p : WantedOffset) → IsUnlisted 3 p (listed_error codes.UnknownTopicOrPartition p)
unfolding number_of
unlisted_partition p = record { index = refl; error = refl; timestamp = refl; offset = refl }

listed : (offset : ℤ) (p : WantedOffset) → IsListed offset p (listed_at offset p)
unfolding number_of
listed offset p = record { index = refl; error = refl; timestamp = refl; at = refl }

-- what is answered for this timestamp
timed : (level : Isolation) (topics : List TopicValue) (name : List ℕ) (p : WantedOffset) (log : LogValue) (time : ℤ) → log_at topics name p.index ≡ Some log → p.timestamp ≡ time
    → listed_offset level topics name p ≡ cond (int_eq time (negsuc 0)) (listed_at (limit_of level log) p) (cond (int_eq time (negsuc 1)) (listed_at (pos 0) p) (listed_error codes.InvalidRequest p))
timed level topics name p log time there is =
    ap (listed_offset_by level p) there ∙ ap (λ (z : ℤ). cond (int_eq z (negsuc 0)) (listed_at (limit_of level log) p) (cond (int_eq z (negsuc 1)) (listed_at (pos 0) p) (listed_error codes.InvalidRequest p))) is

pub lists_ends : ListsEnds listed_offset
lists_ends = record {
  other = λ level topics name p log there last first. subst (IsUnlisted 42 p)
      (sym (ap (listed_offset_by level p) there ∙ ap (λ (t : Bool). cond t (listed_at (limit_of level log) p) (cond (int_eq p.timestamp (negsuc 1)) (listed_at (pos 0) p) (listed_error codes.InvalidRequest p))) last ∙ ap (λ (t : Bool). cond t (listed_at (pos 0) p) (listed_error codes.InvalidRequest p)) first))
      (unlisted_time p);
  missing = λ level topics name p there. subst (IsUnlisted 3 p) (sym (ap (listed_offset_by level p) there)) (unlisted_partition p);
  uncommitted = λ topics name p log there minus. subst (IsListed (end_of log) p) (sym (timed ReadUncommitted topics name p log (negsuc 0) there minus)) (listed (end_of log) p);
  committed = λ topics name p log there minus. subst (IsListed (last_stable_offset log) p) (sym (timed ReadCommitted topics name p log (negsuc 0) there minus)) (listed (last_stable_offset log) p);
  start = λ level topics name p log there minus. subst (IsListed (pos 0) p) (sym (timed level topics name p log (negsuc 1) there minus)) (listed (pos 0) p);
}

-- ---- Produce: the log that was appended to

get_set : (logs : List LogValue) (n : ℕ) (old new : LogValue) → slice_get logs n ≡ Some old → slice_get (slice_set logs n new) n ≡ Some new
get_set [] n old new h = absurd cc
get_set (x ∷ xs) zero old new h = refl
get_set (x ∷ xs) (suc n) old new h = get_set xs n old new h

log_in_with : (logs : List LogValue) (index : ℤ) (old new : LogValue) → log_in index logs ≡ Some old → log_in index (logs_with logs index new) ≡ Some new
log_in_with logs (pos n) old new h = get_set logs n old new h
log_in_with logs (negsuc n) old new h = absurd cc

log_at_with : (topics : List TopicValue) (name : List ℕ) (index : ℤ) (old new : LogValue) → log_at topics name index ≡ Some old → log_at (with_log topics name index new) name index ≡ Some new
log_at_with topics name index old new there =
    ap (option_and_then (log_of index)) (find_same topics name index new) ∙ by_topic (find_topic topics name) there where
      by_topic : (o : Option TopicValue) → option_and_then (log_of index) o ≡ Some old → option_and_then (log_of index) (option_map (λ (t : TopicValue). record { name = t.name; partitions = logs_with t.partitions index new }) o) ≡ Some new
      by_topic None h = absurd (let clash : None ≡ Some old = h in cc)
      by_topic (Some t) h = log_in_with t.partitions index old new h

-- ---- Produce: the same log again changes nothing

set_again : (logs : List LogValue) (n : ℕ) (log : LogValue) → slice_get logs n ≡ Some log → slice_set logs n log ≡ logs
set_again [] n log h = refl
set_again (x ∷ xs) zero log h = ap (λ (l : LogValue). l ∷ xs) (let same : x ≡ log = cc in sym same)
set_again (x ∷ xs) (suc n) log h = ap (λ (l : List LogValue). x ∷ l) (set_again xs n log h)

logs_again : (logs : List LogValue) (index : ℤ) (log : LogValue) → log_in index logs ≡ Some log → logs_with logs index log ≡ logs
logs_again logs (pos n) log h = set_again logs n log h
logs_again logs (negsuc n) log h = refl

log_again : (topics : List TopicValue) (name : List ℕ) (index : ℤ) (log : LogValue) → log_at topics name index ≡ Some log → with_log topics name index log ≡ topics
log_again [] name index log there = refl
log_again (t ∷ ts) name index log there = by_test (bytes_eq t.name name) (log_again ts name index log) there where
  by_test : (b : Bool) → (log_at ts name index ≡ Some log → with_log ts name index log ≡ ts) → option_and_then (log_of index) (cond b (Some t) (find_topic ts name)) ≡ Some log
      → cond b (record { name = t.name; partitions = logs_with t.partitions index log } ∷ ts) (t ∷ with_log ts name index log) ≡ t ∷ ts
  by_test true rest h = ap (λ (l : List LogValue). record { name = t.name; partitions = l } ∷ ts) (logs_again t.partitions index log h)
  by_test false rest h = ap (λ (l : List TopicValue). t ∷ l) (rest h)

-- ---- no refusal is called no error

fault_code : (fault : BatchFault) → code_of fault ≡ codes.None → ⊥
fault_code faults.Length e = cc
fault_code faults.Magic e = cc
fault_code faults.Crc e = cc
fault_code faults.Compressed e = cc
fault_code faults.Invalid e = cc
fault_code faults.Timestamp e = cc
fault_code faults.TooLarge e = cc

same_code : (c d : ErrorCode) (r : Result BatchData ErrorCode) → r ≡ Err c → r ≡ Err d → c ≡ d
same_code c d r p q = cc

abbrev IsCalled : Result BatchData ErrorCode → Type 0
IsCalled r = r ≡ Err codes.None → ⊥

refused_called : (code other : ErrorCode) → code_unless_none code ≡ Some other → other ≡ codes.None → ⊥
refused_called codes.None other is none = let clash : None ≡ Some other = is in cc
refused_called codes.OffsetOutOfRange other is none = let same : codes.OffsetOutOfRange ≡ other = cc in let clash : codes.OffsetOutOfRange ≡ codes.None = same ∙ none in cc
refused_called codes.CorruptMessage other is none = let same : codes.CorruptMessage ≡ other = cc in let clash : codes.CorruptMessage ≡ codes.None = same ∙ none in cc
refused_called codes.UnknownTopicOrPartition other is none = let same : codes.UnknownTopicOrPartition ≡ other = cc in let clash : codes.UnknownTopicOrPartition ≡ codes.None = same ∙ none in cc
refused_called codes.MessageTooLarge other is none = let same : codes.MessageTooLarge ≡ other = cc in let clash : codes.MessageTooLarge ≡ codes.None = same ∙ none in cc
refused_called codes.InvalidRequiredAcks other is none = let same : codes.InvalidRequiredAcks ≡ other = cc in let clash : codes.InvalidRequiredAcks ≡ codes.None = same ∙ none in cc
refused_called codes.IllegalGeneration other is none = let same : codes.IllegalGeneration ≡ other = cc in let clash : codes.IllegalGeneration ≡ codes.None = same ∙ none in cc
refused_called codes.InconsistentGroupProtocol other is none = let same : codes.InconsistentGroupProtocol ≡ other = cc in let clash : codes.InconsistentGroupProtocol ≡ codes.None = same ∙ none in cc
refused_called codes.InvalidGroupId other is none = let same : codes.InvalidGroupId ≡ other = cc in let clash : codes.InvalidGroupId ≡ codes.None = same ∙ none in cc
refused_called codes.UnknownMemberId other is none = let same : codes.UnknownMemberId ≡ other = cc in let clash : codes.UnknownMemberId ≡ codes.None = same ∙ none in cc
refused_called codes.InvalidSessionTimeout other is none = let same : codes.InvalidSessionTimeout ≡ other = cc in let clash : codes.InvalidSessionTimeout ≡ codes.None = same ∙ none in cc
refused_called codes.RebalanceInProgress other is none = let same : codes.RebalanceInProgress ≡ other = cc in let clash : codes.RebalanceInProgress ≡ codes.None = same ∙ none in cc
refused_called codes.TopicAuthorizationFailed other is none = let same : codes.TopicAuthorizationFailed ≡ other = cc in let clash : codes.TopicAuthorizationFailed ≡ codes.None = same ∙ none in cc
refused_called codes.GroupAuthorizationFailed other is none = let same : codes.GroupAuthorizationFailed ≡ other = cc in let clash : codes.GroupAuthorizationFailed ≡ codes.None = same ∙ none in cc
refused_called codes.ClusterAuthorizationFailed other is none = let same : codes.ClusterAuthorizationFailed ≡ other = cc in let clash : codes.ClusterAuthorizationFailed ≡ codes.None = same ∙ none in cc
refused_called codes.InvalidTimestamp other is none = let same : codes.InvalidTimestamp ≡ other = cc in let clash : codes.InvalidTimestamp ≡ codes.None = same ∙ none in cc
refused_called codes.UnsupportedSaslMechanism other is none = let same : codes.UnsupportedSaslMechanism ≡ other = cc in let clash : codes.UnsupportedSaslMechanism ≡ codes.None = same ∙ none in cc
refused_called codes.IllegalSaslState other is none = let same : codes.IllegalSaslState ≡ other = cc in let clash : codes.IllegalSaslState ≡ codes.None = same ∙ none in cc
refused_called codes.UnsupportedVersion other is none = let same : codes.UnsupportedVersion ≡ other = cc in let clash : codes.UnsupportedVersion ≡ codes.None = same ∙ none in cc
refused_called codes.InvalidRequest other is none = let same : codes.InvalidRequest ≡ other = cc in let clash : codes.InvalidRequest ≡ codes.None = same ∙ none in cc
refused_called codes.OutOfOrderSequenceNumber other is none = let same : codes.OutOfOrderSequenceNumber ≡ other = cc in let clash : codes.OutOfOrderSequenceNumber ≡ codes.None = same ∙ none in cc
refused_called codes.InvalidProducerEpoch other is none = let same : codes.InvalidProducerEpoch ≡ other = cc in let clash : codes.InvalidProducerEpoch ≡ codes.None = same ∙ none in cc
refused_called codes.InvalidTxnState other is none = let same : codes.InvalidTxnState ≡ other = cc in let clash : codes.InvalidTxnState ≡ codes.None = same ∙ none in cc
refused_called codes.InvalidProducerIdMapping other is none = let same : codes.InvalidProducerIdMapping ≡ other = cc in let clash : codes.InvalidProducerIdMapping ≡ codes.None = same ∙ none in cc
refused_called codes.InvalidTransactionTimeout other is none = let same : codes.InvalidTransactionTimeout ≡ other = cc in let clash : codes.InvalidTransactionTimeout ≡ codes.None = same ∙ none in cc
refused_called codes.ConcurrentTransactions other is none = let same : codes.ConcurrentTransactions ≡ other = cc in let clash : codes.ConcurrentTransactions ≡ codes.None = same ∙ none in cc
refused_called codes.TransactionalIdAuthorizationFailed other is none = let same : codes.TransactionalIdAuthorizationFailed ≡ other = cc in let clash : codes.TransactionalIdAuthorizationFailed ≡ codes.None = same ∙ none in cc
refused_called codes.OperationNotAttempted other is none = let same : codes.OperationNotAttempted ≡ other = cc in let clash : codes.OperationNotAttempted ≡ codes.None = same ∙ none in cc
refused_called codes.SaslAuthenticationFailed other is none = let same : codes.SaslAuthenticationFailed ≡ other = cc in let clash : codes.SaslAuthenticationFailed ≡ codes.None = same ∙ none in cc
refused_called codes.UnsupportedCompressionType other is none = let same : codes.UnsupportedCompressionType ≡ other = cc in let clash : codes.UnsupportedCompressionType ≡ codes.None = same ∙ none in cc
refused_called codes.GroupMaxSizeReached other is none = let same : codes.GroupMaxSizeReached ≡ other = cc in let clash : codes.GroupMaxSizeReached ≡ codes.None = same ∙ none in cc
refused_called codes.InvalidRecord other is none = let same : codes.InvalidRecord ≡ other = cc in let clash : codes.InvalidRecord ≡ codes.None = same ∙ none in cc
refused_called codes.UnstableOffsetCommit other is none = let same : codes.UnstableOffsetCommit ≡ other = cc in let clash : codes.UnstableOffsetCommit ≡ codes.None = same ∙ none in cc
refused_called codes.ProducerFenced other is none = let same : codes.ProducerFenced ≡ other = cc in let clash : codes.ProducerFenced ≡ codes.None = same ∙ none in cc

producer_called : (c : CoordinatorValue) (id : Option (List ℕ)) (target : Target) (h : BatchHeader) (code : ErrorCode) → producer_code c id target h ≡ Some code → code ≡ codes.None → ⊥
producer_called c id target h code is none = by_transactional (is_transactional h) is where
  by_given : (g : ProducerIdOwner) → given_code g ≡ Some code → ⊥
  by_given Never e = let clash : codes.InvalidProducerIdMapping ≡ code = cc in let other : codes.InvalidProducerIdMapping ≡ codes.None = clash ∙ none in cc
  by_given Free e = let clash : None ≡ Some code = e in cc
  by_given Owned e = let clash : codes.InvalidTxnState ≡ code = cc in let other : codes.InvalidTxnState ≡ codes.None = clash ∙ none in cc

  by_id : (b : Bool) → cond b None (given_code (given_by (owner c h.producer_id))) ≡ Some code → ⊥
  by_id true e = let clash : None ≡ Some code = e in cc
  by_id false e = by_given (given_by (owner c h.producer_id)) e

  by_held : (o : Option (List ℕ)) → held_code c o (id_and_epoch_of h) target ≡ Some code → ⊥
  by_held None e = let clash : codes.InvalidTxnState ≡ code = cc in let other : codes.InvalidTxnState ≡ codes.None = clash ∙ none in cc
  by_held (Some name) e = refused_called (holding_code c name (id_and_epoch_of h) target) code e none

  by_transactional : (t : Bool) → cond t (held_code c id (id_and_epoch_of h) target) (cond (int_lt h.producer_id (pos 0)) None (given_code (given_by (owner c h.producer_id)))) ≡ Some code → ⊥
  by_transactional true e = by_held id e
  by_transactional false e = by_id (int_lt h.producer_id (pos 0)) e

passed_called : (c : CoordinatorValue) (id : Option (List ℕ)) (target : Target) (r : Result BatchData BatchFault) → IsCalled (batch_or_error c id target r)
passed_called c id target (Err fault) e = fault_code fault (same_code (code_of fault) codes.None (Err (code_of fault)) refl e)
passed_called c id target (Ok b) e = by_code (producer_code c id target b.header) refl e where
  by_code : (o : Option ErrorCode) → producer_code c id target b.header ≡ o → batch_or_error_by o b ≡ Err codes.None → ⊥
  by_code None is h = cc
  by_code (Some code) is h = producer_called c id target b.header code is (same_code code codes.None (Err code) refl h)

batch_called : (most : ℕ) (c : CoordinatorValue) (id : Option (List ℕ)) (target : Target) (records : Option (List ℕ)) → IsCalled (batch_in most c id target records)
batch_called most c id target None e = cc
batch_called most c id target (Some records) e = by_length (eqb (length records) 0) e where
  by_length : (b : Bool) → cond b (Err codes.InvalidRecord) (batch_or_error c id target (batch_or_fault most records)) ≡ Err codes.None → ⊥
  by_length true h = let clash : Err codes.InvalidRecord ≡ Err codes.None = h in cc
  by_length false h = passed_called c id target (batch_or_fault most records) h

pub judged_called : (most : ℕ) (c : CoordinatorValue) (id : Option (List ℕ)) (acks : ℤ) (target : Target) (records : Option (List ℕ)) → IsCalled (batch_to_append most c id acks target records)
judged_called most c id acks target records e = by_acks (are_acks acks) e where
  by_acks : (b : Bool) → cond b (batch_in most c id target records) (Err codes.InvalidRequiredAcks) ≡ Err codes.None → ⊥
  by_acks true h = batch_called most c id target records h
  by_acks false h = let clash : Err codes.InvalidRequiredAcks ≡ Err codes.None = h in cc

-- ---- no judgment is called no error

abbrev NotCalled : Judgment → Type 0
NotCalled j = j ≡ Refused codes.None → ⊥

test_called : (t : Bool) → NotCalled (cond t Next (Refused codes.OutOfOrderSequenceNumber))
test_called true e = cc
test_called false e = cc

gone_on_called : (expected : ℤ) (b : BatchData) (again : Option BatchData) → NotCalled (judgment_by_repeat expected b again)
gone_on_called expected b (Some old) e = cc
gone_on_called expected b None e = test_called (int_eq b.header.base_sequence expected) e

sequence_called : (s : Option Sequence) (b : BatchData) (again : Option BatchData) → NotCalled (judgment_in s b again)
sequence_called None b again e = test_called (int_eq b.header.base_sequence (pos 0)) e
sequence_called (Some s) b again e = by_older (int_lt b.header.producer_epoch s.epoch) e where
  by_newer : (t : Bool) → NotCalled (cond t (first_judgment b) (judgment_by_repeat s.expected b again))
  by_newer true h = test_called (int_eq b.header.base_sequence (pos 0)) h
  by_newer false h = gone_on_called s.expected b again h

  by_older : (t : Bool) → NotCalled (cond t (Refused codes.InvalidProducerEpoch) (cond (int_lt s.epoch b.header.producer_epoch) (first_judgment b) (judgment_by_repeat s.expected b again)))
  by_older true h = cc
  by_older false h = by_newer (int_lt s.epoch b.header.producer_epoch) h

log_called : (log : LogValue) (b : BatchData) → NotCalled (judged_by_log log b)
log_called log b e = by_producer (is_of_producer b) e where
  by_producer : (t : Bool) → NotCalled (cond t (judgment_in (sequence log b.header.producer_id) b (repeat log b)) Next)
  by_producer true h = sequence_called (sequence log b.header.producer_id) b (repeat log b) h
  by_producer false h = let clash : Next ≡ Refused codes.None = h in cc

-- ---- Produce

module _ (topics : List TopicValue) (name : List ℕ) (p : ProducedRecords) where
  -- what is left and answered of a batch that a log judges so
  abbrev LeftBy : BatchData → LogValue → Judgment → Type 0
  LeftBy b log j = IsAppended topics (with_log topics name p.index (log_by j log b)) name p (produced_to p (offset_by j log))
      ⊎ IsRepeated topics (with_log topics name p.index (log_by j log b)) name p (produced_to p (offset_by j log))

  left_by : (b : BatchData) (log : LogValue) (j : Judgment) → IsGoodBatch p.records b → log_at topics name p.index ≡ Some log → judged_by_log log b ≡ j → (produced_to p (offset_by j log)).error ≡ codes.None → LeftBy b log j
  left_by b log Next good there is none = inl (record {
    log = log;
    batch = b;
    there = there;
    is_batch = good.batch;
    sent = good.sent;
    next = is;
    offset = refl;
    goes_on = log_at_with topics name p.index log (log ++ at_end log b ∷ []) there;
  })
  left_by b log (Repeat offset) good there is none = inr (record { log = log; batch = b; there = there; sent = good.sent; again = is; same = log_again topics name p.index log there })
  left_by b log (Refused code) good there is none = absurd (log_called log b (is ∙ ap Refused none))

  refused_part : (b : BatchData) (log : LogValue) (j : Judgment) → log_at topics name p.index ≡ Some log → ((produced_to p (offset_by j log)).error ≡ codes.None → ⊥) → IsUnchanged topics (with_log topics name p.index (log_by j log b)) (produced_to p (offset_by j log))
  refused_part b log Next there some = absurd (some refl)
  refused_part b log (Repeat offset) there some = absurd (some refl)
  refused_part b log (Refused code) there some = record { same = log_again topics name p.index log there; offset = refl }

  -- the same of a partition that may be missing
  Answered : Result BatchData ErrorCode → Option LogValue → Type 0
  Answered (Err code) o = IsAppended topics topics name p (produce_answer_by (Err code) p o) ⊎ IsRepeated topics topics name p (produce_answer_by (Err code) p o)
  Answered (Ok b) o = IsAppended topics (topics_with_batch_by topics name p.index b o) name p (produce_answer_by (Ok b) p o) ⊎ IsRepeated topics (topics_with_batch_by topics name p.index b o) name p (produce_answer_by (Ok b) p o)

  appends : (r : Result BatchData ErrorCode) (o : Option LogValue) → ((b : BatchData) → r ≡ Ok b → IsGoodBatch p.records b) → IsCalled r → log_at topics name p.index ≡ o → (produce_answer_by r p o).error ≡ codes.None → Answered r o
  unfolding Answered
  appends (Err code) None good called there none = absurd (let clash : codes.UnknownTopicOrPartition ≡ codes.None = none in cc)
  appends (Err code) (Some log) good called there none = absurd (called (ap Err none))
  appends (Ok b) None good called there none = absurd (let clash : codes.UnknownTopicOrPartition ≡ codes.None = none in cc)
  appends (Ok b) (Some log) good called there none = left_by b log (judged_by_log log b) (good b refl) there refl none

  at_log : (r : Result BatchData ErrorCode) (o : Option LogValue) → log_at topics name p.index ≡ o → Answered r o
      → IsAppended topics (topics_produced r topics name p.index) name p (produce_answer r topics name p) ⊎ IsRepeated topics (topics_produced r topics name p.index) name p (produce_answer r topics name p)
  unfolding Answered
  at_log (Err code) o there answered = subst (λ (x : Option LogValue). IsAppended topics topics name p (produce_answer_by (Err code) p x) ⊎ IsRepeated topics topics name p (produce_answer_by (Err code) p x)) (sym there) answered
  at_log (Ok b) o there answered =
      subst (λ (x : Option LogValue). IsAppended topics (topics_with_batch_by topics name p.index b x) name p (produce_answer_by (Ok b) p x) ⊎ IsRepeated topics (topics_with_batch_by topics name p.index b x) name p (produce_answer_by (Ok b) p x)) (sym there) answered

  Unchanged : Result BatchData ErrorCode → Option LogValue → Type 0
  Unchanged (Err code) o = IsUnchanged topics topics (produce_answer_by (Err code) p o)
  Unchanged (Ok b) o = IsUnchanged topics (topics_with_batch_by topics name p.index b o) (produce_answer_by (Ok b) p o)

  refuses : (r : Result BatchData ErrorCode) (o : Option LogValue) → log_at topics name p.index ≡ o → ((produce_answer_by r p o).error ≡ codes.None → ⊥) → Unchanged r o
  unfolding Unchanged
  refuses (Err code) None there some = record { same = refl; offset = refl }
  refuses (Err code) (Some log) there some = record { same = refl; offset = refl }
  refuses (Ok b) None there some = record { same = refl; offset = refl }
  refuses (Ok b) (Some log) there some = refused_part b log (judged_by_log log b) there some

  kept_at : (r : Result BatchData ErrorCode) (o : Option LogValue) → log_at topics name p.index ≡ o → Unchanged r o → IsUnchanged topics (topics_produced r topics name p.index) (produce_answer r topics name p)
  unfolding Unchanged
  kept_at (Err code) o there kept = subst (λ (x : Option LogValue). IsUnchanged topics topics (produce_answer_by (Err code) p x)) (sym there) kept
  kept_at (Ok b) o there kept = subst (λ (x : Option LogValue). IsUnchanged topics (topics_with_batch_by topics name p.index b x) (produce_answer_by (Ok b) p x)) (sym there) kept

  -- ---- where the log decides

  abbrev Appended : Result BatchData ErrorCode → Type 0
  Appended r = ((produce_answer r topics name p).error ≡ codes.None) × IsAppended topics (topics_produced r topics name p.index) name p (produce_answer r topics name p)

  next_by : (b : BatchData) (log : LogValue) (j : Judgment) → IsGoodBatch p.records b → log_at topics name p.index ≡ Some log → judged_by_log log b ≡ j → j ≡ Next
      → ((produced_to p (offset_by j log)).error ≡ codes.None) × IsAppended topics (with_log topics name p.index (log_by j log b)) name p (produced_to p (offset_by j log))
  next_by b log Next good there is next = (
    refl,
    record {
      log = log;
      batch = b;
      there = there;
      is_batch = good.batch;
      sent = good.sent;
      next = is;
      offset = refl;
      goes_on = log_at_with topics name p.index log (log ++ at_end log b ∷ []) there;
    },
  )
  next_by b log (Repeat offset) good there is next = absurd (let clash : Repeat offset ≡ Next = next in cc)
  next_by b log (Refused code) good there is next = absurd (let clash : Refused code ≡ Next = next in cc)

  next_appended : (r : Result BatchData ErrorCode) (b : BatchData) (log : LogValue) → IsGoodBatch p.records b → log_at topics name p.index ≡ Some log → r ≡ Ok b → judged_by_log log b ≡ Next → Appended r
  next_appended r b log good there is next = subst Appended (sym is)
      (subst (λ (o : Option LogValue). ((produce_answer_by (Ok b) p o).error ≡ codes.None) × IsAppended topics (topics_with_batch_by topics name p.index b o) name p (produce_answer_by (Ok b) p o)) (sym there)
      (next_by b log (judged_by_log log b) good there refl next))

  again_by : (b : BatchData) (log : LogValue) (j : Judgment) (offset : ℤ) → log_at topics name p.index ≡ Some log → j ≡ Repeat offset → IsAgain topics (with_log topics name p.index (log_by j log b)) offset (produced_to p (offset_by j log))
  again_by b log Next offset there again = absurd (let clash : Next ≡ Repeat offset = again in cc)
  again_by b log (Repeat at) offset there again = record { error = refl; at = let same : at ≡ offset = cc in same; same = log_again topics name p.index log there }
  again_by b log (Refused code) offset there again = absurd (let clash : Refused code ≡ Repeat offset = again in cc)

  repeat_again : (r : Result BatchData ErrorCode) (b : BatchData) (log : LogValue) (offset : ℤ) → log_at topics name p.index ≡ Some log → r ≡ Ok b → judged_by_log log b ≡ Repeat offset → IsAgain topics (topics_produced r topics name p.index) offset (produce_answer r topics name p)
  repeat_again r b log offset there is again = subst (λ (x : Result BatchData ErrorCode). IsAgain topics (topics_produced x topics name p.index) offset (produce_answer x topics name p)) (sym is)
      (subst (λ (o : Option LogValue). IsAgain topics (topics_with_batch_by topics name p.index b o) offset (produce_answer_by (Ok b) p o)) (sym there)
      (again_by b log (judged_by_log log b) offset there again))

pub produces_as_answered : ProducesAsAnswered produce_answer topics_produced
produces_as_answered = record {
  appends = λ most c id acks topics name p none.
      at_log topics name p (batch_to_append most c id acks (partition_at name p.index) p.records) (log_at topics name p.index) refl
      (appends topics name p (batch_to_append most c id acks (partition_at name p.index) p.records) (log_at topics name p.index) (λ b is. judged_batch most c id acks (partition_at name p.index) p.records b is) (judged_called most c id acks (partition_at name p.index) p.records) refl none);
  refuses = λ most c id acks topics name p some.
      kept_at topics name p (batch_to_append most c id acks (partition_at name p.index) p.records) (log_at topics name p.index) refl
      (refuses topics name p (batch_to_append most c id acks (partition_at name p.index) p.records) (log_at topics name p.index) refl some);
  next = λ most c id acks topics name p log batch there is next.
      next_appended topics name p (batch_to_append most c id acks (partition_at name p.index) p.records) batch log (judged_batch most c id acks (partition_at name p.index) p.records batch is) there is next;
  repeat = λ most c id acks topics name p log batch offset there is again.
      repeat_again topics name p (batch_to_append most c id acks (partition_at name p.index) p.records) batch log offset there is again;
}
