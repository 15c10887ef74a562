-- A Produce takes in what is proper and next.
use Rattle.std.proofs.Common.{◌≡◌, ◌⊎◌, inl, inr, ◌≤◌, ◌≤ℤ◌, ℕ, ℤ, pos, negsuc, Bool, true, false, ◌&&◌, ◌||◌, not, cond, eqb, ne_eqb, List, [], ◌∷◌, ◌++◌, length, reverse, take, Option, Some, None, Result, Ok, Err, refl, sym, ap, subst, ◌∙◌, arith}
use Rattle.std.specs.Prelude.{int_lt}
use Rattle.std.specs.List.{AllByRecursion, find}
use Rattle.std.specs.Ordering.{int_eq}
use Rattle.std.specs.Str.{bytes_eq}
use Rattle.std.proofs.lemmas.Bool.{and_parts, or_right}
use Rattle.std.proofs.lemmas.Int.{ints}
use Rattle.std.proofs.lemmas.Slice.Eq.{bytes_eq-Decides}
use Rattle.wire_types.specs.declared.error_code.ErrorCode.{ErrorCode}
use Rattle.wire_types.specs.declared.error_code.ErrorCode.TheVariants as codes
use Rattle.wire_types.specs.ErrorCode.{number_of}
use Rattle.record_batch.specs.declared.header.BatchHeader.{BatchHeader}
use Rattle.record_batch.specs.BatchHeader.{is_transactional}
use Rattle.record_batch.specs.Batch.{BatchData, IsBatch, has_producer, next_offset}
use Rattle.record_batch.specs.Faults.{first_fault, IsData}
use Rattle.record_batch.proofs.Kept.{batch_long}
use Rattle.record_batch.proofs.Lawful.{one_batch, faultless_is_batch, offset_alone_changes}
use Rattle.producer_state.specs.declared.judgment.Judgment.TheVariants.{Next, Refused}
use Rattle.producer_state.specs.Sequences.{next_sequence, last_sequence, is_written_by, epochs, greatest_of, latest_batches_by, expected_after, sequence, has_same_sequences, last_of, repeat, first_judgment, judgment_by_repeat, judgment_in, judgment_of as judged_by_log}
use Rattle.producer_state.proofs.Numbers.{lt_false, lt_is, lt_is_not, between, same_is, same_refl, same_here}
use Rattle.producer_state.proofs.Noting.{epoch_of}
use Rattle.producer_state.proofs.Judging.{id_of, judged_at, begun_above}
use Rattle.producer_state.proofs.Accepting.{place}
use Rattle.partition_log.specs.Log.{end_from, end_of, at_end}
use Rattle.msg_data.specs.declared.produce.ProducedRecords.{ProducedRecords}
use Rattle.msg_data.specs.declared.produce.ProducedOffset.{ProducedOffset}
use Rattle.txn_coordinator.specs.declared.producer_id.ProducerIdAndEpoch.{ProducerIdAndEpoch}
use Rattle.txn_coordinator.specs.declared.target.TopicPartition.{TopicPartition}
use Rattle.txn_coordinator.specs.declared.target.Target.{Target}
use Rattle.txn_coordinator.specs.declared.target.Target.TheVariants.{Partition}
use Rattle.txn_coordinator.specs.declared.transaction.Transaction.{Transaction}
use Rattle.txn_coordinator.specs.declared.transaction.TransactionState.{TransactionState}
use Rattle.txn_coordinator.specs.declared.transaction.TransactionState.TheVariants.{Ongoing}
use Rattle.txn_coordinator.specs.Coordinator.{CoordinatorValue, owner, given_by, id_record}
use Rattle.txn_coordinator.specs.Holding.{holding_code_of}
use Rattle.txn_coordinator.specs.Words.{is_same_partition, has_partition, is_ongoing}
use Rattle.broker_world.specs.Codes.{code_unless_none}
use Rattle.broker_world.specs.World.{TopicValue, LogValue}
use Rattle.broker_world.specs.First.{non_negative}
use Rattle.broker_world.specs.Logs.{log_at, offset_in}
use Rattle.data_handlers.specs.Sent.{batch_or_fault}
use Rattle.data_handlers.specs.SentLaws.{sent_is}
use Rattle.data_handlers.specs.Judged.{are_acks, id_and_epoch_of, partition_at, held_code, given_code, producer_code, batch_or_error_by, batch_or_error, batch_in, batch_to_append, topics_produced}
use Rattle.data_handlers.specs.Produce.{produced_to, produce_answer_by, produce_answer}
use Rattle.api_laws.specs.DataLaws.{IsAppended}
use Rattle.api_laws.specs.Acceptance.{transactional_bit, IsOfNobody, IsOfFreeId, IsOfTransaction, IsProper, IsInLatestEpoch, IsFirst, GoesOn, IsNextOf, EndsAt, IsTakenIn}
use Rattle.api_laws.proofs.DataAnswers.{produces_as_answered}
use Rattle.api_laws.proofs.Lists.{kept_at}
use Rattle.api_laws.proofs.Latest.{Below, is_own, epochs_below, IsReached, epochs_reach, greatest_at, judged_latest, reversed, own_is, found_late}

-- ---- the tests of a request

acks_pass : (acks : ℤ) → (acks ≡ negsuc 0) ⊎ ((acks ≡ pos 0) ⊎ (acks ≡ pos 1)) → are_acks acks ≡ true
acks_pass acks (inl all) = ap are_acks all
acks_pass acks (inr (inl none)) = ap are_acks none
acks_pass acks (inr (inr leader)) = ap are_acks leader

unset : (h : BatchHeader) → transactional_bit h ≡ 0 → is_transactional h ≡ false
unset h is = ap (λ (n : ℕ). eqb n 1) is

is_set : (h : BatchHeader) → transactional_bit h ≡ 1 → is_transactional h ≡ true
is_set h is = ap (λ (n : ℕ). eqb n 1) is

-- ---- it names a producer, or none

names_none : (h : BatchHeader) → IsOfNobody h → has_producer h ≡ true
names_none h is =
    ap (λ (z : ℤ). cond (int_lt z (pos 0)) (int_eq z (negsuc 0) && not (is_transactional h)) (not (int_lt h.producer_epoch (pos 0)) && not (int_lt h.base_sequence (pos 0)))) is.id
    ∙ ap not (unset h is.bit)

names_one : (h : BatchHeader) → pos 0 ≤ℤ h.producer_id → pos 0 ≤ℤ h.producer_epoch → pos 0 ≤ℤ h.base_sequence → has_producer h ≡ true
names_one h id epoch first =
    ap (λ (t : Bool). cond t (int_eq h.producer_id (negsuc 0) && not (is_transactional h)) (not (int_lt h.producer_epoch (pos 0)) && not (int_lt h.base_sequence (pos 0)))) (lt_false h.producer_id (pos 0) id)
    ∙ ap (λ (t : Bool). not t && not (int_lt h.base_sequence (pos 0))) (lt_false h.producer_epoch (pos 0) epoch)
    ∙ ap not (lt_false h.base_sequence (pos 0) first)

from_zero : (n : ℕ) (z : ℤ) → z ≡ pos n → pos 0 ≤ℤ z
from_zero n z is = omega (arith, ints, is)

names : (c : CoordinatorValue) (id : Option (List ℕ)) (name : List ℕ) (index : ℤ) (h : BatchHeader) → IsOfNobody h ⊎ (IsOfFreeId c h ⊎ IsOfTransaction c id name index h) → has_producer h ≡ true
names c id name index h (inl is) = names_none h is
names c id name index h (inr (inl is)) = names_one h (from_zero is.id h.producer_id is.is_id) is.epoch is.sequence
names c id name index h (inr (inr is)) = names_one h is.id is.epoch is.sequence

-- ---- the transaction check

other_text : (a b : List ℕ) → (a ≡ b → ⊥) → bytes_eq a b ≡ false
other_text a b differ = by_test (bytes_eq a b) refl where
  by_test : (t : Bool) → bytes_eq a b ≡ t → t ≡ false
  by_test true e = absurd (differ ((bytes_eq-Decides a b).0 e))
  by_test false e = refl

found_first : (before after : List Transaction) (t : Transaction) → AllByRecursion (λ (x : Transaction). x.id ≡ t.id → ⊥) before → id_record (before ++ t ∷ after) t.id ≡ Some t
found_first [] after t others = ap (λ (b : Bool). cond b (Some t) (id_record after t.id)) ((bytes_eq-Decides t.id t.id).1 refl)
found_first (x ∷ before) after t others = ap (λ (b : Bool). cond b (Some x) (id_record (before ++ t ∷ after) t.id)) (other_text x.id t.id others.0) ∙ found_first before after t others.1

same_place : (p : TopicPartition) → is_same_partition p p ≡ true
same_place p = ap (λ (b : Bool). b && int_eq p.index p.index) ((bytes_eq-Decides p.topic p.topic).1 refl) ∙ same_refl p.index

taken_in : (earlier later : List TopicPartition) (p : TopicPartition) → has_partition (earlier ++ p ∷ later) p ≡ true
taken_in [] later p = ap (λ (b : Bool). b || has_partition later p) (same_place p)
taken_in (q ∷ earlier) later p = or_right (is_same_partition q p) (has_partition (earlier ++ p ∷ later) p) (taken_in earlier later p)

holds_it : (t : Transaction) (pair : ProducerIdAndEpoch) (p : TopicPartition) → pair.producer ≡ t.pair.producer → pair.epoch ≡ t.pair.epoch → t.state ≡ Ongoing → has_partition t.partitions p ≡ true → holding_code_of (Some t) pair (Partition p) ≡ codes.None
holds_it t pair p producer epoch ongoing added =
    ap (λ (b : Bool). cond b (cond (int_eq t.pair.epoch pair.epoch && true) (cond (is_ongoing t.state && has_partition t.partitions p) codes.None codes.InvalidTxnState) codes.InvalidProducerEpoch) codes.InvalidProducerIdMapping) (same_here t.pair.producer pair.producer (sym producer))
    ∙ ap (λ (b : Bool). cond (b && true) (cond (is_ongoing t.state && has_partition t.partitions p) codes.None codes.InvalidTxnState) codes.InvalidProducerEpoch) (same_here t.pair.epoch pair.epoch (sym epoch))
    ∙ ap (λ (state : TransactionState). cond (is_ongoing state && has_partition t.partitions p) codes.None codes.InvalidTxnState) ongoing
    ∙ ap (λ (b : Bool). cond b codes.None codes.InvalidTxnState) added

-- what the check comes to for a batch that isn't of a transaction, by its producer id
abbrev plain_code : CoordinatorValue → ℤ → Option ErrorCode
plain_code c z = cond (int_lt z (pos 0)) None (given_code (given_by (owner c z)))

plain_check : (c : CoordinatorValue) (id : Option (List ℕ)) (target : Target) (h : BatchHeader) → transactional_bit h ≡ 0 → producer_code c id target h ≡ plain_code c h.producer_id
plain_check c id target h bit = ap (λ (t : Bool). cond t (held_code c id (id_and_epoch_of h) target) (plain_code c h.producer_id)) (unset h bit)

free_check : (c : CoordinatorValue) (h : BatchHeader) → IsOfFreeId c h → plain_code c h.producer_id ≡ None
free_check c h is =
    let low : pos 0 ≤ℤ pos is.id = from_zero is.id (pos is.id) refl in
    ap (plain_code c) is.is_id
    ∙ ap (λ (t : Bool). cond t None (given_code (given_by (owner c (pos is.id))))) (lt_false (pos is.id) (pos 0) low)
    ∙ ap (λ (o : Option (Option (List ℕ))). given_code (given_by o)) is.given

held_check : (c : CoordinatorValue) (id : Option (List ℕ)) (name : List ℕ) (index : ℤ) (h : BatchHeader) → IsOfTransaction c id name index h → producer_code c id (partition_at name index) h ≡ None
held_check c id name index h is =
    let t = is.transaction in
    let p : TopicPartition = record { topic = name; index = index } in
    let there : has_partition t.partitions p ≡ true = ap (λ (l : List TopicPartition). has_partition l p) is.added ∙ taken_in is.earlier is.later p in
    let record_of : id_record c.transactions t.id ≡ Some t = ap (λ (l : List Transaction). id_record l t.id) is.stands ∙ found_first is.before is.after t is.first in
    ap (λ (b : Bool). cond b (held_code c id (id_and_epoch_of h) (Partition p)) (plain_code c h.producer_id)) (is_set h is.bit)
    ∙ ap (λ (o : Option (List ℕ)). held_code c o (id_and_epoch_of h) (Partition p)) is.asked_for
    ∙ ap (λ (o : Option Transaction). code_unless_none (holding_code_of o (id_and_epoch_of h) (Partition p))) record_of
    ∙ ap code_unless_none (holds_it t (id_and_epoch_of h) p is.producer is.same_epoch is.ongoing there)

checks : (c : CoordinatorValue) (id : Option (List ℕ)) (name : List ℕ) (index : ℤ) (h : BatchHeader) → IsOfNobody h ⊎ (IsOfFreeId c h ⊎ IsOfTransaction c id name index h) → producer_code c id (partition_at name index) h ≡ None
checks c id name index h (inl is) = plain_check c id (partition_at name index) h is.bit ∙ ap (plain_code c) is.id
checks c id name index h (inr (inl is)) = plain_check c id (partition_at name index) h is.bit ∙ free_check c h is
checks c id name index h (inr (inr is)) = held_check c id name index h is

-- ---- so it is judged good

within : (n : ℕ) (z : ℤ) → pos n ≤ℤ z → n ≤ non_negative z
within n (pos m) le = omega (arith, ints, le)
within n (negsuc m) le = absurd (omega (arith, ints, le))

pub proper_judged : (most : ℤ) (c : CoordinatorValue) (id : Option (List ℕ)) (acks : ℤ) (name : List ℕ) (p : ProducedRecords) (b : BatchData) → IsProper most c id acks name p b → batch_to_append (non_negative most) c id acks (partition_at name p.index) p.records ≡ Ok b
proper_judged most c id acks name p b is =
    let target = partition_at name p.index in
    let good : IsData b = record { unmarked = is.no_marker; producer = names c id name p.index b.header is.writer } in
    let none : first_fault (non_negative most) b.bytes ≡ None = (faultless_is_batch (non_negative most) b.bytes).1 (b, refl, is.batch, good, within (length b.bytes) most is.small) in
    ap (λ (t : Bool). cond t (batch_in (non_negative most) c id target p.records) (Err codes.InvalidRequiredAcks)) (acks_pass acks is.known_acks)
    ∙ ap (batch_in (non_negative most) c id target) is.sent
    ∙ ap (λ (t : Bool). cond t (Err codes.InvalidRecord) (batch_or_error c id target (batch_or_fault (non_negative most) b.bytes))) (ne_eqb (length b.bytes) 0 (λ e. omega (arith, e, batch_long b is.batch)))
    ∙ ap (batch_or_error c id target) (sent_is (non_negative most) b.bytes b is.batch is.no_marker refl none)
    ∙ ap (λ (o : Option ErrorCode). batch_or_error_by o b) (checks c id name p.index b.header is.writer)

-- ---- and next

begun_next : (b : BatchData) → b.header.base_sequence ≡ pos 0 → first_judgment b ≡ Next
begun_next b begins = ap (λ (z : ℤ). cond (int_eq z (pos 0)) Next (Refused codes.OutOfOrderSequenceNumber)) begins

first_next : (log : LogValue) (b : BatchData) → pos 0 ≤ℤ id_of b → IsInLatestEpoch log b → IsFirst log b → judged_by_log log b ≡ Next
first_next log b low latest first = by_found (greatest_of (epochs (id_of b) log)) refl (epochs_below (id_of b) (epoch_of b) log latest) where
  goes : greatest_of (epochs (id_of b) log) ≡ Some (epoch_of b) → judged_by_log log b ≡ Next
  goes is =
      judged_latest log b low is
      ∙ ap (λ (l : List BatchData). judgment_by_repeat (expected_after (reverse l)) b (find (has_same_sequences b) (take 5 (reverse l)))) first.alone
      ∙ begun_next b first.begins

  by_order : (m : ℤ) (t : Bool) → int_lt m (epoch_of b) ≡ t → greatest_of (epochs (id_of b) log) ≡ Some m → m ≤ℤ epoch_of b → judged_by_log log b ≡ Next
  by_order m true e is le =
      judged_at log b (Some m) low is ∙ begun_above (place log (id_of b) m) b (repeat log b) (lt_is m (epoch_of b) e) le ∙ begun_next b first.begins
  by_order m false e is le = goes (is ∙ ap (λ (n : ℤ). Some n) (between m (epoch_of b) le (lt_is_not m (epoch_of b) e)))

  by_found : (o : Option ℤ) → greatest_of (epochs (id_of b) log) ≡ o → Below (epoch_of b) o → judged_by_log log b ≡ Next
  by_found None is below = judged_at log b None low is ∙ begun_next b first.begins
  by_found (Some m) is below = by_order m (int_lt m (epoch_of b)) refl is below

later_next : (log : LogValue) (b : BatchData) → pos 0 ≤ℤ id_of b → IsInLatestEpoch log b → GoesOn log b → judged_by_log log b ≡ Next
unfolding next_sequence last_sequence
later_next log b low latest on =
    judged_latest log b low found ∙ ap (judgment_by_repeat (expected_after (latest_batches_by (id_of b) (epoch_of b) log)) b) (not_again (repeat log b) refl) ∙ ap (λ (t : Bool). cond t Next (Refused codes.OutOfOrderSequenceNumber)) (same_here b.header.base_sequence (expected_after (latest_batches_by (id_of b) (epoch_of b) log)) follows) where
      reached : IsReached (id_of b) (epoch_of b) log
      reached =
          let k = kept_at (is_written_by (id_of b) (epoch_of b)) log on.earlier [] on.last on.own in
          let own = own_is (id_of b) (epoch_of b) on.last k.4 in
          subst (λ (l : LogValue). IsReached (id_of b) (epoch_of b) l) (sym k.2)
          (subst (λ (e : ℤ). IsReached (id_of b) e (k.0 ++ on.last ∷ k.1)) own.same_epoch (epochs_reach (id_of b) k.0 k.1 on.last (is_own on.last (id_of b) own.producer)))

      found : greatest_of (epochs (id_of b) log) ≡ Some (epoch_of b)
      found = greatest_at (id_of b) (epoch_of b) log reached (epochs_below (id_of b) (epoch_of b) log latest)

      follows : b.header.base_sequence ≡ expected_after (latest_batches_by (id_of b) (epoch_of b) log)
      follows = on.follows ∙ sym (ap expected_after (ap (λ (l : List BatchData). reverse l) on.own ∙ reversed on.earlier [] on.last))

      not_again : (o : Option BatchData) → repeat log b ≡ o → o ≡ None
      not_again None is = refl
      not_again (Some old) is =
          let late = found_late log b old is in
          let both = and_parts (int_eq old.header.base_sequence b.header.base_sequence) (int_eq (last_of old) (last_of b)) late.same in
          absurd (on.new late.earlier late.later old late.own late.few (same_is old.header.base_sequence b.header.base_sequence both.0) (same_is (last_of old) (last_of b) both.1))

next_judged : (log : LogValue) (b : BatchData) → IsNextOf log b → judged_by_log log b ≡ Next
next_judged log b (inl no_producer) = ap (λ (z : ℤ). cond (not (int_lt z (pos 0))) (judgment_in (sequence log b.header.producer_id) b (repeat log b)) Next) no_producer
next_judged log b (inr how) = by_sign (int_lt (id_of b) (pos 0)) refl where
  by_kind : pos 0 ≤ℤ id_of b → IsFirst log b ⊎ GoesOn log b → judged_by_log log b ≡ Next
  by_kind low (inl first) = first_next log b low how.0 first
  by_kind low (inr on) = later_next log b low how.0 on

  by_sign : (t : Bool) → int_lt (id_of b) (pos 0) ≡ t → judged_by_log log b ≡ Next
  by_sign true e = ap (λ (t : Bool). cond (not t) (judgment_in (sequence log (id_of b)) b (repeat log b)) Next) e
  by_sign false e = by_kind (lt_is_not (id_of b) (pos 0) e) how.1

-- ---- what becomes of it

ends_from : (first : ℤ) (b : BatchData) (rest : LogValue) → EndsAt (b ∷ rest) (end_from first (b ∷ rest))
ends_from first b [] = refl
ends_from first b (c ∷ rest) = ends_from (next_offset b) c rest

ends : (log : LogValue) → EndsAt log (end_of log)
ends [] = refl
ends (b ∷ rest) = ends_from (pos 0) b rest

same_log : (x y : LogValue) → Some x ≡ Some y → x ≡ y
same_log x y h = cc

same_bytes : (x y : List ℕ) → Some x ≡ Some y → x ≡ y
same_bytes x y h = cc

no_error : (answer : ProducedOffset) → answer.error ≡ codes.None → number_of answer.error ≡ pos 0
unfolding number_of
no_error answer is = ap number_of is

-- whatever is answered is for the partition that was asked for, and tells no time
pub record IsFor (p : ProducedRecords) (answer : ProducedOffset) : Type 0 where
  pub index : answer.index ≡ p.index
  pub append_time : answer.log_append_time ≡ negsuc 0

pub is_for : (r : Result BatchData ErrorCode) (topics : List TopicValue) (name : List ℕ) (p : ProducedRecords) → IsFor p (produce_answer r topics name p)
is_for r topics name p = by_result r (log_at topics name p.index) where
  by_offset : (o : Result ℤ ErrorCode) → IsFor p (produced_to p o)
  by_offset (Ok offset) = record { index = refl; append_time = refl }
  by_offset (Err code) = record { index = refl; append_time = refl }

  by_result : (x : Result BatchData ErrorCode) (o : Option LogValue) → IsFor p (produce_answer_by x p o)
  by_result (Ok b) o = by_offset (offset_in b o)
  by_result (Err code) None = record { index = refl; append_time = refl }
  by_result (Err code) (Some log) = record { index = refl; append_time = refl }

placed_by : (topics after : List TopicValue) (name : List ℕ) (p : ProducedRecords) (log : LogValue) (b : BatchData) (answer : ProducedOffset) → IsBatch b → b.marker ≡ None → p.records ≡ Some b.bytes → log_at topics name p.index ≡ Some log
    → IsFor p answer → answer.error ≡ codes.None → IsAppended topics after name p answer → IsTakenIn after name p.index log b answer
placed_by topics after name p log b answer batch no_marker sent there it_is_for error is =
    let one_log : is.log ≡ log = same_log is.log log (sym is.there ∙ there) in
    let one : is.batch ≡ b = one_batch is.batch b is.is_batch batch (same_bytes is.batch.bytes b.bytes (sym is.sent ∙ sent)) in
    let offset : answer.base_offset ≡ end_of log = is.offset ∙ ap end_of one_log in
    let bytes = offset_alone_changes b batch (end_of log) in
    record {
      same_index = it_is_for.index;
      error = no_error answer error;
      append_time = it_is_for.append_time;
      offset = subst (EndsAt log) (sym offset) (ends log);
      placed = at_end log b;
      goes_on = is.goes_on ∙ ap (λ (l : LogValue). Some (l ++ at_end l is.batch ∷ [])) one_log ∙ ap (λ (x : BatchData). Some (log ++ at_end log x ∷ [])) one;
      stands = sym offset;
      no_marker = no_marker;
      records = refl;
      as_long = bytes.0;
      length_bytes = bytes.1;
      rest = bytes.2;
    }

pub taken : (most : ℤ) (c : CoordinatorValue) (id : Option (List ℕ)) (acks : ℤ) (topics : List TopicValue) (name : List ℕ) (p : ProducedRecords) (log : LogValue) (b : BatchData)
    → IsProper most c id acks name p b → log_at topics name p.index ≡ Some log → IsNextOf log b
    → IsTakenIn (topics_produced (batch_to_append (non_negative most) c id acks (partition_at name p.index) p.records) topics name p.index) name p.index log b (produce_answer (batch_to_append (non_negative most) c id acks (partition_at name p.index) p.records) topics name p)
taken most c id acks topics name p log b proper there next =
    let n = non_negative most in
    let is = produces_as_answered.next n c id acks topics name p log b there (proper_judged most c id acks name p b proper) (next_judged log b next) in
    placed_by topics (topics_produced (batch_to_append n c id acks (partition_at name p.index) p.records) topics name p.index) name p log b (produce_answer (batch_to_append n c id acks (partition_at name p.index) p.records) topics name p) proper.batch proper.no_marker proper.sent there (is_for (batch_to_append n c id acks (partition_at name p.index) p.records) topics name p) is.0 is.1
