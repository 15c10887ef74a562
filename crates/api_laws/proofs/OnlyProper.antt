-- No error is answered but for what is proper.
use Rattle.std.proofs.Common.{◌≡◌, ◌⊎◌, inl, inr, ◌<◌, ◌≤◌, ◌≤ℤ◌, ℕ, zero, suc, ℤ, pos, negsuc, Bool, true, false, ◌&&◌, ◌||◌, not, cond, eqb, List, [], ◌∷◌, ◌++◌, length, Option, Some, None, Result, Ok, Err, refl, sym, ap, ◌∙◌, arith}
use Rattle.std.specs.Prelude.{int_lt}
use Rattle.std.specs.List.{AllByRecursion}
use Rattle.std.specs.Ordering.{int_eq}
use Rattle.std.specs.Str.{bytes_eq}
use Rattle.std.proofs.lemmas.Bool.{and_parts, eqb-true, eqb-false, true≢false}
use Rattle.std.proofs.lemmas.Int.{ints}
use Rattle.std.proofs.lemmas.Slice.Eq.{bytes_eq-Decides}
use Rattle.wire_types.specs.declared.error_code.ErrorCode.{ErrorCode}
use Rattle.wire_types.specs.declared.error_code.ErrorCode.TheVariants as codes
use Rattle.record_batch.specs.declared.header.BatchHeader.{BatchHeader}
use Rattle.record_batch.specs.declared.fault.BatchFault.{BatchFault}
use Rattle.record_batch.specs.BatchHeader.{is_transactional}
use Rattle.record_batch.specs.Batch.{BatchData, has_producer}
use Rattle.record_batch.proofs.Lawful.{one_batch}
use Rattle.producer_state.specs.declared.judgment.Judgment.TheVariants.{Next}
use Rattle.producer_state.specs.Sequences.{judgment_of as judged_by_log}
use Rattle.producer_state.proofs.Numbers.{lt_is_not, same_is}
use Rattle.msg_data.specs.declared.produce.ProducedRecords.{ProducedRecords}
use Rattle.txn_coordinator.specs.declared.target.TopicPartition.{TopicPartition}
use Rattle.txn_coordinator.specs.declared.target.Target.{Target}
use Rattle.txn_coordinator.specs.declared.target.Target.TheVariants.{Partition}
use Rattle.txn_coordinator.specs.declared.transaction.Transaction.{Transaction}
use Rattle.txn_coordinator.specs.declared.transaction.TransactionState.{TransactionState}
use Rattle.txn_coordinator.specs.declared.transaction.TransactionState.TheVariants.{Empty, Ongoing, PrepareCommit, PrepareAbort, CompleteCommit, CompleteAbort}
use Rattle.txn_coordinator.specs.Coordinator.{CoordinatorValue, owner, given_by, id_record}
use Rattle.txn_coordinator.specs.Holding.{holding_code_of, holding_code}
use Rattle.txn_coordinator.specs.Words.{is_same_partition, has_partition, is_ongoing}
use Rattle.broker_world.specs.Codes.{code_unless_none}
use Rattle.broker_world.specs.World.{TopicValue, LogValue}
use Rattle.broker_world.specs.Logs.{log_at}
use Rattle.data_handlers.specs.Sent.{batch_or_fault}
use Rattle.data_handlers.specs.BudgetLaws.{judged_batch}
use Rattle.data_handlers.specs.Judged.{are_acks, id_and_epoch_of, partition_at, held_code, given_code, producer_code, batch_or_error_by, batch_or_error, batch_in, batch_to_append, topics_produced}
use Rattle.data_handlers.specs.Produce.{produce_answer_by, produce_answer}
use Rattle.api_laws.specs.DataLaws.{IsAppended, IsRepeated}
use Rattle.api_laws.specs.Acceptance.{transactional_bit, IsOfNobody, IsOfFreeId, IsOfTransaction, IsProper, IsNextOf, IsRightlyAnswered, AcceptsNothingElse}
use Rattle.api_laws.proofs.DataAnswers.{judged_called, produces_as_answered}
use Rattle.api_laws.proofs.EachLog.{judged_sent}
use Rattle.api_laws.proofs.OnlyNext.{only_next}

-- ---- acks

abbrev AreKnown : ℤ → Type 0
AreKnown acks = (acks ≡ negsuc 0) ⊎ ((acks ≡ pos 0) ⊎ (acks ≡ pos 1))

one_of : (acks : ℤ) (a b c : Bool) → (a ≡ true → acks ≡ negsuc 0) → (b ≡ true → acks ≡ pos 0) → (c ≡ true → acks ≡ pos 1) → ((a || b) || c) ≡ true → AreKnown acks
one_of acks true b c all none leader h = inl (all refl)
one_of acks false true c all none leader h = inr (inl (none refl))
one_of acks false false true all none leader h = inr (inr (leader refl))
one_of acks false false false all none leader h = absurd (true≢false (sym h))

known : (acks : ℤ) → are_acks acks ≡ true → AreKnown acks
known acks h = one_of acks (int_eq acks (negsuc 0)) (int_eq acks (pos 0)) (int_eq acks (pos 1)) (same_is acks (negsuc 0)) (same_is acks (pos 0)) (same_is acks (pos 1)) h

acks_known : (most : ℕ) (c : CoordinatorValue) (id : Option (List ℕ)) (acks : ℤ) (target : Target) (records : Option (List ℕ)) (b : BatchData) → batch_to_append most c id acks target records ≡ Ok b → AreKnown acks
acks_known most c id acks target records b is = by_acks (are_acks acks) refl is where
  by_acks : (t : Bool) → are_acks acks ≡ t → cond t (batch_in most c id target records) (Err codes.InvalidRequiredAcks) ≡ Ok b → AreKnown acks
  by_acks true e h = known acks e
  by_acks false e h = absurd (let clash : Err codes.InvalidRequiredAcks ≡ Ok b = h in cc)

-- ---- the transaction check found nothing

same_ok : (x b : BatchData) (r : Result BatchData ErrorCode) → r ≡ Ok x → r ≡ Ok b → x ≡ b
same_ok x b r p q = cc

unrefused : (c : CoordinatorValue) (id : Option (List ℕ)) (target : Target) (x b : BatchData) (o : Option ErrorCode) → producer_code c id target x.header ≡ o → batch_or_error_by o x ≡ Ok b → producer_code c id target b.header ≡ None
unrefused c id target x b None e is = ap (λ (y : BatchData). producer_code c id target y.header) (sym (same_ok x b (Ok x) refl is)) ∙ e
unrefused c id target x b (Some code) e is = absurd (let clash : Err code ≡ Ok b = is in cc)

passed_code : (c : CoordinatorValue) (id : Option (List ℕ)) (target : Target) (r : Result BatchData BatchFault) (b : BatchData) → batch_or_error c id target r ≡ Ok b → producer_code c id target b.header ≡ None
passed_code c id target (Err fault) b is = absurd cc
passed_code c id target (Ok x) b is = unrefused c id target x b (producer_code c id target x.header) refl is

batch_code : (most : ℕ) (c : CoordinatorValue) (id : Option (List ℕ)) (target : Target) (records : Option (List ℕ)) (b : BatchData) → batch_in most c id target records ≡ Ok b → producer_code c id target b.header ≡ None
batch_code most c id target None b is = absurd cc
batch_code most c id target (Some bytes) b is = by_length (eqb (length bytes) 0) is where
  by_length : (t : Bool) → cond t (Err codes.InvalidRecord) (batch_or_error c id target (batch_or_fault most bytes)) ≡ Ok b → producer_code c id target b.header ≡ None
  by_length true h = absurd cc
  by_length false h = passed_code c id target (batch_or_fault most bytes) b h

judged_code : (most : ℕ) (c : CoordinatorValue) (id : Option (List ℕ)) (acks : ℤ) (target : Target) (records : Option (List ℕ)) (b : BatchData) → batch_to_append most c id acks target records ≡ Ok b → producer_code c id target b.header ≡ None
judged_code most c id acks target records b is = by_acks (are_acks acks) is where
  by_acks : (t : Bool) → cond t (batch_in most c id target records) (Err codes.InvalidRequiredAcks) ≡ Ok b → producer_code c id target b.header ≡ None
  by_acks true h = batch_code most c id target records b h
  by_acks false h = absurd cc

-- ---- the bit, and numbers from 0 on

bit_set : (h : BatchHeader) → is_transactional h ≡ true → transactional_bit h ≡ 1
bit_set h is = eqb-true (transactional_bit h) 1 is

not_one : (n : ℕ) → n < 2 → (n ≡ 1 → ⊥) → n ≡ 0
not_one zero lt other = refl
not_one (suc zero) lt other = absurd (other refl)
not_one (suc (suc n)) lt other = absurd (omega (arith, lt))

bit_unset : (h : BatchHeader) → is_transactional h ≡ false → transactional_bit h ≡ 0
bit_unset h is = not_one (transactional_bit h) (omega arith) (eqb-false (transactional_bit h) 1 is)

from_zero : (z : ℤ) → not (int_lt z (pos 0)) ≡ true → pos 0 ≤ℤ z
from_zero z h = by_test (int_lt z (pos 0)) refl h where
  by_test : (t : Bool) → int_lt z (pos 0) ≡ t → not t ≡ true → pos 0 ≤ℤ z
  by_test true e isnt = absurd (true≢false (sym isnt))
  by_test false e isnt = lt_is_not z (pos 0) e

-- ---- of a free producer id

free_is : (o : Option (Option (List ℕ))) → given_code (given_by o) ≡ None → o ≡ Some None
free_is None h = absurd (let clash : Some codes.InvalidProducerIdMapping ≡ None = h in cc)
free_is (Some None) h = refl
free_is (Some (Some id)) h = absurd (let clash : Some codes.InvalidTxnState ≡ None = h in cc)

free_id : (c : CoordinatorValue) (h : BatchHeader) (z : ℤ) → h.producer_id ≡ z → pos 0 ≤ℤ z → owner c z ≡ Some None → pos 0 ≤ℤ h.producer_epoch → pos 0 ≤ℤ h.base_sequence → transactional_bit h ≡ 0 → IsOfFreeId c h
free_id c h (pos n) is low given epoch sequence bit = record { id = n; is_id = is; given = given; epoch = epoch; sequence = sequence; bit = bit }
free_id c h (negsuc n) is low given epoch sequence bit = absurd (omega (arith, ints, low))

-- ---- of a transaction

refused_none : (code : ErrorCode) → code_unless_none code ≡ None → code ≡ codes.None
refused_none codes.None h = refl
refused_none code h = absurd cc

unmapped : codes.InvalidProducerIdMapping ≡ codes.None → ⊥
unmapped e = cc

fenced : codes.InvalidProducerEpoch ≡ codes.None → ⊥
fenced e = cc

not_open : codes.InvalidTxnState ≡ codes.None → ⊥
not_open e = cc

passes : (t : Bool) (x other : ErrorCode) → (other ≡ codes.None → ⊥) → cond t x other ≡ codes.None → (t ≡ true) × (x ≡ codes.None)
passes true x other differ h = (refl, h)
passes false x other differ h = absurd (differ h)

is_open : (state : TransactionState) → is_ongoing state ≡ true → state ≡ Ongoing
is_open Ongoing h = refl
is_open Empty h = absurd (true≢false (sym h))
is_open PrepareCommit h = absurd (true≢false (sym h))
is_open PrepareAbort h = absurd (true≢false (sym h))
is_open CompleteCommit h = absurd (true≢false (sym h))
is_open CompleteAbort h = absurd (true≢false (sym h))

same_place : (q p : TopicPartition) → is_same_partition q p ≡ true → q ≡ p
same_place q p h =
    let parts = and_parts (bytes_eq q.topic p.topic) (int_eq q.index p.index) h in
    let topic : q.topic ≡ p.topic = (bytes_eq-Decides q.topic p.topic).0 parts.0 in
    let index : q.index ≡ p.index = same_is q.index p.index parts.1 in
    λ i. record { topic = topic i; index = index i }

abbrev IsAdded : List TopicPartition → TopicPartition → Type 0
IsAdded added p = (earlier later : List TopicPartition) × (added ≡ earlier ++ p ∷ later)

added_at : (added : List TopicPartition) (p : TopicPartition) → has_partition added p ≡ true → IsAdded added p
added_at [] p h = absurd (true≢false (sym h))
added_at (q ∷ added) p h = by_test (is_same_partition q p) refl h (added_at added p) where
  by_test : (t : Bool) → is_same_partition q p ≡ t → (t || has_partition added p) ≡ true → (has_partition added p ≡ true → IsAdded added p) → IsAdded (q ∷ added) p
  by_test true e here more = ([], added, ap (λ (x : TopicPartition). x ∷ added) (same_place q p e))
  by_test false e later more = let rest = more later in (q ∷ rest.0, rest.1, ap (λ (l : List TopicPartition). q ∷ l) rest.2)

abbrev IsRecorded : List Transaction → List ℕ → Transaction → Type 0
IsRecorded ts id t = (before after : List Transaction) × (ts ≡ before ++ t ∷ after) × (t.id ≡ id) × AllByRecursion (λ (x : Transaction). x.id ≡ t.id → ⊥) before

same_record : (x t : Transaction) → Some x ≡ Some t → x ≡ t
same_record x t h = cc

recorded_at : (ts : List Transaction) (id : List ℕ) (t : Transaction) → id_record ts id ≡ Some t → IsRecorded ts id t
recorded_at [] id t h = absurd (let clash : None ≡ Some t = h in cc)
recorded_at (x ∷ ts) id t h = by_test (bytes_eq x.id id) refl h (recorded_at ts id t) where
  by_test : (b : Bool) → bytes_eq x.id id ≡ b → cond b (Some x) (id_record ts id) ≡ Some t → (id_record ts id ≡ Some t → IsRecorded ts id t) → IsRecorded (x ∷ ts) id t
  by_test true e here more =
      let same : x ≡ t = same_record x t here in
      ([], ts, ap (λ (y : Transaction). y ∷ ts) same, ap (λ (y : Transaction). y.id) (sym same) ∙ (bytes_eq-Decides x.id id).0 e, tt)
  by_test false e later more =
      let rest = more later in
      (x ∷ rest.0, rest.1, ap (λ (l : List Transaction). x ∷ l) rest.2, rest.3, ((λ same. true≢false (sym ((bytes_eq-Decides x.id id).1 (same ∙ rest.3)) ∙ e)), rest.4))

module _ (c : CoordinatorValue) (asked : Option (List ℕ)) (name : List ℕ) (index : ℤ) (h : BatchHeader) (low : pos 0 ≤ℤ h.producer_id) (epoch : pos 0 ≤ℤ h.producer_epoch) (sequence : pos 0 ≤ℤ h.base_sequence) (bit : transactional_bit h ≡ 1) where
  abbrev place : TopicPartition
  place = record { topic = name; index = index }

  held_by : (id : List ℕ) (t : Transaction) → asked ≡ Some id → id_record c.transactions id ≡ Some t → holding_code_of (Some t) (id_and_epoch_of h) (Partition place) ≡ codes.None → IsOfTransaction c asked name index h
  held_by id t is found held =
      let mapped = passes (int_eq t.pair.producer h.producer_id) (cond (int_eq t.pair.epoch h.producer_epoch && true) (cond (is_ongoing t.state && has_partition t.partitions place) codes.None codes.InvalidTxnState) codes.InvalidProducerEpoch) codes.InvalidProducerIdMapping unmapped held in
      let current = passes (int_eq t.pair.epoch h.producer_epoch && true) (cond (is_ongoing t.state && has_partition t.partitions place) codes.None codes.InvalidTxnState) codes.InvalidProducerEpoch fenced mapped.1 in
      let opened = passes (is_ongoing t.state && has_partition t.partitions place) codes.None codes.InvalidTxnState not_open current.1 in
      let both = and_parts (is_ongoing t.state) (has_partition t.partitions place) opened.0 in
      let r = recorded_at c.transactions id t found in
      let a = added_at t.partitions place both.1 in
      record {
        transaction = t;
        before = r.0;
        after = r.1;
        stands = r.2;
        first = r.4;
        asked_for = is ∙ ap (λ (x : List ℕ). Some x) (sym r.3);
        producer = sym (same_is t.pair.producer h.producer_id mapped.0);
        same_epoch = sym (same_is t.pair.epoch h.producer_epoch (and_parts (int_eq t.pair.epoch h.producer_epoch) true current.0).0);
        ongoing = is_open t.state both.0;
        earlier = a.0;
        later = a.1;
        added = a.2;
        id = low;
        epoch = epoch;
        sequence = sequence;
        bit = bit;
      }

  held_in : (id : List ℕ) (o : Option Transaction) → asked ≡ Some id → id_record c.transactions id ≡ o → holding_code_of o (id_and_epoch_of h) (Partition place) ≡ codes.None → IsOfTransaction c asked name index h
  held_in id None is found held = absurd (unmapped held)
  held_in id (Some t) is found held = held_by id t is found held

  held_as : (o : Option (List ℕ)) → asked ≡ o → held_code c o (id_and_epoch_of h) (Partition place) ≡ None → IsOfTransaction c asked name index h
  held_as None is held = absurd (let clash : Some codes.InvalidTxnState ≡ None = held in cc)
  held_as (Some id) is held = held_in id (id_record c.transactions id) is refl (refused_none (holding_code c id (id_and_epoch_of h) (Partition place)) held)

-- ---- whose it is

abbrev Writer : CoordinatorValue → Option (List ℕ) → List ℕ → ℤ → BatchHeader → Type 0
Writer c id name index h = IsOfNobody h ⊎ (IsOfFreeId c h ⊎ IsOfTransaction c id name index h)

writer : (c : CoordinatorValue) (id : Option (List ℕ)) (name : List ℕ) (index : ℤ) (h : BatchHeader) → has_producer h ≡ true → producer_code c id (partition_at name index) h ≡ None → Writer c id name index h
writer c id name index h names code = by_kind (is_transactional h) (int_lt h.producer_id (pos 0)) refl refl names code where
  by_kind : (t s : Bool) → is_transactional h ≡ t → int_lt h.producer_id (pos 0) ≡ s → cond s (int_eq h.producer_id (negsuc 0) && not t) (not (int_lt h.producer_epoch (pos 0)) && not (int_lt h.base_sequence (pos 0))) ≡ true
      → cond t (held_code c id (id_and_epoch_of h) (partition_at name index)) (cond s None (given_code (given_by (owner c h.producer_id)))) ≡ None → Writer c id name index h
  by_kind true true bit sign told found = absurd (true≢false (sym (and_parts (int_eq h.producer_id (negsuc 0)) false told).1))
  by_kind true false bit sign told found =
      let numbers = and_parts (not (int_lt h.producer_epoch (pos 0))) (not (int_lt h.base_sequence (pos 0))) told in
      inr (inr (held_as c id name index h (lt_is_not h.producer_id (pos 0) sign) (from_zero h.producer_epoch numbers.0) (from_zero h.base_sequence numbers.1) (bit_set h bit) id refl found))
  by_kind false true bit sign told found = inl (record { id = same_is h.producer_id (negsuc 0) (and_parts (int_eq h.producer_id (negsuc 0)) true told).0; bit = bit_unset h bit })
  by_kind false false bit sign told found =
      let numbers = and_parts (not (int_lt h.producer_epoch (pos 0))) (not (int_lt h.base_sequence (pos 0))) told in
      inr (inl (free_id c h h.producer_id refl (lt_is_not h.producer_id (pos 0) sign) (free_is (owner c h.producer_id) found) (from_zero h.producer_epoch numbers.0) (from_zero h.base_sequence numbers.1) (bit_unset h bit)))

-- ---- so what is judged good is proper

from_number : (n : ℕ) (z : ℤ) → z ≡ pos n → pos 0 ≤ℤ z
from_number n z is = omega (arith, ints, is)

small_pos : (n m : ℕ) → n ≤ m → pos n ≤ℤ pos m
small_pos n m le = omega (arith, ints, le)

judged_proper : (most : ℕ) (c : CoordinatorValue) (id : Option (List ℕ)) (acks : ℤ) (name : List ℕ) (p : ProducedRecords) (b : BatchData) → batch_to_append most c id acks (partition_at name p.index) p.records ≡ Ok b → IsProper (pos most) c id acks name p b
judged_proper most c id acks name p b is =
    let good = judged_sent most c id acks (partition_at name p.index) p.records b is in
    record {
      known_acks = acks_known most c id acks (partition_at name p.index) p.records b is;
      sent = (judged_batch most c id acks (partition_at name p.index) p.records b is).sent;
      batch = good.batch;
      no_marker = good.data_alone.unmarked;
      small = small_pos (length b.bytes) most good.small;
      writer = writer c id name p.index b.header good.data_alone.producer (judged_code most c id acks (partition_at name p.index) p.records b is);
    }

-- ---- and next, or nothing is changed

next_by : (c : CoordinatorValue) (id : Option (List ℕ)) (name : List ℕ) (index : ℤ) (log : LogValue) (b : BatchData) → Writer c id name index b.header → judged_by_log log b ≡ Next → IsNextOf log b
next_by c id name index log b (inl none) next = inl none.id
next_by c id name index log b (inr (inl free)) next = inr (only_next log b (from_number free.id b.header.producer_id free.is_id) next)
next_by c id name index log b (inr (inr open_one)) next = inr (only_next log b open_one.id next)

same_bytes : (x y : List ℕ) → Some x ≡ Some y → x ≡ y
same_bytes x y h = cc

same_code : (c d : ErrorCode) (r : Result BatchData ErrorCode) → r ≡ Err c → c ≡ d → r ≡ Err d
same_code c d r p q = p ∙ ap Err q

module _ (most : ℕ) (c : CoordinatorValue) (id : Option (List ℕ)) (acks : ℤ) (topics : List TopicValue) (name : List ℕ) (p : ProducedRecords) where
  abbrev Answered : Type 0
  Answered = IsRightlyAnswered most c id acks topics (topics_produced (batch_to_append most c id acks (partition_at name p.index) p.records) topics name p.index) name p

  abbrev Appends : Type 0
  Appends = IsAppended topics (topics_produced (batch_to_append most c id acks (partition_at name p.index) p.records) topics name p.index) name p (produce_answer (batch_to_append most c id acks (partition_at name p.index) p.records) topics name p)

  abbrev Repeats : Type 0
  Repeats = IsRepeated topics (topics_produced (batch_to_append most c id acks (partition_at name p.index) p.records) topics name p.index) name p (produce_answer (batch_to_append most c id acks (partition_at name p.index) p.records) topics name p)

  by_answer : (b : BatchData) → batch_to_append most c id acks (partition_at name p.index) p.records ≡ Ok b → Appends ⊎ Repeats → Answered
  by_answer b is (inl a) =
      let proper = judged_proper most c id acks name p b is in
      let one : a.batch ≡ b = one_batch a.batch b a.is_batch proper.batch (same_bytes a.batch.bytes b.bytes (sym a.sent ∙ proper.sent)) in
      record { log = a.log; b = b; there = a.there; proper = proper; next = inl (next_by c id name p.index a.log b proper.writer (ap (judged_by_log a.log) (sym one) ∙ a.next)) }
  by_answer b is (inr a) = record { log = a.log; b = b; there = a.there; proper = judged_proper most c id acks name p b is; next = inr a.same }

  by_result : (r : Result BatchData ErrorCode) (o : Option LogValue) → batch_to_append most c id acks (partition_at name p.index) p.records ≡ r → (produce_answer_by r p o).error ≡ codes.None → Appends ⊎ Repeats → Answered
  by_result (Ok b) o is none answer = by_answer b is answer
  by_result (Err code) None is none answer = absurd (let clash : codes.UnknownTopicOrPartition ≡ codes.None = none in cc)
  by_result (Err code) (Some log) is none answer = absurd (judged_called most c id acks (partition_at name p.index) p.records (same_code code codes.None (batch_to_append most c id acks (partition_at name p.index) p.records) is none))

pub accepts_nothing_else : AcceptsNothingElse batch_to_append
accepts_nothing_else most c id acks topics name p none =
    by_result most c id acks topics name p (batch_to_append most c id acks (partition_at name p.index) p.records) (log_at topics name p.index) refl none (produces_as_answered.appends most c id acks topics name p none)
