-- What is sent again is told its old offset as long as it is one of the last five, and is out of order from then on.
use Rattle.std.proofs.Common.{◌≡◌, ◌⊎◌, inl, inr, ◌<◌, ◌≤◌, ◌≤ℤ◌, ◌<ℤ◌, ℕ, suc, ℤ, pos, negsuc, ◌+◌, ◌-◌, ◌%◌, add_assoc, append_assoc, Bool, true, false, ◌&&◌, not, cond, ltb, List, [], ◌∷◌, ◌++◌, length, Option, Some, None, Result, Ok, refl, sym, ap, subst, ◌∙◌, arith}
use Rattle.std.specs.Prelude.{◌+ℤ◌, ◌-ℤ◌, int_lt}
use Rattle.std.specs.Int.{w32, from_be_bytes, int_rem_euclid}
use Rattle.std.specs.List.{AllByRecursion}
use Rattle.std.specs.Ordering.{int_eq}
use Rattle.std.proofs.lemmas.Bool.{and_parts, ltb-true, cases_lt}
use Rattle.std.proofs.lemmas.Int.{ints}
use mir.Val.{sel}
use Rattle.acl_binding.specs.declared.question.Caller.{Caller}
use Rattle.wire_types.specs.declared.error_code.ErrorCode.{ErrorCode}
use Rattle.wire_types.specs.declared.error_code.ErrorCode.TheVariants as codes
use Rattle.wire_types.specs.ErrorCode.{number_of}
use Rattle.wire_types.specs.Grammar.{IsInt}
use Rattle.settings.specs.declared.settings.Settings.{Settings}
use Rattle.record_batch.specs.Batch.{BatchData, IsBatch}
use Rattle.producer_state.specs.declared.judgment.Judgment.{Judgment}
use Rattle.producer_state.specs.declared.judgment.Judgment.TheVariants.{Next, Repeat, Refused}
use Rattle.producer_state.specs.Laws.{IsAccepted, IsInSequence, records_in}
use Rattle.producer_state.specs.Sequences.{last_sequence, next_after, last_of, is_written_by, epochs, greatest_of, batches_written_by, latest_batches_by, expected_after, sequence, has_same_sequences, repeat, first_judgment, judgment_by_repeat, judgment_in, judgment_of as judged_by_log}
use Rattle.producer_state.proofs.Numbers.{lt_is, lt_is_not, between, same_is}
use Rattle.producer_state.proofs.Noting.{epoch_of}
use Rattle.producer_state.proofs.Judging.{id_of, judged_at, fenced_below, begun_above}
use Rattle.producer_state.proofs.Accepting.{place, accepted_once}
use Rattle.producer_state.proofs.Again.{same_judged}
use Rattle.partition_log.specs.Log.{end_of, at_end}
use Rattle.partition_log.proofs.Accepted.{accepted_none, accepted_push, follows_written}
use Rattle.msg_data.specs.declared.produce.ProduceRequest.{ProduceRequest}
use Rattle.msg_data.specs.declared.produce.ProducedRecords.{ProducedRecords}
use Rattle.msg_data.specs.declared.produce.ProducedOffset.{ProducedOffset}
use Rattle.audit_trail.specs.declared.event.Event.{Event}
use Rattle.txn_coordinator.specs.Coordinator.{CoordinatorValue}
use Rattle.broker_world.specs.World.{World, TopicValue, LogValue}
use Rattle.broker_world.specs.First.{non_negative, first_world}
use Rattle.broker_world.specs.Logs.{log_at, offset_by}
use Rattle.broker_world.specs.Markers.{marker_batch}
use Rattle.data_handlers.specs.Judged.{partition_at, batch_to_append, topics_produced}
use Rattle.data_handlers.specs.Produce.{produced_error, produced_to, produce_answer_by, produce_answer}
use Rattle.api_dispatch.specs.Step.{world_after_events}
use Rattle.api_laws.specs.Acceptance.{IsProper, same_writer, HasPart}
use Rattle.api_laws.specs.Repeats.{IsRefusedBy, IsOneOfFive, IsUnchangedBy, IsAnsweredAs, LastFiveRepeat}
use Rattle.api_laws.proofs.DataAnswers.{produces_as_answered}
use Rattle.api_laws.proofs.Acceptance.{proper_judged, is_for}
use Rattle.api_laws.proofs.Accepted.{at_part, answer_to, kept_before, kept_after, is_told}
use Rattle.api_laws.proofs.EachLog.{Stays, each_log}
use Rattle.api_laws.proofs.CheckedLogs.{IsPlaced, IsPlacedData, all_placed}
use Rattle.api_laws.proofs.Lists.{all_parts, all_weaker, all_kept, kept_at}
use Rattle.api_laws.proofs.Gaps.{gap_refused}
use Rattle.api_laws.proofs.Latest.{Below, AreWithin, epochs_below, epochs_within, epochs_reach, greatest_at, is_own, IsOwn, own_is, own_split, le_refl, judged_latest, found_again, not_found, found_late, IsCounted, next_is, placed_at, pos_is, apart, later_differ}

-- ---- the logs that events reach took in what was next, and of it only what was checked

pub record IsHeld (most : ℕ) (log : LogValue) : Type 0 where
  pub accepted : IsAccepted log
  pub placed : AllByRecursion (IsPlacedData most) log

held : (most : ℕ) → Stays most (IsHeld most)
held most = record {
  empty = record { accepted = accepted_none; placed = (all_placed most).empty };
  next = λ log b is good next. record {
    accepted = accepted_push log (at_end log b) is.accepted (follows_written log b (end_of log) (λ told. next));
    placed = (all_placed most).next log b is.placed good next;
  };
  marked = λ log m moment is. record {
    accepted = accepted_push log (at_end log (marker_batch m moment)) is.accepted (follows_written log (marker_batch m moment) (end_of log) (λ told. absurd (let clash : false ≡ true = told in cc)));
    placed = (all_placed most).marked log m moment is.placed;
  };
}

held_in : (s : Settings) (es : List Event) (name : List ℕ) (index : ℤ) (log : LogValue) → log_at (world_after_events (first_world s) es).topics name index ≡ Some log → IsHeld (non_negative s.max_batch) log
held_in s es name index log there = each_log s (IsHeld (non_negative s.max_batch)) (held (non_negative s.max_batch)) es name index log there

-- ---- so each of them tells how many records it has

counted_one : (most : ℕ) (b : BatchData) → IsPlaced most b → IsCounted b
counted_one most b is = subst IsCounted (sym is.stands) (record { counted = is.good.batch.counted; some = is.good.batch.some })

own_counted : (most : ℕ) (id epoch : ℤ) (log : LogValue) → AllByRecursion (IsPlacedData most) log → AllByRecursion IsCounted (batches_written_by id epoch log)
own_counted most id epoch log all = all_kept (IsPlacedData most) (is_written_by id epoch) IsCounted (λ x passes is. counted_one most x (is (own_is id epoch x passes).no_marker)) log all

-- ---- one of them sent again

module _ (most : ℕ) (log before after : LogValue) (b : BatchData) (is : IsHeld most log) (stands : log ≡ before ++ b ∷ after) (no_marker : b.marker ≡ None) (low : pos 0 ≤ℤ id_of b) (latest : AllByRecursion (λ (x : BatchData). x.header.producer_id ≡ id_of b → x.header.producer_epoch ≤ℤ epoch_of b) log) where
  abbrev earlier : List BatchData
  earlier = batches_written_by (id_of b) (epoch_of b) before

  abbrev later : List BatchData
  later = batches_written_by (id_of b) (epoch_of b) after

  mine : IsOwn (id_of b) (epoch_of b) b
  mine = record { no_marker = no_marker; producer = refl; same_epoch = refl }

  split : batches_written_by (id_of b) (epoch_of b) log ≡ earlier ++ b ∷ later
  split = own_split (id_of b) (epoch_of b) log before after b stands mine

  found : greatest_of (epochs (id_of b) log) ≡ Some (epoch_of b)
  found = greatest_at (id_of b) (epoch_of b) log
      (subst (λ (l : LogValue). (m : ℤ) × (greatest_of (epochs (id_of b) l) ≡ Some m) × (epoch_of b ≤ℤ m)) (sym stands) (epochs_reach (id_of b) before after b (is_own b (id_of b) refl)))
      (epochs_below (id_of b) (epoch_of b) log latest)

  all_counted : AllByRecursion IsCounted earlier × IsCounted b × AllByRecursion IsCounted later
  all_counted = all_parts IsCounted earlier later b (subst (AllByRecursion IsCounted) split (own_counted most (id_of b) (epoch_of b) log is.placed))

  in_order : IsInSequence (pos 0) (earlier ++ b ∷ later)
  in_order = subst (IsInSequence (pos 0)) split (accepted_once log is.accepted (id_of b) (epoch_of b) low)

  -- the numbers from it on
  starts : b.header.base_sequence ≡ pos ((0 + records_in earlier) % 2147483648)
  starts = (placed_at 0 earlier later b all_counted.0 in_order).0

  goes : IsInSequence (pos ((0 + records_in earlier + length b.records) % 2147483648)) later
  goes = subst (λ (first : ℤ). IsInSequence first later) (next_is b (0 + records_in earlier) starts all_counted.1) (placed_at 0 earlier later b all_counted.0 in_order).1

  no_later : records_in (b ∷ later) ≤ 2147483648 → AllByRecursion (λ (x : BatchData). has_same_sequences b x ≡ false) later
  no_later few = all_weaker (λ (x : BatchData). int_eq x.header.base_sequence (pos ((0 + records_in earlier) % 2147483648)) ≡ false) (λ (x : BatchData). has_same_sequences b x ≡ false)
      (λ x other. ap (λ (t : Bool). t && int_eq (last_of x) (last_of b)) (ap (int_eq x.header.base_sequence) starts ∙ other)) later
      (later_differ (0 + records_in earlier) (length b.records) later all_counted.2 goes all_counted.1.some few)

  repeats_here : length later ≤ 4 → records_in (b ∷ later) ≤ 2147483648 → judged_by_log log b ≡ Repeat b.header.base_offset
  repeats_here short few =
      judged_latest log b low found
      ∙ ap (judgment_by_repeat (expected_after (latest_batches_by (id_of b) (epoch_of b) log)) b) (found_again log earlier later b split short (no_later few))

  -- were it the next one, it would begin where the log's records of its producer end
  not_next : records_in (b ∷ later) < 2147483648 → judged_by_log log b ≡ Next → ⊥
  not_next few next = apart (0 + records_in earlier) (records_in (b ∷ later)) some few (pos_is ((0 + records_in earlier + records_in (b ∷ later)) % 2147483648) ((0 + records_in earlier) % 2147483648) (sym ends ∙ starts)) where
    some : 0 < records_in (b ∷ later)
    some = let c = all_counted.1 in omega (arith, c.some)

    more : batches_written_by (id_of b) (epoch_of b) (log ++ b ∷ []) ≡ (earlier ++ b ∷ later) ++ b ∷ []
    more = own_split (id_of b) (epoch_of b) (log ++ b ∷ []) log [] b refl mine ∙ ap (λ (l : List BatchData). l ++ b ∷ []) split

    longer : IsInSequence (pos 0) ((earlier ++ b ∷ later) ++ b ∷ [])
    longer = subst (IsInSequence (pos 0)) more (accepted_once (log ++ b ∷ []) (accepted_push log b is.accepted (λ told. next)) (id_of b) (epoch_of b) low)

    apart_from : IsInSequence (pos 0) (earlier ++ b ∷ (later ++ b ∷ []))
    apart_from = subst (IsInSequence (pos 0)) (append_assoc earlier (b ∷ later) (b ∷ [])) longer

    first : (b.header.base_sequence ≡ pos ((0 + records_in earlier) % 2147483648)) × IsInSequence (next_after b) (later ++ b ∷ [])
    first = placed_at 0 earlier (later ++ b ∷ []) b all_counted.0 apart_from

    second : (b.header.base_sequence ≡ pos ((0 + records_in earlier + length b.records + records_in later) % 2147483648)) × IsInSequence (next_after b) []
    second = placed_at (0 + records_in earlier + length b.records) later [] b all_counted.2 (subst (λ (z : ℤ). IsInSequence z (later ++ b ∷ [])) (next_is b (0 + records_in earlier) starts all_counted.1) first.1)

    ends : b.header.base_sequence ≡ pos ((0 + records_in earlier + records_in (b ∷ later)) % 2147483648)
    ends = second.0 ∙ ap (λ (n : ℕ). pos (n % 2147483648)) (add_assoc (0 + records_in earlier) (length b.records) (records_in later))

  late_here : 5 ≤ length later → records_in (b ∷ later) < 2147483648 → judged_by_log log b ≡ Refused codes.OutOfOrderSequenceNumber
  late_here many few = by_test (int_eq b.header.base_sequence (expected_after (latest_batches_by (id_of b) (epoch_of b) log))) refl where
    judgment : judged_by_log log b ≡ cond (int_eq b.header.base_sequence (expected_after (latest_batches_by (id_of b) (epoch_of b) log))) Next (Refused codes.OutOfOrderSequenceNumber)
    judgment = judged_latest log b low found ∙ ap (judgment_by_repeat (expected_after (latest_batches_by (id_of b) (epoch_of b) log)) b) (not_found log earlier later b split many (no_later (omega (arith, few))))

    by_test : (t : Bool) → int_eq b.header.base_sequence (expected_after (latest_batches_by (id_of b) (epoch_of b) log)) ≡ t → judged_by_log log b ≡ Refused codes.OutOfOrderSequenceNumber
    by_test true e = absurd (not_next few (judgment ∙ ap (λ (t : Bool). cond t Next (Refused codes.OutOfOrderSequenceNumber)) e))
    by_test false e = judgment ∙ ap (λ (t : Bool). cond t Next (Refused codes.OutOfOrderSequenceNumber)) e

-- ---- what repeats

test_repeats : (t : Bool) (offset : ℤ) → cond t Next (Refused codes.OutOfOrderSequenceNumber) ≡ Repeat offset → ⊥
test_repeats true offset h = cc
test_repeats false offset h = cc

pub record IsRepeated (log : LogValue) (b : BatchData) (offset : ℤ) : Type 0 where
  pub low : pos 0 ≤ℤ id_of b
  pub latest : greatest_of (epochs (id_of b) log) ≡ Some (epoch_of b)
  pub old : BatchData
  pub found : repeat log b ≡ Some old
  pub told : old.header.base_offset ≡ offset

repeat_of : (log : LogValue) (b : BatchData) (offset : ℤ) → judged_by_log log b ≡ Repeat offset → IsRepeated log b offset
repeat_of log b offset h = by_sign (int_lt (id_of b) (pos 0)) refl where
  not_begun : first_judgment b ≡ Repeat offset → ⊥
  not_begun e = test_repeats (int_eq b.header.base_sequence (pos 0)) offset e

  by_repeat : (expected : ℤ) (o : Option BatchData) → pos 0 ≤ℤ id_of b → greatest_of (epochs (id_of b) log) ≡ Some (epoch_of b) → repeat log b ≡ o → judgment_by_repeat expected b o ≡ Repeat offset → IsRepeated log b offset
  by_repeat expected None low latest is e = absurd (test_repeats (int_eq b.header.base_sequence expected) offset e)
  by_repeat expected (Some old) low latest is e = record { low = low; latest = latest; old = old; found = is; told = let same : old.header.base_offset ≡ offset = cc in same }

  within : (m : ℤ) → pos 0 ≤ℤ id_of b → greatest_of (epochs (id_of b) log) ≡ Some m → m ≤ℤ epoch_of b → epoch_of b ≤ℤ m → IsRepeated log b offset
  within m low is le ge =
      let latest : greatest_of (epochs (id_of b) log) ≡ Some (epoch_of b) = is ∙ ap (λ (n : ℤ). Some n) (between m (epoch_of b) le ge) in
      by_repeat (expected_after (latest_batches_by (id_of b) (epoch_of b) log)) (repeat log b) low latest refl (sym (judged_latest log b low latest) ∙ h)

  above : (m : ℤ) → pos 0 ≤ℤ id_of b → greatest_of (epochs (id_of b) log) ≡ Some m → m <ℤ epoch_of b → m ≤ℤ epoch_of b → ⊥
  above m low is lt le = not_begun (sym (judged_at log b (Some m) low is ∙ begun_above (place log (id_of b) m) b (repeat log b) lt le) ∙ h)

  by_newer : (m : ℤ) (t : Bool) → int_lt m (epoch_of b) ≡ t → pos 0 ≤ℤ id_of b → greatest_of (epochs (id_of b) log) ≡ Some m → m ≤ℤ epoch_of b → IsRepeated log b offset
  by_newer m true e low is le = absurd (above m low is (lt_is m (epoch_of b) e) le)
  by_newer m false e low is le = within m low is le (lt_is_not m (epoch_of b) e)

  by_older : (m : ℤ) (t : Bool) → int_lt (epoch_of b) m ≡ t → pos 0 ≤ℤ id_of b → greatest_of (epochs (id_of b) log) ≡ Some m → IsRepeated log b offset
  by_older m true e low is =
      absurd (let clash : Refused codes.InvalidProducerEpoch ≡ Repeat offset = sym (judged_at log b (Some m) low is ∙ fenced_below (place log (id_of b) m) b (repeat log b) (lt_is (epoch_of b) m e)) ∙ h in cc)
  by_older m false e low is = by_newer m (int_lt m (epoch_of b)) refl low is (lt_is_not (epoch_of b) m e)

  by_found : (o : Option ℤ) → pos 0 ≤ℤ id_of b → greatest_of (epochs (id_of b) log) ≡ o → IsRepeated log b offset
  by_found None low is = absurd (not_begun (sym (judged_at log b None low is) ∙ h))
  by_found (Some m) low is = by_older m (int_lt (epoch_of b) m) refl low is

  by_sign : (t : Bool) → int_lt (id_of b) (pos 0) ≡ t → IsRepeated log b offset
  by_sign true e = absurd (let clash : Next ≡ Repeat offset = sym (ap (λ (t : Bool). cond (not t) (judgment_in (sequence log (id_of b)) b (repeat log b)) Next) e) ∙ h in cc)
  by_sign false e = by_found (greatest_of (epochs (id_of b) log)) (lt_is_not (id_of b) (pos 0) e) refl

-- ---- and so it is one of the last five

last_is : (first count : ℤ) (x k : ℕ) → first ≡ pos x → count -ℤ pos 1 ≡ pos k → last_sequence first count ≡ pos ((x + k) % 2147483648)
unfolding last_sequence
last_is first count x k is_first is_count =
    ap (λ (z : ℤ). int_rem_euclid (z +ℤ (count -ℤ pos 1)) (pos 2147483648)) is_first ∙ ap (λ (z : ℤ). int_rem_euclid (pos x +ℤ z) (pos 2147483648)) is_count

same_mod : (x k j : ℕ) → k < 2147483648 → j < 2147483648 → (x + k) % 2147483648 ≡ (x + j) % 2147483648 → k ≡ j
same_mod x k j small little same = by_order (cases_lt k j) where
  by_less : (a c : ℕ) → a < c → c < 2147483648 → (x + c) % 2147483648 ≡ (x + a) % 2147483648 → ⊥
  by_less a c lt few e =
      let sum : (x + a) + (c - a) ≡ x + c = omega (arith, lt) in
      apart (x + a) (c - a) (omega (arith, lt)) (omega (arith, few)) (ap (λ (n : ℕ). n % 2147483648) sum ∙ e)

  by_more : j ≤ k → (j < k) ⊎ (k ≤ j) → k ≡ j
  by_more le (inl lt) = absurd (by_less j k lt small same)
  by_more le (inr ge) = omega (arith, le, ge)

  by_order : (k < j) ⊎ (j ≤ k) → k ≡ j
  by_order (inl lt) = absurd (by_less k j lt little (sym same))
  by_order (inr le) = by_more le (cases_lt j k)

-- a number of records is one of 32 bits
small_count : (text : List ℕ) (z : ℤ) (k : ℕ) → IsInt w32 text z → z ≡ pos k → k < 2147483648
small_count text z k spelled is = by_test (ltb (from_be_bytes w32 text) 2147483648) refl (sym spelled.1 ∙ is) where
  by_test : (t : Bool) → ltb (from_be_bytes w32 text) 2147483648 ≡ t → sel t (pos (from_be_bytes w32 text)) (negsuc (4294967296 - suc (from_be_bytes w32 text))) ≡ pos k → k < 2147483648
  by_test true lt e = let same : from_be_bytes w32 text ≡ k = cc in omega (arith, ltb-true (from_be_bytes w32 text) 2147483648 lt, same)
  by_test false ge e = absurd (let clash : negsuc (4294967296 - suc (from_be_bytes w32 text)) ≡ pos k = e in cc)

few_records : (b : BatchData) → IsBatch b → length b.records < 2147483648
few_records b is = let spelled = is.headed.4.4.4.4.4.4.4.4.4.4.4.4 in small_count _ b.header.record_count (length b.records) spelled is.counted

few_placed : (most : ℕ) (b : BatchData) → IsPlaced most b → length b.records < 2147483648
few_placed most b is = subst (λ (x : BatchData). length x.records < 2147483648) (sym is.stands) (few_records is.sent is.good.batch)

whole : (z : ℤ) → pos 0 <ℤ z → z ≡ pos (non_negative z)
whole (pos n) some = refl
whole (negsuc n) some = absurd (omega (arith, ints, some))

one_less : (z : ℤ) (n : ℕ) → z ≡ pos n → 0 < n → z -ℤ pos 1 ≡ pos (n - 1)
one_less z n is some = omega (arith, ints, is, some)

same_count : (old again : BatchData) (x n : ℕ) → n < 2147483648 → 0 < n → old.header.record_count ≡ pos n → old.header.base_sequence ≡ pos x → old.header.base_sequence ≡ again.header.base_sequence
    → pos 0 <ℤ again.header.record_count → again.header.record_count ≤ℤ pos 2147483647 → last_of old ≡ last_of again → again.header.record_count ≡ old.header.record_count
same_count old again x n few some counted starts begins more most lasts =
    let m = non_negative again.header.record_count in
    let is_m : again.header.record_count ≡ pos m = whole again.header.record_count more in
    let above : 0 < m = omega (arith, ints, more, is_m) in
    let below : m ≤ 2147483647 = omega (arith, ints, most, is_m) in
    let first = last_is old.header.base_sequence old.header.record_count x (n - 1) starts (one_less old.header.record_count n counted some) in
    let second = last_is again.header.base_sequence again.header.record_count x (m - 1) (sym begins ∙ starts) (one_less again.header.record_count m is_m above) in
    let mods : (x + (n - 1)) % 2147483648 ≡ (x + (m - 1)) % 2147483648 = pos_is ((x + (n - 1)) % 2147483648) ((x + (m - 1)) % 2147483648) (sym first ∙ lasts ∙ second) in
    let less : n - 1 ≡ m - 1 = same_mod x (n - 1) (m - 1) (omega (arith, few)) (omega (arith, below)) mods in
    let one : m ≡ n = omega (arith, less, some, above) in
    is_m ∙ ap (λ (k : ℕ). pos k) one ∙ sym counted

alone : (s : Settings) (es : List Event) (name : List ℕ) (index : ℤ) (log : LogValue) (again : BatchData) (offset : ℤ) → log_at (world_after_events (first_world s) es).topics name index ≡ Some log → pos 0 <ℤ again.header.record_count → again.header.record_count ≤ℤ pos 2147483647
    → judged_by_log log again ≡ Repeat offset → IsOneOfFive s es name index log again offset
alone s es name index log again offset there more most h =
    let limit = non_negative s.max_batch in
    let is = held_in s es name index log there in
    let r = repeat_of log again offset h in
    let id = id_of again in
    let e = epoch_of again in
    let late = found_late log again r.old r.found in
    let k = kept_at (is_written_by id e) log late.earlier late.later r.old late.own in
    let own = own_is id e r.old k.4 in
    let after_it : same_writer r.old k.1 ≡ late.later = ap (λ (i : ℤ). batches_written_by i r.old.header.producer_epoch k.1) own.producer ∙ ap (λ (x : ℤ). batches_written_by id x k.1) own.same_epoch ∙ k.3 in
    let placed = (all_parts (IsPlacedData limit) k.0 k.1 r.old (subst (AllByRecursion (IsPlacedData limit)) k.2 is.placed)).1 own.no_marker in
    let counted = all_parts IsCounted late.earlier late.later r.old (subst (AllByRecursion IsCounted) late.own (own_counted limit id e log is.placed)) in
    let starts = (placed_at 0 late.earlier late.later r.old counted.0 (subst (IsInSequence (pos 0)) late.own (accepted_once log is.accepted id e r.low))).0 in
    let tests = and_parts (int_eq r.old.header.base_sequence again.header.base_sequence) (int_eq (last_of r.old) (last_of again)) late.same in
    let begins : r.old.header.base_sequence ≡ again.header.base_sequence = same_is r.old.header.base_sequence again.header.base_sequence tests.0 in
    let lasts : last_of r.old ≡ last_of again = same_is (last_of r.old) (last_of again) tests.1 in
    let within = epochs_within id e log (subst (Below e) (sym r.latest) (le_refl e)) in
    record {
      before = k.0;
      b = r.old;
      after = k.1;
      stands = record {
        there = there;
        place = k.2;
        no_marker = own.no_marker;
        producer = subst (λ (i : ℤ). pos 0 ≤ℤ i) (sym own.producer) r.low;
        latest = subst (λ (i : ℤ). AreWithin i r.old.header.producer_epoch log) (sym own.producer) (subst (λ (x : ℤ). AreWithin id x log) (sym own.same_epoch) within);
      };
      few = subst (λ (l : List BatchData). length l ≤ 4) (sym after_it) late.few;
      same = record {
        producer = sym own.producer;
        epoch = sym own.same_epoch;
        sequence = sym begins;
        count = same_count r.old again ((0 + records_in late.earlier) % 2147483648) (length r.old.records) (few_placed limit r.old placed) counted.1.some counted.1.counted starts begins more most lasts;
      };
      told = sym r.told;
    }

-- ---- what is answered

-- a part is answered this error and offset, and nothing is changed
pub record IsAnswered (number : ℕ) (offset : ℤ) (topics after : List TopicValue) (answer : ProducedOffset) : Type 0 where
  pub error : number_of answer.error ≡ pos number
  pub at : answer.base_offset ≡ offset
  pub unchanged : after ≡ topics

abbrev Answers : ℕ → ℤ → ℤ → CoordinatorValue → Option (List ℕ) → ℤ → List TopicValue → List ℕ → ProducedRecords → Type 0
Answers number offset most c id acks topics name p =
    IsAnswered number offset topics (topics_produced (batch_to_append (non_negative most) c id acks (partition_at name p.index) p.records) topics name p.index) (produce_answer (batch_to_append (non_negative most) c id acks (partition_at name p.index) p.records) topics name p)

answered_again : (most : ℤ) (c : CoordinatorValue) (id : Option (List ℕ)) (acks : ℤ) (topics : List TopicValue) (name : List ℕ) (p : ProducedRecords) (log : LogValue) (b : BatchData) (offset : ℤ)
    → log_at topics name p.index ≡ Some log → IsProper most c id acks name p b → judged_by_log log b ≡ Repeat offset → Answers 0 offset most c id acks topics name p
unfolding number_of
answered_again most c id acks topics name p log b offset there proper h =
    let a = produces_as_answered.repeat (non_negative most) c id acks topics name p log b offset there (proper_judged most c id acks name p b proper) h in
    record { error = ap number_of a.error; at = a.at; unchanged = a.same }

answered_late : (most : ℤ) (c : CoordinatorValue) (id : Option (List ℕ)) (acks : ℤ) (topics : List TopicValue) (name : List ℕ) (p : ProducedRecords) (log : LogValue) (b : BatchData)
    → log_at topics name p.index ≡ Some log → IsProper most c id acks name p b → judged_by_log log b ≡ Refused codes.OutOfOrderSequenceNumber → Answers 45 (negsuc 0) most c id acks topics name p
unfolding number_of
answered_late most c id acks topics name p log b there proper h =
    let r = batch_to_append (non_negative most) c id acks (partition_at name p.index) p.records in
    let told : produce_answer r topics name p ≡ produced_error codes.OutOfOrderSequenceNumber p =
    ap (λ (x : Result BatchData ErrorCode). produce_answer x topics name p) (proper_judged most c id acks name p b proper) ∙ ap (produce_answer_by (Ok b) p) there ∙ ap (λ (j : Judgment). produced_to p (offset_by j log)) h in
    let error : (produce_answer r topics name p).error ≡ codes.OutOfOrderSequenceNumber = ap (λ (a : ProducedOffset). a.error) told in
    let kept = produces_as_answered.refuses (non_negative most) c id acks topics name p (λ none. let clash : codes.OutOfOrderSequenceNumber ≡ codes.None = sym error ∙ none in cc) in
    record { error = ap number_of error; at = kept.offset; unchanged = kept.same }

-- so it is in a request
unchanged_by : (number : ℕ) (offset : ℤ) (w : World) (caller : Caller) (r : ProduceRequest) (name : List ℕ) (p : ProducedRecords) (log : LogValue) (asked : HasPart w caller r name p) → log_at w.topics name p.index ≡ Some log
    → (log_at (at_part w caller r name p asked) name p.index ≡ Some log → Answers number offset w.node.max_batch w.coordinator r.transactional_id r.acks (at_part w caller r name p asked) name p)
    → IsUnchangedBy number offset w caller r (length asked.before) (length asked.parts) name p log
unchanged_by number offset w caller r name p log asked there part =
    let here : log_at (at_part w caller r name p asked) name p.index ≡ Some log = kept_before w caller r name p asked ∙ there in
    let a = part here in
    record {
      answer = answer_to w caller r name p asked;
      told = is_told w caller r name p asked;
      same_index = (is_for (batch_to_append (non_negative w.node.max_batch) w.coordinator r.transactional_id r.acks (partition_at name p.index) p.records) (at_part w caller r name p asked) name p).index;
      error = a.error;
      at = a.at;
      same = kept_after w caller r name p asked ∙ ap (λ (l : List TopicValue). log_at l name p.index) a.unchanged ∙ here;
    }

request_again : (s : Settings) (es : List Event) (name : List ℕ) (index : ℤ) (log : LogValue) (b : BatchData) (offset : ℤ) → log_at (world_after_events (first_world s) es).topics name index ≡ Some log → judged_by_log log b ≡ Repeat offset → IsAnsweredAs 0 offset s es name index log b
request_again s es name index log b offset there h caller r p asked same proper =
    let w = world_after_events (first_world s) es in
    unchanged_by 0 offset w caller r name p log asked (ap (log_at w.topics name) same ∙ there)
    (λ here. answered_again w.node.max_batch w.coordinator r.transactional_id r.acks (at_part w caller r name p asked) name p log b offset here proper h)

request_late : (s : Settings) (es : List Event) (name : List ℕ) (index : ℤ) (log : LogValue) (b : BatchData) → log_at (world_after_events (first_world s) es).topics name index ≡ Some log → judged_by_log log b ≡ Refused codes.OutOfOrderSequenceNumber → IsAnsweredAs 45 (negsuc 0) s es name index log b
request_late s es name index log b there h caller r p asked same proper =
    let w = world_after_events (first_world s) es in
    unchanged_by 45 (negsuc 0) w caller r name p log asked (ap (log_at w.topics name) same ∙ there)
    (λ here. answered_late w.node.max_batch w.coordinator r.transactional_id r.acks (at_part w caller r name p asked) name p log b here proper h)

out_of_order : (j : Judgment) → j ≡ Refused codes.OutOfOrderSequenceNumber → IsRefusedBy 45 j
unfolding number_of
out_of_order j is = record { code = codes.OutOfOrderSequenceNumber; refused = is; numbered = refl }

-- ---- the law

pub last_five_repeat : LastFiveRepeat judged_by_log
last_five_repeat = record {
  repeats = λ s es name index log before after b again is same few small.
      let h = same_judged log b again same ∙ repeats_here (non_negative s.max_batch) log before after b (held_in s es name index log is.there) is.place is.no_marker is.producer is.latest few small in
      (h, request_again s es name index log again b.header.base_offset is.there h);
  too_old = λ s es name index log before after b again is same many small.
      let h = same_judged log b again same ∙ late_here (non_negative s.max_batch) log before after b (held_in s es name index log is.there) is.place is.no_marker is.producer is.latest many small in
      (out_of_order (judged_by_log log again) h, request_late s es name index log again is.there h);
  alone = alone;
  gaps = λ s es name index log b there gap.
      let h = gap_refused log b gap in
      (out_of_order (judged_by_log log b) h, request_late s es name index log b there h);
}
