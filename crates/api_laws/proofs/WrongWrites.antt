-- Wrong rules of what is appended, and of what logs hold, are refuted, each in a worked case.
use Rattle.std.proofs.lemmas.Int.{ints}
use Rattle.std.proofs.Common.{◌≡◌, ◌⊎◌, inl, inr, ℕ, suc, ◌≤◌, ◌≤ℤ◌, pos, negsuc, true, false, List, [], ◌∷◌, ◌++◌, length, Option, Some, None, is_some, refl, codes as bytes, ap, arith, zero-le}
use Rattle.settings.specs.declared.settings.Settings.{Settings}
use Rattle.record_batch.specs.Batch.{BatchData}
use Rattle.record_batch.specs.Crc.{bit_shift_by, crc_after}
use Rattle.record_batch.specs.Faults.{has_records, is_valid, first_fault}
use Rattle.record_batch.specs.Record.{records_at}
use Rattle.record_batch.specs.CombinatorLaws.{fixed_at, whole_value, sized_at}
use Rattle.wire_types.specs.Reading.{nat_at, int_at, front_at, many_at, items_at, after_count_at, null_or, after_null_count_at, varint_at, null_or_count, null_count_at, not_null, required_at, counted_at}
use Rattle.wire_types.specs.Spelling.{int_written}
use Rattle.producer_state.specs.Sequences.{last_sequence, next_sequence}
use Rattle.producer_state.specs.declared.judgment.Judgment.TheVariants.{Next, Repeat, Refused}
use Rattle.msg_data.specs.declared.produce.ProduceRequest.{ProduceRequest}
use Rattle.msg_data.specs.declared.produce.ProducedRecords.{ProducedRecords}
use Rattle.msg_data.specs.declared.produce.ProducedOffset.{ProducedOffset}
use Rattle.msg_admin.specs.declared.request.Request.TheVariants as requests
use Rattle.audit_trail.specs.declared.event.Event.{Event}
use Rattle.audit_trail.specs.declared.event.Event.TheVariants.{Ask}
use Rattle.txn_coordinator.specs.Coordinator.{CoordinatorValue, no_transactions}
use Rattle.broker_world.specs.World.{World, TopicValue, LogValue}
use Rattle.broker_world.specs.Logs.{log_at}
use Rattle.broker_world.specs.First.{first_world}
use Rattle.api_dispatch.specs.Step.{world_after_events}
use Rattle.data_handlers.specs.Judged.{partition_at, batch_to_append, topics_produced}
use Rattle.data_handlers.specs.Produce.{produce_answer}
use Rattle.api_laws.specs.DataLaws.{IsAppended, IsRepeated, ProducesAsAnswered}
use Rattle.api_laws.specs.Acceptance.{IsNextOf, IsRightlyAnswered, AcceptsNothingElse, HasPart, AcceptsWhatItOught}
use Rattle.api_laws.specs.Repeats.{LeavesGap, LastFiveRepeat}
use Rattle.api_laws.specs.CheckedLogs.{LogsHoldCheckedBatches, OffsetsCountRecords}
use Rattle.api_laws.specs.ProducerLaws.{HoldsOnce}
use Rattle.api_laws.specs.Wrong.{topics_kept, topics_with_repeats, answering_without_error, batch_under_any_acks, batch_of_any_size, producing_nothing, producing_for_all_replicas, judging_repeats_as_next, judging_gaps_as_next, world_of_headers, world_of_repeats, world_from_offset_one, stable_at_the_end, stable_at_the_last}
use Rattle.std.specs.Prelude.{replicate, FitsSigned}
use Rattle.std.specs.Int.{w64, int_wrap}
use Rattle.std.proofs.Common.{ℤ, subst, sym}
use Rattle.std.proofs.lemmas.List.Elements.{All-nil, All-cons}
use Rattle.std.proofs.lemmas.Int.{SFits-int_wrap}
use Rattle.record_batch.specs.Batch.{HasOffsets}
use Rattle.partition_log.specs.Log.{IsLog}
use Rattle.api_laws.specs.LastStable.{HasUnendedAt, LastStableIsExact}
use Rattle.api_laws.proofs.CheckedLogs.{logs_hold_checked_batches}
use Rattle.api_laws.proofs.OnlyProper.{accepts_nothing_else}
use Rattle.api_laws.proofs.ErrorCases.{batch as sent_bytes, plain_batch, first_batch}
use Rattle.api_laws.proofs.Wrong.{w, root, batch}
use Rattle.api_laws.proofs.WrongReads.{a}

-- ---- a topic with one partition, which is empty; and the producer id 0 was given out

abbrev unwritten : List TopicValue
unwritten = record { name = a; partitions = [] ∷ [] } ∷ []

abbrev given : CoordinatorValue
given = record { transactions = []; given = None ∷ []; warrants = [] }

abbrev sends : Option (List ℕ) → ProducedRecords
sends records = record { index = pos 0; records = records }

log_length : Option LogValue → ℕ
log_length None = 0
log_length (Some log) = length log

abbrev length_at : List TopicValue → ℕ
length_at topics = log_length (log_at topics a (pos 0))

not_grown : (log : LogValue) (b : BatchData) → Some [] ≡ Some log → Some [] ≡ Some (log ++ b ∷ []) → ⊥
unfolding log_length
not_grown [] b is grown = let clash : ◌≡◌ {A = ℕ} 0 1 = ap log_length grown in cc
not_grown (x ∷ log) b is grown = let clash : ◌≡◌ {A = ℕ} 0 (suc (length log)) = ap log_length is in cc

pub not_topics_kept : ¬ ProducesAsAnswered produce_answer topics_kept
unfolding log_length bit_shift_by crc_after has_records is_valid first_fault records_at fixed_at whole_value sized_at nat_at int_at front_at many_at items_at after_count_at null_or after_null_count_at varint_at null_or_count null_count_at not_null required_at counted_at last_sequence next_sequence int_written
not_topics_kept law =
    let is = (law.next 1000 no_transactions None (pos 1) unwritten a (sends (Some plain_batch)) [] _ refl refl refl).1 in
    not_grown is.log _ is.there is.goes_on

-- producer 0 wrote its first batch
abbrev written : List TopicValue
written = topics_produced (batch_to_append 1000 given None (pos 1) (partition_at a (pos 0)) (Some first_batch)) unwritten a (pos 0)

pub not_with_repeats : ¬ ProducesAsAnswered produce_answer topics_with_repeats
unfolding log_length bit_shift_by crc_after has_records is_valid first_fault records_at fixed_at whole_value sized_at nat_at int_at front_at many_at items_at after_count_at null_or after_null_count_at varint_at null_or_count null_count_at not_null required_at counted_at last_sequence next_sequence int_written
not_with_repeats law =
    let clash : ◌≡◌ {A = ℕ} 2 1 = ap length_at (law.repeat 1000 given None (pos 1) written a (sends (Some first_batch)) _ _ (pos 0) refl refl refl).same in cc

pub not_without_error : ¬ ProducesAsAnswered answering_without_error topics_produced
not_without_error law = by (law.appends 1000 no_transactions None (pos 1) unwritten a (sends None) refl) where
  by : {after : List TopicValue} {answer : ProducedOffset} → IsAppended unwritten after a (sends None) answer ⊎ IsRepeated unwritten after a (sends None) answer → ⊥
  by (inl is) = let clash : ◌≡◌ {A = Option (List ℕ)} None (Some is.batch.bytes) = is.sent in cc
  by (inr is) = let clash : ◌≡◌ {A = Option (List ℕ)} None (Some is.batch.bytes) = is.sent in cc

-- ---- what is proper

pub not_under_any_acks : ¬ AcceptsNothingElse batch_under_any_acks
unfolding bit_shift_by crc_after has_records is_valid first_fault records_at fixed_at whole_value sized_at nat_at int_at front_at many_at items_at after_count_at null_or after_null_count_at varint_at null_or_count null_count_at not_null required_at counted_at last_sequence next_sequence int_written
not_under_any_acks law = by (law 1000 no_transactions None (pos 5) unwritten a (sends (Some plain_batch)) refl).proper.known_acks where
  by : (pos 5 ≡ negsuc 0) ⊎ ((pos 5 ≡ pos 0) ⊎ (pos 5 ≡ pos 1)) → ⊥
  by (inl is) = let clash : pos 5 ≡ negsuc 0 = is in cc
  by (inr (inl is)) = let clash : pos 5 ≡ pos 0 = is in cc
  by (inr (inr is)) = let clash : pos 5 ≡ pos 1 = is in cc

bytes_sent : Option (List ℕ) → ℕ
bytes_sent None = 0
bytes_sent (Some sent) = length sent

pub not_of_any_size : ¬ AcceptsNothingElse batch_of_any_size
unfolding bytes_sent bit_shift_by crc_after has_records is_valid first_fault records_at fixed_at whole_value sized_at nat_at int_at front_at many_at items_at after_count_at null_or after_null_count_at varint_at null_or_count null_count_at not_null required_at counted_at last_sequence next_sequence int_written
not_of_any_size law =
    let proper = (law 10 no_transactions None (pos 1) unwritten a (sends (Some plain_batch)) refl).proper in
    let long : 68 ≡ length _ = ap bytes_sent proper.sent in
    omega (arith, ints, proper.small, long)

-- ---- a Produce of a batch that is proper, and next

abbrev produces : List ℕ → ProduceRequest
produces sent = record { transactional_id = None; acks = pos 1; timeout = pos 0; topics = record { name = a; partitions = sends (Some sent) ∷ [] } ∷ [] }

abbrev before : World
before = record w { topics = unwritten }

abbrev after : List TopicValue
after = topics_produced (batch_to_append 1048576 no_transactions None (pos 1) (partition_at a (pos 0)) (Some plain_batch)) unwritten a (pos 0)

taken : IsRightlyAnswered 1048576 no_transactions None (pos 1) unwritten after a (sends (Some plain_batch))
unfolding bit_shift_by crc_after has_records is_valid first_fault records_at fixed_at whole_value sized_at nat_at int_at front_at many_at items_at after_count_at null_or after_null_count_at varint_at null_or_count null_count_at not_null required_at counted_at last_sequence next_sequence int_written
taken = accepts_nothing_else 1048576 no_transactions None (pos 1) unwritten a (sends (Some plain_batch)) refl

is_next : IsNextOf taken.log taken.b
unfolding log_length bit_shift_by crc_after has_records is_valid first_fault records_at fixed_at whole_value sized_at nat_at int_at front_at many_at items_at after_count_at null_or after_null_count_at varint_at null_or_count null_count_at not_null required_at counted_at last_sequence next_sequence int_written
is_next = by taken.next where
  by : IsNextOf taken.log taken.b ⊎ (after ≡ unwritten) → IsNextOf taken.log taken.b
  by (inl next) = next
  by (inr same) = absurd (let clash : ◌≡◌ {A = ℕ} 1 0 = ap length_at same in cc)

part : HasPart before root (produces plain_batch) a (sends (Some plain_batch))
part = record { before = []; parts = []; rest = []; after = []; asks = refl; others = (tt, tt); topic_granted = refl; id_granted = λ id named. absurd (let clash : ◌≡◌ {A = Option (List ℕ)} None (Some id) = named in cc) }

pub not_producing_nothing : ¬ AcceptsWhatItOught producing_nothing
not_producing_nothing law =
    let served = law.request before root (produces plain_batch) a (sends (Some plain_batch)) taken.log taken.b part taken.proper taken.there is_next in
    not_grown taken.log served.taken.placed taken.there served.taken.goes_on

pub not_for_all_replicas : ¬ AcceptsWhatItOught producing_for_all_replicas
not_for_all_replicas law =
    let served = law.request before root (produces plain_batch) a (sends (Some plain_batch)) taken.log taken.b part taken.proper taken.there is_next in
    not_grown taken.log served.taken.placed taken.there served.taken.goes_on

-- ---- a broker on which producer 0 wrote its first batch

abbrev settings : Settings
settings = record { node_id = pos 0; host = bytes "h"; port = pos 9092; supers = bytes "User:root" ∷ []; trail_limit = pos 1000; max_batch = pos 1000; max_txn_timeout = pos 900000; topics = record { name = a; partitions = pos 1 } ∷ []; acls = [] }

abbrev events : List Event
events = Ask root None (requests.InitProducerId (record { transactional_id = None; timeout = pos 1000 })) ∷ Ask root None (requests.Produce (produces first_batch)) ∷ []

one_is_few : 1 ≤ 2147483648
one_is_few = omega arith

zero_is : pos 0 ≤ℤ pos 0
zero_is = omega (arith, ints)

-- that batch
at_front : Option LogValue → BatchData
at_front (Some (b ∷ rest)) = b
at_front log = batch (pos 0)

abbrev again : BatchData
again = at_front (log_at (world_after_events (first_world settings) events).topics a (pos 0))

pub not_repeats_as_next : ¬ LastFiveRepeat judging_repeats_as_next
unfolding at_front bit_shift_by crc_after has_records is_valid first_fault records_at fixed_at whole_value sized_at nat_at int_at front_at many_at items_at after_count_at null_or after_null_count_at varint_at null_or_count null_count_at not_null required_at counted_at last_sequence next_sequence int_written
not_repeats_as_next law =
    let clash : Next ≡ Repeat (pos 0) = (law.repeats settings events a (pos 0) _ [] [] again again (record { there = refl; place = refl; no_marker = refl; producer = zero_is; latest = ((λ same. zero_is), tt) }) (record { producer = refl; epoch = refl; sequence = refl; count = refl }) zero-le one_is_few).0 in cc

-- of producer 7, from its sequence number 5 on
abbrev gapped : BatchData
gapped = record (batch (pos 0)) { header = record (batch (pos 0)).header { base_sequence = pos 5 } }

not_last : (earlier : LogValue) (b : BatchData) (later : LogValue) → [] ≡ earlier ++ b ∷ later → ⊥
not_last [] b later h = let clash : ◌≡◌ {A = LogValue} [] (b ∷ later) = h in cc
not_last (x ∷ earlier) b later h = let clash : ◌≡◌ {A = LogValue} [] (x ∷ earlier ++ b ∷ later) = h in cc

leaves_gap : LeavesGap [] gapped
leaves_gap = record {
  producer = omega (arith, ints);
  latest = tt;
  not_first = λ alone begins. let clash : pos 5 ≡ pos 0 = begins in cc;
  not_next = λ earlier last own follows. not_last earlier last [] own;
  new = λ earlier later x own few same last. not_last earlier x later own;
}

pub not_gaps_as_next : ¬ LastFiveRepeat judging_gaps_as_next
not_gaps_as_next law =
    let late = (law.gaps settings [] a (pos 0) [] gapped refl leaves_gap).0 in
    let clash : Next ≡ Refused late.code = late.refused in cc

-- ---- what logs hold

pub not_of_repeats : ¬ HoldsOnce world_of_repeats
unfolding bit_shift_by crc_after has_records is_valid first_fault records_at fixed_at whole_value sized_at nat_at int_at front_at many_at items_at after_count_at null_or after_null_count_at varint_at null_or_count null_count_at not_null required_at counted_at last_sequence next_sequence int_written
not_of_repeats law = let clash : pos 0 ≡ pos 1 = (law settings events a (pos 0) _ (pos 0) (pos 0) refl zero_is).1.0 in cc

pub not_counting_repeats : ¬ OffsetsCountRecords world_of_repeats
unfolding bit_shift_by crc_after has_records is_valid first_fault records_at fixed_at whole_value sized_at nat_at int_at front_at many_at items_at after_count_at null_or after_null_count_at varint_at null_or_count null_count_at not_null required_at counted_at last_sequence next_sequence int_written
not_counting_repeats law = let clash : pos 0 ≡ pos 1 = law settings events a (pos 0) _ (_ ∷ []) [] _ refl refl in cc

pub not_from_offset_one : ¬ OffsetsCountRecords world_from_offset_one
unfolding bit_shift_by crc_after has_records is_valid first_fault records_at fixed_at whole_value sized_at nat_at int_at front_at many_at items_at after_count_at null_or after_null_count_at varint_at null_or_count null_count_at not_null required_at counted_at last_sequence next_sequence int_written
not_from_offset_one law = let clash : pos 1 ≡ pos 0 = law settings events a (pos 0) _ [] [] _ refl refl in cc

pub not_of_headers : ¬ LogsHoldCheckedBatches world_of_headers
unfolding bit_shift_by crc_after has_records is_valid first_fault records_at fixed_at whole_value sized_at nat_at int_at front_at many_at items_at after_count_at null_or after_null_count_at varint_at null_or_count null_count_at not_null required_at counted_at last_sequence next_sequence int_written
not_of_headers law = let clash : true ≡ false = ap is_some (law settings events a (pos 0) _ [] [] _ refl refl refl).faultless in cc

-- ---- a log of one batch, of a transaction of `x` that is open

abbrev open_events : List Event
open_events =
    Ask root None (requests.InitProducerId (record { transactional_id = Some (bytes "x"); timeout = pos 1000 }))
    ∷ Ask root None (requests.AddPartitionsToTxn (record { transactional_id = bytes "x"; producer = pos 0; epoch = pos 0; topics = record { name = a; partitions = pos 0 ∷ [] } ∷ [] }))
    ∷ Ask root None (requests.Produce (record (produces (sent_bytes (74 ∷ 207 ∷ 67 ∷ 99 ∷ []) 16 (replicate 14 0))) { transactional_id = Some (bytes "x") })) ∷ []

abbrev open_batch : BatchData
open_batch = at_front (log_at (world_after_events (first_world settings) open_events).topics a (pos 0))

fits : (n : ℤ) → n ≡ int_wrap w64 n → FitsSigned w64 n
fits n is = subst (FitsSigned w64) (sym is) (SFits-int_wrap w64 n)

is_log : IsLog (open_batch ∷ [])
unfolding at_front bit_shift_by crc_after has_records is_valid first_fault records_at fixed_at whole_value sized_at nat_at int_at front_at many_at items_at after_count_at null_or after_null_count_at varint_at null_or_count null_count_at not_null required_at counted_at last_sequence next_sequence int_written int_wrap
is_log = record {
  gapless = ((logs_hold_checked_batches settings open_events a (pos 0) (open_batch ∷ []) [] [] open_batch refl refl refl).batch (fits (pos 0) refl), refl, tt);
  offsets = All-cons HasOffsets open_batch [] (fits (pos 1) refl) (All-nil HasOffsets);
}

pub not_stable_at_the_end : ¬ LastStableIsExact stable_at_the_end
unfolding at_front bit_shift_by crc_after has_records is_valid first_fault records_at fixed_at whole_value sized_at nat_at int_at front_at many_at items_at after_count_at null_or after_null_count_at varint_at null_or_count null_count_at not_null required_at counted_at last_sequence next_sequence int_written
not_stable_at_the_end law =
    let low : pos 1 ≤ℤ pos 0 = (law (open_batch ∷ []) is_log).below [] [] open_batch refl (record { transactional = refl; no_marker = refl; unended = tt }) in
    omega (arith, ints, low)

pub not_stable_at_the_last : ¬ LastStableIsExact stable_at_the_last
not_stable_at_the_last law = by (law [] (record { gapless = tt; offsets = All-nil HasOffsets })).reached where
  by : (negsuc 0 ≡ pos 0) ⊎ HasUnendedAt [] (negsuc 0) → ⊥
  by (inl is) = let clash : negsuc 0 ≡ pos 0 = is in cc
  by (inr is) = not_last is.before is.batch is.after is.parts
