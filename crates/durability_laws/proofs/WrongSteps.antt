-- The wrong steps are refuted, each by a worked history.
use Rattle.std.proofs.Common.{◌≡◌, Bool, true, false, inl, ℕ, ℤ, pos, negsuc, List, [], ◌∷◌, ◌++◌, Option, Some, None, refl, sym, ap, subst, ◌∙◌, codes as bytes, arith, ◌⊎◌, inr, take}
use Rattle.std.specs.Prelude.{slice_get, ◌≤ℤ◌}
use Rattle.std.proofs.lemmas.Int.{ints}
use Rattle.wire_types.specs.declared.error_code.ErrorCode.TheVariants as codes
use Rattle.wire_types.specs.declared.topic.Topic.{Topic}
use Rattle.wire_types.specs.ErrorCode.{number_of}
use Rattle.wire_types.specs.CodedLaws.{named_or}
use Rattle.wire_types.specs.Spelling.{int_written}
use Rattle.wire_types.specs.Reading.{int_at, nat_at, required_at, null_count_at, varint_at, null_or_count, not_null, front_at, after_null_count_at, after_count_at, items_at, many_at, null_or, varint_limit}
use Rattle.settings.specs.declared.settings.Settings.{Settings}
use Rattle.record_batch.specs.Crc.{crc_after, bit_shift_by}
use Rattle.record_batch.specs.Faults.{has_records, is_valid, first_fault}
use Rattle.record_batch.specs.Record.{records_at}
use Rattle.record_batch.specs.CombinatorLaws.{whole_value, sized_at, fixed_at}
use Rattle.record_batch.specs.Batch.{BatchData, header_in}
use Rattle.partition_log.specs.Log.{last_stable_offset}
use Rattle.msg_data.specs.declared.isolation.Isolation.{Isolation}
use Rattle.msg_data.specs.declared.isolation.Isolation.TheVariants.{ReadUncommitted, ReadCommitted}
use Rattle.msg_data.specs.declared.produce.ProduceRequest.{ProduceRequest}
use Rattle.msg_data.specs.declared.produce.ProducedRecords.{ProducedRecords}
use Rattle.msg_data.specs.declared.produce.ProducedOffset.{ProducedOffset}
use Rattle.msg_data.specs.declared.fetch.FetchRequest.{FetchRequest}
use Rattle.msg_data.specs.declared.fetch.FetchPartition.{FetchPartition}
use Rattle.msg_data.specs.declared.fetch.FetchedRecords.{FetchedRecords}
use Rattle.msg_txn.specs.declared.end_txn.EndTxnRequest.TheVariants as versions
use Rattle.msg_admin.specs.declared.request.Request.TheVariants.{Produce, Fetch, InitProducerId, AddPartitionsToTxn, EndTxn}
use Rattle.audit_trail.specs.declared.event.Event.{Event}
use Rattle.audit_trail.specs.declared.event.Event.TheVariants.{Ask, Mark, Tick}
use Rattle.broker_world.specs.World.{World, LogValue}
use Rattle.broker_world.specs.First.{first_world}
use Rattle.broker_world.specs.HandlerResult.{HandlerResult}
use Rattle.broker_world.specs.Logs.{log_at}
use Rattle.read_laws.specs.Fetches.{at_place, topics_fetched, IsFetched, BeginsWith}
use Rattle.read_laws.proofs.WrongFetches.{root, holding, plain, unended}
use Rattle.durability_laws.specs.Steps.{StepRule, world_later}
use Rattle.wire_types.specs.Schema.{int64}
use Rattle.durability_laws.specs.Acknowledged.{HasBytesSent, HasDuplicateSent, KeepsWhatIsAcknowledged, KeepsWhatStands}
use Rattle.durability_laws.specs.Committed.{KeepsWhatIsStable, ServesWhatIsStable}
use Rattle.durability_laws.specs.ReadBack.{ReadsWhatIsAcknowledged}
use Rattle.durability_laws.specs.WrongSteps.{step_keeping_the_offset_sent, step_fetching_as_committed, step_appending_nothing, step_telling_the_next_offset, step_keeping_the_last_batch, step_taking_transactions_out, step_taking_markers_out, step_without_the_last_batch, step_without_a_large_batch}

-- ---- what stands

none_stands : (before after : LogValue) (b : BatchData) → ◌≡◌ {A = Option LogValue} (Some []) (Some (before ++ b ∷ after)) → ⊥
none_stands [] after b h = cc
none_stands (x ∷ before) after b h = cc

one_stands : (x : BatchData) (before after : LogValue) (b : BatchData) → Some (x ∷ []) ≡ Some (before ++ b ∷ after) → b ≡ x
one_stands x [] after b h = let same : x ≡ b = cc in sym same
one_stands x (y ∷ []) after b h = absurd (let clash : ◌≡◌ {A = LogValue} [] (b ∷ after) = cc in cc)
one_stands x (y ∷ z ∷ before) after b h = absurd (let clash : ◌≡◌ {A = LogValue} [] (z ∷ (before ++ b ∷ after)) = cc in cc)

-- ---- logs that hold two batches, or one of an open transaction

second : BatchData
second = record plain { header = record plain.header { base_offset = pos 1 } }

pub stands_not_the_last_alone : ¬ KeepsWhatStands step_keeping_the_last_batch
unfolding second
stands_not_the_last_alone law =
    let stands = law (holding ((plain ∷ second ∷ []) ∷ [])) (bytes "a") (pos 0) (pos 0) plain (Tick 0 ∷ []) (record { before = []; after = second ∷ []; log = refl; at = refl }) in
    let same = one_stands second stands.before stands.after plain stands.log in
    let clash : pos 0 ≡ pos 1 = ap (λ (b : BatchData). b.header.base_offset) same in
    cc

pub stands_in_transactions : ¬ KeepsWhatStands step_taking_transactions_out
stands_in_transactions law =
    let stands = law (holding ((unended ∷ []) ∷ [])) (bytes "a") (pos 0) (pos 0) unended (Mark ∷ []) (record { before = []; after = []; log = refl; at = refl }) in
    none_stands stands.before stands.after unended stands.log

-- ---- Produces of a batch of no producer

abbrev hello : List ℕ
hello = 0 ∷ 0 ∷ 0 ∷ 0 ∷ 0 ∷ 0 ∷ 0 ∷ 0 ∷ 0 ∷ 0 ∷ 0 ∷ 61 ∷ 0 ∷ 0 ∷ 0 ∷ 0 ∷ 2 ∷ 102 ∷ 54 ∷ 252 ∷ 89 ∷ 0 ∷ 0 ∷ 0 ∷ 0 ∷ 0 ∷ 0 ∷ 0 ∷ 0 ∷ 0 ∷ 0 ∷ 0 ∷ 0 ∷ 0 ∷ 0 ∷ 0 ∷ 0 ∷ 0 ∷ 0 ∷ 0 ∷ 0 ∷ 0 ∷ 0 ∷ 255 ∷ 255 ∷ 255 ∷ 255 ∷ 255 ∷ 255 ∷ 255 ∷ 255 ∷ 255 ∷ 255 ∷ 255 ∷ 255 ∷ 255 ∷ 255 ∷ 0 ∷ 0 ∷ 0 ∷ 1 ∷ 22 ∷ 0 ∷ 0 ∷ 0 ∷ 1 ∷ 10 ∷ 104 ∷ 101 ∷ 108 ∷ 108 ∷ 111 ∷ 0 ∷ []

abbrev sent : ProducedRecords
sent = record { index = pos 0; records = Some hello }

abbrev part : Topic ProducedRecords
part = record { name = bytes "a"; partitions = sent ∷ [] }

abbrev request : ProduceRequest
request = record { transactional_id = None; acks = negsuc 0; timeout = pos 0; topics = part ∷ [] }

abbrev sends : Event
sends = Ask root None (Produce request)

abbrev told : ℤ → ProducedOffset
told offset = record { index = pos 0; error = codes.None; base_offset = offset; log_append_time = negsuc 0 }

pub acknowledged_not_dropped : ¬ KeepsWhatIsAcknowledged step_appending_nothing
unfolding crc_after bit_shift_by header_in has_records is_valid first_fault records_at whole_value sized_at fixed_at named_or int_at nat_at required_at null_count_at varint_at null_or_count not_null front_at after_null_count_at after_count_at items_at many_at null_or varint_limit int_written number_of
acknowledged_not_dropped law =
    let stored = law (holding ([] ∷ [])) root None request 0 0 part sent (told (pos 0)) [] refl refl refl refl in
    none_stands stored.stands.before stored.stands.after stored.batch stored.stands.log

-- the batch that stands first, and the others
abbrev first_of : Option LogValue → BatchData
first_of None = plain
first_of (Some []) = plain
first_of (Some (b ∷ rest)) = b

abbrev rest_of : Option LogValue → LogValue
rest_of None = []
rest_of (Some []) = []
rest_of (Some (b ∷ rest)) = rest

abbrev log_in : World → Option LogValue
log_in w = log_at w.topics (bytes "a") (pos 0)

abbrev base_of : Option LogValue → ℤ
base_of o = (first_of o).header.base_offset

pub acknowledged_at_its_offset : ¬ KeepsWhatIsAcknowledged step_telling_the_next_offset
unfolding crc_after bit_shift_by header_in has_records is_valid first_fault records_at whole_value sized_at fixed_at named_or int_at nat_at required_at null_count_at varint_at null_or_count not_null front_at after_null_count_at after_count_at items_at many_at null_or varint_limit int_written number_of
acknowledged_at_its_offset law =
    let w = world_later step_telling_the_next_offset (holding ([] ∷ [])) (sends ∷ []) in
    let stored = law (holding ([] ∷ [])) root None request 0 0 part sent (told (pos 1)) [] refl refl refl refl in
    let same = one_stands (first_of (log_in w)) stored.stands.before stored.stands.after stored.batch stored.stands.log in
    let clash : pos 0 ≡ pos 1 = sym (ap (λ (b : BatchData). b.header.base_offset) same) ∙ stored.stands.at in
    cc

pub acknowledged_not_the_last_alone : ¬ KeepsWhatIsAcknowledged step_keeping_the_last_batch
unfolding crc_after bit_shift_by header_in has_records is_valid first_fault records_at whole_value sized_at fixed_at named_or int_at nat_at required_at null_count_at varint_at null_or_count not_null front_at after_null_count_at after_count_at items_at many_at null_or varint_limit int_written number_of
acknowledged_not_the_last_alone law =
    let w = world_later step_keeping_the_last_batch (holding ([] ∷ [])) (sends ∷ sends ∷ Tick 0 ∷ []) in
    let stored = law (holding ([] ∷ [])) root None request 0 0 part sent (told (pos 0)) (sends ∷ Tick 0 ∷ []) refl refl refl refl in
    let same = one_stands (first_of (log_in w)) stored.stands.before stored.stands.after stored.batch stored.stands.log in
    let clash : pos 1 ≡ pos 0 = sym (ap (λ (b : BatchData). b.header.base_offset) same) ∙ stored.stands.at in
    cc

two_stand : (x y : BatchData) (before after : LogValue) (b : BatchData) → Some (x ∷ y ∷ []) ≡ Some (before ++ b ∷ after) → (b ≡ x) ⊎ (b ≡ y)
two_stand x y [] after b h = inl (let same : x ≡ b = cc in sym same)
two_stand x y (z ∷ before) after b h = inr (one_stands y before after b (let rest : y ∷ [] ≡ before ++ b ∷ after = cc in ap (λ (l : LogValue). Some l) rest))

no_producer : (producer : ℤ) → pos 0 ≤ℤ producer → negsuc 0 ≡ producer → ⊥
no_producer producer low is = let clash : pos 0 ≤ℤ negsuc 0 = subst (λ (n : ℤ). pos 0 ≤ℤ n) (sym is) low in omega (arith, ints)

pub acknowledged_with_its_offset : ¬ KeepsWhatIsAcknowledged step_keeping_the_offset_sent
unfolding crc_after bit_shift_by header_in has_records is_valid first_fault records_at whole_value sized_at fixed_at named_or int_at nat_at required_at null_count_at varint_at null_or_count not_null front_at after_null_count_at after_count_at items_at many_at null_or varint_limit int_written number_of
acknowledged_with_its_offset law =
    let w = world_later step_keeping_the_offset_sent (holding ([] ∷ [])) (sends ∷ []) in
    let v = world_later step_keeping_the_offset_sent w (sends ∷ []) in
    let x = first_of (log_in v) in
    let y = first_of (Some (rest_of (log_in v))) in
    let stored = law w root None request 0 0 part sent (told (pos 1)) [] refl refl refl refl in
    by_place stored.batch x y stored.sent (two_stand x y stored.stands.before stored.stands.after stored.batch stored.stands.log) refl refl refl refl stored.stands.at stored.stored where
      by_bytes : (b y : BatchData) (sent : List ℕ) → b ≡ y → slice_get (take 8 y.bytes) 7 ≡ Some 0 → slice_get (int64.written y.header.base_offset) 7 ≡ Some 1 → y.header.producer_id ≡ negsuc 0 → HasBytesSent sent b ⊎ HasDuplicateSent sent b → ⊥
      by_bytes b y sent same zero one nobody (inl bytes) =
          let eighth : ◌≡◌ {A = Option ℕ} (Some 0) (Some 1) = sym zero ∙ ap (λ (a : BatchData). slice_get (take 8 a.bytes) 7) (sym same) ∙ ap (λ (l : List ℕ). slice_get l 7) bytes.base_offset ∙ ap (λ (a : BatchData). slice_get (int64.written a.header.base_offset) 7) same ∙ one in
          cc
      by_bytes b y sent same zero one nobody (inr d) = no_producer d.duplicate.header.producer_id d.of_producer (sym nobody ∙ ap (λ (a : BatchData). a.header.producer_id) (sym same) ∙ d.producer)

      by_place : (b x y : BatchData) (sent : List ℕ) → (b ≡ x) ⊎ (b ≡ y) → x.header.base_offset ≡ pos 0 → slice_get (take 8 y.bytes) 7 ≡ Some 0 → slice_get (int64.written y.header.base_offset) 7 ≡ Some 1 → y.header.producer_id ≡ negsuc 0 → b.header.base_offset ≡ pos 1 → HasBytesSent sent b ⊎ HasDuplicateSent sent b → ⊥
      by_place b x y sent (inl same) first zero one nobody at is = let clash : pos 0 ≡ pos 1 = sym first ∙ ap (λ (a : BatchData). a.header.base_offset) (sym same) ∙ at in cc
      by_place b x y sent (inr same) first zero one nobody at is = by_bytes b y sent same zero one nobody is

-- ---- from settings on

abbrev s : Settings
s = record { node_id = pos 0; host = bytes "h"; port = pos 9092; supers = bytes "User:root" ∷ []; trail_limit = pos 1000; max_batch = pos 1048576; max_txn_timeout = pos 900000; topics = record { name = bytes "a"; partitions = pos 1 } ∷ []; acls = [] }

abbrev wants : ℤ → FetchPartition
wants most = record { index = pos 0; offset = pos 0; max_bytes = most }

abbrev fetches : ℤ → FetchRequest
fetches most = record { replica = negsuc 0; max_wait = pos 0; min_bytes = pos 1; max_bytes = most; isolation = ReadCommitted; topics = record { name = bytes "a"; partitions = wants most ∷ [] } ∷ [] }

abbrev bytes_in : Option FetchedRecords → List ℕ
bytes_in None = []
bytes_in (Some answer) = answer.records

begins : (o : HandlerResult) (front found : List ℕ) → IsFetched o 0 0 (BeginsWith front) → bytes_in (at_place (topics_fetched o.reply) 0 0) ≡ found → BeginsWith front found
begins o front found is same = subst (BeginsWith front) (sym (ap bytes_in is.told) ∙ same) is.records

abbrev after_one : StepRule → World
after_one rule = world_later rule (first_world s) (sends ∷ [])

no_bytes : BeginsWith hello [] → ⊥
no_bytes (rest, is) = cc

pub served_also_last : ¬ ServesWhatIsStable step_without_the_last_batch
unfolding crc_after bit_shift_by header_in has_records is_valid first_fault records_at whole_value sized_at fixed_at named_or int_at nat_at required_at null_count_at varint_at null_or_count not_null front_at after_null_count_at after_count_at items_at many_at null_or varint_limit int_written number_of
served_also_last law =
    let w = after_one step_without_the_last_batch in
    let b = first_of (log_in w) in
    let answer = law s (sends ∷ []) [] (bytes "a") (pos 0) b (record { before = []; after = []; log = refl; below = record { le = tt } }) w refl root None (fetches (pos 1000)) 0 0 (wants (pos 1000))
    (record { topic = record { name = bytes "a"; partitions = wants (pos 1000) ∷ [] }; named = refl; asked = refl; same_name = refl; same_index = refl; may_read = refl; from = record { le = tt }; to = record { lt = tt } }) (inl refl)
    in
    no_bytes (begins (step_without_the_last_batch w (Ask root None (Fetch (fetches (pos 1000))))) hello [] answer refl)

pub served_also_large : ¬ ServesWhatIsStable step_without_a_large_batch
unfolding crc_after bit_shift_by header_in has_records is_valid first_fault records_at whole_value sized_at fixed_at named_or int_at nat_at required_at null_count_at varint_at null_or_count not_null front_at after_null_count_at after_count_at items_at many_at null_or varint_limit int_written number_of
served_also_large law =
    let w = after_one step_without_a_large_batch in
    let b = first_of (log_in w) in
    let answer = law s (sends ∷ []) [] (bytes "a") (pos 0) b (record { before = []; after = []; log = refl; below = record { le = tt } }) w refl root None (fetches (pos 10)) 0 0 (wants (pos 10))
    (record { topic = record { name = bytes "a"; partitions = wants (pos 10) ∷ [] }; named = refl; asked = refl; same_name = refl; same_index = refl; may_read = refl; from = record { le = tt }; to = record { lt = tt } }) (inl refl)
    in
    no_bytes (begins (step_without_a_large_batch w (Ask root None (Fetch (fetches (pos 10))))) hello [] answer refl)

-- two batches, of which a tick leaves the second
abbrev after_two : World
after_two = world_later step_keeping_the_last_batch (first_world s) (sends ∷ sends ∷ [])

abbrev eighth : List ℕ → Option ℕ
eighth l = slice_get l 7

pub served_not_the_last_alone : ¬ ServesWhatIsStable step_keeping_the_last_batch
unfolding crc_after bit_shift_by header_in has_records is_valid first_fault records_at whole_value sized_at fixed_at named_or int_at nat_at required_at null_count_at varint_at null_or_count not_null front_at after_null_count_at after_count_at items_at many_at null_or varint_limit int_written number_of
served_not_the_last_alone law =
    let w = world_later step_keeping_the_last_batch after_two (Tick 0 ∷ []) in
    let b = first_of (log_in after_two) in
    let answer = law s (sends ∷ sends ∷ []) (Tick 0 ∷ []) (bytes "a") (pos 0) b (record { before = []; after = rest_of (log_in after_two); log = refl; below = record { le = tt } }) w refl root None (fetches (pos 1000)) 0 0 (wants (pos 1000))
    (record { topic = record { name = bytes "a"; partitions = wants (pos 1000) ∷ [] }; named = refl; asked = refl; same_name = refl; same_index = refl; may_read = refl; from = record { le = tt }; to = record { lt = tt } }) (inl refl)
    in
    let found = bytes_in (at_place (topics_fetched (step_keeping_the_last_batch w (Ask root None (Fetch (fetches (pos 1000))))).reply) 0 0) in
    let front = begins (step_keeping_the_last_batch w (Ask root None (Fetch (fetches (pos 1000))))) hello found answer refl in
    let clash : ◌≡◌ {A = Option ℕ} (Some 1) (Some 0) = ap eighth front.1 in
    cc

-- ---- a transaction that is committed

abbrev of_transaction : List ℕ
of_transaction = 0 ∷ 0 ∷ 0 ∷ 0 ∷ 0 ∷ 0 ∷ 0 ∷ 0 ∷ 0 ∷ 0 ∷ 0 ∷ 61 ∷ 0 ∷ 0 ∷ 0 ∷ 0 ∷ 2 ∷ 167 ∷ 236 ∷ 244 ∷ 135 ∷ 0 ∷ 16 ∷ 0 ∷ 0 ∷ 0 ∷ 0 ∷ 0 ∷ 0 ∷ 0 ∷ 0 ∷ 0 ∷ 0 ∷ 0 ∷ 0 ∷ 0 ∷ 0 ∷ 0 ∷ 0 ∷ 0 ∷ 0 ∷ 0 ∷ 0 ∷ 0 ∷ 0 ∷ 0 ∷ 0 ∷ 0 ∷ 0 ∷ 0 ∷ 0 ∷ 0 ∷ 0 ∷ 0 ∷ 0 ∷ 0 ∷ 0 ∷ 0 ∷ 0 ∷ 0 ∷ 1 ∷ 22 ∷ 0 ∷ 0 ∷ 0 ∷ 1 ∷ 10 ∷ 104 ∷ 101 ∷ 108 ∷ 108 ∷ 111 ∷ 0 ∷ []

abbrev opens : List Event
opens =
    Ask root None (InitProducerId (record { transactional_id = Some (bytes "t"); timeout = pos 60000 }))
    ∷ Ask root None (AddPartitionsToTxn (record { transactional_id = bytes "t"; producer = pos 0; epoch = pos 0; topics = record { name = bytes "a"; partitions = pos 0 ∷ [] } ∷ [] }))
    ∷ []

abbrev sent_open : ProducedRecords
sent_open = record { index = pos 0; records = Some of_transaction }

abbrev part_open : Topic ProducedRecords
part_open = record { name = bytes "a"; partitions = sent_open ∷ [] }

abbrev request_open : ProduceRequest
request_open = record { transactional_id = Some (bytes "t"); acks = negsuc 0; timeout = pos 0; topics = part_open ∷ [] }

abbrev commits : List Event
commits =
    opens
    ++ Ask root None (Produce request_open)
    ∷ Ask root None (EndTxn (versions.Version1 (record { transactional_id = bytes "t"; producer = pos 0; epoch = pos 0; committed = true })))
    ∷ Mark
    ∷ []

abbrev stable_in : Option LogValue → ℤ
stable_in None = pos 0
stable_in (Some log) = last_stable_offset log

pub stable_also_markers : ¬ KeepsWhatIsStable step_taking_markers_out
unfolding crc_after bit_shift_by header_in has_records is_valid first_fault records_at whole_value sized_at fixed_at named_or int_at nat_at required_at null_count_at varint_at null_or_count not_null front_at after_null_count_at after_count_at items_at many_at null_or varint_limit int_written number_of
stable_also_markers law =
    let w = world_later step_taking_markers_out (first_world s) commits in
    let b = first_of (log_in w) in
    let stable = law s commits (Tick 0 ∷ []) (bytes "a") (pos 0) b (record { before = []; after = rest_of (log_in w); log = refl; below = record { le = tt } }) in
    let ends : pos 0 ≡ last_stable_offset (stable.before ++ b ∷ stable.after) = ap stable_in stable.log in
    let below : pos 1 ≤ℤ pos 0 = subst (λ (n : ℤ). pos 1 ≤ℤ n) (sym ends) stable.below in
    omega (arith, ints)

-- ---- what was acknowledged is read back

no_front : (front : List ℕ) → BeginsWith front [] → front ≡ []
no_front [] h = refl
no_front (x ∷ xs) (rest, is) = absurd cc

abbrev some : List ℕ → Bool
some [] = false
some (x ∷ xs) = true

-- a batch that has bytes, and stands alone, is not read
unread : (x : BatchData) (before after : LogValue) (b : BatchData) → some x.bytes ≡ true → Some (x ∷ []) ≡ Some (before ++ b ∷ after) → BeginsWith b.bytes [] → ⊥
unread x before after b has stands front =
    let none : x.bytes ≡ [] = ap (λ (y : BatchData). y.bytes) (sym (one_stands x before after b stands)) ∙ no_front b.bytes front in
    let clash : true ≡ false = sym has ∙ ap some none in
    cc

abbrev reads : Isolation → ℤ → FetchRequest
reads level most = record (fetches most) { isolation = level }

pub read_also_last : ¬ ReadsWhatIsAcknowledged step_without_the_last_batch
unfolding crc_after bit_shift_by header_in has_records is_valid first_fault records_at whole_value sized_at fixed_at named_or int_at nat_at required_at null_count_at varint_at null_or_count not_null front_at after_null_count_at after_count_at items_at many_at null_or varint_limit int_written number_of
read_also_last law =
    let v = after_one step_without_the_last_batch in
    let back = law s [] root None request 0 0 part sent (told (pos 0)) [] refl refl refl refl v refl in
    let answer = back.read root None (reads ReadUncommitted (pos 1000)) 0 0 (wants (pos 1000))
    (record { topic = record { name = bytes "a"; partitions = wants (pos 1000) ∷ [] }; named = refl; asked = refl; same_name = refl; same_index = refl; may_read = refl; from = refl }) tt (inl refl)
    in
    unread (first_of (log_in v)) back.stored.stands.before back.stored.stands.after back.stored.batch refl back.stored.stands.log
    (begins (step_without_the_last_batch v (Ask root None (Fetch (reads ReadUncommitted (pos 1000))))) back.stored.batch.bytes [] answer refl)

pub read_also_uncommitted : ¬ ReadsWhatIsAcknowledged step_fetching_as_committed
unfolding crc_after bit_shift_by header_in has_records is_valid first_fault records_at whole_value sized_at fixed_at named_or int_at nat_at required_at null_count_at varint_at null_or_count not_null front_at after_null_count_at after_count_at items_at many_at null_or varint_limit int_written number_of
read_also_uncommitted law =
    let v = world_later step_fetching_as_committed (first_world s) (opens ++ Ask root None (Produce request_open) ∷ []) in
    let back = law s opens root None request_open 0 0 part_open sent_open (told (pos 0)) [] refl refl refl refl v refl in
    let answer = back.read root None (reads ReadUncommitted (pos 1000)) 0 0 (wants (pos 1000))
    (record { topic = record { name = bytes "a"; partitions = wants (pos 1000) ∷ [] }; named = refl; asked = refl; same_name = refl; same_index = refl; may_read = refl; from = refl }) tt (inl refl)
    in
    unread (first_of (log_in v)) back.stored.stands.before back.stored.stands.after back.stored.batch refl back.stored.stands.log
    (begins (step_fetching_as_committed v (Ask root None (Fetch (reads ReadUncommitted (pos 1000))))) back.stored.batch.bytes [] answer refl)

pub read_not_dropped : ¬ ReadsWhatIsAcknowledged step_appending_nothing
unfolding crc_after bit_shift_by header_in has_records is_valid first_fault records_at whole_value sized_at fixed_at named_or int_at nat_at required_at null_count_at varint_at null_or_count not_null front_at after_null_count_at after_count_at items_at many_at null_or varint_limit int_written number_of
read_not_dropped law =
    let v = after_one step_appending_nothing in
    let back = law s [] root None request 0 0 part sent (told (pos 0)) [] refl refl refl refl v refl in
    none_stands back.stored.stands.before back.stored.stands.after back.stored.batch back.stored.stands.log
