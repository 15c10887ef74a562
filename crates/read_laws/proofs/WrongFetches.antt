-- The wrong rules for a Fetch are refuted, each in a worked world.
use Rattle.std.proofs.Common.{◌≡◌, inl, inr, ℕ, ℤ, pos, negsuc, List, [], ◌∷◌, ◌++◌, Option, Some, None, refl, sym, ap, subst, ◌∙◌, codes as bytes, arith}
use Rattle.std.specs.Prelude.{◌≤ℤ◌}
use Rattle.std.specs.List.{AllByRecursion}
use Rattle.std.proofs.lemmas.Int.{ints}
use Rattle.acl_binding.specs.declared.question.Caller.{Caller}
use Rattle.acl_binding.specs.Book.{empty_book}
use Rattle.wire_types.specs.declared.topic.Topic.{Topic}
use Rattle.wire_types.specs.ErrorCode.{number_of}
use Rattle.record_batch.specs.Batch.{BatchData, next_offset}
use Rattle.msg_data.specs.declared.isolation.Isolation.{Isolation}
use Rattle.msg_data.specs.declared.isolation.Isolation.TheVariants.{ReadUncommitted, ReadCommitted}
use Rattle.msg_data.specs.declared.fetch.FetchRequest.{FetchRequest}
use Rattle.msg_data.specs.declared.fetch.FetchPartition.{FetchPartition}
use Rattle.msg_data.specs.declared.fetch.FetchedRecords.{FetchedRecords}
use Rattle.txn_coordinator.specs.Coordinator.{no_transactions}
use Rattle.broker_world.specs.World.{World, LogValue}
use Rattle.broker_world.specs.HandlerResult.{HandlerResult}
use Rattle.read_laws.specs.Fetches.{at_place, topics_fetched, IsFetched, BeginsWith, IsReadable, IsNextBatch, bytes_of, IsRunFrom, IsWithinLimits, ServesWithinLimits, AnswersEachTopic, TellsTheHighWatermark, TellsOutOfRange, TellsMissing, TellsNoError, ServesTheNextBatch, ServesNothingElse, ServesWholeBatches, ServesAllThatFit}
use Rattle.read_laws.proofs.Fetches.{log_has}
use Rattle.read_laws.specs.WrongFetches.{fetch_always_out_of_range, fetch_answering_nobody, fetch_as_committed, fetch_as_uncommitted, fetch_after_the_offset, fetch_without_a_large_batch, fetch_one_partition, fetch_without_the_last_batch, fetch_cutting_batches, fetch_one_batch, fetch_above_the_level_end, fetch_never_used_up, fetch_without_a_partition_limit, fetch_never_an_error, fetch_out_of_range_at_the_end, fetch_telling_a_low_watermark, fetch_without_names}

-- ---- a topic `a` with partitions of such logs, of which the super user `root` asks

abbrev pub root : Caller
root = record { who = bytes "User:root"; host = bytes "h" }

abbrev pub holding : List LogValue → World
holding logs = record {
  node = record { node_id = pos 0; host = bytes "h"; port = pos 9092; max_batch = pos 1048576; max_txn_timeout = pos 900000 };
  supers = bytes "User:root" ∷ [];
  book = empty_book;
  topics = record { name = bytes "a"; partitions = logs } ∷ [];
  coordinator = no_transactions;
  groups = [];
  moment = 0;
  events = 0;
}

-- a batch of one record and three bytes at offset 0, of no producer
abbrev pub plain : BatchData
plain = record {
  header = record { base_offset = pos 0; batch_length = pos 0; partition_leader_epoch = pos 0; magic = pos 2; crc = 0; attributes = pos 0; last_offset_delta = pos 0; base_timestamp = pos 0; max_timestamp = pos 0; producer_id = negsuc 0; producer_epoch = negsuc 0; base_sequence = negsuc 0; record_count = pos 1 };
  records = record { timestamp_delta = pos 0; key = None; value = None; headers = [] } ∷ [];
  marker = None;
  bytes = 1 ∷ 2 ∷ 3 ∷ [];
}

-- one of a transaction that is open
abbrev pub unended : BatchData
unended = record plain { header = record plain.header { attributes = pos 16; producer_id = pos 0; producer_epoch = pos 0; base_sequence = pos 0 } }

abbrev from_start : ℤ → FetchPartition
from_start index = record { index = index; offset = pos 0; max_bytes = pos 100 }

abbrev asks : Isolation → ℤ → List FetchPartition → FetchRequest
asks level most partitions = record { replica = negsuc 0; max_wait = pos 0; min_bytes = pos 1; max_bytes = most; isolation = level; topics = record { name = bytes "a"; partitions = partitions } ∷ [] }

-- ---- what a law says of an answer

abbrev bytes_in : Option FetchedRecords → List ℕ
bytes_in None = []
bytes_in (Some told) = told.records

abbrev code_in : Option FetchedRecords → ℤ
code_in None = pos 0
code_in (Some told) = number_of told.error

records_are : (o : HandlerResult) (i j : ℕ) (Records : List ℕ → Type 0) (found : List ℕ) → IsFetched o i j Records → bytes_in (at_place (topics_fetched o.reply) i j) ≡ found → Records found
records_are o i j Records found told is = subst Records (sym (ap bytes_in told.told) ∙ is) told.records

no_bytes : BeginsWith (1 ∷ 2 ∷ 3 ∷ []) [] → ⊥
no_bytes (rest, is) = let clash : ◌≡◌ {A = List ℕ} [] (1 ∷ 2 ∷ 3 ∷ rest) = is in cc

-- ---- one partition with one batch

module _ (level : Isolation) (most : ℤ) where
  abbrev one : FetchRequest
  one = asks level most (from_start (pos 0) ∷ [])

  readable : (b : BatchData) → next_offset b ≡ pos 1 → IsReadable (holding ((b ∷ []) ∷ [])) root one 0 0 (from_start (pos 0)) (b ∷ [])
  readable b next = record {
    topic = record { name = bytes "a"; partitions = from_start (pos 0) ∷ [] };
    named = refl;
    asked = refl;
    may_read = refl;
    there = refl;
    from_start = record { le = tt };
    to_end = subst (λ (n : ℤ). pos 0 ≤ℤ n) (sym next) (record { le = tt });
  }

plain_next : (level : Isolation) → IsNextBatch level (plain ∷ []) (pos 0) plain
plain_next ReadUncommitted = record { before = []; after = []; parts = refl; passed = tt; reaches = record { lt = tt }; whole = record { le = tt } }
plain_next ReadCommitted = record { before = []; after = []; parts = refl; passed = tt; reaches = record { lt = tt }; whole = record { le = tt } }

abbrev pub world : World
world = holding ((plain ∷ []) ∷ [])

pub no_error_not_out_of_range : ¬ TellsNoError fetch_always_out_of_range
unfolding number_of
no_error_not_out_of_range law =
    let told = law world root (one ReadUncommitted (pos 100)) 0 0 (from_start (pos 0)) (plain ∷ []) (readable ReadUncommitted (pos 100) plain refl) in
    let clash : ◌≡◌ {A = ℤ} (pos 1) (pos 0) = ap code_in told.told ∙ told.error in
    cc

pub no_error_not_unanswered : ¬ TellsNoError fetch_answering_nobody
no_error_not_unanswered law =
    let told = law world root (one ReadUncommitted (pos 100)) 0 0 (from_start (pos 0)) (plain ∷ []) (readable ReadUncommitted (pos 100) plain refl) in
    let clash : None ≡ Some told.answer = told.told in
    cc

pub next_not_out_of_range : ¬ ServesTheNextBatch fetch_always_out_of_range
next_not_out_of_range law =
    no_bytes (records_are _ 0 0 (BeginsWith (1 ∷ 2 ∷ 3 ∷ [])) []
    (law world root (one ReadUncommitted (pos 100)) 0 0 (from_start (pos 0)) (plain ∷ []) plain (log_has world.topics (((omega arith, tt), tt), tt)) (readable ReadUncommitted (pos 100) plain refl) (plain_next ReadUncommitted) (inl refl)) refl)

-- the request has no room for the batch, which is the first
pub next_also_large : ¬ ServesTheNextBatch fetch_without_a_large_batch
next_also_large law =
    no_bytes (records_are _ 0 0 (BeginsWith (1 ∷ 2 ∷ 3 ∷ [])) []
    (law world root (one ReadUncommitted (pos 2)) 0 0 (from_start (pos 0)) (plain ∷ []) plain (log_has world.topics (((omega arith, tt), tt), tt)) (readable ReadUncommitted (pos 2) plain refl) (plain_next ReadUncommitted) (inl refl)) refl)

pub next_also_last : ¬ ServesTheNextBatch fetch_without_the_last_batch
next_also_last law =
    no_bytes (records_are _ 0 0 (BeginsWith (1 ∷ 2 ∷ 3 ∷ [])) []
    (law world root (one ReadCommitted (pos 100)) 0 0 (from_start (pos 0)) (plain ∷ []) plain (log_has world.topics (((omega arith, tt), tt), tt)) (readable ReadCommitted (pos 100) plain refl) (plain_next ReadCommitted) (inl refl)) refl)

pub next_not_after : ¬ ServesTheNextBatch fetch_after_the_offset
next_not_after law =
    no_bytes (records_are _ 0 0 (BeginsWith (1 ∷ 2 ∷ 3 ∷ [])) []
    (law world root (one ReadUncommitted (pos 100)) 0 0 (from_start (pos 0)) (plain ∷ []) plain (log_has world.topics (((omega arith, tt), tt), tt)) (readable ReadUncommitted (pos 100) plain refl) (plain_next ReadUncommitted) (inl refl)) refl)

-- ---- one partition with a batch of an open transaction

abbrev pub open_world : World
open_world = holding ((unended ∷ []) ∷ [])

pub next_of_level : ¬ ServesTheNextBatch fetch_as_committed
next_of_level law =
    no_bytes (records_are _ 0 0 (BeginsWith (1 ∷ 2 ∷ 3 ∷ [])) []
    (law open_world root (one ReadUncommitted (pos 100)) 0 0 (from_start (pos 0)) (unended ∷ []) unended (log_has open_world.topics (((omega arith, tt), tt), tt)) (readable ReadUncommitted (pos 100) unended refl)
    (record { before = []; after = []; parts = refl; passed = tt; reaches = record { lt = tt }; whole = record { le = tt } }) (inl refl)) refl)

-- the last stable offset is 0
above_stable : (batch : BatchData) (before after : List BatchData) → unended ∷ [] ≡ before ++ batch ∷ after → next_offset batch ≤ℤ pos 0 → ⊥
above_stable batch [] after parts whole =
    let same : unended ≡ batch = cc in
    let ended : pos 1 ≤ℤ pos 0 = subst (λ (b : BatchData). next_offset b ≤ℤ pos 0) (sym same) whole in
    omega (arith, ints)
above_stable batch (x ∷ []) after parts whole = let clash : [] ≡ batch ∷ after = cc in absurd cc
above_stable batch (x ∷ y ∷ before) after parts whole = let clash : [] ≡ y ∷ (before ++ batch ∷ after) = cc in absurd cc

pub else_nothing_of_level : ¬ ServesNothingElse fetch_as_uncommitted
else_nothing_of_level law =
    let none = records_are _ 0 0 (λ records. records ≡ []) (1 ∷ 2 ∷ 3 ∷ [])
    (law open_world root (one ReadCommitted (pos 100)) 0 0 (from_start (pos 0)) (unended ∷ []) (readable ReadCommitted (pos 100) unended refl)
    (λ batch next. above_stable batch next.before next.after next.parts next.whole)) refl
    in
    let clash : ◌≡◌ {A = List ℕ} (1 ∷ 2 ∷ 3 ∷ []) [] = none in
    cc

-- ---- two partitions with a batch each

abbrev both_world : World
both_world = holding ((plain ∷ []) ∷ (plain ∷ []) ∷ [])

abbrev both : FetchRequest
both = asks ReadUncommitted (pos 100) (from_start (pos 0) ∷ from_start (pos 1) ∷ [])

pub next_also_later : ¬ ServesTheNextBatch fetch_one_partition
next_also_later law =
    no_bytes (records_are _ 0 1 (BeginsWith (1 ∷ 2 ∷ 3 ∷ [])) []
    (law both_world root both 0 1 (from_start (pos 1)) (plain ∷ []) plain (log_has both_world.topics (((omega arith, tt), ((omega arith, tt), tt)), tt))
    (record { topic = record { name = bytes "a"; partitions = from_start (pos 0) ∷ from_start (pos 1) ∷ [] }; named = refl; asked = refl; may_read = refl; there = refl; from_start = record { le = tt }; to_end = record { le = tt } })
    (plain_next ReadUncommitted) (inr (record { le = tt }, record { le = tt }))) refl)

-- ---- one partition with two batches

abbrev second : BatchData
second = record plain { header = record plain.header { base_offset = pos 1 }; bytes = 4 ∷ 5 ∷ 6 ∷ [] }

abbrev second_unended : BatchData
second_unended = record unended { header = record unended.header { base_offset = pos 1 }; bytes = 4 ∷ 5 ∷ 6 ∷ [] }

-- none of them is passed
none_passed : (x : BatchData) (rest before after : List BatchData) → plain ∷ rest ≡ (x ∷ before) ++ after → next_offset x ≤ℤ pos 0 → ⊥
none_passed x rest before after parts passed =
    let same : plain ≡ x = cc in
    let ended : pos 1 ≤ℤ pos 0 = subst (λ (b : BatchData). next_offset b ≤ℤ pos 0) (sym same) passed in
    omega (arith, ints)

-- no run of the batch has two of its three bytes
not_two : (run : List BatchData) → IsRunFrom ReadUncommitted (plain ∷ []) (pos 0) run → ◌≡◌ {A = List ℕ} (1 ∷ 2 ∷ []) (bytes_of run) → ⊥
not_two [] is told = cc
not_two (b ∷ rest) is told = by_place is.before is.parts is.passed where
  by_place : (before : List BatchData) → plain ∷ [] ≡ before ++ ((b ∷ rest) ++ is.after) → AllByRecursion (λ (x : BatchData). next_offset x ≤ℤ pos 0) before → ⊥
  by_place [] parts passed =
      let same : b ≡ plain = cc in
      let clash : ◌≡◌ {A = List ℕ} (1 ∷ 2 ∷ []) (1 ∷ 2 ∷ 3 ∷ bytes_of rest) = told ∙ ap (λ (x : BatchData). x.bytes ++ bytes_of rest) same in
      cc
  by_place (x ∷ before) parts passed = none_passed x [] before ((b ∷ rest) ++ is.after) parts passed.0

pub whole_not_cut : ¬ ServesWholeBatches fetch_cutting_batches
whole_not_cut law =
    let told = records_are _ 0 0 (λ records. (run : List BatchData) × IsRunFrom ReadUncommitted (plain ∷ []) (pos 0) run × (records ≡ bytes_of run)) (1 ∷ 2 ∷ [])
    (law world root (one ReadUncommitted (pos 2)) 0 0 (from_start (pos 0)) (plain ∷ []) (readable ReadUncommitted (pos 2) plain refl)) refl
    in
    not_two told.0 told.1 told.2

-- no run below the last stable offset, which is 1, has all six bytes
not_six : (run : List BatchData) → IsRunFrom ReadCommitted (plain ∷ second_unended ∷ []) (pos 0) run → ◌≡◌ {A = List ℕ} (1 ∷ 2 ∷ 3 ∷ 4 ∷ 5 ∷ 6 ∷ []) (bytes_of run) → ⊥
not_six [] is told = cc
not_six (b ∷ []) is told = by_place is.before is.parts is.passed where
  by_place : (before : List BatchData) → plain ∷ second_unended ∷ [] ≡ before ++ ((b ∷ []) ++ is.after) → AllByRecursion (λ (x : BatchData). next_offset x ≤ℤ pos 0) before → ⊥
  by_place [] parts passed =
      let same : b ≡ plain = cc in
      let clash : ◌≡◌ {A = List ℕ} (1 ∷ 2 ∷ 3 ∷ 4 ∷ 5 ∷ 6 ∷ []) (1 ∷ 2 ∷ 3 ∷ []) = told ∙ ap (λ (x : BatchData). x.bytes ++ []) same in
      cc
  by_place (x ∷ before) parts passed = none_passed x (second_unended ∷ []) before ((b ∷ []) ++ is.after) parts passed.0
not_six (b ∷ c ∷ rest) is told = by_place is.before is.parts is.passed where
  by_place : (before : List BatchData) → plain ∷ second_unended ∷ [] ≡ before ++ ((b ∷ c ∷ rest) ++ is.after) → AllByRecursion (λ (x : BatchData). next_offset x ≤ℤ pos 0) before → ⊥
  by_place [] parts passed =
      let same : second_unended ≡ c = cc in
      let ended : pos 2 ≤ℤ pos 1 = subst (λ (x : BatchData). next_offset x ≤ℤ pos 1) (sym same) is.whole.1.0 in
      omega (arith, ints)
  by_place (x ∷ before) parts passed = none_passed x (second_unended ∷ []) before ((b ∷ c ∷ rest) ++ is.after) parts passed.0

pub whole_below_the_level_end : ¬ ServesWholeBatches fetch_above_the_level_end
whole_below_the_level_end law =
    let told = records_are _ 0 0 (λ records. (run : List BatchData) × IsRunFrom ReadCommitted (plain ∷ second_unended ∷ []) (pos 0) run × (records ≡ bytes_of run)) (1 ∷ 2 ∷ 3 ∷ 4 ∷ 5 ∷ 6 ∷ [])
    (law (holding ((plain ∷ second_unended ∷ []) ∷ [])) root (one ReadCommitted (pos 100)) 0 0 (from_start (pos 0)) (plain ∷ second_unended ∷ [])
    (record { topic = record { name = bytes "a"; partitions = from_start (pos 0) ∷ [] }; named = refl; asked = refl; may_read = refl; there = refl; from_start = record { le = tt }; to_end = record { le = tt } })) refl
    in
    not_six told.0 told.1 told.2

not_three : BeginsWith (1 ∷ 2 ∷ 3 ∷ 4 ∷ 5 ∷ 6 ∷ []) (1 ∷ 2 ∷ 3 ∷ []) → ⊥
not_three (rest, is) = let clash : ◌≡◌ {A = List ℕ} (1 ∷ 2 ∷ 3 ∷ []) (1 ∷ 2 ∷ 3 ∷ 4 ∷ 5 ∷ 6 ∷ rest) = is in cc

pub fitting_not_one_alone : ¬ ServesAllThatFit fetch_one_batch
fitting_not_one_alone law =
    let two = holding ((plain ∷ second ∷ []) ∷ []) in
    not_three (records_are _ 0 0 (BeginsWith (1 ∷ 2 ∷ 3 ∷ 4 ∷ 5 ∷ 6 ∷ [])) (1 ∷ 2 ∷ 3 ∷ [])
    (law two root (one ReadUncommitted (pos 100)) 0 0 (from_start (pos 0)) (plain ∷ second ∷ []) (plain ∷ second ∷ []) (log_has two.topics (((omega arith, (omega arith, tt)), tt), tt))
    (record { topic = record { name = bytes "a"; partitions = from_start (pos 0) ∷ [] }; named = refl; asked = refl; may_read = refl; there = refl; from_start = record { le = tt }; to_end = record { le = tt } })
    (record { before = []; after = []; parts = refl; passed = tt; reaches = record { lt = tt }; whole = (record { le = tt }, (record { le = tt }, tt)) }) (record { le = tt }) (record { le = tt })) refl)

-- ---- no more than the limits allow

-- with five bytes for both, the second partition isn't served three after three
abbrev both_in_five : FetchRequest
both_in_five = asks ReadUncommitted (pos 5) (from_start (pos 0) ∷ from_start (pos 1) ∷ [])

above_five : IsWithinLimits both_in_five (from_start (pos 1)) (plain ∷ []) 3 (1 ∷ 2 ∷ 3 ∷ []) → ⊥
above_five (inl fits) = let six : pos 6 ≤ℤ pos 5 = fits.1 in omega (arith, ints)
above_five (inr (inl one)) = let clash : ◌≡◌ {A = ℕ} 3 0 = one.0 in cc
above_five (inr (inr none)) = let clash : ◌≡◌ {A = List ℕ} (1 ∷ 2 ∷ 3 ∷ []) [] = none in cc

pub within_what_is_left : ¬ ServesWithinLimits fetch_never_used_up
within_what_is_left law =
    above_five (records_are _ 0 1 (IsWithinLimits both_in_five (from_start (pos 1)) (plain ∷ []) 3) (1 ∷ 2 ∷ 3 ∷ [])
    (law both_world root both_in_five 0 1 (from_start (pos 1)) (plain ∷ []) (log_has both_world.topics (((omega arith, tt), ((omega arith, tt), tt)), tt))
    (record { topic = record { name = bytes "a"; partitions = from_start (pos 0) ∷ from_start (pos 1) ∷ [] }; named = refl; asked = refl; may_read = refl; there = refl; from_start = record { le = tt }; to_end = record { le = tt } })) refl)

-- with three bytes of its own the partition isn't served six
abbrev three : FetchPartition
three = record { index = pos 0; offset = pos 0; max_bytes = pos 3 }

abbrev in_three : FetchRequest
in_three = asks ReadUncommitted (pos 100) (three ∷ [])

short : (b : BatchData) → IsNextBatch ReadUncommitted (plain ∷ second ∷ []) (pos 0) b → ◌≡◌ {A = List ℕ} (1 ∷ 2 ∷ 3 ∷ 4 ∷ 5 ∷ 6 ∷ []) b.bytes → ⊥
short b is told = by_place is.before is.parts is.passed where
  by_place : (before : List BatchData) → plain ∷ second ∷ [] ≡ before ++ b ∷ is.after → AllByRecursion (λ (x : BatchData). next_offset x ≤ℤ pos 0) before → ⊥
  by_place [] parts passed =
      let same : b ≡ plain = cc in
      let clash : ◌≡◌ {A = List ℕ} (1 ∷ 2 ∷ 3 ∷ 4 ∷ 5 ∷ 6 ∷ []) (1 ∷ 2 ∷ 3 ∷ []) = told ∙ ap (λ (x : BatchData). x.bytes) same in
      cc
  by_place (x ∷ before) parts passed = none_passed x (second ∷ []) before (b ∷ is.after) parts passed.0

above_three : IsWithinLimits in_three three (plain ∷ second ∷ []) 0 (1 ∷ 2 ∷ 3 ∷ 4 ∷ 5 ∷ 6 ∷ []) → ⊥
above_three (inl fits) = let six : pos 6 ≤ℤ pos 3 = fits.0 in omega (arith, ints)
above_three (inr (inl (none, (b, next, one)))) = short b next one
above_three (inr (inr none)) = let clash : ◌≡◌ {A = List ℕ} (1 ∷ 2 ∷ 3 ∷ 4 ∷ 5 ∷ 6 ∷ []) [] = none in cc

pub within_the_partition_limit : ¬ ServesWithinLimits fetch_without_a_partition_limit
within_the_partition_limit law =
    let two = holding ((plain ∷ second ∷ []) ∷ []) in
    above_three (records_are _ 0 0 (IsWithinLimits in_three three (plain ∷ second ∷ []) 0) (1 ∷ 2 ∷ 3 ∷ 4 ∷ 5 ∷ 6 ∷ [])
    (law two root in_three 0 0 three (plain ∷ second ∷ []) (log_has two.topics (((omega arith, (omega arith, tt)), tt), tt))
    (record { topic = record { name = bytes "a"; partitions = three ∷ [] }; named = refl; asked = refl; may_read = refl; there = refl; from_start = record { le = tt }; to_end = record { le = tt } })) refl)

-- ---- errors

abbrev from : ℤ → FetchPartition
from offset = record { index = pos 0; offset = offset; max_bytes = pos 100 }

pub no_error_at_the_end : ¬ TellsNoError fetch_out_of_range_at_the_end
unfolding number_of
no_error_at_the_end law =
    let told = law world root (asks ReadUncommitted (pos 100) (from (pos 1) ∷ [])) 0 0 (from (pos 1)) (plain ∷ [])
    (record { topic = record { name = bytes "a"; partitions = from (pos 1) ∷ [] }; named = refl; asked = refl; may_read = refl; there = refl; from_start = record { le = tt }; to_end = record { le = tt } })
    in
    let clash : ◌≡◌ {A = ℤ} (pos 1) (pos 0) = ap code_in told.told ∙ told.error in
    cc

pub out_of_range_is_told : ¬ TellsOutOfRange fetch_never_an_error
unfolding number_of
out_of_range_is_told law =
    let told = law world root (asks ReadUncommitted (pos 100) (from (pos 2) ∷ [])) 0 0 (record { name = bytes "a"; partitions = from (pos 2) ∷ [] }) (from (pos 2)) (plain ∷ [])
    (record { named = refl; asked = refl; may_read = refl }) refl (inr (record { lt = tt }))
    in
    let clash : ◌≡◌ {A = ℤ} (pos 0) (pos 1) = ap code_in told.told ∙ told.error in
    cc

pub missing_is_told : ¬ TellsMissing fetch_never_an_error
unfolding number_of
missing_is_told law =
    let told = law (holding []) root (asks ReadUncommitted (pos 100) (from (pos 0) ∷ [])) 0 0 (record { name = bytes "a"; partitions = from (pos 0) ∷ [] }) (from (pos 0))
    (record { named = refl; asked = refl; may_read = refl }) refl
    in
    let clash : ◌≡◌ {A = ℤ} (pos 0) (pos 3) = ap code_in told.told ∙ told.error in
    cc

abbrev high_in : Option FetchedRecords → ℤ
high_in None = negsuc 9
high_in (Some told) = told.high_watermark

pub watermark_not_the_stable_offset : ¬ TellsTheHighWatermark fetch_telling_a_low_watermark
watermark_not_the_stable_offset law =
    let told = law open_world root (one ReadUncommitted (pos 100)) 0 0 (from_start (pos 0)) (unended ∷ []) (readable ReadUncommitted (pos 100) unended refl) in
    let clash : ◌≡◌ {A = ℤ} (pos 0) (pos 1) = ap high_in told.told ∙ told.high_watermark in
    cc

abbrev name_in : Option (Topic FetchedRecords) → List ℕ
name_in None = []
name_in (Some t) = t.name

pub answered_by_name : ¬ AnswersEachTopic fetch_without_names
answered_by_name law =
    let told = law.places world root (one ReadUncommitted (pos 100)) 0 (record { name = bytes "a"; partitions = from_start (pos 0) ∷ [] }) refl in
    let clash : ◌≡◌ {A = List ℕ} [] (97 ∷ []) = ap name_in told.is ∙ told.name in
    cc
