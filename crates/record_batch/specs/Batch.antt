-- Batches (Kafka documentation, "Message Format", "Record Batch"): what a batch is seen as, and
-- which bytes are one.
use Rattle.std.specs.Prelude.{◌≡◌, ℕ, ℤ, pos, negsuc, ◌+◌, ◌-◌, ◌+ℤ◌, ◌<◌, List, [], ◌∷◌, ◌++◌, length, drop, slice_range, Bool, true, false, ◌&&◌, not, int_lt, Option, Some, None, Result, Ok, Err, if◌then◌else◌}
use Rattle.std.specs.Ordering.{int_eq}
use Rattle.std.specs.Int.{w64}
use Rattle.std.specs.Int.RustNames.{FitsSigned}
use Rattle.wire_types.specs.declared.fault.Malformed.{Malformed}
use Rattle.wire_types.specs.Reading.{Found, ◌>>=◌}
use Rattle.wire_types.specs.Schema.{int32, int64}
use Rattle.record_batch.specs.declared.header.BatchHeader.{BatchHeader}
use Rattle.record_batch.specs.declared.transaction_result.TransactionResult.{TransactionResult}
use Rattle.record_batch.specs.declared.transaction_result.TransactionResult.TheVariants.{Abort, Commit}
use Rattle.record_batch.specs.declared.record.Rec.{Rec}
use Rattle.record_batch.specs.declared.record.RecordAt.{RecordAt}
use Rattle.record_batch.specs.Crc.{crc32c}
use Rattle.record_batch.specs.BatchHeader.{batch_header, is_uncompressed, has_append_time, is_transactional, is_control, count_of, header_next_offset, header_at}
use Rattle.record_batch.specs.Record.{AreRecords, all_records}

-- a batch: its fields, its records, the outcome that it marks if it is a control batch, and its
-- bytes
pub record BatchData : Type 0 where
  pub header : BatchHeader
  pub records : List Rec
  pub marker : Option TransactionResult
  pub bytes : List ℕ

abbrev pub found_or_none : Result (List Rec) Malformed → List Rec
found_or_none (Ok rs) = rs
found_or_none (Err e) = []

-- the batch of this header in these bytes, whose records stand after the header's 61 bytes
abbrev pub batch_of : BatchHeader → Option TransactionResult → List ℕ → BatchData
batch_of header marker bytes = record {
  header = header;
  records = found_or_none (all_records (count_of header.record_count) (drop 61 bytes));
  marker = marker;
  bytes = bytes;
}

-- a header that was found; where none was, so that the bytes are no batch, one of zeros
abbrev pub found_header : Found BatchHeader → BatchHeader
found_header (Ok found) = found.0
found_header (Err e) = record {
  base_offset = pos 0;
  batch_length = pos 0;
  partition_leader_epoch = pos 0;
  magic = pos 0;
  crc = 0;
  attributes = pos 0;
  last_offset_delta = pos 0;
  base_timestamp = pos 0;
  max_timestamp = pos 0;
  producer_id = pos 0;
  producer_epoch = pos 0;
  base_sequence = pos 0;
  record_count = pos 0;
}

-- the header that bytes begin with
unfoldable pub header_in : List ℕ → BatchHeader
header_in bytes = found_header (batch_header.reading bytes)

-- the batch in these bytes
abbrev pub batch_of_bytes : Option TransactionResult → List ℕ → BatchData
batch_of_bytes marker bytes = batch_of (header_in bytes) marker bytes

-- ---- which bytes are a batch

-- the record of a control batch that ends a transaction: a version 0 and the outcome in its key, a
-- version 0 and a coordinator epoch 0 in its value
abbrev pub marker_type : TransactionResult → ℕ
marker_type Abort = 0
marker_type Commit = 1

abbrev pub marker_record : TransactionResult → Rec
marker_record outcome = record {
  timestamp_delta = pos 0;
  key = Some (0 ∷ 0 ∷ 0 ∷ marker_type outcome ∷ []);
  value = Some (0 ∷ 0 ∷ 0 ∷ 0 ∷ 0 ∷ 0 ∷ []);
  headers = [];
}

-- a control batch has the one record of its outcome
abbrev pub IsMarked : Option TransactionResult → BatchHeader → List Rec → Type 0
IsMarked None header records = is_control header ≡ false
IsMarked (Some outcome) header records =
    (is_control header ≡ true) × (records ≡ marker_record outcome ∷ [])

-- A header and the records after it, whose number and whose bytes it tells, in format 2 and
-- uncompressed.
pub record IsBatch (b : BatchData) : Type 0 where
  pub front : List ℕ
  pub body : List ℕ
  pub parts : b.bytes ≡ front ++ body
  pub headed : batch_header.Spells front b.header
  pub recorded : AreRecords 0 body b.records
  pub some : 0 < length b.records
  pub counted : b.header.record_count ≡ pos (length b.records)
  pub numbered : b.header.last_offset_delta ≡ pos (length b.records - 1)
  -- the length counts the bytes that follow it, and the crc is of those that follow the crc
  pub ends : b.header.batch_length ≡ pos (length b.bytes - 12)
  pub summed : b.header.crc ≡ crc32c (drop 21 b.bytes)
  pub format : b.header.magic ≡ pos 2
  pub uncompressed : is_uncompressed b.header ≡ true
  pub created : has_append_time b.header ≡ false
  pub marked : IsMarked b.marker b.header b.records

-- ---- what a producer may send

-- a producer with an epoch and a sequence, or none and no transaction
abbrev pub has_producer : BatchHeader → Bool
has_producer h =
    if int_lt h.producer_id (pos 0)
    then (int_eq h.producer_id (negsuc 0) && not (is_transactional h))
    else (not (int_lt h.producer_epoch (pos 0)) && not (int_lt h.base_sequence (pos 0)))

-- ---- offsets

-- the offset after the last record
abbrev pub next_offset : BatchData → ℤ
next_offset b = header_next_offset b.header

-- the offsets of the batch, and the one after it, are numbers of 64 bits
abbrev pub HasOffsets : BatchData → Type 0
HasOffsets b = FitsSigned w64 (next_offset b)

-- the record at a place of the batch with this base offset
abbrev pub record_at_place : ℤ → ℕ → Rec → RecordAt
record_at_place base place r = record { offset = base +ℤ pos place; rec = r }

-- records at the places from this one on
abbrev pub placed_records : ℤ → ℕ → List Rec → List RecordAt
placed_records base place [] = []
placed_records base place (r ∷ rs) =
    record_at_place base place r ∷ placed_records base (place + 1) rs

-- the same of records that are found
abbrev pub placed_if_found : ℤ → ℕ → Found (List Rec) → Found (List RecordAt)
placed_if_found base place found = found >>= λ rs. Ok (placed_records base place rs.0, rs.1)

-- another base offset, and the leader epoch 0, in the same bytes
abbrev pub bytes_with_offset : ℤ → List ℕ → List ℕ
bytes_with_offset offset bytes =
    int64.written offset ++ (slice_range bytes 8 12 ++ (int32.written (pos 0) ++ drop 16 bytes))

-- the same batch at another offset
abbrev pub written_at : ℤ → BatchData → BatchData
written_at offset b = record b {
  header = header_at offset b.header;
  bytes = bytes_with_offset offset b.bytes;
}

-- where it has a place in a log, and else as it is
abbrev pub batch_placed : Option ℤ → BatchData → BatchData
batch_placed None b = b
batch_placed (Some offset) b = written_at offset b
