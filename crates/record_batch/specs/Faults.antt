-- The faults of bytes that a producer sent as a batch, in order.
use Rattle.std.specs.Prelude.{◌≡◌, ℕ, ℤ, pos, negsuc, ◌+◌, ◌-ℤ◌, List, [], ◌∷◌, length, slice_range, Bool, true, false, ◌&&◌, not, ◌==◌, nat_lt, nat_le, int_lt, is_ok, Option, Some, None, Result, Ok, Err, if◌then◌else◌}
use Rattle.std.specs.Ordering.{int_eq}
use Rattle.wire_types.specs.Reading.{Found}
use Rattle.record_batch.specs.declared.header.BatchHeader.{BatchHeader}
use Rattle.record_batch.specs.declared.fault.BatchFault.{BatchFault}
use Rattle.record_batch.specs.declared.fault.BatchFault.TheVariants.{Length, Magic, Crc, Compressed, Invalid, Timestamp, TooLarge}
use Rattle.record_batch.specs.Crc.{crc32c}
use Rattle.record_batch.specs.BatchHeader.{batch_header, is_uncompressed, has_append_time, is_control, count_of}
use Rattle.record_batch.specs.Record.{all_records}
use Rattle.record_batch.specs.Batch.{BatchData, has_producer}

-- where a batch of this length ends: the length counts what follows its first 12 bytes
abbrev pub end_of : ℤ → ℕ
end_of (pos n) = n + 12
end_of (negsuc n) = 0

-- the 49 bytes of a header that follow the length are counted, and all that is counted is there
abbrev pub has_length : ℕ → ℤ → Bool
has_length total (pos n) = nat_le 49 n && nat_le (n + 12) total
has_length total (negsuc n) = false

-- at least one record, of which the last has the last offset delta
abbrev pub has_count : BatchHeader → Bool
has_count h = int_lt (pos 0) h.record_count && int_eq (h.record_count -ℤ pos 1) h.last_offset_delta

-- the records that are counted, and nothing else
unfoldable pub has_records : BatchHeader → List ℕ → Bool
has_records h body = is_ok (all_records (count_of h.record_count) body)

-- data of a producer, or of none, with nothing after the batch
unfoldable pub is_valid : BatchHeader → List ℕ → List ℕ → Bool
is_valid h body bytes =
    (end_of h.batch_length == length bytes) && not (is_control h) && has_count h && has_producer h
    && has_records h body

-- each fault with the test that finds it, in order: first those of the format, and then those of
-- the data
abbrev pub data_tests : ℕ → List ℕ → BatchHeader → List ℕ → List (Bool × BatchFault)
data_tests max bytes h body =
    (not (is_valid h body bytes), Invalid)
    ∷ (has_append_time h, Timestamp)
    ∷ (nat_lt max (length bytes), TooLarge)
    ∷ []

abbrev pub fault_tests : ℕ → List ℕ → BatchHeader → List ℕ → List (Bool × BatchFault)
fault_tests max bytes h body =
    (not (has_length (length bytes) h.batch_length), Length)
    ∷ (not (int_eq h.magic (pos 2)), Magic)
    ∷ (not (h.crc == crc32c (slice_range bytes 21 (end_of h.batch_length))), Crc)
    ∷ (not (is_uncompressed h), Compressed)
    ∷ data_tests max bytes h body

abbrev pub first_found : List (Bool × BatchFault) → Option BatchFault
first_found [] = None
first_found (test ∷ tests) = if test.0 then Some test.1 else first_found tests

-- after a header; where the bytes are fewer than one has, that is the fault
abbrev pub fault_after_header : ℕ → List ℕ → Found BatchHeader → Option BatchFault
fault_after_header max bytes (Ok h) = first_found (fault_tests max bytes h.0 h.1)
fault_after_header max bytes (Err e) = Some Length

-- the first fault of these bytes as a batch of at most so many
unfoldable pub first_fault : ℕ → List ℕ → Option BatchFault
first_fault max bytes = fault_after_header max bytes (batch_header.reading bytes)

-- the first fault of these bytes, whatever their number
abbrev pub fault_at_any_size : List ℕ → Option BatchFault
fault_at_any_size bytes = first_fault (length bytes) bytes

-- the same where at most so many bytes are taken, which is looked at last
abbrev pub fault_within : ℕ → List ℕ → Option BatchFault → Option BatchFault
fault_within max bytes (Some fault) = Some fault
fault_within max bytes None = if nat_lt max (length bytes) then Some TooLarge else None

-- data of a producer, or of none: what a batch has to be beside its format
pub record IsData (b : BatchData) : Type 0 where
  pub unmarked : b.marker ≡ None
  pub producer : has_producer b.header ≡ true

-- the fault that was answered, if one was
abbrev pub fault_in : {T : Type 0} → Result T BatchFault → Option BatchFault
fault_in (Ok b) = None
fault_in (Err fault) = Some fault
