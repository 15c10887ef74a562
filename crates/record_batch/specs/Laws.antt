-- What holds of all batches.
use Rattle.std.specs.Prelude.{◌≡◌, ◌≤◌, ◌↔◌, ℕ, ℤ, List, length, drop, slice_range, None, FitsSigned}
use Rattle.std.specs.Int.{w64}
use Rattle.record_batch.specs.Batch.{BatchData, IsBatch, bytes_with_offset, written_at}
use Rattle.record_batch.specs.Faults.{IsData, first_fault, fault_at_any_size, fault_within}

-- bytes are one batch at most, with one list of records
abbrev pub OneBatch : Type 0
OneBatch = (b c : BatchData) → IsBatch b → IsBatch c → b.bytes ≡ c.bytes → b ≡ c

-- bytes without a fault are a batch of data that is small enough, and no other bytes are
abbrev pub FaultlessIsBatch : Type 0
FaultlessIsBatch =
    (max : ℕ) (bytes : List ℕ)
    → (first_fault max bytes ≡ None)
    ↔ ((b : BatchData) × (b.bytes ≡ bytes) × IsBatch b × IsData b × (length bytes ≤ max))

-- of two offsets the last one stays
abbrev pub LastOffsetStays : Type 0
LastOffsetStays =
    (b : BatchData) → IsBatch b → (first last : ℤ)
    → written_at last (written_at first b) ≡ written_at last b

-- another offset changes the bytes 0 to 7 and 12 to 15 alone
abbrev pub OffsetAloneChanges : Type 0
OffsetAloneChanges = (b : BatchData) → IsBatch b → (offset : ℤ)
    → (length (bytes_with_offset offset b.bytes) ≡ length b.bytes)
    × (slice_range (bytes_with_offset offset b.bytes) 8 12 ≡ slice_range b.bytes 8 12)
    × (drop 16 (bytes_with_offset offset b.bytes) ≡ drop 16 b.bytes)

-- a batch at another offset has the faults that it had
abbrev pub SameFaults : Type 0
SameFaults =
    (b : BatchData) → IsBatch b → (offset : ℤ) → FitsSigned w64 offset → (max : ℕ)
    → first_fault max (written_at offset b).bytes ≡ first_fault max b.bytes

-- the number of bytes is looked at last: the first fault is that of any size, or else that of the
-- size
abbrev pub SizeIsLast : Type 0
SizeIsLast =
    (max : ℕ) (bytes : List ℕ)
    → first_fault max bytes ≡ fault_within max bytes (fault_at_any_size bytes)
