-- Wrong rules for batches: each is the right one, but for one mistake.
use Rattle.std.specs.Prelude.{ℕ, zero, suc, ℤ, pos, ◌-◌, ◌*◌, ◌/◌, ◌%◌, ◌^◌, List, [], ◌∷◌, ◌++◌, length, take, drop, bit_xor, Bool, not, map, ◌==◌, None, if◌then◌else◌}
use Rattle.std.specs.Ordering.{int_eq}
use Rattle.wire_types.specs.Schema.{uint32}
use Rattle.record_batch.specs.declared.header.BatchHeader.{BatchHeader}
use Rattle.record_batch.specs.declared.record.Rec.{Rec}
use Rattle.record_batch.specs.declared.transaction_result.TransactionResult.{TransactionResult}
use Rattle.record_batch.specs.declared.transaction_result.TransactionResult.TheVariants.{Abort, Commit}
use Rattle.record_batch.specs.Crc.{crc32c, crc_after}
use Rattle.record_batch.specs.BatchHeader.{has_bit, is_control, is_transactional}
use Rattle.record_batch.specs.Batch.{BatchData, header_in, batch_of_bytes, marker_type}
use Rattle.wire_laws.specs.Batches.{marker_bytes}
use Rattle.wire_laws.specs.BatchRules.{BatchRule, code_answered}

-- ---- what is answered

-- the bytes with their right sum
abbrev with_sum : List ℕ → List ℕ
with_sum bytes =
    take 17 bytes ++ (uint32.written (crc32c (drop 21 bytes)) ++ drop 21 bytes)

-- whatever sum a batch tells, it is taken
abbrev pub sums_are_not_looked_at : BatchRule
sums_are_not_looked_at max bytes = code_answered max (with_sum bytes)

-- one code is answered in place of another
abbrev other_code : ℤ → ℤ → ℤ → ℤ
other_code code other n = if int_eq n code then other else n

-- a corrupt batch is answered 87 (INVALID_RECORD), which a producer doesn't send again, in place of
-- 2 (CORRUPT_MESSAGE), which it does
abbrev pub corrupt_batches_are_invalid : BatchRule
corrupt_batches_are_invalid max bytes = other_code (pos 2) (pos 87) (code_answered max bytes)

-- a compressed batch is taken
abbrev pub compressed_batches_are_taken : BatchRule
compressed_batches_are_taken max bytes = other_code (pos 76) (pos 0) (code_answered max bytes)

-- a batch with LogAppendTime is taken
abbrev pub append_times_are_taken : BatchRule
append_times_are_taken max bytes = other_code (pos 32) (pos 0) (code_answered max bytes)

-- the low byte of the attributes without one of its bits
abbrev without_bit : ℕ → List ℕ → List ℕ
without_bit k [] = []
without_bit k (byte ∷ rest) = (byte - byte / 2 ^ k % 2 * 2 ^ k) ∷ rest

-- a producer's control batch is taken for data
abbrev pub control_batches_are_taken : BatchRule
control_batches_are_taken max bytes =
    if is_control (header_in bytes)
    then code_answered max (with_sum (take 22 bytes ++ without_bit 5 (drop 22 bytes)))
    else code_answered max bytes

-- a batch of any size is taken
abbrev pub sizes_are_not_looked_at : BatchRule
sizes_are_not_looked_at max bytes = code_answered (length bytes) bytes

-- ---- what is read

-- the baseTimestamp and the maxTimestamp are exchanged
abbrev pub timestamps_exchanged : List ℕ → BatchData
timestamps_exchanged bytes =
    let b : BatchData = batch_of_bytes None bytes in
    record b {
      header
          = record b.header {
            base_timestamp = b.header.max_timestamp;
            max_timestamp = b.header.base_timestamp;
          };
    }

-- the producerEpoch and the baseSequence are exchanged
abbrev pub epoch_and_sequence_exchanged : List ℕ → BatchData
epoch_and_sequence_exchanged bytes =
    let b : BatchData = batch_of_bytes None bytes in
    record b {
      header
          = record b.header {
            producer_epoch = b.header.base_sequence;
            base_sequence = b.header.producer_epoch;
          };
    }

-- the key and the value of one record
abbrev exchange_key : Rec → Rec
exchange_key r = record r { key = r.value; value = r.key }

-- the keys and the values are exchanged
abbrev pub keys_and_values_exchanged : List ℕ → BatchData
keys_and_values_exchanged bytes =
    let b : BatchData = batch_of_bytes None bytes in
    record b { records = map exchange_key b.records }

-- ---- attributes

-- bit 6 (0x40) tells a control batch
abbrev pub control_is_0x40 : BatchHeader → Bool
control_is_0x40 h = has_bit 6 h

-- bit 5 (0x20) tells a batch of a transaction
abbrev pub transactional_is_0x20 : BatchHeader → Bool
transactional_is_0x20 h = is_control h

-- bit 4 (0x10) tells LogAppendTime
abbrev pub append_time_is_0x10 : BatchHeader → Bool
append_time_is_0x10 h = is_transactional h

-- bit 0 (0x01) alone tells compression
abbrev pub compression_is_0x01 : BatchHeader → Bool
compression_is_0x01 h = not (has_bit 0 h)

-- ---- markers

-- each outcome has the other's type
abbrev pub types_swapped : TransactionResult → ℕ
types_swapped Abort = marker_type Commit
types_swapped Commit = marker_type Abort

-- the outcome that it isn't
abbrev other_outcome : TransactionResult → TransactionResult
other_outcome Abort = Commit
other_outcome Commit = Abort

-- a COMMIT is marked as an ABORT, and the other way round
abbrev pub outcomes_swapped : TransactionResult → ℤ → ℤ → ℤ → List ℕ
outcomes_swapped outcome producer epoch moment =
    marker_bytes (other_outcome outcome) producer epoch moment

-- a marker with the attributes 0x50 in place of 0x30
abbrev pub markers_with_0x50 : TransactionResult → ℤ → ℤ → ℤ → List ℕ
markers_with_0x50 outcome producer epoch moment =
    let bytes : List ℕ = marker_bytes outcome producer epoch moment in
    with_sum (take 22 bytes ++ (0x50 ∷ drop 23 bytes))

-- ---- sums

-- a byte comes in: the remainder by the polynomial of CRC-32, which Ethernet and zip files have
abbrev zip_shift : ℕ → ℕ
zip_shift c = if c % 2 == 1 then bit_xor (c / 2) 0xedb88320 else c / 2

-- so many bits are shifted out
abbrev zip_shift_by : ℕ → ℕ → ℕ
zip_shift_by zero c = c
zip_shift_by (suc k) c = zip_shift_by k (zip_shift c)

-- the remainder after these bytes
abbrev zip_after : ℕ → List ℕ → ℕ
zip_after c [] = c
zip_after c (byte ∷ bytes) = zip_after (zip_shift_by 8 (bit_xor c byte)) bytes

-- CRC-32 in place of CRC-32C
abbrev pub crc32 : List ℕ → ℕ
crc32 bytes = bit_xor (zip_after 0xffffffff bytes) 0xffffffff

-- the bits aren't inverted at the end
abbrev pub not_inverted_at_the_end : List ℕ → ℕ
not_inverted_at_the_end bytes = crc_after 0xffffffff bytes
