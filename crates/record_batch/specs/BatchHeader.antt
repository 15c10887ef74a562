-- The header of a batch (Kafka documentation, "Message Format", "Record Batch"), and what its
-- attributes say.
use Rattle.std.specs.Prelude.{ℕ, ℤ, pos, negsuc, ◌+ℤ◌, ◌/◌, ◌%◌, ◌^◌, Bool, ◌==◌, refl}
use Rattle.std.specs.Int.{w16, cast_unsigned}
use Rattle.wire_types.specs.Grammar.{Grammar}
use Rattle.wire_types.specs.Combinators.{◌⨟◌, struct}
use Rattle.wire_types.specs.Schema.{int8, int16, int32, int64, uint32}
use Rattle.record_batch.specs.declared.header.BatchHeader.{BatchHeader}

-- its last eight fields, which the crc covers
abbrev pub Covered : Type 0
Covered = ℤ × (ℤ × (ℤ × (ℤ × (ℤ × (ℤ × (ℤ × ℤ))))))

abbrev pub batch_header : Grammar BatchHeader
batch_header = struct
    (λ (x : ℤ × (ℤ × (ℤ × (ℤ × (ℕ × Covered))))). record {
      base_offset = x.0;
      batch_length = x.1.0;
      partition_leader_epoch = x.1.1.0;
      magic = x.1.1.1.0;
      crc = x.1.1.1.1.0;
      attributes = x.1.1.1.1.1.0;
      last_offset_delta = x.1.1.1.1.1.1.0;
      base_timestamp = x.1.1.1.1.1.1.1.0;
      max_timestamp = x.1.1.1.1.1.1.1.1.0;
      producer_id = x.1.1.1.1.1.1.1.1.1.0;
      producer_epoch = x.1.1.1.1.1.1.1.1.1.1.0;
      base_sequence = x.1.1.1.1.1.1.1.1.1.1.1.0;
      record_count = x.1.1.1.1.1.1.1.1.1.1.1.1;
    })
    (λ h. (
      h.base_offset,
      (
        h.batch_length,
        (
          h.partition_leader_epoch,
          (
            h.magic,
            (
              h.crc,
              (
                h.attributes,
                (
                  h.last_offset_delta,
                  (
                    h.base_timestamp,
                    (
                      h.max_timestamp,
                      (h.producer_id, (h.producer_epoch, (h.base_sequence, h.record_count))),
                    ),
                  ),
                ),
              ),
            ),
          ),
        ),
      ),
    ))
    (λ x. refl) (λ h. refl)
    (int64 ⨟ int32 ⨟ int32 ⨟ int8 ⨟ uint32 ⨟ int16 ⨟ int32 ⨟ int64 ⨟ int64 ⨟ int64 ⨟ int16 ⨟ int32 ⨟
    int32)

-- ---- attributes

-- the two bytes of attributes as an unsigned number, whose bits are numbered from the lowest
abbrev pub attribute_bits : BatchHeader → ℕ
attribute_bits h = cast_unsigned w16 h.attributes

abbrev pub has_bit : ℕ → BatchHeader → Bool
has_bit k h = attribute_bits h / 2 ^ k % 2 == 1

-- bits 0 to 2 tell the compression, 0 being none
abbrev pub is_uncompressed : BatchHeader → Bool
is_uncompressed h = attribute_bits h % 8 == 0

-- bit 3 tells the timestamp's type: set where the time is that of the append
abbrev pub has_append_time : BatchHeader → Bool
has_append_time = has_bit 3

abbrev pub is_transactional : BatchHeader → Bool
is_transactional = has_bit 4

abbrev pub is_control : BatchHeader → Bool
is_control = has_bit 5

-- ---- records and offsets

-- the number of records, where one is told
abbrev pub count_of : ℤ → ℕ
count_of (pos n) = n
count_of (negsuc n) = 0

-- the offset after the last record
abbrev pub header_next_offset : BatchHeader → ℤ
header_next_offset h = h.base_offset +ℤ (h.last_offset_delta +ℤ pos 1)

-- another base offset, and the leader epoch 0
abbrev pub header_at : ℤ → BatchHeader → BatchHeader
header_at offset h = record h { base_offset = offset; partition_leader_epoch = pos 0 }
