-- Which bytes a producer's batch may be, by the error code that each is answered, what its
-- attributes say, and its sum (Kafka documentation, "Record Batch"; Kafka protocol guide, "Error
-- Codes").
use Rattle.std.specs.Prelude.{◌≡◌, ◌<◌, ◌+◌, ◌*◌, ℕ, zero, suc, ℤ, pos, List, [], ◌∷◌, ◌++◌, take, drop, bit_xor, Bool, true, false, ◌==◌, Option, Some, None, codes as text}
use Rattle.std.specs.Int.{w16, cast_unsigned}
use Rattle.wire_types.specs.ErrorCode.{number_of}
use Rattle.record_batch.specs.declared.fault.BatchFault.{BatchFault}
use Rattle.record_batch.specs.declared.header.BatchHeader.{BatchHeader}
use Rattle.record_batch.specs.Fault.{code_of}
use Rattle.record_batch.specs.Faults.{first_fault}
use Rattle.wire_laws.specs.Frames.{repeated}
use Rattle.wire_laws.specs.Batches.{plain_batch, producer_batch, compressed_batch, append_time_batch, control_batch, commit_marker}

-- ---- what is answered

-- the error code that bytes are answered as a batch of at most so many, 0 where they are taken
abbrev pub BatchRule : Type 0
BatchRule = ℕ → List ℕ → ℤ

-- the error code of a fault, and 0 where there is none
abbrev answered : Option BatchFault → ℤ
answered None = pos 0
answered (Some fault) = number_of (code_of fault)

-- the error code of the first fault
abbrev pub code_answered : BatchRule
code_answered max bytes = answered (first_fault max bytes)

-- the lowest bit of the first byte is another
abbrev other_front : List ℕ → List ℕ
other_front [] = []
other_front (byte ∷ rest) = bit_xor byte 1 ∷ rest

-- the byte at a place is another
abbrev pub changed : ℕ → List ℕ → List ℕ
changed place bytes = take place bytes ++ other_front (drop place bytes)

-- each of so many bytes from a place on is changed in turn, and so it is answered
abbrev pub AnswersChanged : BatchRule → List ℕ → ℕ → ℕ → ℤ → Type 0
AnswersChanged rule bytes place zero code = Unit {0}
AnswersChanged rule bytes place (suc n) code =
    (rule 1000 (changed place bytes) ≡ code) × AnswersChanged rule bytes (place + 1) n code

-- what batches of data are answered, whole, with a byte changed, or with other attributes
pub record AnswersBatches (rule : BatchRule) : Type 0 where
  -- whole batches are taken
  pub plain : rule 1000 plain_batch ≡ pos 0
  pub producer : rule 1000 producer_batch ≡ pos 0
  -- a byte of the sum is changed, or one of those that it covers: 2, CORRUPT_MESSAGE
  pub changes : AnswersChanged rule plain_batch 17 53 (pos 2)
  -- the baseOffset and the partitionLeaderEpoch aren't covered
  pub offsets : AnswersChanged rule plain_batch 0 8 (pos 0)
  pub epochs : AnswersChanged rule plain_batch 12 4 (pos 0)
  -- another magic: 87, INVALID_RECORD
  pub magic : rule 1000 (changed 16 plain_batch) ≡ pos 87
  -- the last byte is missing: 2, CORRUPT_MESSAGE
  pub short : rule 1000 (take 69 plain_batch) ≡ pos 2
  -- compression: 76, UNSUPPORTED_COMPRESSION_TYPE
  pub compressed : rule 1000 compressed_batch ≡ pos 76
  -- LogAppendTime: 32, INVALID_TIMESTAMP
  pub append_time : rule 1000 append_time_batch ≡ pos 32
  -- a control batch, which no producer may send: 87, INVALID_RECORD
  pub control : rule 1000 control_batch ≡ pos 87
  pub marker : rule 1000 commit_marker ≡ pos 87
  -- one byte longer than may be: 10, MESSAGE_TOO_LARGE
  pub longest : rule 70 plain_batch ≡ pos 0
  pub longer : rule 69 plain_batch ≡ pos 10

-- ---- attributes

-- the bit where it is set
abbrev pub bit : ℕ → Bool → ℕ
bit value false = 0
bit value true = value

-- the attributes of a batch: the compression in the bits 0x07, LogAppendTime 0x08, transactional
-- 0x10, control batch 0x20, and whatever stands above
abbrev pub attributes_of : ℕ → Bool → Bool → Bool → ℕ → ℕ
attributes_of compression append_time transactional control above =
    compression
    + (bit 0x08 append_time + (bit 0x10 transactional + (bit 0x20 control + 0x40 * above)))

-- a header with these attributes
abbrev pub HasAttributes : BatchHeader → ℕ → Bool → Bool → Bool → ℕ → Type 0
HasAttributes h compression append_time transactional control above =
    (compression < 8)
    × (cast_unsigned w16 h.attributes
    ≡ attributes_of compression append_time transactional control above)

-- the test tells whether there is no compression
abbrev pub TellsUncompressed : (BatchHeader → Bool) → Type 0
TellsUncompressed test = (h : BatchHeader) (compression : ℕ)
    (append_time transactional control : Bool) (above : ℕ)
    → HasAttributes h compression append_time transactional control above
    → test h ≡ (compression == 0)

-- the test tells whether the timestamp's type is LogAppendTime
abbrev pub TellsAppendTime : (BatchHeader → Bool) → Type 0
TellsAppendTime test = (h : BatchHeader) (compression : ℕ)
    (append_time transactional control : Bool) (above : ℕ)
    → HasAttributes h compression append_time transactional control above → test h ≡ append_time

-- the test tells whether the batch is one of a transaction
abbrev pub TellsTransactional : (BatchHeader → Bool) → Type 0
TellsTransactional test = (h : BatchHeader) (compression : ℕ)
    (append_time transactional control : Bool) (above : ℕ)
    → HasAttributes h compression append_time transactional control above
    → test h ≡ transactional

-- the test tells whether the batch is a control batch
abbrev pub TellsControl : (BatchHeader → Bool) → Type 0
TellsControl test = (h : BatchHeader) (compression : ℕ)
    (append_time transactional control : Bool) (above : ℕ)
    → HasAttributes h compression append_time transactional control above → test h ≡ control

-- ---- sums (RFC 3720, appendix B.4)

-- so many bytes, each one more than the one before
abbrev rising : ℕ → ℕ → List ℕ
rising zero byte = []
rising (suc n) byte = byte ∷ rising n (byte + 1)

-- so many bytes, down to 0
abbrev falling : ℕ → List ℕ
falling zero = []
falling (suc n) = n ∷ falling n

-- the sum that is known of each
pub record SumsKnown (sum : List ℕ → ℕ) : Type 0 where
  pub none : sum [] ≡ 0
  pub digits : sum (text "123456789") ≡ 0xe3069283
  pub zeros : sum (repeated 32 0x00) ≡ 0x8a9136aa
  pub ones : sum (repeated 32 0xff) ≡ 0x62a8ab43
  pub up : sum (rising 32 0) ≡ 0x46dd794e
  pub down : sum (falling 32) ≡ 0x113fdb5c
