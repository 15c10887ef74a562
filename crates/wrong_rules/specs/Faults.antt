-- The error codes of a batch's faults (Kafka protocol guide, "Error Codes").
use Rattle.std.specs.Prelude.{◌≡◌, pos}
use Rattle.record_batch.specs.declared.fault.BatchFault.{BatchFault}
use Rattle.record_batch.specs.declared.fault.BatchFault.TheVariants.{Length, Magic, Crc, Compressed, Invalid, Timestamp, TooLarge}
use Rattle.wire_types.specs.declared.error_code.ErrorCode.{ErrorCode}
use Rattle.wire_types.specs.declared.error_code.ErrorCode.TheVariants as codes
use Rattle.wire_types.specs.ErrorCode.{number_of}
use Rattle.record_batch.specs.Fault.{code_of}

abbrev pub FaultRule : Type 0
FaultRule = BatchFault → ErrorCode

-- CORRUPT_MESSAGE (2) may be retried, and so is a fault of the bytes alone; what the producer wrote
-- wrongly is MESSAGE_TOO_LARGE (10), INVALID_TIMESTAMP (32), UNSUPPORTED_COMPRESSION_TYPE (76) or
-- INVALID_RECORD (87)
pub record FaultsAreTold (rule : FaultRule) : Type 0 where
  pub length : number_of (rule Length) ≡ pos 2
  pub checksum : number_of (rule Crc) ≡ pos 2
  pub large : number_of (rule TooLarge) ≡ pos 10
  pub timestamp : number_of (rule Timestamp) ≡ pos 32
  pub compressed : number_of (rule Compressed) ≡ pos 76
  pub format : number_of (rule Magic) ≡ pos 87
  pub invalid : number_of (rule Invalid) ≡ pos 87

-- every rule that tells faults so is this one
abbrev pub OnlyRuleOfFaults : FaultRule → Type 0
OnlyRuleOfFaults right =
    (rule : FaultRule) → FaultsAreTold rule → (f : BatchFault) → rule f ≡ right f

-- ---- wrong

-- a wrong checksum is told as INVALID_RECORD: a producer gives up where it could send again
abbrev pub fatal_checksum : FaultRule
fatal_checksum Crc = codes.InvalidRecord
fatal_checksum f = code_of f

-- a batch that is too large is told as corrupt: a producer sends it again for ever
abbrev pub endless_large : FaultRule
endless_large TooLarge = codes.CorruptMessage
endless_large f = code_of f
