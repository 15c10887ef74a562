-- The error code of each fault of a batch (Kafka protocol guide, "Error Codes").
use Rattle.record_batch.specs.declared.fault.BatchFault.{BatchFault}
use Rattle.record_batch.specs.declared.fault.BatchFault.TheVariants.{Length, Magic, Crc, Compressed, Invalid, Timestamp, TooLarge}
use Rattle.wire_types.specs.declared.error_code.ErrorCode.{ErrorCode}
use Rattle.wire_types.specs.declared.error_code.ErrorCode.TheVariants.{CorruptMessage, MessageTooLarge, InvalidTimestamp, UnsupportedCompressionType, InvalidRecord}

abbrev pub code_of : BatchFault → ErrorCode
code_of Length = CorruptMessage
code_of Magic = InvalidRecord
code_of Crc = CorruptMessage
code_of Compressed = UnsupportedCompressionType
code_of Invalid = InvalidRecord
code_of Timestamp = InvalidTimestamp
code_of TooLarge = MessageTooLarge
