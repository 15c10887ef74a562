-- Control batches, which mark how a producer's transaction ended (KIP-98, "Control Messages").
use Rattle.std.specs.Prelude.{ℕ, ℤ, pos, negsuc, List, [], ◌∷◌, ◌++◌, drop, Some}
use Rattle.record_batch.specs.declared.header.BatchHeader.{BatchHeader}
use Rattle.record_batch.specs.declared.transaction_result.TransactionResult.{TransactionResult}
use Rattle.record_batch.specs.Crc.{crc32c}
use Rattle.record_batch.specs.BatchHeader.{batch_header}
use Rattle.record_batch.specs.Batch.{BatchData, marker_type, marker_record}

-- the one spelling of the record with shortest numbers: 16 bytes follow its length
abbrev pub marker_text : TransactionResult → List ℕ
marker_text outcome =
    0x20 ∷ 0 ∷ 0 ∷ 0
    ∷ 0x08 ∷ 0 ∷ 0 ∷ 0 ∷ marker_type outcome
    ∷ 0x0c ∷ 0 ∷ 0 ∷ 0 ∷ 0 ∷ 0 ∷ 0
    ∷ 0 ∷ []

-- one transactional control record at the given time, of a producer without a sequence
abbrev pub control_header : ℤ → ℤ → ℤ → ℕ → BatchHeader
control_header producer epoch moment crc = record {
  base_offset = pos 0;
  batch_length = pos 66;
  partition_leader_epoch = pos 0;
  magic = pos 2;
  crc = crc;
  attributes = pos 0x30;
  last_offset_delta = pos 0;
  base_timestamp = moment;
  max_timestamp = moment;
  producer_id = producer;
  producer_epoch = epoch;
  base_sequence = negsuc 0;
  record_count = pos 1;
}

abbrev pub control_text : TransactionResult → BatchHeader → List ℕ
control_text outcome header = batch_header.written header ++ marker_text outcome

-- the checksum is of what follows it, from the attributes on
abbrev pub control_crc : TransactionResult → ℤ → ℤ → ℤ → ℕ
control_crc outcome producer epoch moment =
    crc32c (drop 21 (control_text outcome (control_header producer epoch moment 0)))

abbrev pub control : TransactionResult → ℤ → ℤ → ℤ → BatchData
control outcome producer epoch moment =
    let header : BatchHeader = control_header producer epoch moment
    (control_crc outcome producer epoch moment) in
    record {
      header = header;
      records = marker_record outcome ∷ [];
      marker = Some outcome;
      bytes = control_text outcome header;
    }
