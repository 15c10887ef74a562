-- Small logs whose judgments are known from outside.
use Rattle.std.proofs.Common.{◌≡◌, ℤ, pos, negsuc, List, [], ◌∷◌, ◌++◌, Some, None, refl}
use Rattle.wire_types.specs.declared.error_code.ErrorCode.TheVariants.{OutOfOrderSequenceNumber, InvalidProducerEpoch}
use Rattle.record_batch.specs.declared.header.BatchHeader.{BatchHeader}
use Rattle.record_batch.specs.declared.transaction_result.TransactionResult.TheVariants.{Commit}
use Rattle.record_batch.specs.Batch.{BatchData}
use Rattle.producer_state.specs.declared.judgment.Judgment.TheVariants.{Next, Repeat, Refused}
use Rattle.producer_state.specs.Sequences.{next_sequence, last_sequence, judgment_of}

-- ---- batches, of which only what the definitions read is told

abbrev headed : ℤ → ℤ → ℤ → ℤ → ℤ → BatchHeader
headed offset id epoch sequence count = record {
  base_offset = offset;
  batch_length = pos 0;
  partition_leader_epoch = pos 0;
  magic = pos 2;
  crc = 0;
  attributes = pos 0;
  last_offset_delta = pos 0;
  base_timestamp = pos 0;
  max_timestamp = pos 0;
  producer_id = id;
  producer_epoch = epoch;
  base_sequence = sequence;
  record_count = count;
}

-- of producer 0 at an offset, in an epoch, from a sequence number on, with so many records
abbrev wrote : ℤ → ℤ → ℤ → ℤ → BatchData
wrote offset epoch sequence count = record { header = headed offset (pos 0) epoch sequence count; records = []; marker = None; bytes = [] }

abbrev sent : ℤ → ℤ → ℤ → BatchData
sent = wrote (pos 0)

abbrev marked : ℤ → ℤ → BatchData
marked offset epoch = record { header = headed offset (pos 0) epoch (negsuc 0) (pos 1); records = []; marker = Some Commit; bytes = [] }

-- ---- a producer goes on

begins : judgment_of [] (sent (pos 0) (pos 0) (pos 2)) ≡ Next
begins = refl

begins_late : judgment_of [] (sent (pos 0) (pos 3) (pos 1)) ≡ Refused OutOfOrderSequenceNumber
begins_late = refl

abbrev two_records : List BatchData
two_records = wrote (pos 0) (pos 0) (pos 0) (pos 2) ∷ []

again : judgment_of two_records (sent (pos 0) (pos 0) (pos 2)) ≡ Repeat (pos 0)
unfolding last_sequence
again = refl

follows : judgment_of two_records (sent (pos 0) (pos 2) (pos 1)) ≡ Next
unfolding next_sequence last_sequence
follows = refl

gap : judgment_of two_records (sent (pos 0) (pos 3) (pos 1)) ≡ Refused OutOfOrderSequenceNumber
unfolding next_sequence last_sequence
gap = refl

newer_late : judgment_of two_records (sent (pos 1) (pos 3) (pos 1)) ≡ Refused OutOfOrderSequenceNumber
newer_late = refl

newer : judgment_of two_records (sent (pos 1) (pos 0) (pos 1)) ≡ Next
newer = refl

older : judgment_of (two_records ++ wrote (pos 2) (pos 1) (pos 0) (pos 1) ∷ []) (sent (pos 0) (pos 2) (pos 1)) ≡ Refused InvalidProducerEpoch
older = refl

-- ---- six batches of one record: the last five repeat

abbrev six : List BatchData
six =
    wrote (pos 0) (pos 0) (pos 0) (pos 1)
    ∷ wrote (pos 1) (pos 0) (pos 1) (pos 1)
    ∷ wrote (pos 2) (pos 0) (pos 2) (pos 1)
    ∷ wrote (pos 3) (pos 0) (pos 3) (pos 1)
    ∷ wrote (pos 4) (pos 0) (pos 4) (pos 1)
    ∷ wrote (pos 5) (pos 0) (pos 5) (pos 1)
    ∷ []

fifth_last : judgment_of six (sent (pos 0) (pos 1) (pos 1)) ≡ Repeat (pos 1)
unfolding last_sequence
fifth_last = refl

sixth_last : judgment_of six (sent (pos 0) (pos 0) (pos 1)) ≡ Refused OutOfOrderSequenceNumber
unfolding next_sequence last_sequence
sixth_last = refl

-- ---- an epoch that only a marker tells

abbrev with_marker : List BatchData
with_marker = two_records ++ marked (pos 2) (pos 1) ∷ []

older_than_marker : judgment_of with_marker (sent (pos 0) (pos 2) (pos 1)) ≡ Refused InvalidProducerEpoch
older_than_marker = refl

late_after_marker : judgment_of with_marker (sent (pos 1) (pos 2) (pos 1)) ≡ Refused OutOfOrderSequenceNumber
late_after_marker = refl

begins_after_marker : judgment_of with_marker (sent (pos 1) (pos 0) (pos 1)) ≡ Next
begins_after_marker = refl

-- ---- sequence numbers wrap

next_wraps : next_sequence (pos 2147483647) (pos 1) ≡ pos 0
unfolding next_sequence
next_wraps = refl

last_wraps : last_sequence (pos 2147483646) (pos 3) ≡ pos 0
unfolding last_sequence
last_wraps = refl

goes_on_after_wrap : judgment_of (wrote (pos 0) (pos 0) (pos 2147483646) (pos 3) ∷ []) (sent (pos 0) (pos 1) (pos 1)) ≡ Next
unfolding next_sequence last_sequence
goes_on_after_wrap = refl

-- ---- a batch of no producer

of_nobody : judgment_of two_records (record { header = headed (pos 0) (negsuc 0) (negsuc 0) (negsuc 0) (pos 1); records = []; marker = None; bytes = [] }) ≡ Next
of_nobody = refl
