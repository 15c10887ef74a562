-- The batch that a producer sent as bytes.
use Rattle.std.specs.Prelude.{ℕ, List, Option, Some, None, Result, Ok, Err}
use Rattle.wire_types.specs.Reading.{Found}
use Rattle.record_batch.specs.declared.header.BatchHeader.{BatchHeader}
use Rattle.record_batch.specs.declared.fault.BatchFault.{BatchFault}
use Rattle.record_batch.specs.declared.fault.BatchFault.TheVariants.{Length}
use Rattle.record_batch.specs.BatchHeader.{batch_header}
use Rattle.record_batch.specs.Batch.{BatchData, batch_of}
use Rattle.record_batch.specs.Faults.{first_fault}

abbrev pub batch_or_fault_by : Option BatchFault → List ℕ → Found BatchHeader
    → Result BatchData BatchFault
batch_or_fault_by (Some fault) bytes found = Err fault
batch_or_fault_by None bytes (Ok h) = Ok (batch_of h.0 None bytes)
batch_or_fault_by None bytes (Err e) = Err Length

-- the batch of at most so many bytes, or its first fault
abbrev pub batch_or_fault : ℕ → List ℕ → Result BatchData BatchFault
batch_or_fault most bytes =
    batch_or_fault_by (first_fault most bytes) bytes (batch_header.reading bytes)
