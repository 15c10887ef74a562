-- What a check has found.
use Rattle.std.proofs.Common.{◌≡◌, ℕ, ◌-◌, List, length, drop, Option, Ok, sym, ap, ◌∙◌, arith}
use Rattle.std.specs.Prelude.{slice_range}
use Rattle.std.proofs.lemmas.List.{take_all, length-drop}
use Rattle.record_batch.specs.declared.header.BatchHeader.{BatchHeader}
use Rattle.record_batch.specs.declared.fault.BatchFault.{BatchFault}
use Rattle.record_batch.specs.BatchHeader.{batch_header}
use Rattle.record_batch.specs.Faults.{first_found, fault_tests, fault_after_header, first_fault}

pub rest_is : (n : ℕ) (bytes : List ℕ) → slice_range bytes n (length bytes) ≡ drop n bytes
rest_is n bytes = take_all (length bytes - n) (drop n bytes) (omega (arith, length-drop n bytes))

-- the first fault after a header is that of the bytes
pub found_first : (max : ℕ) (bytes : List ℕ) (h : BatchHeader) (fault : Option BatchFault) → batch_header.reading bytes ≡ Ok (h, drop 61 bytes)
    → fault ≡ first_found (fault_tests max bytes h (slice_range bytes 61 (length bytes))) → fault ≡ first_fault max bytes
unfolding first_fault
found_first max bytes h fault e is =
    is ∙ ap (λ (body : List ℕ). first_found (fault_tests max bytes h body)) (rest_is 61 bytes) ∙ sym (ap (fault_after_header max bytes) e)
