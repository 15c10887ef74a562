-- The number of bytes is looked at last.
use Rattle.std.proofs.Common.{◌≡◌, ◌<◌, ◌≤◌, ℕ, Bool, true, false, cond, List, length, drop, Option, Some, None, Ok, Err, refl, sym, ap, ◌∙◌, arith}
use Rattle.std.specs.Prelude.{nat_lt}
use Rattle.std.proofs.lemmas.Bool.{le-ltb, lt-ltb}
use Rattle.wire_types.specs.declared.fault.Malformed.{Malformed}
use Rattle.wire_types.specs.Reading.{Found}
use Rattle.record_batch.specs.declared.header.BatchHeader.{BatchHeader}
use Rattle.record_batch.specs.declared.fault.BatchFault.{BatchFault}
use Rattle.record_batch.specs.declared.fault.BatchFault.TheVariants.{Length, Magic, Crc, Compressed, Invalid, Timestamp, TooLarge}
use Rattle.record_batch.specs.BatchHeader.{batch_header}
use Rattle.record_batch.specs.Faults.{first_found, fault_tests, fault_after_header, first_fault, fault_at_any_size, fault_within}
use Rattle.record_batch.specs.Laws.{SizeIsLast}

-- no number is below itself
pub no_less : (n : ℕ) → nat_lt n n ≡ false
no_less n = le-ltb n n (omega arith)

-- a test before the last
earlier : (max : ℕ) (bytes : List ℕ) (b : Bool) (fault : BatchFault) (any all : Option BatchFault) → all ≡ fault_within max bytes any → cond b (Some fault) all ≡ fault_within max bytes (cond b (Some fault) any)
earlier max bytes true fault any all e = refl
earlier max bytes false fault any all e = e

last : (max : ℕ) (bytes : List ℕ) → cond (nat_lt max (length bytes)) (Some TooLarge) None ≡ fault_within max bytes (cond (nat_lt (length bytes) (length bytes)) (Some TooLarge) None)
last max bytes = sym (ap (λ (b : Bool). fault_within max bytes (cond b (Some TooLarge) None)) (no_less (length bytes)))

tests_held : (max : ℕ) (bytes : List ℕ) (h : BatchHeader) (body : List ℕ) → first_found (fault_tests max bytes h body) ≡ fault_within max bytes (first_found (fault_tests (length bytes) bytes h body))
tests_held max bytes h body =
    earlier max bytes _ Length _ _
    (earlier max bytes _ Magic _ _
    (earlier max bytes _ Crc _ _
    (earlier max bytes _ Compressed _ _
    (earlier max bytes _ Invalid _ _
    (earlier max bytes _ Timestamp _ _ (last max bytes))))))

after_held : (max : ℕ) (bytes : List ℕ) (found : Found BatchHeader) → fault_after_header max bytes found ≡ fault_within max bytes (fault_after_header (length bytes) bytes found)
after_held max bytes (Ok h) = tests_held max bytes h.0 h.1
after_held max bytes (Err e) = refl

pub size_is_last : SizeIsLast
unfolding first_fault
size_is_last max bytes = after_held max bytes (batch_header.reading bytes)

-- ---- what a kept fault tells

pub fault_kept : (max : ℕ) (bytes : List ℕ) (fault : BatchFault) → fault_at_any_size bytes ≡ Some fault → first_fault max bytes ≡ Some fault
fault_kept max bytes fault e = size_is_last max bytes ∙ ap (fault_within max bytes) e

held : (max : ℕ) (bytes : List ℕ) (n : ℕ) (large : Bool) → fault_at_any_size bytes ≡ None → n ≡ length bytes → nat_lt max n ≡ large → first_fault max bytes ≡ cond large (Some TooLarge) None
held max bytes n large none size is =
    size_is_last max bytes
    ∙ ap (fault_within max bytes) none
    ∙ ap (λ (m : ℕ). cond (nat_lt max m) (Some TooLarge) None) (sym size)
    ∙ ap (λ (b : Bool). cond b (Some TooLarge) None) is

pub too_large : (max : ℕ) (bytes : List ℕ) (n : ℕ) → fault_at_any_size bytes ≡ None → n ≡ length bytes → max < n → first_fault max bytes ≡ Some TooLarge
too_large max bytes n none size more = held max bytes n true none size (lt-ltb max n more)

pub no_fault : (max : ℕ) (bytes : List ℕ) (n : ℕ) → fault_at_any_size bytes ≡ None → n ≡ length bytes → n ≤ max → first_fault max bytes ≡ None
no_fault max bytes n none size fits = held max bytes n false none size (le-ltb max n fits)

-- bytes without a fault have a header
pub headless : (bytes seen : List ℕ) (e : Malformed) → seen ≡ bytes → batch_header.reading seen ≡ Err e → fault_at_any_size bytes ≡ None → ⊥
unfolding first_fault
headless bytes seen e same read none =
    let clash : fault_after_header (length bytes) bytes (Err e) ≡ None = sym (ap (fault_after_header (length bytes) bytes) (ap batch_header.reading (sym same) ∙ read)) ∙ none in
    cc
