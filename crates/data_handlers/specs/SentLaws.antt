-- What a producer sent is a batch with at most as many records as bytes.
use Rattle.std.proofs.Common.{◌≡◌, ℕ, List, length, drop, Option, Some, None, Result, Ok, Err, refl, sym, ap, subst, ◌∙◌}
use Rattle.std.specs.Prelude.{IfOk}
use Rattle.record_batch.specs.declared.fault.BatchFault.{BatchFault}
use Rattle.record_batch.specs.declared.transaction_result.TransactionResult.{TransactionResult}
use Rattle.record_batch.specs.BatchHeader.{batch_header, count_of}
use Rattle.record_batch.specs.Record.{all_records}
use Rattle.record_batch.specs.Batch.{BatchData, IsBatch, batch_of, found_or_none}
use Rattle.record_batch.specs.Faults.{first_fault, fault_in}
use Rattle.record_batch.proofs.Kept.{body_is}
use Rattle.record_batch.proofs.RecordLaws.{all-complete}
use Rattle.record_batch.proofs.Lawful.{faultless_is_batch}
use Rattle.data_handlers.specs.Sent.{batch_or_fault_by, batch_or_fault}

-- ---- a batch is what its header and its bytes say

records_found : (b : BatchData) → IsBatch b
    → found_or_none (all_records (count_of b.header.record_count) (drop 61 b.bytes)) ≡ b.records
records_found b is =
    ap found_or_none
    (ap (λ (n : ℕ). all_records n (drop 61 b.bytes)) (ap count_of is.counted)
    ∙ ap (all_records (length b.records)) (body_is b is)
    ∙ all-complete is.body b.records is.recorded)

batch_again : (b : BatchData) → IsBatch b → batch_of b.header b.marker b.bytes ≡ b
batch_again b is =
    let found = records_found b is in
    λ i. record { header = b.header; records = found i; marker = b.marker; bytes = b.bytes }

header_read : (b : BatchData) (is : IsBatch b)
    → batch_header.reading b.bytes ≡ Ok (b.header, is.body)
header_read b is =
    ap batch_header.reading is.parts ∙ batch_header.complete is.front is.body b.header is.headed

-- a batch of data without a fault is what was sent
sent_whole : (most : ℕ) (b : BatchData) → IsBatch b → b.marker ≡ None
    → first_fault most b.bytes ≡ None → batch_or_fault most b.bytes ≡ Ok b
sent_whole most b is data_alone none =
    ap (λ (f : Option BatchFault). batch_or_fault_by f b.bytes (batch_header.reading b.bytes)) none
    ∙ ap (batch_or_fault_by None b.bytes) (header_read b is)
    ∙ ap (λ (m : Option TransactionResult). Ok (batch_of b.header m b.bytes)) (sym data_alone)
    ∙ ap Ok (batch_again b is)

pub sent_is : (most : ℕ) (bytes : List ℕ) (b : BatchData) → IsBatch b → b.marker ≡ None
    → b.bytes ≡ bytes → first_fault most bytes ≡ None → batch_or_fault most bytes ≡ Ok b
sent_is most bytes b is data_alone same none =
    ap (batch_or_fault most) (sym same)
    ∙ sent_whole most b is data_alone (ap (first_fault most) same ∙ none)

pub sent_fault : (most : ℕ) (bytes : List ℕ) (fault : BatchFault)
    → first_fault most bytes ≡ Some fault → batch_or_fault most bytes ≡ Err fault
sent_fault most bytes fault some =
    ap (λ (f : Option BatchFault). batch_or_fault_by f bytes (batch_header.reading bytes)) some

-- what a check answers
pub sent_checked : (most : ℕ) (bytes : List ℕ) (r : Result BatchData BatchFault)
    → fault_in r ≡ first_fault most bytes
    → IfOk r (λ b. (b.bytes ≡ bytes) × (b.marker ≡ None) × IsBatch b)
    → r ≡ batch_or_fault most bytes
sent_checked most bytes (Ok b) e is = sym (sent_is most bytes b is.2 is.1 is.0 (sym e))
sent_checked most bytes (Err fault) e is = sym (sent_fault most bytes fault (sym e))

-- ---- and what was sent is a batch

same_ok : (x y : BatchData) (r : Result BatchData BatchFault) → r ≡ Ok x → r ≡ Ok y → x ≡ y
same_ok x y r p q = cc

none_here : (most : ℕ) (bytes : List ℕ) (b : BatchData) (f : Option BatchFault)
    → first_fault most bytes ≡ f → batch_or_fault_by f bytes (batch_header.reading bytes) ≡ Ok b
    → first_fault most bytes ≡ None
none_here most bytes b None e is = e
none_here most bytes b (Some fault) e is = absurd (let clash : Err fault ≡ Ok b = is in cc)

pub sent_batch : (most : ℕ) (bytes : List ℕ) (b : BatchData) → batch_or_fault most bytes ≡ Ok b
    → IsBatch b × (b.bytes ≡ bytes) × (b.marker ≡ None)
sent_batch most bytes b is =
    let none = none_here most bytes b (first_fault most bytes) refl is in
    let some = (faultless_is_batch most bytes).0 none in
    let same : some.0
    ≡ b = same_ok some.0 b (batch_or_fault most bytes)
    (sent_is most bytes some.0 some.2 some.3.unmarked some.1 none) is in (
      subst IsBatch same some.2,
      ap (λ (x : BatchData). x.bytes) (sym same) ∙ some.1,
      ap (λ (x : BatchData). x.marker) (sym same) ∙ some.3.unmarked,
    )

-- ---- each record has a byte at least
