-- A batch's header is read from its bytes, and a log gives it another base offset.
use Rattle.std.proofs.Common.{◌≡◌, ℕ, ℤ, List, length, drop, Option, Some, None, Ok, Err, refl, sym, ap, subst, ◌∙◌}
use Rattle.std.specs.Prelude.{FitsSigned, IfSome, slice_range, []}
use Rattle.std.specs.Int.{w64}
use Rattle.wire_types.specs.declared.fault.Malformed.{Malformed}
use Rattle.wire_types.specs.Reading.{Found}
use Rattle.record_batch.specs.declared.header.BatchHeader.{BatchHeader}
use Rattle.record_batch.specs.declared.transaction_result.TransactionResult.{TransactionResult}
use Rattle.record_batch.specs.BatchHeader.{batch_header, count_of}
use Rattle.record_batch.specs.Record.{records_at}
use Rattle.record_batch.specs.Faults.{fault_at_any_size}
use Rattle.record_batch.specs.Batch.{BatchData, IsBatch, batch_of, found_header, header_in, batch_of_bytes, batch_placed, placed_records, placed_if_found, written_at}
use Rattle.record_batch.proofs.Faultless.{faultless}
use Rattle.record_batch.proofs.Kept.{all_of, header_read, read_all, read_of, records_read}
use Rattle.record_batch.proofs.Lawful.{last_offset_stays}
use Rattle.record_batch.proofs.Moved.{parts_of, same_length, written_at-is}

-- ---- in its bytes

-- what is read of the bytes
pub header_is : (bytes seen : List ℕ) (h : BatchHeader) → seen ≡ bytes → batch_header.reading seen ≡ Ok (h, drop 61 seen) → header_in bytes ≡ h
unfolding header_in
header_is bytes seen h same read = ap (λ (t : List ℕ). found_header (batch_header.reading t)) (sym same) ∙ ap found_header read

pub read_back : (h : BatchHeader) (m : Option TransactionResult) (bytes : List ℕ) → IsBatch (batch_of h m bytes) → batch_of_bytes m bytes ≡ batch_of h m bytes
read_back h m bytes is = ap (λ (x : BatchHeader). batch_of x m bytes) (header_is bytes bytes h refl (header_read (batch_of h m bytes) is))

pub faultless_in : (bytes : List ℕ) (h : BatchHeader) → batch_header.reading bytes ≡ Ok (h, drop 61 bytes) → fault_at_any_size bytes ≡ None → IsBatch (batch_of_bytes None bytes)
faultless_in bytes h read none =
    subst (λ (x : BatchHeader). IsBatch (batch_of x None bytes)) (sym (header_is bytes bytes h refl read)) (faultless (length bytes) bytes h read none)

apart : (x : BatchHeader × List ℕ) (e : Malformed) → Ok x ≡ Err e → ⊥
apart x e given = absurd cc

read_apart : (found : Found BatchHeader) (x : BatchHeader × List ℕ) (e : Malformed) → found ≡ Ok x → found ≡ Err e → ⊥
read_apart found x e ok err = apart x e (sym ok ∙ err)

pub has_header : (m : Option TransactionResult) (bytes seen : List ℕ) (e : Malformed) → IsBatch (batch_of_bytes m bytes) → seen ≡ bytes → batch_header.reading seen ≡ Err e → ⊥
has_header m bytes seen e is same read =
    read_apart (batch_header.reading bytes) (header_in bytes, drop 61 bytes) e (header_read (batch_of_bytes m bytes) is) (ap batch_header.reading (sym same) ∙ read)

-- ---- in a log

pub placed_is : (placed : Option ℤ) (b : BatchData) → IfSome placed (FitsSigned w64) → IsBatch b → IsBatch (batch_placed placed b)
placed_is None b fits is = is
placed_is (Some offset) b fits is = written_at-is offset b fits is

pub placed_again : (placed : Option ℤ) (b : BatchData) (offset : ℤ) → IsBatch b → written_at offset b ≡ written_at offset (batch_placed placed b)
placed_again None b offset is = refl
placed_again (Some first) b offset is = sym (last_offset_stays b is first offset)

pub placed_length : (placed : Option ℤ) (b : BatchData) → IsBatch b → length (batch_placed placed b).bytes ≡ length b.bytes
placed_length None b is = refl
placed_length (Some offset) b is = same_length offset b.bytes (parts_of b is)

pub delta_stays : (placed : Option ℤ) (b : BatchData) → b.header.last_offset_delta ≡ (batch_placed placed b).header.last_offset_delta
delta_stays None b = refl
delta_stays (Some offset) b = refl

-- what is read of the bytes after the header, numbered from the place on
pub placed_read : (placed : Option ℤ) (b : BatchData) → IsBatch b
    → placed_if_found (batch_placed placed b).header.base_offset 0 (records_at 0 (count_of (batch_placed placed b).header.record_count) (slice_range b.bytes 61 (length b.bytes)))
    ≡ Ok (placed_records (batch_placed placed b).header.base_offset 0 (batch_placed placed b).records, [])
placed_read None b is = ap (placed_if_found b.header.base_offset 0) (records_read b is)
placed_read (Some offset) b is = ap (placed_if_found offset 0) (records_read b is)

-- as the batch in its place is read
pub read_now : (placed : Option ℤ) (b now : BatchData) (h : BatchHeader) (count : ℕ) (seen : List ℕ) → IsBatch b → batch_placed placed b ≡ now → IsBatch now
    → h ≡ now.header → count ≡ count_of h.record_count → seen ≡ slice_range b.bytes 61 (length b.bytes) → placed_if_found h.base_offset 0 (records_at 0 count seen) ≡ read_of now
read_now placed b now h count seen is same is_now head counted over =
    let here : placed_if_found now.header.base_offset 0 (records_at 0 (count_of now.header.record_count) (slice_range b.bytes 61 (length b.bytes))) ≡ Ok (all_of now) =
    subst (λ (x : BatchData). placed_if_found x.header.base_offset 0 (records_at 0 (count_of x.header.record_count) (slice_range b.bytes 61 (length b.bytes))) ≡ Ok (all_of x)) same (placed_read placed b is) in
    rw (counted, head, over) (here ∙ sym (read_all now is_now))
