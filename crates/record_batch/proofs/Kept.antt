-- What every batch keeps: its records are those that its bytes are read as.
use Rattle.std.proofs.Common.{◌≡◌, ℕ, pos, ◌≤◌, List, [], length, drop, Ok, Err, sym, ap, subst, ◌∙◌, arith}
use Rattle.std.specs.Prelude.{slice_range, FitsSigned, ◌+ℤ◌}
use Rattle.std.specs.Int.{w64}
use Rattle.std.proofs.lemmas.List.{length-append, append-nil, drop_at}
use Rattle.wire_types.specs.declared.fault.Malformed.{Malformed}
use Rattle.wire_types.specs.NumberLaws.{ok_is}
use Rattle.wire_types.specs.declared.fault.ReadFault.{ReadFault}
use Rattle.wire_types.specs.declared.fault.ReadFault.TheVariants as faults
use Rattle.wire_types.specs.Reading.{Found, Reads}
use Rattle.record_batch.specs.declared.record.RecordAt.{RecordAt}
use Rattle.record_batch.specs.BatchHeader.{batch_header, count_of}
use Rattle.record_batch.specs.Record.{records_at}
use Rattle.record_batch.specs.Batch.{BatchData, IsBatch, HasOffsets, placed_records, placed_if_found}
use Rattle.record_batch.proofs.Checked.{rest_is}
use Rattle.record_batch.proofs.HeaderLaws.{header_size}
use Rattle.record_batch.proofs.Offsets.{after_last}
use Rattle.record_batch.proofs.RecordLaws.{records-complete}

pub front_long : (b : BatchData) (is : IsBatch b) → length is.front ≡ 61
front_long b is = header_size is.front b.header is.headed

pub batch_long : (b : BatchData) → IsBatch b → 61 ≤ length b.bytes
batch_long b is = omega (arith, front_long b is, length-append is.front is.body, ap length is.parts)

pub body_is : (b : BatchData) (is : IsBatch b) → drop 61 b.bytes ≡ is.body
body_is b is = ap (drop 61) is.parts ∙ drop_at is.front is.body 61 (front_long b is)

pub header_read : (b : BatchData) → IsBatch b → batch_header.reading b.bytes ≡ Ok (b.header, drop 61 b.bytes)
header_read b is =
    ap batch_header.reading is.parts ∙ batch_header.complete is.front is.body b.header is.headed ∙ ap (λ (t : List ℕ). Ok (b.header, t)) (sym (body_is b is))

pub records_read : (b : BatchData) → IsBatch b → records_at 0 (count_of b.header.record_count) (slice_range b.bytes 61 (length b.bytes)) ≡ Ok (b.records, [])
records_read b is =
    let found : records_at 0 (length b.records) is.body ≡ Ok (b.records, []) = ap (records_at 0 (length b.records)) (sym (append-nil is.body)) ∙ records-complete 0 is.body [] b.records is.recorded in
    ap (λ (t : List ℕ). records_at 0 (count_of b.header.record_count) t) (rest_is 61 b.bytes ∙ body_is b is)
    ∙ ap (λ (n : ℕ). records_at 0 n is.body) (ap count_of is.counted) ∙ found

pub offsets_fit : (b : BatchData) → IsBatch b → HasOffsets b → FitsSigned w64 (b.header.base_offset +ℤ pos (count_of b.header.record_count))
offsets_fit b is fits =
    subst (λ (n : ℕ). FitsSigned w64 (b.header.base_offset +ℤ pos n)) (sym (ap count_of is.counted))
    (after_last b.header.base_offset b.header.last_offset_delta (length b.records) is.some is.numbered fits)

-- what is read of the bytes after the header
abbrev pub read_of : BatchData → Found (List RecordAt)
read_of b = placed_if_found b.header.base_offset 0 (records_at 0 (count_of b.header.record_count) (slice_range b.bytes 61 (length b.bytes)))

abbrev pub all_of : BatchData → List RecordAt × List ℕ
all_of b = (placed_records b.header.base_offset 0 b.records, [])

pub read_all : (b : BatchData) → IsBatch b → read_of b ≡ Ok (all_of b)
read_all b is = ap (placed_if_found b.header.base_offset 0) (records_read b is)

apart : {A : Type 0} (x : A) (m : Malformed) → Ok x ≡ Err m → ⊥
apart x m e = absurd cc

pub recs_placed : (b now : BatchData) (found : Found (List RecordAt)) (recs : List RecordAt) (rest : List ℕ) → IsBatch b → b ≡ now → found ≡ read_of b → found ≡ Ok (recs, rest)
    → recs ≡ placed_records now.header.base_offset 0 now.records
recs_placed b now found recs rest is same reads e =
    let both : all_of b ≡ (recs, rest) = ok_is (all_of b) (recs, rest) (sym (read_all b is) ∙ sym reads ∙ e) in
    sym (ap (λ (x : List RecordAt × List ℕ). x.0) both) ∙ ap (λ (x : BatchData). placed_records x.header.base_offset 0 x.records) same

pub none_malformed : (b : BatchData) (found : Found (List RecordAt)) (e : ReadFault) (m : Malformed) (new : List ℕ) → IsBatch b → found ≡ read_of b → e ≡ faults.Malformed m → Reads found (Err e) new → ⊥
none_malformed b found e m new is reads kind answer =
    let here : found ≡ Err m = subst (λ (x : ReadFault). Reads found (Err x) new) kind answer in
    apart (all_of b) m (sym (read_all b is) ∙ sym reads ∙ here)
