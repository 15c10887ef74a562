-- A control batch is a batch.
use Rattle.std.specs.Prelude.{Result, Ok, Err, OnOk}
use Rattle.std.proofs.Common.{◌≡◌, ℕ, ℤ, pos, negsuc, ◌-◌, ◌<◌, ◌^◌, List, [], ◌∷◌, ◌++◌, length, drop, Some, Ok, refl, sym, ap, subst, ◌∙◌, append_assoc, arith, lit<}
use Rattle.std.specs.Prelude.{FitsSigned, slice_range}
use Rattle.std.specs.Int.{w16, w64}
use Rattle.std.proofs.lemmas.List.{length-append, drop_at}
use Rattle.wire_types.specs.Reading.{int_at, nat_at, front_at, many_at, items_at, after_count_at, null_or, after_null_count_at, varint_at, null_or_count, null_count_at, not_null, required_at}
use Rattle.wire_types.specs.NumberLaws.{wide32}
use Rattle.wire_types.specs.Spelling.{int_written}
use Rattle.wire_types.specs.Schema.{int8, int16, int32, int64, uint32}
use Rattle.record_batch.specs.declared.header.BatchHeader.{BatchHeader}
use Rattle.record_batch.specs.declared.transaction_result.TransactionResult.{TransactionResult}
use Rattle.record_batch.specs.declared.transaction_result.TransactionResult.TheVariants.{Abort, Commit}
use Rattle.record_batch.specs.declared.record.Rec.{Rec}
use Rattle.record_batch.specs.Crc.{crc32c}
use Rattle.record_batch.specs.BatchHeader.{batch_header}
use Rattle.record_batch.specs.CombinatorLaws.{fixed_at, sized_at, whole_value}
use Rattle.record_batch.specs.Record.{records_at, all_records}
use Rattle.record_batch.specs.Batch.{BatchData, IsBatch, batch_of, found_or_none, marker_record}
use Rattle.record_batch.specs.Control.{marker_text, control_header, control_text, control_crc, control}
use Rattle.record_batch.proofs.Checked.{rest_is}
use Rattle.record_batch.proofs.HeaderLaws.{header_size}
use Rattle.record_batch.proofs.RecordLaws.{all-sound}

marker_read : (o : TransactionResult) → all_records 1 (marker_text o) ≡ Ok (marker_record o ∷ [])
unfolding records_at whole_value sized_at fixed_at int_at nat_at front_at many_at items_at after_count_at null_or after_null_count_at varint_at null_or_count null_count_at not_null required_at
marker_read Abort = refl
marker_read Commit = refl

marker_size : (o : TransactionResult) → length (marker_text o) ≡ 17
marker_size Abort = refl
marker_size Commit = refl

-- numbers that a control batch can be made of
pub record AreFit (p e m : ℤ) (sum : ℕ) : Type 0 where
  pub producer : FitsSigned w64 p
  pub epoch : FitsSigned w16 e
  pub moment : FitsSigned w64 m
  pub crc : sum < 2 ^ 32

header_spelled : (p e m : ℤ) (crc : ℕ) → AreFit p e m crc → batch_header.Spells (batch_header.written (control_header p e m crc)) (control_header p e m crc)
header_spelled p e m crc f =
    batch_header.canonical (control_header p e m crc) (
      record { sfits = lit< tt },
      (
        record { sfits = lit< tt },
        (
          record { sfits = lit< tt },
          (
            record { sfits = lit< tt },
            (
              f.crc,
              (
                record { sfits = lit< tt },
                (
                  record { sfits = lit< tt },
                  (f.moment, (f.moment, (f.producer, (f.epoch, (record { sfits = lit< tt }, record { sfits = lit< tt }))))),
                ),
              ),
            ),
          ),
        ),
      ),
    ) refl

header_len : (p e m : ℤ) (crc : ℕ) → AreFit p e m crc → length (batch_header.written (control_header p e m crc)) ≡ 61
header_len p e m crc f = header_size (batch_header.written (control_header p e m crc)) (control_header p e m crc) (header_spelled p e m crc f)

pub text_len : (o : TransactionResult) (p e m : ℤ) (crc : ℕ) → AreFit p e m crc → length (control_text o (control_header p e m crc)) ≡ 78
text_len o p e m crc f = omega (arith, header_len p e m crc f, marker_size o, length-append (batch_header.written (control_header p e m crc)) (marker_text o))

-- the checksum covers nothing of itself
tail : TransactionResult → ℤ → ℤ → ℤ → List ℕ
tail o p e m =
    (int16.written (pos 0x30) ++ (int32.written (pos 0) ++ (int64.written m ++ (int64.written m ++ (int64.written p ++ (int16.written e ++ (int32.written (negsuc 0) ++ int32.written (pos 1)))))))) ++ marker_text o

covered : (o : TransactionResult) (p e m : ℤ) (crc : ℕ) → drop 21 (control_text o (control_header p e m crc)) ≡ tail o p e m
unfolding tail int_written
covered o p e m crc =
    let head : List ℕ = int64.written (pos 0) ++ (int32.written (pos 66) ++ (int32.written (pos 0) ++ (int8.written (pos 2) ++ uint32.written crc))) in
    let regrouped : control_text o (control_header p e m crc) ≡ head ++ tail o p e m = simp append_assoc in
    let last : length (uint32.written crc) ≡ 4 = wide32.len crc in
    let size : length head ≡ 21 = omega (arith, last, length-append (int8.written (pos 2)) (uint32.written crc)) in
    ap (drop 21) regrouped ∙ drop_at head (tail o p e m) 21 size

pub same_crc : (o : TransactionResult) (p e m : ℤ) (crc : ℕ) → control_crc o p e m ≡ crc32c (drop 21 (control_text o (control_header p e m crc)))
same_crc o p e m crc = ap crc32c (covered o p e m 0 ∙ sym (covered o p e m crc))

-- ---- the batch

body_of_text : (o : TransactionResult) (p e m : ℤ) (crc : ℕ) → AreFit p e m crc → drop 61 (control_text o (control_header p e m crc)) ≡ marker_text o
body_of_text o p e m crc f = drop_at (batch_header.written (control_header p e m crc)) (marker_text o) 61 (header_len p e m crc f)

pub control_view : (o : TransactionResult) (p e m : ℤ) → AreFit p e m (control_crc o p e m) → batch_of (control o p e m).header (Some o) (control o p e m).bytes ≡ control o p e m
control_view o p e m f =
    let h : BatchHeader = control_header p e m (control_crc o p e m) in
    let read : found_or_none (all_records 1 (drop 61 (control_text o h))) ≡ marker_record o ∷ [] = ap (λ (t : List ℕ). found_or_none (all_records 1 t)) (body_of_text o p e m (control_crc o p e m) f) ∙ ap found_or_none (marker_read o) in
    ap (λ (rs : List Rec). record { header = h; records = rs; marker = Some o; bytes = control_text o h }) read

pub control_is : (o : TransactionResult) (p e m : ℤ) → AreFit p e m (control_crc o p e m) → IsBatch (control o p e m)
control_is o p e m f =
    let crc : ℕ = control_crc o p e m in
    let size : length (control_text o (control_header p e m crc)) ≡ 78 = text_len o p e m crc f in
    record {
      front = batch_header.written (control_header p e m crc);
      body = marker_text o;
      parts = refl;
      headed = header_spelled p e m crc f;
      recorded = (all-sound 1 (marker_text o) (marker_record o ∷ []) (marker_read o)).1;
      some = omega arith;
      counted = refl;
      numbered = refl;
      ends = ap (λ (n : ℕ). pos (n - 12)) (sym size);
      summed = same_crc o p e m crc;
      format = refl;
      uncompressed = refl;
      created = refl;
      marked = (refl, refl);
    }

-- ---- what the code makes

pub gathered : (o : TransactionResult) (h : BatchHeader) (none first marker text : List ℕ) → none ≡ [] → first ≡ batch_header.put none h → marker ≡ marker_text o → text ≡ first ++ marker → text ≡ control_text o h
gathered o h none first marker text e0 e1 e2 e3 =
    let header : first ≡ batch_header.written h = e1 ∙ batch_header.puts none h ∙ ap (λ (t : List ℕ). t ++ batch_header.written h) e0 in
    e3 ∙ ap (λ (t : List ℕ). t ++ marker) header ∙ ap (λ (t : List ℕ). batch_header.written h ++ t) e2

-- the values of a call that makes a control batch
pub record IsMade (o : TransactionResult) (p e m p' e' m' : ℤ) (draft header : BatchHeader) (summed seen : List ℕ) (sum : ℕ) : Type 0 where
  pub producer : p' ≡ p
  pub epoch : e' ≡ e
  pub moment : m' ≡ m
  pub drafted : draft ≡ control_header p' e' m' 0
  pub text : summed ≡ control_text o draft
  pub over : seen ≡ summed
  pub crc : sum ≡ crc32c (slice_range seen 21 (length seen))
  pub made : header ≡ record draft { crc = sum }

pub made_header : (o : TransactionResult) (p e m p' e' m' : ℤ) (draft header : BatchHeader) (summed seen : List ℕ) (sum : ℕ) → IsMade o p e m p' e' m' draft header summed seen sum
    → header ≡ control_header p e m (control_crc o p e m)
made_header o p e m p' e' m' draft header summed seen sum is =
    let here : draft ≡ control_header p e m 0 = is.drafted ∙ rw (is.producer, is.epoch, is.moment) refl in
    let bytes : seen ≡ control_text o (control_header p e m 0) = is.over ∙ is.text ∙ ap (control_text o) here in
    let total : sum ≡ control_crc o p e m = is.crc ∙ ap crc32c (rest_is 21 seen) ∙ ap (λ (t : List ℕ). crc32c (drop 21 t)) bytes in
    is.made ∙ ap (λ (h : BatchHeader). record h { crc = sum }) here ∙ ap (control_header p e m) total

pub made_view : (o : TransactionResult) (p e m p' e' m' : ℤ) (header : BatchHeader) (text bytes : List ℕ) → FitsSigned w64 p → FitsSigned w16 e → FitsSigned w64 m → header.crc < 2 ^ 32 → p' ≡ p → e' ≡ e → m' ≡ m
    → header ≡ (control o p' e' m').header → text ≡ (control o p' e' m').bytes → bytes ≡ text
    → (batch_of header (Some o) bytes ≡ control o p e m) × IsBatch (batch_of header (Some o) bytes)
made_view o p e m p' e' m' header text bytes fp fe fm fc sp se sm is_header is_text is_bytes =
    let same : control o p' e' m' ≡ control o p e m = rw (sp, se, sm) refl in
    let head : header ≡ (control o p e m).header = is_header ∙ ap (λ (b : BatchData). b.header) same in
    let all : bytes ≡ (control o p e m).bytes = is_bytes ∙ is_text ∙ ap (λ (b : BatchData). b.bytes) same in
    let sum : header.crc ≡ control_crc o p e m = ap (λ (h : BatchHeader). h.crc) head in
    let fits : AreFit p e m (control_crc o p e m) = record { producer = fp; epoch = fe; moment = fm; crc = subst (λ (n : ℕ). n < 2 ^ 32) sum fc } in
    let view : batch_of header (Some o) bytes ≡ control o p e m =
    ap (λ (h : BatchHeader). batch_of h (Some o) bytes) head ∙ ap (batch_of (control o p e m).header (Some o)) all ∙ control_view o p e m fits in
    (view, subst IsBatch (sym view) (control_is o p e m fits))

pub on_ok : {A E : Type 0} (r : Result A E) (P : Type 0) → P → OnOk r P
on_ok (Ok x) P p = p
on_ok (Err e) P p = tt
