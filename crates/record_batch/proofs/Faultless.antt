-- Bytes without a fault are a batch.
use Rattle.std.proofs.Common.{◌≡◌, ℕ, zero, suc, ℤ, pos, negsuc, ◌+◌, ◌-◌, ◌≤◌, Bool, true, false, ◌&&◌, not, cond, eqb, leb, List, length, drop, Option, Some, None, Result, Ok, Err, refl, sym, ap, ◌∙◌, arith}
use Rattle.std.specs.Prelude.{◌-ℤ◌, slice_range, int_lt, is_ok, nat_lt}
use Rattle.std.specs.Ordering.{int_eq}
use Rattle.std.proofs.Math.IntN.{ -ℤ_one}
use Rattle.std.proofs.lemmas.Bool.{eqb-true, leb-true}
use Rattle.std.proofs.lemmas.Bool.Decides.{Decides-int_eq}
use Rattle.wire_types.specs.declared.fault.Malformed.{Malformed}
use Rattle.wire_types.specs.ListLaws.{and_parts}
use Rattle.record_batch.specs.declared.header.BatchHeader.{BatchHeader}
use Rattle.record_batch.specs.declared.fault.BatchFault.{BatchFault}
use Rattle.record_batch.specs.declared.record.Rec.{Rec}
use Rattle.record_batch.specs.Crc.{crc32c}
use Rattle.record_batch.specs.BatchHeader.{batch_header, is_uncompressed, has_append_time, is_control, count_of}
use Rattle.record_batch.specs.Record.{all_records}
use Rattle.record_batch.specs.Batch.{IsBatch, batch_of, found_or_none, has_producer}
use Rattle.record_batch.specs.Faults.{end_of, has_length, has_count, has_records, is_valid, first_found, fault_tests, fault_after_header, first_fault}
use Rattle.record_batch.proofs.Checked.{rest_is}
use Rattle.record_batch.proofs.RecordLaws.{all-sound}

-- ---- what tests that found nothing tell

pub back : (b : Bool) → not b ≡ false → b ≡ true
back true e = refl
back false e = absurd cc

pub not_true : (b : Bool) → not b ≡ true → b ≡ false
not_true true e = absurd cc
not_true false e = refl

pub none_here : (b : Bool) (fault : BatchFault) (more : Option BatchFault) → cond b (Some fault) more ≡ None → (b ≡ false) × (more ≡ None)
none_here true fault more e = absurd cc
none_here false fault more e = (refl, e)

pub length_tells : (total : ℕ) (z : ℤ) → has_length total z ≡ true → (n : ℕ) × (z ≡ pos n) × (49 ≤ n) × (n + 12 ≤ total)
length_tells total (pos n) e =
    let p = and_parts (leb 49 n) (leb (n + 12) total) e in
    (n, refl, leb-true 49 n p.0, leb-true (n + 12) total p.1)
length_tells total (negsuc n) e = absurd cc

pub count_tells : (count last : ℤ) → (int_lt (pos 0) count && int_eq (count -ℤ pos 1) last) ≡ true → (n : ℕ) × (count ≡ pos (suc n)) × (last ≡ pos n)
count_tells (pos zero) last e = absurd cc
count_tells (pos (suc n)) last e =
    let p = and_parts (int_lt (pos 0) (pos (suc n))) (int_eq (pos (suc n) -ℤ pos 1) last) e in
    let less : pos (suc n) -ℤ pos 1 ≡ pos n = -ℤ_one (pos (suc n)) in
    (n, refl, sym ((Decides-int_eq (pos (suc n) -ℤ pos 1) last).0 p.1) ∙ less)
count_tells (negsuc n) last e = absurd cc

pub records_tell : (found : Result (List Rec) Malformed) → is_ok found ≡ true → found ≡ Ok (found_or_none found)
records_tell (Ok rs) e = refl
records_tell (Err m) e = absurd cc

-- ---- all tests

-- what is true of a header where no test finds a fault
pub record Passes (max : ℕ) (bytes : List ℕ) (h : BatchHeader) (body : List ℕ) : Type 0 where
  pub long : has_length (length bytes) h.batch_length ≡ true
  pub format : int_eq h.magic (pos 2) ≡ true
  pub summed : eqb h.crc (crc32c (slice_range bytes 21 (end_of h.batch_length))) ≡ true
  pub uncompressed : is_uncompressed h ≡ true
  pub ends : eqb (end_of h.batch_length) (length bytes) ≡ true
  pub plain : is_control h ≡ false
  pub counted : has_count h ≡ true
  pub producer : has_producer h ≡ true
  pub recorded : has_records h body ≡ true
  pub created : has_append_time h ≡ false
  pub fits : nat_lt max (length bytes) ≡ false

pub passes : (max : ℕ) (bytes : List ℕ) (h : BatchHeader) (body : List ℕ) → first_found (fault_tests max bytes h body) ≡ None → Passes max bytes h body
unfolding is_valid
passes max bytes h body e =
    let p0 = none_here _ _ _ e in
    let p1 = none_here _ _ _ p0.1 in
    let p2 = none_here _ _ _ p1.1 in
    let p3 = none_here _ _ _ p2.1 in
    let p4 = none_here (not (is_valid h body bytes)) _ _ p3.1 in
    let p5 = none_here _ _ _ p4.1 in
    let p6 = none_here _ _ _ p5.1 in
    let v4 = and_parts _ (has_records h body) (back (is_valid h body bytes) p4.0) in
    let v3 = and_parts _ (has_producer h) v4.0 in
    let v2 = and_parts _ (has_count h) v3.0 in
    let v1 = and_parts (eqb (end_of h.batch_length) (length bytes)) (not (is_control h)) v2.0 in
    record {
      long = back _ p0.0;
      format = back _ p1.0;
      summed = back _ p2.0;
      uncompressed = back _ p3.0;
      ends = v1.0;
      plain = not_true (is_control h) v1.1;
      counted = v2.1;
      producer = v3.1;
      recorded = v4.1;
      created = p5.0;
      fits = p6.0;
    }

-- ---- the batch

pub is_batch : (max : ℕ) (bytes : List ℕ) (h : BatchHeader) → batch_header.reading bytes ≡ Ok (h, drop 61 bytes) → Passes max bytes h (drop 61 bytes) → IsBatch (batch_of h None bytes)
unfolding has_records
is_batch max bytes h e p =
    let body : List ℕ = drop 61 bytes in
    let found : Result (List Rec) Malformed = all_records (count_of h.record_count) body in
    let s = batch_header.sound bytes h body e in
    let l = length_tells (length bytes) h.batch_length p.long in
    let n = count_tells h.record_count h.last_offset_delta p.counted in
    let end : end_of h.batch_length ≡ length bytes = eqb-true (end_of h.batch_length) (length bytes) p.ends in
    let size : l.0 + 12 ≡ length bytes = sym (ap end_of l.1) ∙ end in
    let less : l.0 ≡ length bytes - 12 = omega (arith, size) in
    let rs = all-sound (count_of h.record_count) body (found_or_none found) (records_tell found p.recorded) in
    let many : length (found_or_none found) ≡ suc n.0 = rs.0 ∙ ap count_of n.1 in
    let fewer : n.0 ≡ length (found_or_none found) - 1 = omega (arith, many) in
    let sum : h.crc ≡ crc32c (slice_range bytes 21 (end_of h.batch_length)) = eqb-true h.crc (crc32c (slice_range bytes 21 (end_of h.batch_length))) p.summed in
    let covered : slice_range bytes 21 (end_of h.batch_length) ≡ drop 21 bytes = ap (slice_range bytes 21) end ∙ rest_is 21 bytes in
    record {
      front = s.0;
      body = body;
      parts = s.1;
      headed = s.2;
      recorded = rs.1;
      some = omega (arith, many);
      counted = n.1 ∙ ap pos (sym many);
      numbered = n.2 ∙ ap pos fewer;
      ends = l.1 ∙ ap pos less;
      summed = sum ∙ ap crc32c covered;
      format = (Decides-int_eq h.magic (pos 2)).0 p.format;
      uncompressed = p.uncompressed;
      created = p.created;
      marked = p.plain;
    }

pub faultless : (max : ℕ) (bytes : List ℕ) (h : BatchHeader) → batch_header.reading bytes ≡ Ok (h, drop 61 bytes) → first_fault max bytes ≡ None → IsBatch (batch_of h None bytes)
unfolding first_fault
faultless max bytes h e none =
    is_batch max bytes h e (passes max bytes h (drop 61 bytes) (sym (ap (fault_after_header max bytes) e) ∙ none))
