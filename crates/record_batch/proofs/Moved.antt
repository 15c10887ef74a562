-- A batch at another offset is one.
use Rattle.std.proofs.Common.{◌≡◌, ℕ, ℤ, pos, ◌+◌, ◌-◌, ◌≤◌, List, ◌++◌, length, take, drop, Option, Some, None, refl, sym, ap, ◌∙◌, append_assoc, arith, lit<}
use Rattle.std.specs.Prelude.{slice_range, FitsSigned}
use Rattle.std.specs.Int.{w32, w64, cast_unsigned}
use Rattle.std.proofs.lemmas.List.{take_at, drop_at, length-append, drop-drop, drop-take, take-take}
use Rattle.wire_types.specs.NumberLaws.{wide32, wide64, int-canonical}
use Rattle.wire_types.specs.Spelling.{int_written}
use Rattle.wire_types.specs.Schema.{int32, int64}
use Rattle.record_batch.specs.declared.header.BatchHeader.{BatchHeader}
use Rattle.record_batch.specs.declared.transaction_result.TransactionResult.{TransactionResult}
use Rattle.record_batch.specs.declared.record.Rec.{Rec}
use Rattle.record_batch.specs.Crc.{crc32c}
use Rattle.record_batch.specs.BatchHeader.{header_at}
use Rattle.record_batch.specs.Batch.{BatchData, IsBatch, IsMarked, bytes_with_offset, written_at}

-- the bytes of a batch, parted where another offset and leader epoch are put
pub record Parts (bytes : List ℕ) : Type 0 where
  pub offset : List ℕ
  pub size : List ℕ
  pub epoch : List ℕ
  pub rest : List ℕ
  pub split : bytes ≡ offset ++ (size ++ (epoch ++ rest))
  pub eight : length offset ≡ 8
  pub four : length size ≡ 4
  pub four_more : length epoch ≡ 4

abbrev pub parts_of : (b : BatchData) → IsBatch b → Parts b.bytes
parts_of b is =
    let h = is.headed in
    let t = h.4 in
    let u = t.4 in
    let front : is.front ≡ h.0 ++ (t.0 ++ (u.0 ++ u.1)) = h.2 ∙ ap (λ (x : List ℕ). h.0 ++ x) (t.2 ∙ ap (λ (x : List ℕ). t.0 ++ x) u.2) in
    let regrouped : (h.0 ++ (t.0 ++ (u.0 ++ u.1))) ++ is.body ≡ h.0 ++ (t.0 ++ (u.0 ++ (u.1 ++ is.body))) = simp append_assoc in
    record {
      offset = h.0;
      size = t.0;
      epoch = u.0;
      rest = u.1 ++ is.body;
      split = is.parts ∙ ap (λ (x : List ℕ). x ++ is.body) front ∙ regrouped;
      eight = h.3.0;
      four = t.3.0;
      four_more = u.3.0;
    }

pub middle_is : (bytes : List ℕ) (p : Parts bytes) → slice_range bytes 8 12 ≡ p.size
middle_is bytes p = ap (λ (x : List ℕ). take 4 (drop 8 x)) p.split ∙ ap (take 4) (drop_at p.offset (p.size ++ (p.epoch ++ p.rest)) 8 p.eight) ∙ take_at p.size (p.epoch ++ p.rest) 4 p.four

pub rest_of : (a t u v : List ℕ) → length a ≡ 8 → length t ≡ 4 → length u ≡ 4 → drop 16 (a ++ (t ++ (u ++ v))) ≡ v
rest_of a t u v eight four more =
    let head : List ℕ = a ++ (t ++ u) in
    let regrouped : a ++ (t ++ (u ++ v)) ≡ head ++ v = simp append_assoc in
    let sixteen : length head ≡ 16 = omega (arith, eight, four, more, length-append a (t ++ u), length-append t u) in
    ap (drop 16) regrouped ∙ drop_at head v 16 sixteen

pub bytes_with_offset-is : (offset : ℤ) (bytes : List ℕ) (p : Parts bytes) → bytes_with_offset offset bytes ≡ int64.written offset ++ (p.size ++ (int32.written (pos 0) ++ p.rest))
bytes_with_offset-is offset bytes p =
    let rest : drop 16 bytes ≡ p.rest = ap (drop 16) p.split ∙ rest_of p.offset p.size p.epoch p.rest p.eight p.four p.four_more in
    rw (middle_is bytes p, rest) refl

pub eight_bytes : (z : ℤ) → length (int64.written z) ≡ 8
unfolding int_written
eight_bytes z = wide64.len (cast_unsigned w64 z)

pub four_bytes : (z : ℤ) → length (int32.written z) ≡ 4
unfolding int_written
four_bytes z = wide32.len (cast_unsigned w32 z)

pub same_rest : (offset : ℤ) (bytes : List ℕ) (p : Parts bytes) → drop 16 (bytes_with_offset offset bytes) ≡ drop 16 bytes
same_rest offset bytes p =
    ap (drop 16) (bytes_with_offset-is offset bytes p)
    ∙ rest_of (int64.written offset) p.size (int32.written (pos 0)) p.rest (eight_bytes offset) p.four (four_bytes (pos 0))
    ∙ sym (ap (drop 16) p.split ∙ rest_of p.offset p.size p.epoch p.rest p.eight p.four p.four_more)

pub same_after : (n : ℕ) (offset : ℤ) (bytes : List ℕ) (p : Parts bytes) → 16 ≤ n → drop n (bytes_with_offset offset bytes) ≡ drop n bytes
same_after n offset bytes p le =
    let apart : 16 + (n - 16) ≡ n = omega arith in
    let split : (zs : List ℕ) → drop n zs ≡ drop (n - 16) (drop 16 zs) = λ zs. ap (λ (k : ℕ). drop k zs) (sym apart) ∙ sym (drop-drop (n - 16) 16 zs) in
    split (bytes_with_offset offset bytes) ∙ ap (drop (n - 16)) (same_rest offset bytes p) ∙ sym (split bytes)

pub same_length : (offset : ℤ) (bytes : List ℕ) (p : Parts bytes) → length (bytes_with_offset offset bytes) ≡ length bytes
same_length offset bytes p =
    let new : length (bytes_with_offset offset bytes) ≡ length (int64.written offset ++ (p.size ++ (int32.written (pos 0) ++ p.rest))) = ap length (bytes_with_offset-is offset bytes p) in
    let old : length bytes ≡ length (p.offset ++ (p.size ++ (p.epoch ++ p.rest))) = ap length p.split in
    let a : length (int64.written offset) ≡ 8 = eight_bytes offset in
    let b : length (int32.written (pos 0)) ≡ 4 = four_bytes (pos 0) in
    omega (
      arith,
      new,
      old,
      a,
      b,
      p.eight,
      p.four,
      p.four_more,
      length-append (int64.written offset) (p.size ++ (int32.written (pos 0) ++ p.rest)),
      length-append p.size (int32.written (pos 0) ++ p.rest),
      length-append (int32.written (pos 0)) p.rest,
      length-append p.offset (p.size ++ (p.epoch ++ p.rest)),
      length-append p.size (p.epoch ++ p.rest),
      length-append p.epoch p.rest,
    )

-- the same parts of the bytes at another offset
abbrev pub moved_parts : (offset : ℤ) (b : BatchData) → IsBatch b → Parts (bytes_with_offset offset b.bytes)
moved_parts offset b is =
    let p = parts_of b is in
    record {
      offset = int64.written offset;
      size = p.size;
      epoch = int32.written (pos 0);
      rest = p.rest;
      split = bytes_with_offset-is offset b.bytes p;
      eight = eight_bytes offset;
      four = p.four;
      four_more = four_bytes (pos 0);
    }

marked_at : (m : Option TransactionResult) (offset : ℤ) (h : BatchHeader) (rs : List Rec) → IsMarked m h rs → IsMarked m (header_at offset h) rs
marked_at None offset h rs is = is
marked_at (Some outcome) offset h rs is = is

pub written_at-is : (offset : ℤ) (b : BatchData) → FitsSigned w64 offset → IsBatch b → IsBatch (written_at offset b)
written_at-is offset b fits is =
    let h = is.headed in
    let t = h.4 in
    let u = t.4 in
    let p = parts_of b is in
    let zero_fits : FitsSigned w32 (pos 0) = record { sfits = lit< tt } in
    let front : List ℕ = int64.written offset ++ (t.0 ++ (int32.written (pos 0) ++ u.1)) in
    let regrouped : int64.written offset ++ (t.0 ++ (int32.written (pos 0) ++ (u.1 ++ is.body))) ≡ front ++ is.body = simp append_assoc in
    let same : length (bytes_with_offset offset b.bytes) ≡ length b.bytes = same_length offset b.bytes p in
    let covered : drop 21 (bytes_with_offset offset b.bytes) ≡ drop 21 b.bytes = same_after 21 offset b.bytes p (omega arith) in
    record {
      front = front;
      body = is.body;
      parts = bytes_with_offset-is offset b.bytes p ∙ regrouped;
      headed = (int64.written offset, _, refl, int-canonical w64 wide64 offset fits, (t.0, _, refl, t.3, (int32.written (pos 0), u.1, refl, int-canonical w32 wide32 (pos 0) zero_fits, u.4)));
      recorded = is.recorded;
      some = is.some;
      counted = is.counted;
      numbered = is.numbered;
      ends = is.ends ∙ ap (λ (n : ℕ). pos (n - 12)) (sym same);
      summed = is.summed ∙ ap crc32c (sym covered);
      format = is.format;
      uncompressed = is.uncompressed;
      created = is.created;
      marked = marked_at b.marker offset b.header b.records is.marked;
    }

-- ---- what the code makes

pub gathered : (o : ℤ) (bytes front moved new : List ℕ) → front ≡ take 16 bytes → moved ≡ int64.written o ++ (slice_range front 8 12 ++ int32.written (pos 0)) → new ≡ moved ++ drop 16 bytes
    → new ≡ bytes_with_offset o bytes
gathered o bytes front moved new e0 e1 e2 =
    let inner : take 4 (drop 8 (take 16 bytes)) ≡ take 4 (drop 8 bytes) = ap (take 4) (drop-take 8 8 bytes) ∙ take-take 4 8 (drop 8 bytes) (omega arith) in
    let size : slice_range front 8 12 ≡ slice_range bytes 8 12 = ap (λ (t : List ℕ). slice_range t 8 12) e0 ∙ inner in
    rw (e2, e1, size) (simp append_assoc)
