-- The laws of batches.
use Rattle.std.proofs.Common.{◌≡◌, ℕ, zero, suc, ℤ, pos, ◌+◌, ◌-◌, ◌<◌, ◌≤◌, Bool, true, false, ◌&&◌, not, cond, eqb, leb, List, [], ◌∷◌, length, get_or, drop, Option, Some, None, Ok, Err, refl, sym, ap, subst, ◌∙◌, arith}
use Rattle.std.specs.Prelude.{◌-ℤ◌, slice_range, int_lt, is_ok, nat_lt}
use Rattle.std.specs.Ordering.{int_eq}
use Rattle.std.proofs.Math.IntN.{ -ℤ_one}
use Rattle.std.proofs.lemmas.Bool.{eq-eqb, le-leb, le-ltb, lt-ltb, ltb-false}
use Rattle.std.proofs.lemmas.Bool.Decides.{Decides-int_eq}
use Rattle.wire_types.specs.NumberLaws.{ok_is}
use Rattle.wire_types.specs.Reading.{Found}
use Rattle.record_batch.specs.declared.header.BatchHeader.{BatchHeader}
use Rattle.record_batch.specs.declared.fault.BatchFault.{BatchFault}
use Rattle.record_batch.specs.declared.fault.BatchFault.TheVariants.{Length, Magic, Crc, Compressed, Invalid, Timestamp, TooLarge}
use Rattle.record_batch.specs.declared.transaction_result.TransactionResult.{TransactionResult}
use Rattle.record_batch.specs.declared.transaction_result.TransactionResult.TheVariants.{Abort, Commit}
use Rattle.record_batch.specs.declared.record.Rec.{Rec}
use Rattle.record_batch.specs.Crc.{crc32c}
use Rattle.record_batch.specs.BatchHeader.{batch_header, header_at, is_uncompressed, has_append_time, is_control, count_of}
use Rattle.record_batch.specs.Record.{records_at, all_records}
use Rattle.record_batch.specs.Batch.{BatchData, IsBatch, IsMarked, batch_of, has_producer, marker_type, marker_record, bytes_with_offset, written_at}
use Rattle.record_batch.specs.Faults.{end_of, has_length, has_count, has_records, is_valid, first_found, fault_tests, fault_after_header, first_fault, IsData}
use Rattle.record_batch.specs.Laws.{OneBatch, FaultlessIsBatch, LastOffsetStays, OffsetAloneChanges, SameFaults}
use Rattle.record_batch.proofs.Checked.{rest_is}
use Rattle.record_batch.proofs.Faultless.{passes, is_batch}
use Rattle.record_batch.proofs.HeaderLaws.{header_rest}
use Rattle.record_batch.proofs.Kept.{body_is, batch_long, header_read, records_read}
use Rattle.record_batch.proofs.RecordLaws.{all-complete}
use Rattle.record_batch.proofs.Moved.{parts_of, Parts, middle_is, bytes_with_offset-is, same_rest, same_after, same_length, moved_parts, written_at-is}

-- ---- one batch

abbrev front_of : BatchHeader → List ℕ → BatchHeader × List ℕ
front_of h rest = (h, rest)

one_header : (b c : BatchData) → IsBatch b → IsBatch c → b.bytes ≡ c.bytes → b.header ≡ c.header
one_header b c ib ic same =
    let both = ok_is (front_of b.header (drop 61 b.bytes)) (front_of c.header (drop 61 c.bytes)) (sym (header_read b ib) ∙ ap batch_header.reading same ∙ header_read c ic) in
    ap (λ (x : BatchHeader × List ℕ). x.0) both

abbrev list_of : List Rec → List ℕ → List Rec × List ℕ
list_of rs rest = (rs, rest)

one_list : (b c : BatchData) → IsBatch b → IsBatch c → b.bytes ≡ c.bytes → b.header ≡ c.header → b.records ≡ c.records
one_list b c ib ic same header =
    let read : records_at 0 (count_of b.header.record_count) (slice_range b.bytes 61 (length b.bytes)) ≡ records_at 0 (count_of c.header.record_count) (slice_range c.bytes 61 (length c.bytes)) =
    ap (λ (t : List ℕ). records_at 0 (count_of b.header.record_count) (slice_range t 61 (length t))) same
    ∙ ap (λ (h : BatchHeader). records_at 0 (count_of h.record_count) (slice_range c.bytes 61 (length c.bytes))) header in
    ap (λ (x : List Rec × List ℕ). x.0) (ok_is (list_of b.records []) (list_of c.records []) (sym (records_read b ib) ∙ read ∙ records_read c ic))

type_in : Option (List ℕ) → ℕ
type_in None = 0
type_in (Some key) = get_or key 3 0

first_type : List Rec → ℕ
first_type [] = 0
first_type (r ∷ rs) = type_in r.key

differ : marker_type Abort ≡ marker_type Commit → ⊥
differ e = omega (arith, e)

one_type : (o p : TransactionResult) → marker_record o ∷ [] ≡ marker_record p ∷ [] → o ≡ p
unfolding first_type type_in
one_type Abort Abort e = refl
one_type Commit Commit e = refl
one_type Abort Commit e = absurd (differ (ap first_type e))
one_type Commit Abort e = absurd (differ (sym (ap first_type e)))

one_marker : (m n : Option TransactionResult) (h : BatchHeader) (rs : List Rec) → IsMarked m h rs → IsMarked n h rs → m ≡ n
one_marker None None h rs p q = refl
one_marker None (Some o) h rs p q = absurd (cc (p, q.0))
one_marker (Some o) None h rs p q = absurd (cc (p.0, q))
one_marker (Some o) (Some r) h rs p q = ap Some (one_type o r (sym p.1 ∙ q.1))

pub one_batch : OneBatch
one_batch b c ib ic same =
    let header : b.header ≡ c.header = one_header b c ib ic same in
    let records : b.records ≡ c.records = one_list b c ib ic same header in
    let marked : IsMarked b.marker c.header c.records =
    subst (λ (rs : List Rec). IsMarked b.marker c.header rs) records (subst (λ (h : BatchHeader). IsMarked b.marker h b.records) header ib.marked) in
    let marker : b.marker ≡ c.marker = one_marker b.marker c.marker c.header c.records marked ic.marked in
    ap (λ (h : BatchHeader). record { header = h; records = b.records; marker = b.marker; bytes = b.bytes }) header
    ∙ ap (λ (rs : List Rec). record { header = c.header; records = rs; marker = b.marker; bytes = b.bytes }) records
    ∙ ap (λ (m : Option TransactionResult). record { header = c.header; records = c.records; marker = m; bytes = b.bytes }) marker
    ∙ ap (λ (t : List ℕ). record { header = c.header; records = c.records; marker = c.marker; bytes = t }) same

-- ---- another offset

pub offset_alone_changes : OffsetAloneChanges
offset_alone_changes b is offset =
    let p = parts_of b is in
    let q : Parts (bytes_with_offset offset b.bytes) = moved_parts offset b is in
    (same_length offset b.bytes p, middle_is (bytes_with_offset offset b.bytes) q ∙ sym (middle_is b.bytes p), same_rest offset b.bytes p)

pub last_offset_stays : LastOffsetStays
last_offset_stays b is first last =
    let p = parts_of b is in
    let q : Parts (bytes_with_offset first b.bytes) = moved_parts first b is in
    let bytes : bytes_with_offset last (bytes_with_offset first b.bytes) ≡ bytes_with_offset last b.bytes = bytes_with_offset-is last (bytes_with_offset first b.bytes) q ∙ sym (bytes_with_offset-is last b.bytes p) in
    ap (λ (t : List ℕ). record { header = header_at last b.header; records = b.records; marker = b.marker; bytes = t }) bytes

same_tests : (max : ℕ) (offset : ℤ) (h : BatchHeader) (bytes moved body after : List ℕ) → length moved ≡ length bytes → slice_range moved 21 (end_of h.batch_length) ≡ slice_range bytes 21 (end_of h.batch_length) → after ≡ body
    → fault_tests max moved (header_at offset h) after ≡ fault_tests max bytes h body
unfolding is_valid has_records
same_tests max offset h bytes moved body after size covered rest = rw (size, covered, rest) refl

pub same_faults : SameFaults
unfolding first_fault
same_faults b is offset fits max =
    let p = parts_of b is in
    let moved : List ℕ = bytes_with_offset offset b.bytes in
    let size : length moved ≡ length b.bytes = same_length offset b.bytes p in
    let end : end_of b.header.batch_length ≡ length b.bytes = ap end_of is.ends ∙ omega (arith, batch_long b is) in
    let covered : slice_range moved 21 (end_of b.header.batch_length) ≡ slice_range b.bytes 21 (end_of b.header.batch_length) =
    ap (slice_range moved 21) (end ∙ sym size) ∙ rest_is 21 moved ∙ same_after 21 offset b.bytes p (omega arith) ∙ sym (rest_is 21 b.bytes) ∙ ap (slice_range b.bytes 21) (sym end) in
    let rest : drop 61 moved ≡ drop 61 b.bytes = same_after 61 offset b.bytes p (omega arith) in
    ap (fault_after_header max moved) (header_read (written_at offset b) (written_at-is offset b fits is))
    ∙ ap first_found (same_tests max offset b.header b.bytes moved (drop 61 b.bytes) (drop 61 moved) size covered rest)
    ∙ sym (ap (fault_after_header max b.bytes) (header_read b is))

-- ---- no fault

all_true : (a b c d e : Bool) → a ≡ true → b ≡ true → c ≡ true → d ≡ true → e ≡ true → (a && b && c && d && e) ≡ true
all_true a b c d e pa pb pc pd pe = rw (pa, pb, pc, pd, pe) refl

-- a test that finds nothing
found_none : (fault : BatchFault) (b : Bool) (more : Option BatchFault) → b ≡ false → more ≡ None → cond b (Some fault) more ≡ None
found_none fault b more e rest = ap (λ (x : Bool). cond x (Some fault) more) e ∙ rest

is_length : (total n : ℕ) → 61 ≤ total → n ≡ total - 12 → has_length total (pos n) ≡ true
is_length total n long is =
    let least : leb 49 n ≡ true = le-leb 49 n (omega (arith, long, is)) in
    let most : leb (n + 12) total ≡ true = le-leb (n + 12) total (omega (arith, long, is)) in
    rw (least, most) refl

both : (a b : Bool) → a ≡ true → b ≡ true → (a && b) ≡ true
both a b p q = rw (p, q) refl

is_count : (count : ℕ) → 0 < count → (int_lt (pos 0) (pos count) && int_eq (pos count -ℤ pos 1) (pos (count - 1))) ≡ true
is_count zero some = absurd (omega (arith, some))
is_count (suc n) some =
    let one_less : suc n - 1 ≡ n = omega arith in
    let less : pos (suc n) -ℤ pos 1 ≡ pos (suc n - 1) = -ℤ_one (pos (suc n)) ∙ ap pos (sym one_less) in
    let above : int_lt (pos 0) (pos (suc n)) ≡ true = lt-ltb 0 (suc n) (omega arith) in
    both (int_lt (pos 0) (pos (suc n))) (int_eq (pos (suc n) -ℤ pos 1) (pos (suc n - 1))) above ((Decides-int_eq (pos (suc n) -ℤ pos 1) (pos (suc n - 1))).1 less)

counts : (count last : ℤ) (n : ℕ) → 0 < n → count ≡ pos n → last ≡ pos (n - 1) → (int_lt (pos 0) count && int_eq (count -ℤ pos 1) last) ≡ true
counts count last n some c l = rw (c, l) (is_count n some)

lasts : (total : ℕ) (z : ℤ) → 61 ≤ total → z ≡ pos (total - 12) → has_length total z ≡ true
lasts total z long e = ap (has_length total) e ∙ is_length total (total - 12) long refl

no_control : (m : Option TransactionResult) (h : BatchHeader) (rs : List Rec) → m ≡ None → IsMarked m h rs → is_control h ≡ false
no_control None h rs e is = is
no_control (Some o) h rs e is = absurd cc

valid : (b : BatchData) → IsBatch b → IsData b → is_valid b.header (drop 61 b.bytes) b.bytes ≡ true
unfolding is_valid has_records
valid b is plain_data =
    let end : end_of b.header.batch_length ≡ length b.bytes = ap end_of is.ends ∙ omega (arith, batch_long b is) in
    let found : all_records (count_of b.header.record_count) (drop 61 b.bytes) ≡ Ok b.records =
    ap (λ (n : ℕ). all_records n (drop 61 b.bytes)) (ap count_of is.counted) ∙ ap (all_records (length b.records)) (body_is b is) ∙ all-complete is.body b.records is.recorded in
    let ends : eqb (end_of b.header.batch_length) (length b.bytes) ≡ true = eq-eqb (end_of b.header.batch_length) (length b.bytes) end in
    let plain : is_control b.header ≡ false = no_control b.marker b.header b.records plain_data.unmarked is.marked in
    let counted : has_count b.header ≡ true = counts b.header.record_count b.header.last_offset_delta (length b.records) is.some is.counted is.numbered in
    all_true (eqb (end_of b.header.batch_length) (length b.bytes)) (not (is_control b.header)) (has_count b.header) (has_producer b.header) (is_ok (all_records (count_of b.header.record_count) (drop 61 b.bytes)))
    ends (ap not plain) counted plain_data.producer (ap is_ok found)

tests_pass : (max : ℕ) (b : BatchData) → IsBatch b → IsData b → length b.bytes ≤ max → first_found (fault_tests max b.bytes b.header (drop 61 b.bytes)) ≡ None
tests_pass max b is plain_data small =
    let end : end_of b.header.batch_length ≡ length b.bytes = ap end_of is.ends ∙ omega (arith, batch_long b is) in
    let sum : b.header.crc ≡ crc32c (slice_range b.bytes 21 (end_of b.header.batch_length)) = is.summed ∙ ap crc32c (sym (ap (slice_range b.bytes 21) end ∙ rest_is 21 b.bytes)) in
    found_none Length (not (has_length (length b.bytes) b.header.batch_length)) _ (ap not (lasts (length b.bytes) b.header.batch_length (batch_long b is) is.ends))
    (found_none Magic (not (int_eq b.header.magic (pos 2))) _ (ap not ((Decides-int_eq b.header.magic (pos 2)).1 is.format))
    (found_none Crc (not (eqb b.header.crc (crc32c (slice_range b.bytes 21 (end_of b.header.batch_length))))) _ (ap not (eq-eqb b.header.crc (crc32c (slice_range b.bytes 21 (end_of b.header.batch_length))) sum))
    (found_none Compressed (not (is_uncompressed b.header)) _ (ap not is.uncompressed)
    (found_none Invalid (not (is_valid b.header (drop 61 b.bytes) b.bytes)) _ (ap not (valid b is plain_data))
    (found_none Timestamp (has_append_time b.header) _ is.created
    (found_none TooLarge (nat_lt max (length b.bytes)) _ (le-ltb _ _ small) refl))))))

backward : (max : ℕ) (b : BatchData) → IsBatch b → IsData b → length b.bytes ≤ max → first_fault max b.bytes ≡ None
unfolding first_fault
backward max b is plain_data small = ap (fault_after_header max b.bytes) (header_read b is) ∙ tests_pass max b is plain_data small

abbrev IsSmallData : ℕ → List ℕ → BatchData → Type 0
IsSmallData max bytes b = (b.bytes ≡ bytes) × IsBatch b × IsData b × (length bytes ≤ max)

by_reading : (max : ℕ) (bytes : List ℕ) (found : Found BatchHeader) → batch_header.reading bytes ≡ found → fault_after_header max bytes found ≡ None → (b : BatchData) × IsSmallData max bytes b
by_reading max bytes (Err e) read none = absurd cc
by_reading max bytes (Ok x) read none =
    let rest : x.1 ≡ drop 61 bytes = (header_rest bytes x.1 x.0 read).1 in
    let here : batch_header.reading bytes ≡ Ok (x.0, drop 61 bytes) = read ∙ ap (λ (t : List ℕ). Ok (x.0, t)) rest in
    let p = passes max bytes x.0 (drop 61 bytes) (ap (λ (t : List ℕ). first_found (fault_tests max bytes x.0 t)) (sym rest) ∙ none) in
    (batch_of x.0 None bytes, (refl, is_batch max bytes x.0 here p, record { unmarked = refl; producer = p.producer }, ltb-false _ _ p.fits))

forward : (max : ℕ) (bytes : List ℕ) → first_fault max bytes ≡ None → (b : BatchData) × IsSmallData max bytes b
unfolding first_fault
forward max bytes none = by_reading max bytes (batch_header.reading bytes) refl none

pub faultless_is_batch : FaultlessIsBatch
faultless_is_batch max bytes = (
  λ none. let f = forward max bytes none in (f.0, f.1.0, f.1.1, f.1.2, f.1.3),
  λ x. ap (first_fault max) (sym x.1) ∙ backward max x.0 x.2 x.3 (subst (λ (t : List ℕ). length t ≤ max) (sym x.1) x.4),
)
