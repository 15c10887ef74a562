-- Reading records one after the other, as loops do.
use Rattle.std.proofs.Common.{◌≡◌, ℕ, suc, ◌-◌, ◌+◌, ◌≤◌, ◌<◌, List, [], ◌∷◌, ◌++◌, ℤ, Ok, Err, refl, sym, ap, ◌∙◌, append_assoc, arith}
use Rattle.std.proofs.lemmas.List.{append-nil}
use Rattle.wire_types.specs.declared.fault.Malformed.{Malformed}
use Rattle.wire_types.specs.declared.fault.ReadFault.{ReadFault}
use Rattle.wire_types.specs.declared.fault.ReadFault.TheVariants as faults
use Rattle.wire_types.specs.NumberLaws.{bind_ok, ok_is}
use Rattle.wire_types.specs.Reading.{Found, ◌>>=◌, Reads, skipped_if_found}
use Rattle.wire_types.proofs.Loop.{with_front}
use Rattle.record_batch.specs.declared.record.Rec.{Rec}
use Rattle.record_batch.specs.declared.record.RecordAt.{RecordAt}
use Rattle.record_batch.specs.Batch.{placed_if_found, record_at_place}
use Rattle.record_batch.specs.Record.{record_at, records_at}

regroup : (base : ℤ) (i : ℕ) (front : List RecordAt) (r : Rec) (found : Found (List Rec))
    → with_front front (placed_if_found base i (found >>= λ rs. Ok (r ∷ rs.0, rs.1))) ≡ with_front (front ++ record_at_place base i r ∷ []) (placed_if_found base (i + 1) found)
regroup base i front r (Ok rs) = ap (λ (ys : List RecordAt). Ok (ys, rs.1)) (simp append_assoc)
regroup base i front r (Err e) = refl

-- the records from the place i on, of so many
pub goes_on : (base : ℤ) (front : List RecordAt) (count i : ℕ) (bytes : List ℕ) (r : Rec) (after : List ℕ) (total : Found (List RecordAt)) → i < count → record_at i bytes ≡ Ok (r, after)
    → with_front front (placed_if_found base i (records_at i (count - i) bytes)) ≡ total
    → with_front (front ++ record_at_place base i r ∷ []) (placed_if_found base (i + 1) (records_at (i + 1) (count - (i + 1)) after)) ≡ total
unfolding records_at
goes_on base front count i bytes r after total lt h so_far =
    let k : count - i ≡ suc (count - (i + 1)) = omega arith in
    let step : with_front front (placed_if_found base i (records_at i (count - i) bytes)) ≡ with_front (front ++ record_at_place base i r ∷ []) (placed_if_found base (i + 1) (records_at (i + 1) (count - (i + 1)) after)) =
    rw (k, h) (regroup base i front r (records_at (i + 1) (count - (i + 1)) after)) in
    sym step ∙ so_far

-- the refusal of one record is that of all
pub ends : (e : ReadFault) (base : ℤ) (front : List RecordAt) (count i : ℕ) (bytes new : List ℕ) (total : Found (List RecordAt)) → i < count → Reads (record_at i bytes) (Err e) new
    → with_front front (placed_if_found base i (records_at i (count - i) bytes)) ≡ total → Reads total (Err e) new
unfolding records_at
ends faults.NoMemory base front count i bytes new total lt h so_far = tt
ends (faults.Malformed f) base front count i bytes new total lt h so_far =
    let k : count - i ≡ suc (count - (i + 1)) = omega arith in
    let step : with_front front (placed_if_found base i (records_at i (count - i) bytes)) ≡ Err f = rw (k, h) refl in
    sym so_far ∙ step

pub is_done : (base : ℤ) (front : List RecordAt) (count i : ℕ) (bytes : List ℕ) (total : Found (List RecordAt)) → count ≤ i
    → with_front front (placed_if_found base i (records_at i (count - i) bytes)) ≡ total → total ≡ Ok (front, bytes)
unfolding records_at
is_done base front count i bytes total le so_far =
    let k : count - i ≡ 0 = omega arith in
    let step : with_front front (placed_if_found base i (records_at i (count - i) bytes)) ≡ Ok (front, bytes) = rw k (ap (λ (rs : List RecordAt). Ok (rs, bytes)) (append-nil front)) in
    sym so_far ∙ step

-- ---- skipping

-- what was skipped is there
pub skipped_is : {A : Type 0} (found : Found A) (after : List ℕ) → skipped_if_found found ≡ Ok (tt, after) → (x : A) × (found ≡ Ok (x, after))
skipped_is {A} found after h =
    let a = bind_ok found (λ x. Ok (tt, x.1)) (tt, after) h in
    let there : a.0.1 ≡ after = ap (λ (x : Unit {0} × List ℕ). x.1) (ok_is (tt, a.0.1) (tt, after) a.2) in
    (a.0.0, a.1 ∙ ap (λ (t : List ℕ). Ok (a.0.0, t)) there)

pub failed_is : {A : Type 0} (found : Found A) (e : Malformed) → skipped_if_found found ≡ Err e → found ≡ Err e
failed_is (Ok x) e h = absurd cc
failed_is (Err f) e h = cc

drops : (found : Found (List Rec)) (r : Rec) → skipped_if_found (found >>= λ rs. Ok (r ∷ rs.0, rs.1)) ≡ skipped_if_found found
drops (Ok rs) r = refl
drops (Err e) r = refl

pub skip_goes_on : (count i : ℕ) (bytes after : List ℕ) (total : Found (Unit {0})) → i < count → skipped_if_found (record_at i bytes) ≡ Ok (tt, after)
    → skipped_if_found (records_at i (count - i) bytes) ≡ total → skipped_if_found (records_at (i + 1) (count - (i + 1)) after) ≡ total
unfolding records_at
skip_goes_on count i bytes after total lt h so_far =
    let k : count - i ≡ suc (count - (i + 1)) = omega arith in
    let r = skipped_is (record_at i bytes) after h in
    let step : skipped_if_found (records_at i (count - i) bytes) ≡ skipped_if_found (records_at (i + 1) (count - (i + 1)) after) = rw (k, r.1) (drops (records_at (i + 1) (count - (i + 1)) after) r.0) in
    sym step ∙ so_far

pub skip_ends : (e : Malformed) (count i : ℕ) (bytes : List ℕ) (total : Found (Unit {0})) → i < count → skipped_if_found (record_at i bytes) ≡ Err e
    → skipped_if_found (records_at i (count - i) bytes) ≡ total → total ≡ Err e
unfolding records_at
skip_ends e count i bytes total lt h so_far =
    let k : count - i ≡ suc (count - (i + 1)) = omega arith in
    let step : skipped_if_found (records_at i (count - i) bytes) ≡ Err e = rw (k, failed_is (record_at i bytes) e h) refl in
    sym so_far ∙ step

pub skip_done : (count i : ℕ) (bytes : List ℕ) (total : Found (Unit {0})) → count ≤ i → skipped_if_found (records_at i (count - i) bytes) ≡ total → total ≡ Ok (tt, bytes)
unfolding records_at
skip_done count i bytes total le so_far =
    let k : count - i ≡ 0 = omega arith in
    let step : skipped_if_found (records_at i (count - i) bytes) ≡ Ok (tt, bytes) = rw k refl in
    sym so_far ∙ step
