-- How often places are held.
use Rattle.std.proofs.Common.{◌≡◌, ℕ, ◌+◌, ◌<◌, ◌≤◌, ◌==◌, List, [], ◌∷◌, length, take, drop, get_or, true, ap, sym, ◌∙◌, arith, cond, sum_by, subst, All, Any, Some, None, slice_get, slice_index_or, Vec, Option, refl}
use Rattle.std.proofs.lemmas.List.{take-append-drop, take_more}
use Rattle.std.proofs.lemmas.List.Sums.{sum_by-append, count_by_more_yes}
use Rattle.std.proofs.lemmas.Option.{slice_get_within}
use Rattle.std.proofs.lemmas.List.Elements.{All-more}
use Rattle.std.specs.Prelude.{IsSomeAnd}
use Rattle.std.specs.declared.alloc.Global.{Global}
use Rattle.audit_trail.specs.declared.trail.Entry.{Entry}
use Rattle.request_handlers.specs.Receipt.{ReceiptValue}
use Rattle.session_workers.specs.Settle.{times_held, times_in, IsInTrail, AreInTrail}

-- a part sums to no more than the whole
pub sum_take : {X : Type 0} (f : X → ℕ) (xs : List X) (n : ℕ) → sum_by f (take n xs) ≤ sum_by f xs
sum_take f xs n = omega (arith, sum_by-append f (take n xs) (drop n xs), ap (sum_by f) (take-append-drop n xs))

-- a receipt holds its place once more than those before it
pub held_here : (rs : List ReceiptValue) (i : ℕ) (d : ReceiptValue) (place : ℕ) → i < length rs → (place == place) ≡ true → (get_or rs i d).place ≡ place → times_held place (take i rs) + 1 ≤ times_held place rs
held_here rs i d place lt same is =
    let yes : ((get_or rs i d).place == place) ≡ true = ap (λ p. p == place) is ∙ same in
    omega (arith, count_by_more_yes (λ r. r.place == place) rs i d lt yes, sum_take (λ (r : ReceiptValue). cond (r.place == place) 1 0) rs (i + 1))

-- the ends so far and one more
pub told_more : (trail : List Entry) (ends : List (Vec ReceiptValue Global)) (i : ℕ) (e : Vec ReceiptValue Global) (xs : List ReceiptValue)
    → i < length ends → e ≡ get_or ends i e → xs ≡ e.items → AreInTrail trail (take i ends) → All (IsInTrail trail) xs → AreInTrail trail (take (i + 1) ends)
told_more trail ends i e xs lt is same before here =
    let P : Vec ReceiptValue Global → Type 0 = λ v. All (IsInTrail trail) v.items in
    let here' : P e = subst (All (IsInTrail trail)) same here in
    All-more P ends i e lt before (subst P is here')

-- a receipt that isn't the trail's
pub stray_at : (trail : List Entry) (ends : List (Vec ReceiptValue Global)) (i : ℕ) (e : Vec ReceiptValue Global) (xs : List ReceiptValue)
    → i < length ends → e ≡ get_or ends i e → xs ≡ e.items → Any (λ r. ¬ IsInTrail trail r) xs → Any (λ v. Any (λ r. ¬ IsInTrail trail r) v.items) ends
stray_at trail ends i e xs lt is same here = (i, e, lt, sym is, subst (Any (λ r. ¬ IsInTrail trail r)) same here)

-- each place of a receipt that is the trail's lies in the trail
told_inside : (trail : List Entry) (r : ReceiptValue) → IsInTrail trail r → r.place < length trail
told_inside trail r is = by (slice_get trail r.place) refl is
  where
    by : (found : Option Entry) → slice_get trail r.place ≡ found → IsSomeAnd found (λ entry. (entry.event ≡ r.event) × (entry.reply ≡ r.reply)) → r.place < length trail
    by None e h = absurd h
    by (Some entry) e h = slice_get_within trail r.place entry e

pub told_places : (trail : List Entry) (ends : List (Vec ReceiptValue Global)) (n : ℕ) → n ≡ length trail → AreInTrail trail ends → All (λ v. All (λ r. r.place < n) v.items) ends
told_places trail ends n is told = λ k d lt j e jt. subst (λ (m : ℕ). (slice_index_or (slice_index_or ends k d).items j e).place < m) (sym is) (told_inside trail _ (told k d lt j e jt))

-- places of one end more
pub ends_more : (place : ℕ) (ends : List (Vec ReceiptValue Global)) (i : ℕ) (e : Vec ReceiptValue Global) (xs : List ReceiptValue)
    → i < length ends → e ≡ get_or ends i e → xs ≡ e.items → times_in place (take (i + 1) ends) ≡ times_in place (take i ends) + times_held place xs
ends_more place ends i e xs lt is same =
    let f : Vec ReceiptValue Global → ℕ = λ v. times_held place v.items in
    omega (arith, ap (sum_by f) (take_more ends i e lt), sum_by-append f (take i ends) (get_or ends i e ∷ []), ap f is, ap (times_held place) same)

pub ends_part : (place : ℕ) (ends : List (Vec ReceiptValue Global)) (n : ℕ) → times_in place (take n ends) ≤ times_in place ends
ends_part place ends n = sum_take (λ (v : Vec ReceiptValue Global). times_held place v.items) ends n
