-- Counting the markers of an id.
use Rattle.std.proofs.Common.{◌≡◌, ℕ, ◌+◌, ◌<◌, ◌≤◌, List, [], ◌∷◌, length, take, get_or, Option, Some, None, Bool, true, false, cond, ◌||◌, refl, sym, ap, subst, ◌∙◌, arith}
use Rattle.std.specs.Prelude.{is_some, nat_lt, unwrap_or}
use Rattle.std.specs.Str.{bytes_eq}
use Rattle.std.proofs.lemmas.Bool.Decides.{nat_tests}
use Rattle.std.proofs.lemmas.List.Folds.{list_any_at, list_any_more}
use Rattle.std.proofs.lemmas.List.Sums.{sum_by-cons, sum_by_more, sum_by-take-le}
use Rattle.std.proofs.lemmas.Slice.Eq.{bytes_eq-Decides}
use Rattle.txn_coordinator.specs.declared.marker.PendingMarker.{PendingMarker}
use Rattle.txn_coordinator.specs.Warrants.{has_pending_marker}
use Rattle.txn_coordinator.specs.Kept.{pending_count_of}
use Rattle.txn_coordinator.proofs.Table.{same_is}

own : (id : List ℕ) → bytes_eq id id ≡ true
own id = (bytes_eq-Decides id id).1 refl

-- 1 for a marker of the id
abbrev one_of : List ℕ → PendingMarker → ℕ
one_of id m = cond (bytes_eq m.id id) 1 0

lt_more : (n : ℕ) → nat_lt 0 (1 + n) ≡ true
lt_more n = grind (arith, nat_tests)

-- an id owes a marker where its count isn't 0
pub owes_counted : (owed : List PendingMarker) (id : List ℕ) → has_pending_marker owed id ≡ nat_lt 0 (pending_count_of owed id)
owes_counted [] id = refl
owes_counted (m ∷ ms) id = by_test (bytes_eq m.id id) (owes_counted ms id) ∙ ap (nat_lt 0) (sym (sum_by-cons (one_of id) m ms)) where
  by_test : (b : Bool) → has_pending_marker ms id ≡ nat_lt 0 (pending_count_of ms id) → (b || has_pending_marker ms id) ≡ nat_lt 0 (cond b 1 0 + pending_count_of ms id)
  by_test true rest = sym (lt_more (pending_count_of ms id))
  by_test false rest = let e : 0 + pending_count_of ms id ≡ pending_count_of ms id = omega arith in rest ∙ ap (nat_lt 0) (sym e)

-- ---- one marker after the other

pub one_more : (owed : List PendingMarker) (i : ℕ) (m : PendingMarker) (id : List ℕ) → i < length owed → m ≡ get_or owed i m → pending_count_of (take (i + 1) owed) id ≡ pending_count_of (take i owed) id + one_of id m
one_more owed i m id lt is = sum_by_more (one_of id) owed i m lt ∙ ap (λ (x : PendingMarker). pending_count_of (take i owed) id + one_of id x) (sym is)

pub room_for_one : (owed : List PendingMarker) (i : ℕ) (m : PendingMarker) → i < length owed → m ≡ get_or owed i m → pending_count_of (take i owed) m.id + 1 ≤ pending_count_of owed m.id
room_for_one owed i m lt is =
    let more : pending_count_of (take (i + 1) owed) m.id ≡ pending_count_of (take i owed) m.id + 1 = one_more owed i m m.id lt is ∙ ap (λ (b : Bool). pending_count_of (take i owed) m.id + cond b 1 0) (own m.id) in
    let low : pending_count_of (take (i + 1) owed) m.id ≤ pending_count_of owed m.id = sum_by-take-le (one_of m.id) owed (i + 1) in
    omega (arith, more, low)

pub owes_it : (owed : List PendingMarker) (i : ℕ) (m : PendingMarker) → i < length owed → m ≡ get_or owed i m → has_pending_marker owed m.id ≡ true
owes_it owed i m lt is = list_any_at (λ (x : PendingMarker). bytes_eq x.id m.id) owed i m lt (ap (λ (x : PendingMarker). bytes_eq x.id m.id) (sym is) ∙ own m.id)

-- each id that owes one of the first markers is there, and so it is with one marker more
pub there_more : (old new : List ℕ → Bool) (owed : List PendingMarker) (i : ℕ) (m : PendingMarker) → i < length owed → m ≡ get_or owed i m
    → ((id : List ℕ) → old id ≡ true → new id ≡ true) → new m.id ≡ true → ((id : List ℕ) → has_pending_marker (take i owed) id ≡ true → old id ≡ true)
    → (id : List ℕ) → has_pending_marker (take (i + 1) owed) id ≡ true → new id ≡ true
there_more old new owed i m lt is kept entered before id h =
    by_test (has_pending_marker (take i owed) id) refl (bytes_eq m.id id) refl (sym (list_any_more (λ (x : PendingMarker). bytes_eq x.id id) owed i m lt ∙ ap (λ (x : PendingMarker). has_pending_marker (take i owed) id || bytes_eq x.id id) (sym is)) ∙ h) where
      by_test : (a : Bool) → has_pending_marker (take i owed) id ≡ a → (b : Bool) → bytes_eq m.id id ≡ b → (a || b) ≡ true → new id ≡ true
      by_test true a_is b b_is h = kept id (before id a_is)
      by_test false a_is true b_is h = subst (λ (x : List ℕ). new x ≡ true) (same_is m.id id b_is) entered
      by_test false a_is false b_is h = absurd (let clash : false ≡ true = h in cc)

-- the front marker's id owes one
pub owes_front : (all rest : List PendingMarker) (m : PendingMarker) (count : ℕ) → all ≡ m ∷ rest → count ≡ pending_count_of all m.id → 0 < count
owes_front all rest m count all_is count_is =
    let split : pending_count_of all m.id ≡ 1 + pending_count_of rest m.id = ap (λ (l : List PendingMarker). pending_count_of l m.id) all_is ∙ sum_by-cons (one_of m.id) m rest ∙ ap (λ (b : Bool). cond b 1 0 + pending_count_of rest m.id) (own m.id) in
    omega (arith, count_is, split)

-- ---- a table of counts that has another one for an id

pub none_is : (o : Option ℕ) → is_some o ≡ false → o ≡ None
none_is None h = refl
none_is (Some n) h = absurd (let clash : true ≡ false = h in cc)

-- the id has one now, and the others have theirs
pub kept_by : (old new : List ℕ → Option ℕ) (id : List ℕ) (n : ℕ) → ((other : List ℕ) → new other ≡ cond (bytes_eq id other) (Some n) (old other)) → (other : List ℕ) → is_some (old other) ≡ true → is_some (new other) ≡ true
kept_by old new id n changed other there = ap (λ (o : Option ℕ). is_some o) (changed other) ∙ by_test (bytes_eq id other) where
  by_test : (b : Bool) → is_some (cond b (Some n) (old other)) ≡ true
  by_test true = refl
  by_test false = there

pub entered_by : (old new : List ℕ → Option ℕ) (id : List ℕ) → old id ≡ None → ((other : List ℕ) → new other ≡ cond (bytes_eq id other) (Some 0) (old other)) → (other : List ℕ) → unwrap_or (new other) 0 ≡ unwrap_or (old other) 0
entered_by old new id none changed other = ap (λ (o : Option ℕ). unwrap_or o 0) (changed other) ∙ by_test (bytes_eq id other) refl where
  by_test : (b : Bool) → bytes_eq id other ≡ b → unwrap_or (cond b (Some 0) (old other)) 0 ≡ unwrap_or (old other) 0
  by_test true e = sym (ap (λ (o : Option ℕ). unwrap_or o 0) (ap old (sym (same_is id other e)) ∙ none))
  by_test false e = refl

pub raised_by : (old new : List ℕ → Option ℕ) (id : List ℕ) (n : ℕ) → old id ≡ Some n → ((other : List ℕ) → new other ≡ cond (bytes_eq id other) (Some (n + 1)) (old other)) → (other : List ℕ) → unwrap_or (new other) 0 ≡ unwrap_or (old other) 0 + cond (bytes_eq id other) 1 0
raised_by old new id n is changed other = ap (λ (o : Option ℕ). unwrap_or o 0) (changed other) ∙ by_test (bytes_eq id other) refl where
  by_test : (b : Bool) → bytes_eq id other ≡ b → unwrap_or (cond b (Some (n + 1)) (old other)) 0 ≡ unwrap_or (old other) 0 + cond b 1 0
  by_test true e = sym (ap (λ (o : Option ℕ). unwrap_or o 0 + 1) (ap old (sym (same_is id other e)) ∙ is))
  by_test false e = omega arith

pub lowered_by : (old new : List ℕ → Option ℕ) (id : List ℕ) (n : ℕ) → old id ≡ Some (n + 1) → ((other : List ℕ) → new other ≡ cond (bytes_eq id other) (Some n) (old other)) → (other : List ℕ) → unwrap_or (old other) 0 ≡ unwrap_or (new other) 0 + cond (bytes_eq id other) 1 0
lowered_by old new id n is changed other = sym (ap (λ (o : Option ℕ). unwrap_or o 0 + cond (bytes_eq id other) 1 0) (changed other) ∙ by_test (bytes_eq id other) refl) where
  by_test : (b : Bool) → bytes_eq id other ≡ b → unwrap_or (cond b (Some n) (old other)) 0 + cond b 1 0 ≡ unwrap_or (old other) 0
  by_test true e = sym (ap (λ (o : Option ℕ). unwrap_or o 0) (ap old (sym (same_is id other e)) ∙ is))
  by_test false e = omega arith
