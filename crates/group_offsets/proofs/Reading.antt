-- The rows of a table by their places, and what a call on one row makes of all.
use Rattle.std.proofs.Common.{◌≡◌, ℕ, ℤ, zero, suc, ◌<◌, List, [], ◌∷◌, ◌++◌, length, get_or, set, Option, Some, None, Bool, true, false, cond, refl, sym, subst, ap, ◌∙◌, arith}
use Rattle.std.specs.Prelude.{◌&&◌, ◌||◌, slice_get, nat_eq, is_some, Result, Ok, Err, OnOk, OnErr}
use Rattle.std.specs.Ordering.{int_eq}
use Rattle.std.specs.Cmp.{nat_eq_equiv}
use Rattle.std.specs.Option.{option_and_then, option_map_or}
use Rattle.std.specs.List.{list_any, AllByRecursion, IsDistinct}
use Rattle.std.specs.Map.{lookup}
use Rattle.std.proofs.lemmas.Bool.{true≢false}
use Rattle.std.proofs.lemmas.Bool.Decides.{Decides-int_eq, Decides-eqb}
use Rattle.std.proofs.lemmas.List.{length-set}
use Rattle.std.proofs.lemmas.List.Folds.{list_any-append, list_any_at}
use Rattle.std.specs.declared.vec.Vec.{Vec}
use Rattle.std.specs.declared.alloc.Global.{Global}
use Rattle.std.specs.declared.alloc.AllocError.{AllocError}
use Rattle.record_batch.specs.declared.transaction_result.TransactionResult.{TransactionResult}
use Rattle.record_batch.specs.declared.transaction_result.TransactionResult.TheVariants.{Abort, Commit}
use Rattle.group_offsets.specs.declared.row.Row.{Row}
use Rattle.group_offsets.specs.Kept.{waits, committed_at, waiting_at, rows_of, has_row, AreOnce, IsTableOf, IsSameRow, IsStaged, committed_by_outcome, IsDecided, AreDecided, HasMore, HasSame, HasLast}

-- ---- numbers

pub same_number : (a b : ℤ) → int_eq a b ≡ true → a ≡ b
same_number a b h = (Decides-int_eq a b).0 h

pub number_same : (a : ℤ) → int_eq a a ≡ true
number_same a = (Decides-int_eq a a).1 refl

pub same_place : (a b : ℕ) → nat_eq a b ≡ true → a ≡ b
same_place a b h = (Decides-eqb a b).0 h

-- ---- one item of a list

pub set_here : {A : Type 0} (xs : List A) (at : ℕ) (y : A) → at < length xs → slice_get (set xs at y) at ≡ Some y
set_here [] at y h = absurd (omega arith)
set_here (x ∷ xs) zero y h = refl
set_here (x ∷ xs) (suc at) y h = set_here xs at y (omega arith)

set_other : {A : Type 0} (xs : List A) (at n : ℕ) (y : A) → (n ≡ at → ⊥) → slice_get (set xs at y) n ≡ slice_get xs n
set_other [] at n y h = refl
set_other (x ∷ xs) zero zero y h = absurd (h refl)
set_other (x ∷ xs) zero (suc n) y h = refl
set_other (x ∷ xs) (suc at) zero y h = refl
set_other (x ∷ xs) (suc at) (suc n) y h = set_other xs at n y (λ e. h (ap suc e))

pub set_seen : {A : Type 0} (xs : List A) (at n : ℕ) (y : A) → at < length xs → slice_get (set xs at y) n ≡ cond (nat_eq n at) (Some y) (slice_get xs n)
set_seen {A} xs at n y h = by_test (nat_eq n at) refl where
  by_test : (b : Bool) → nat_eq n at ≡ b → slice_get (set xs at y) n ≡ cond b (Some y) (slice_get xs n)
  by_test true e = ap (slice_get (set xs at y)) (same_place n at e) ∙ set_here xs at y h
  by_test false e = set_other xs at n y (λ same. true≢false (sym ((Decides-eqb n at).1 same) ∙ e))

-- what is read of an item, where one is replaced
pub read_set : {A B : Type 0} (f : A → Option B) (xs : List A) (at n : ℕ) (y : A) → at < length xs → option_and_then f (slice_get (set xs at y) n) ≡ cond (nat_eq n at) (f y) (option_and_then f (slice_get xs n))
read_set f xs at n y h = ap (option_and_then f) (set_seen xs at n y h) ∙ by_test (nat_eq n at) where
  by_test : (b : Bool) → option_and_then f (cond b (Some y) (slice_get xs n)) ≡ cond b (f y) (option_and_then f (slice_get xs n))
  by_test true = refl
  by_test false = refl

-- and where one of which nothing is read stands after all others
pub read_push : {A B : Type 0} (f : A → Option B) (xs : List A) (y : A) → f y ≡ None → (n : ℕ) → option_and_then f (slice_get (xs ++ y ∷ []) n) ≡ option_and_then f (slice_get xs n)
read_push f [] y h zero = h
read_push f [] y h (suc n) = refl
read_push f (x ∷ xs) y h zero = refl
read_push f (x ∷ xs) y h (suc n) = read_push f xs y h n

-- ---- rows that are the same but for their room

pub record SameRows (old new : List Row) : Type 0 where
  pub each : length new ≡ length old
  pub committed : (n : ℕ) → committed_at new n ≡ committed_at old n
  pub waiting : (p : ℤ) (n : ℕ) → waiting_at new p n ≡ waiting_at old p n

-- what is read of the row at a place where it reads the same
kept_at : {B : Type 0} (f : Row → Option B) (rows : List Row) (at : ℕ) (r new : Row) → at < length rows → slice_get rows at ≡ Some r → f new ≡ f r → (n : ℕ)
    → option_and_then f (slice_get (set rows at new) n) ≡ option_and_then f (slice_get rows n)
kept_at f rows at r new h is same n = read_set f rows at n new h ∙ by_test (nat_eq n at) refl where
  by_test : (b : Bool) → nat_eq n at ≡ b → cond b (f new) (option_and_then f (slice_get rows n)) ≡ option_and_then f (slice_get rows n)
  by_test true e = same ∙ sym (ap (λ (m : ℕ). option_and_then f (slice_get rows m)) (same_place n at e) ∙ ap (option_and_then f) is)
  by_test false e = refl

pub same_set : (rows : List Row) (at : ℕ) (r new : Row) → at < length rows → slice_get rows at ≡ Some r → IsSameRow r new → SameRows rows (set rows at new)
same_set rows at r new h is same = record {
  each = length-set rows at new;
  committed = kept_at (λ (x : Row). x.committed) rows at r new h is same.committed;
  waiting = λ p. kept_at (λ (x : Row). waits x p) rows at r new h is (same.waiting p);
}

pub same_table : (find : List ℕ → ℤ → Option ℕ) (rows new : List Row) (staged : List (ℤ × Vec ℕ Global)) → SameRows rows new → IsTableOf find rows staged → IsTableOf find new staged
same_table find rows new staged same t = record {
  within = λ topic index n at. let h = t.within topic index n at in omega (arith, h, same.each);
  apart = t.apart;
  exact = λ p n. t.exact p n ∙ ap is_some (sym (same.waiting p n));
  once = t.once;
}

-- where nobody waits who didn't, or no longer
pub commit_table : (find : List ℕ → ℤ → Option ℕ) (rows : List Row) (staged : List (ℤ × Vec ℕ Global)) (at : ℕ) (r new : Row) → at < length rows → slice_get rows at ≡ Some r → new.waiting.entries ≡ r.waiting.entries
    → IsTableOf find rows staged → IsTableOf find (set rows at new) staged
commit_table find rows staged at r new h is same t = record {
  within = λ topic index n found. let k = t.within topic index n found in omega (arith, k, length-set rows at new);
  apart = t.apart;
  exact = λ p n. t.exact p n ∙ ap is_some (sym (kept_at (λ (x : Row). waits x p) rows at r new h is (ap (lookup (int_eq p)) same) n));
  once = t.once;
}

-- where a producer has the same rows
pub same_staged : (find : List ℕ → ℤ → Option ℕ) (rows : List Row) (staged more : List (ℤ × Vec ℕ Global)) → HasSame staged more → AreOnce more → IsTableOf find rows staged → IsTableOf find rows more
same_staged find rows staged more same once t = record { within = t.within; apart = t.apart; exact = λ p n. same p n ∙ t.exact p n; once = once }

-- ---- a producer that waits in one row more

pub stage_table : (find : List ℕ → ℤ → Option ℕ) (rows : List Row) (staged more : List (ℤ × Vec ℕ Global)) (at : ℕ) (r new : Row) (producer : ℤ) (place : ℕ) → at < length rows → slice_get rows at ≡ Some r → IsStaged r new producer place
    → HasMore staged more producer at → AreOnce more → IsTableOf find rows staged → IsTableOf find (set rows at new) more
stage_table find rows staged more at r new producer place h is made has once t = record { within = within; apart = t.apart; exact = exact; once = once } where
  within : (topic : List ℕ) (index : ℤ) (n : ℕ) → find topic index ≡ Some n → n < length (set rows at new)
  within topic index n found = let k = t.within topic index n found in omega (arith, k, length-set rows at new)

  waited : (p : ℤ) → waiting_at rows p at ≡ waits r p
  waited p = ap (option_and_then (λ (x : Row). waits x p)) is

  same_sides : (n : ℕ) → nat_eq at n ≡ nat_eq n at
  same_sides n = nat_eq_equiv.symm at n

  exact : (p : ℤ) (n : ℕ) → has_row more p n ≡ is_some (waiting_at (set rows at new) p n)
  exact p n =
      has p n ∙ ap (λ (b : Bool). cond (int_eq producer p && b) true (has_row staged p n)) (same_sides n)
      ∙ by_place (nat_eq n at) refl
      ∙ ap is_some (sym (read_set (λ (x : Row). waits x p) rows at n new h)) where
        own : (o : Bool) (w : Option ℕ) → cond (o && true) true (is_some w) ≡ is_some (cond o (Some place) w)
        own true w = refl
        own false w = refl

        other : (o : Bool) (w : Bool) → cond (o && false) true w ≡ w
        other true w = refl
        other false w = refl

        by_place : (b : Bool) → nat_eq n at ≡ b → cond (int_eq producer p && b) true (has_row staged p n) ≡ is_some (cond b (waits new p) (waiting_at rows p n))
        by_place true e =
            ap (λ (x : Bool). cond (int_eq producer p && true) true x) (t.exact p n ∙ ap is_some (ap (waiting_at rows p) (same_place n at e) ∙ waited p))
            ∙ own (int_eq producer p) (waits r p) ∙ ap is_some (sym (made.waiting p))
        by_place false e = other (int_eq producer p) (has_row staged p n) ∙ t.exact p n

-- a row that the producer has
pub has_already : (staged : List (ℤ × Vec ℕ Global)) (at : ℕ) (producer : ℤ) → has_row staged producer at ≡ true → HasMore staged staged producer at
has_already staged at producer there p n = by_own (int_eq producer p) (nat_eq at n) refl refl where
  by_own : (a b : Bool) → int_eq producer p ≡ a → nat_eq at n ≡ b → has_row staged p n ≡ cond (a && b) true (has_row staged p n)
  by_own true true e f = sym (ap (λ (q : ℤ). has_row staged q n) (same_number producer p e)) ∙ sym (ap (has_row staged producer) (same_place at n f)) ∙ there
  by_own true false e f = refl
  by_own false true e f = refl
  by_own false false e f = refl

-- a number that a list hasn't stands after it
apart_from : (x y : ℕ) (xs : List ℕ) → nat_eq x y ≡ false → AllByRecursion (λ z. nat_eq x z ≡ false) xs → AllByRecursion (λ z. nat_eq x z ≡ false) (xs ++ y ∷ [])
apart_from x y [] h all = (h, tt)
apart_from x y (z ∷ xs) h all = (all.0, apart_from x y xs h all.1)

distinct_push : (xs : List ℕ) (y : ℕ) → list_any (nat_eq y) xs ≡ false → IsDistinct nat_eq xs → IsDistinct nat_eq (xs ++ y ∷ [])
unfolding IsDistinct
distinct_push [] y new d = (tt, tt)
distinct_push (x ∷ xs) y new d = let parts = neither (nat_eq y x) (list_any (nat_eq y) xs) new in (apart_from x y xs (nat_eq_equiv.symm x y ∙ parts.0) d.0, distinct_push xs y parts.1 d.1) where
  neither : (a b : Bool) → (a || b) ≡ false → (a ≡ false) × (b ≡ false)
  neither true b h = absurd (true≢false h)
  neither false b h = (refl, h)

last_is_once : (staged new : List (ℤ × Vec ℕ Global)) (producer : ℤ) (at : ℕ) → HasLast staged new producer at → has_row staged producer at ≡ false → AreOnce staged → AreOnce new
last_is_once staged new producer at last absent once p = subst (IsDistinct nat_eq) (sym (last p)) (by_own (int_eq producer p) refl) where
  by_own : (o : Bool) → int_eq producer p ≡ o → IsDistinct nat_eq (cond o (rows_of staged p ++ at ∷ []) (rows_of staged p))
  by_own true e = distinct_push (rows_of staged p) at (ap (λ (q : ℤ). has_row staged q at) (sym (same_number producer p e)) ∙ absent) (once p)
  by_own false e = once p

same_is_once : (staged new : List (ℤ × Vec ℕ Global)) → ((p : ℤ) → rows_of new p ≡ rows_of staged p) → AreOnce staged → AreOnce new
same_is_once staged new same once p = subst (IsDistinct nat_eq) (sym (same p)) (once p)

-- whether it was added or not
pub added_once : (result : Result (Unit {0}) AllocError) (staged new : List (ℤ × Vec ℕ Global)) (producer : ℤ) (at : ℕ) → OnOk result (HasLast staged new producer at) → OnErr result ((p : ℤ) → rows_of new p ≡ rows_of staged p)
    → has_row staged producer at ≡ false → AreOnce staged → AreOnce new
added_once (Ok u) staged new producer at last same absent once = last_is_once staged new producer at last absent once
added_once (Err e) staged new producer at last same absent once = same_is_once staged new same once

-- ---- a decision

pub decided_none : (outcome : TransactionResult) (committed : Option ℕ) → committed_by_outcome outcome None committed ≡ committed
decided_none Commit committed = refl
decided_none Abort committed = refl

pub decided_nothing : (producer : ℤ) (outcome : TransactionResult) (rows : List Row) → AreDecided [] producer outcome rows rows
decided_nothing producer outcome rows = record { each = refl; committed = λ n. refl; waiting = λ p n. refl }

-- one row more
pub decided_more : (places : List ℕ) (producer : ℤ) (outcome : TransactionResult) (old mid : List Row) (at : ℕ) (r new : Row) → at < length mid → slice_get mid at ≡ Some r
    → IsDecided r new producer outcome → AreDecided places producer outcome old mid → AreDecided (places ++ at ∷ []) producer outcome old (set mid at new)
decided_more places producer outcome old mid at r new h is made so = record { each = length-set mid at new ∙ so.each; committed = committed; waiting = waiting } where
  among : (n : ℕ) → list_any (nat_eq n) (places ++ at ∷ []) ≡ (list_any (nat_eq n) places || (nat_eq n at || false))
  among n = list_any-append (nat_eq n) places (at ∷ [])

  committed : (n : ℕ) → committed_at (set mid at new) n ≡ cond (list_any (nat_eq n) (places ++ at ∷ [])) (committed_by_outcome outcome (waiting_at old producer n) (committed_at old n)) (committed_at old n)
  committed n =
      read_set (λ (x : Row). x.committed) mid at n new h
      ∙ by_test (nat_eq n at) (list_any (nat_eq n) places) refl (so.committed n) (so.waiting producer n)
      ∙ ap (λ (b : Bool). cond b (committed_by_outcome outcome (waiting_at old producer n) (committed_at old n)) (committed_at old n)) (sym (among n)) where
        by_place : (a : Bool) → committed_at mid n ≡ cond a (committed_by_outcome outcome (waiting_at old producer n) (committed_at old n)) (committed_at old n)
            → waiting_at mid producer n ≡ cond (a && int_eq producer producer) None (waiting_at old producer n)
            → committed_by_outcome outcome (waiting_at mid producer n) (committed_at mid n) ≡ committed_by_outcome outcome (waiting_at old producer n) (committed_at old n)
        by_place true c w =
            ap (λ (x : Option ℕ). committed_by_outcome outcome x (committed_at mid n)) (w ∙ ap (λ (o : Bool). cond o None (waiting_at old producer n)) (number_same producer))
            ∙ decided_none outcome (committed_at mid n) ∙ c
        by_place false c w = ap (λ (x : Option ℕ). committed_by_outcome outcome x (committed_at mid n)) w ∙ ap (committed_by_outcome outcome (waiting_at old producer n)) c

        here : n ≡ at → new.committed ≡ committed_by_outcome outcome (waiting_at mid producer n) (committed_at mid n)
        here e =
            made.committed
            ∙ ap (λ (x : Option ℕ). committed_by_outcome outcome x r.committed) (sym (ap (option_and_then (λ (x : Row). waits x producer)) (ap (slice_get mid) e ∙ is)))
            ∙ ap (committed_by_outcome outcome (waiting_at mid producer n)) (sym (ap (option_and_then (λ (x : Row). x.committed)) (ap (slice_get mid) e ∙ is)))

        or_true : (a : Bool) → (a || (true || false)) ≡ true
        or_true true = refl
        or_true false = refl

        or_false : (a : Bool) → (a || (false || false)) ≡ a
        or_false true = refl
        or_false false = refl

        by_test : (b a : Bool) → nat_eq n at ≡ b → committed_at mid n ≡ cond a (committed_by_outcome outcome (waiting_at old producer n) (committed_at old n)) (committed_at old n)
            → waiting_at mid producer n ≡ cond (a && int_eq producer producer) None (waiting_at old producer n)
            → cond b new.committed (committed_at mid n) ≡ cond (a || (b || false)) (committed_by_outcome outcome (waiting_at old producer n) (committed_at old n)) (committed_at old n)
        by_test true a e c w = here (same_place n at e) ∙ by_place a c w ∙ ap (λ (t : Bool). cond t (committed_by_outcome outcome (waiting_at old producer n) (committed_at old n)) (committed_at old n)) (sym (or_true a))
        by_test false a e c w = c ∙ ap (λ (t : Bool). cond t (committed_by_outcome outcome (waiting_at old producer n) (committed_at old n)) (committed_at old n)) (sym (or_false a))

  waiting : (p : ℤ) (n : ℕ) → waiting_at (set mid at new) p n ≡ cond (list_any (nat_eq n) (places ++ at ∷ []) && int_eq producer p) None (waiting_at old p n)
  waiting p n =
      read_set (λ (x : Row). waits x p) mid at n new h
      ∙ by_test (nat_eq n at) refl
      ∙ ap (λ (b : Bool). cond (b && int_eq producer p) None (waiting_at old p n)) (sym (among n)) where
        all : (a o : Bool) (w : Option ℕ) → cond o None (cond (a && o) None w) ≡ cond ((a || (true || false)) && o) None w
        all true true w = refl
        all true false w = refl
        all false true w = refl
        all false false w = refl

        none : (a o : Bool) (w : Option ℕ) → cond (a && o) None w ≡ cond ((a || (false || false)) && o) None w
        none true o w = refl
        none false o w = refl

        here : n ≡ at → waits r p ≡ waiting_at mid p n
        here e = sym (ap (option_and_then (λ (x : Row). waits x p)) (ap (slice_get mid) e ∙ is))

        by_test : (b : Bool) → nat_eq n at ≡ b → cond b (waits new p) (waiting_at mid p n) ≡ cond ((list_any (nat_eq n) places || (b || false)) && int_eq producer p) None (waiting_at old p n)
        by_test true e = made.waiting p ∙ ap (cond (int_eq producer p) None) (here (same_place n at e) ∙ so.waiting p n) ∙ all (list_any (nat_eq n) places) (int_eq producer p) (waiting_at old p n)
        by_test false e = so.waiting p n ∙ none (list_any (nat_eq n) places) (int_eq producer p) (waiting_at old p n)

-- a producer's rows are all in which it waits, so that it is decided in every row
pub record AllDecided (producer : ℤ) (outcome : TransactionResult) (old new : List Row) : Type 0 where
  pub each : length new ≡ length old
  pub committed : (n : ℕ) → committed_at new n ≡ committed_by_outcome outcome (waiting_at old producer n) (committed_at old n)
  pub waiting : (p : ℤ) (n : ℕ) → waiting_at new p n ≡ cond (int_eq producer p) None (waiting_at old p n)

pub all_decided : (places : List ℕ) (producer : ℤ) (outcome : TransactionResult) (old new : List Row) → AreDecided places producer outcome old new
    → ((n : ℕ) → list_any (nat_eq n) places ≡ is_some (waiting_at old producer n)) → AllDecided producer outcome old new
all_decided places producer outcome old new so exact = record { each = so.each; committed = committed; waiting = waiting } where
  committed : (n : ℕ) → committed_at new n ≡ committed_by_outcome outcome (waiting_at old producer n) (committed_at old n)
  committed n = so.committed n ∙ ap (λ (b : Bool). cond b (committed_by_outcome outcome (waiting_at old producer n) (committed_at old n)) (committed_at old n)) (exact n) ∙ by_wait (waiting_at old producer n) where
    by_wait : (w : Option ℕ) → cond (is_some w) (committed_by_outcome outcome w (committed_at old n)) (committed_at old n) ≡ committed_by_outcome outcome w (committed_at old n)
    by_wait (Some k) = refl
    by_wait None = sym (decided_none outcome (committed_at old n))

  waiting : (p : ℤ) (n : ℕ) → waiting_at new p n ≡ cond (int_eq producer p) None (waiting_at old p n)
  waiting p n = so.waiting p n ∙ ap (λ (b : Bool). cond (b && int_eq producer p) None (waiting_at old p n)) (exact n) ∙ by_own (int_eq producer p) refl where
    by_wait : (w : Option ℕ) → cond (is_some w && true) None w ≡ None
    by_wait (Some k) = refl
    by_wait None = refl

    false_and : (b : Bool) → (b && false) ≡ false
    false_and true = refl
    false_and false = refl

    by_own : (o : Bool) → int_eq producer p ≡ o → cond (is_some (waiting_at old producer n) && o) None (waiting_at old p n) ≡ cond o None (waiting_at old p n)
    by_own true e = ap (λ (q : ℤ). cond (is_some (waiting_at old q n) && true) None (waiting_at old p n)) (same_number producer p e) ∙ by_wait (waiting_at old p n)
    by_own false e = ap (λ (b : Bool). cond b None (waiting_at old p n)) (false_and (is_some (waiting_at old producer n)))

-- the rows that are kept of a producer, if any are
abbrev rows_in : Option (Vec ℕ Global) → List ℕ
rows_in o = option_map_or (λ (s : Vec ℕ Global). s.items) o []

pub distinct_none : IsDistinct nat_eq []
unfolding IsDistinct
distinct_none = tt

-- the producer has no rows then
pub decide_table : (find : List ℕ → ℤ → Option ℕ) (rows new : List Row) (staged less : List (ℤ × Vec ℕ Global)) (producer : ℤ) (outcome : TransactionResult)
    → ((p : ℤ) → lookup (int_eq p) less ≡ cond (int_eq producer p) None (lookup (int_eq p) staged)) → AllDecided producer outcome rows new
    → IsTableOf find rows staged → IsTableOf find new less
decide_table find rows new staged less producer outcome taken so t = record { within = within; apart = t.apart; exact = exact; once = once } where
  within : (topic : List ℕ) (index : ℤ) (n : ℕ) → find topic index ≡ Some n → n < length new
  within topic index n at = let h = t.within topic index n at in omega (arith, h, so.each)

  exact : (p : ℤ) (n : ℕ) → has_row less p n ≡ is_some (waiting_at new p n)
  exact p n = ap (λ (o : Option (Vec ℕ Global)). list_any (nat_eq n) (rows_in o)) (taken p) ∙ by_own (int_eq producer p) ∙ ap is_some (sym (so.waiting p n)) where
    by_own : (o : Bool) → list_any (nat_eq n) (rows_in (cond o None (lookup (int_eq p) staged))) ≡ is_some (cond o None (waiting_at rows p n))
    by_own true = refl
    by_own false = t.exact p n

  once : AreOnce less
  once p = subst (λ (o : Option (Vec ℕ Global)). IsDistinct nat_eq (rows_in o)) (sym (taken p)) (by_own (int_eq producer p)) where
    by_own : (o : Bool) → IsDistinct nat_eq (rows_in (cond o None (lookup (int_eq p) staged)))
    by_own true = distinct_none
    by_own false = t.once p

-- where nothing is found of a producer, it waits in no row
pub nothing_waits : (find : List ℕ → ℤ → Option ℕ) (rows : List Row) (staged : List (ℤ × Vec ℕ Global)) (producer : ℤ) → lookup (int_eq producer) staged ≡ None → IsTableOf find rows staged
    → (n : ℕ) → list_any (nat_eq n) [] ≡ is_some (waiting_at rows producer n)
nothing_waits find rows staged producer none t n = sym (ap (λ (o : Option (Vec ℕ Global)). list_any (nat_eq n) (rows_in o)) none) ∙ t.exact producer n

pub something_waits : (find : List ℕ → ℤ → Option ℕ) (rows : List Row) (staged : List (ℤ × Vec ℕ Global)) (producer : ℤ) (s : Vec ℕ Global) → lookup (int_eq producer) staged ≡ Some s → IsTableOf find rows staged
    → (n : ℕ) → list_any (nat_eq n) s.items ≡ is_some (waiting_at rows producer n)
something_waits find rows staged producer s found t n = sym (ap (λ (o : Option (Vec ℕ Global)). list_any (nat_eq n) (rows_in o)) found) ∙ t.exact producer n

-- no row in which a producer waits is after all others
waiting_within : (rows : List Row) (producer : ℤ) (n : ℕ) → is_some (waiting_at rows producer n) ≡ true → n < length rows
waiting_within [] producer n h = absurd (let clash : false ≡ true = h in cc)
waiting_within (r ∷ rows) producer zero h = omega arith
waiting_within (r ∷ rows) producer (suc n) h = let within = waiting_within rows producer n h in omega arith

pub all_within : (find : List ℕ → ℤ → Option ℕ) (rows : List Row) (staged : List (ℤ × Vec ℕ Global)) (producer : ℤ) (s : Vec ℕ Global) → lookup (int_eq producer) staged ≡ Some s → IsTableOf find rows staged
    → (k d : ℕ) → k < length s.items → get_or s.items k d < length rows
all_within find rows staged producer s found t k d h =
    waiting_within rows producer (get_or s.items k d)
    (sym (something_waits find rows staged producer s found t (get_or s.items k d)) ∙ list_any_at (nat_eq (get_or s.items k d)) s.items k d h ((Decides-eqb (get_or s.items k d) (get_or s.items k d)).1 refl))

pub on_err : {A E P : Type 0} (r : Result A E) → P → OnErr r P
on_err (Ok x) p = tt
on_err (Err e) p = p
