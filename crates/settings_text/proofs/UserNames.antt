-- The users so far, and the ordered set of their names.
use Rattle.std.proofs.Common.{◌≡◌, ℕ, ◌+◌, ◌<◌, Bool, true, false, not, cond, ◌&&◌, ◌||◌, List, [], ◌∷◌, ◌++◌, length, get_or, take, drop, refl, ap, sym, ◌∙◌, Bor, take-append-drop}
use Rattle.std.specs.List.{list_any}
use Rattle.std.specs.Str.{bytes_eq}
use Rattle.std.specs.Ordering.{nat_cmp}
use Rattle.std.specs.Cmp.Lexicographic.{slice_cmp, nat_list_eq_equiv}
use Rattle.std.specs.BTreeSet.{BTreeSet, contains, Updates}
use Rattle.std.proofs.lemmas.Bool.{both_ways}
use Rattle.std.proofs.lemmas.List.{take_more}
use Rattle.std.proofs.lemmas.List.Folds.{list_any-append, list_any_more}
use Rattle.std.proofs.lemmas.Map.Text.{is_eq-slice_cmp}
use Rattle.settings_text.specs.declared.document.User.{User}
use Rattle.settings_text.specs.Users.{are_distinct}

-- ---- users that are distinct

-- the user has the name
abbrev pub is_named : List ℕ → User → Bool
is_named name u = bytes_eq name u.name

bytes_eq-sym : (a b : List ℕ) → bytes_eq a b ≡ bytes_eq b a
bytes_eq-sym a b = nat_list_eq_equiv.symm a b

-- one more element meets those before it, and they each other
meets : (some one all last : Bool) → (not (some || (one || false)) && (all && not last)) ≡ ((not some && all) && not (one || last))
meets true one all last = refl
meets false true true last = refl
meets false true false last = refl
meets false false true last = refl
meets false false false last = refl

distinct_push : (us : List User) (v : User) → are_distinct (us ++ v ∷ []) ≡ (are_distinct us && not (list_any (is_named v.name) us))
distinct_push [] v = refl
distinct_push (u ∷ us) v =
    rw (list_any-append (is_named u.name) us (v ∷ []), distinct_push us v, bytes_eq-sym v.name u.name)
    (meets (list_any (is_named u.name) us) (bytes_eq u.name v.name) (are_distinct us) (list_any (is_named v.name) us))

pub distinct_more : (us : List User) (i : ℕ) (d : User) → i < length us
    → are_distinct (take (i + 1) us) ≡ (are_distinct (take i us) && not (list_any (is_named (get_or us i d).name) (take i us)))
distinct_more us i d within = ap are_distinct (take_more us i d within) ∙ distinct_push (take i us) (get_or us i d)

stays_false : (some more all now : Bool) → (all ≡ false → now ≡ false) → (not some && all) ≡ false → (not (some || more) && now) ≡ false
stays_false true more all now f h = refl
stays_false false true all now f h = refl
stays_false false false all now f h = f h

-- users of whom the first repeat each other repeat each other
repeats : (us vs : List User) → are_distinct us ≡ false → are_distinct (us ++ vs) ≡ false
repeats [] vs h = absurd (both_ways true h refl)
repeats (u ∷ us) vs h =
    rw (list_any-append (is_named u.name) us vs)
    (stays_false (list_any (is_named u.name) us) (list_any (is_named u.name) vs) (are_distinct us) (are_distinct (us ++ vs)) (repeats us vs) h)

-- ---- the set of the names

-- the set has the name
abbrev pub has_name : BTreeSet (Bor (List ℕ)) → Bor (List ℕ) → Bool
has_name names name = contains (λ x y. slice_cmp nat_cmp x.now y.now) names name

-- the names are those of the users
abbrev pub AreNamesOf : List User → BTreeSet (Bor (List ℕ)) → Type 0
AreNamesOf us names = (name : Bor (List ℕ)) → has_name names name ≡ list_any (is_named name.now) us

or_else : (one some : Bool) → cond one true some ≡ (some || one)
or_else true true = refl
or_else true false = refl
or_else false true = refl
or_else false false = refl

pub names_more : (us : List User) (i : ℕ) (d : User) → i < length us → (old new : BTreeSet (Bor (List ℕ))) (key : Bor (List ℕ))
    → key.now ≡ (get_or us i d).name → AreNamesOf (take i us) old → Updates (λ x y. slice_cmp nat_cmp x.now y.now) old new key true → AreNamesOf (take (i + 1) us) new
names_more us i d within old new key is so_far updates = λ name.
    updates.0 name
    ∙ rw (is_eq-slice_cmp key.now name.now, bytes_eq-sym key.now name.now, is, so_far name, list_any_more (is_named name.now) us i d within)
    (or_else (bytes_eq name.now (get_or us i d).name) (list_any (is_named name.now) (take i us)))

-- ---- a turn of the loop over the users

-- one more user, of a name that the set lacks
pub new_name : (us : List User) (i : ℕ) (d : User) → i < length us → (old : BTreeSet (Bor (List ℕ))) (key : Bor (List ℕ))
    → key.now ≡ (get_or us i d).name → are_distinct (take i us) ≡ true → AreNamesOf (take i us) old → has_name old key ≡ false → are_distinct (take (i + 1) us) ≡ true
new_name us i d within old key is distinct names lacks =
    distinct_more us i d within ∙ rw (distinct, sym is, sym (names key), lacks) refl

-- a user of a name that the set has
pub known_name : (us : List User) (i : ℕ) (d : User) → i < length us → (old : BTreeSet (Bor (List ℕ))) (key : Bor (List ℕ))
    → key.now ≡ (get_or us i d).name → are_distinct (take i us) ≡ true → AreNamesOf (take i us) old → has_name old key ≡ true → are_distinct us ≡ false
known_name us i d within old key is distinct names has =
    ap are_distinct (sym (take-append-drop (i + 1) us))
    ∙ repeats (take (i + 1) us) (drop (i + 1) us) (distinct_more us i d within ∙ rw (distinct, sym is, sym (names key), has) refl)
