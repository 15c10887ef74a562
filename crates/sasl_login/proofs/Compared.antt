-- Texts differ nowhere exactly where they are the same.
use Rattle.std.proofs.Common.{◌≡◌, ℕ, suc, ◌+◌, ◌<◌, ◌≤◌, ◌==◌, ◌&&◌, not, Bool, true, false, cond, List, [], ◌∷◌, length, get_or, drop, drop-cons, add-one, refl, sym, ap, ◌∙◌, arith}
use Rattle.std.proofs.lemmas.Bool.Decides.{nat_tests}
use Rattle.std.specs.Str.{bytes_eq}
use Rattle.sasl_login.specs.Compared.{differences}

none_or_some : (b : Bool) (n : ℕ) → (cond b 0 1 + n == 0) ≡ (b && n == 0)
none_or_some true n = let same_sum : 0 + n ≡ n = omega arith in ap (λ m. m == 0) same_sum
none_or_some false n = grind (arith, nat_tests)

no_zero : (n : ℕ) → (suc n == 0) ≡ false
no_zero n = grind (arith, nat_tests)

none_more : (n : ℕ) → (n + 1 == 0) ≡ false
none_more n = grind (arith, nat_tests)

pub same : (told kept : List ℕ) → (differences told kept == 0) ≡ bytes_eq kept told
same [] [] = refl
same [] (y ∷ kept) = no_zero (length kept)
same (x ∷ told) [] = none_more (length told)
same (x ∷ told) (y ∷ kept) = none_or_some (y == x) (differences told kept) ∙ ap (λ b. (y == x) && b) (same told kept)

pub same_bytes : (told kept : List ℕ) (n : ℕ) → n ≡ differences told kept → (n == 0) ≡ bytes_eq kept told
same_bytes told kept n is = ap (λ m. m == 0) is ∙ same told kept

-- ---- one place after the other

split_at : (told : List ℕ) (i d : ℕ) → i < length told → drop i told ≡ get_or told i d ∷ drop (i + 1) told
split_at told i d lt = rw add-one (drop-cons told i d lt)

-- what a place adds, by a number for each of both cases
added_up : (f : Bool → ℕ) (same : Bool) (count more total : ℕ) → f true ≡ 1 → f false ≡ 0 → count + (cond same 0 1 + more) ≡ total → (count + f (not same)) + more ≡ total
added_up f true count more total one none h = omega (arith, none, h)
added_up f false count more total one none h = omega (arith, one, h)

adds_few : (f : Bool → ℕ) (b : Bool) → f true ≡ 1 → f false ≡ 0 → f b ≤ 1
adds_few f true one none = omega (arith, one)
adds_few f false one none = omega (arith, none)

pub few_passed : (f : Bool → ℕ) (b : Bool) (i count count' added : ℕ) → f true ≡ 1 → f false ≡ 0 → added ≡ f b → count' ≡ count + added → count ≤ i → count' ≤ i + 1
few_passed f b i count count' added one none is sum few = omega (arith, is, sum, few, adds_few f b one none)

pub rest_passed : (rest rest' more kept : List ℕ) (first : ℕ) → rest ≡ first ∷ more → rest' ≡ more → length rest ≤ length kept → length rest' ≤ length kept
rest_passed rest rest' more kept first split next within = omega (arith, ap length split, ap length next, within)

-- both have a place here
pub place_passed : (f : Bool → ℕ) (told rest rest' more : List ℕ) (i d first count count' added total : ℕ) → f true ≡ 1 → f false ≡ 0 → i < length told → rest ≡ first ∷ more → rest' ≡ more
    → added ≡ f (not (first == get_or told i d)) → count' ≡ count + added → count + differences (drop i told) rest ≡ total → count' + differences (drop (i + 1) told) rest' ≡ total
place_passed f told rest rest' more i d first count count' added total one none lt split next is sum so =
    let here : differences (drop i told) rest ≡ cond (first == get_or told i d) 0 1 + differences (drop (i + 1) told) more =
    ap (λ l. differences l rest) (split_at told i d lt) ∙ ap (differences (get_or told i d ∷ drop (i + 1) told)) split in
    let moved = added_up f (first == get_or told i d) count (differences (drop (i + 1) told) more) total one none (ap (λ n. count + n) (sym here) ∙ so) in
    ap (λ n. n + differences (drop (i + 1) told) rest') (sum ∙ ap (λ n. count + n) is) ∙ ap (λ l. (count + f (not (first == get_or told i d))) + differences (drop (i + 1) told) l) next ∙ moved

alone : (told : List ℕ) → differences told [] ≡ length told
alone [] = refl
alone (x ∷ told) = omega arith

-- what was told has a place more
pub place_lacks : (told rest rest' : List ℕ) (i count count' total : ℕ) → i < length told → rest ≡ [] → rest' ≡ rest → count' ≡ count + 1 → count + differences (drop i told) rest ≡ total
    → count' + differences (drop (i + 1) told) rest' ≡ total
place_lacks told rest rest' i count count' total lt none next sum so =
    let now : differences (drop i told) rest ≡ length (drop i told) = ap (differences (drop i told)) none ∙ alone (drop i told) in
    let then_none : differences (drop (i + 1) told) rest' ≡ length (drop (i + 1) told) = ap (differences (drop (i + 1) told)) (next ∙ none) ∙ alone (drop (i + 1) told) in
    let fewer : length (drop i told) ≡ length (drop (i + 1) told) + 1 = ap length (split_at told i 0 lt) ∙ omega arith in
    omega (arith, now, then_none, fewer, sum, so)
