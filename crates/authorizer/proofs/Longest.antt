-- The longest name, by how many of some lengths are longer than it and how many are as long.
use Rattle.std.proofs.Common.{◌≡◌, ℕ, ◌+◌, ◌<◌, ◌≤◌, List, [], ◌∷◌, ◌++◌, max, Bool, true, false, cond, refl, sym, ap, ◌∙◌, ⊎_elim, arith}
use Rattle.std.specs.Prelude.{nat_eq, nat_lt, count_by}
use Rattle.std.proofs.lemmas.Bool.{cases_lt}
use Rattle.std.proofs.lemmas.Bool.Decides.{Decides-ltb, Decides-eqb}
use Rattle.std.proofs.lemmas.List.Sums.{sum_by-cons, sum_by_push}
use Rattle.authorizer.specs.Longest.{greatest, IsLongest}
use Rattle.authorizer.specs.declared.index.longest.Longest.{Longest}

-- a test as a number
abbrev pub one_if : Bool → ℕ
one_if b = cond b 1 0

counted : (p : ℕ → Bool) (n : ℕ) (ns : List ℕ) → count_by p (n ∷ ns) ≡ one_if (p n) + count_by p ns
counted p n ns = sum_by-cons (λ (x : ℕ). cond (p x) 1 0) n ns

pub pushed : (p : ℕ → Bool) (ns : List ℕ) (n : ℕ) → count_by p (ns ++ n ∷ []) ≡ count_by p ns + one_if (p n)
pushed p ns n = sum_by_push (λ (x : ℕ). cond (p x) 1 0) ns n

pub not_lt : (a b : ℕ) → b ≤ a → one_if (nat_lt a b) ≡ 0
not_lt a b le = by (nat_lt a b) refl where
  by : (r : Bool) → nat_lt a b ≡ r → one_if r ≡ 0
  by true e = absurd (let lt : a < b = (Decides-ltb a b).0 e in omega arith)
  by false e = refl

pub is_lt : (a b : ℕ) → a < b → one_if (nat_lt a b) ≡ 1
is_lt a b lt = ap one_if ((Decides-ltb a b).1 lt)

pub not_eq : (a b : ℕ) → (a ≡ b → ⊥) → one_if (nat_eq a b) ≡ 0
not_eq a b apart = by (nat_eq a b) refl where
  by : (r : Bool) → nat_eq a b ≡ r → one_if r ≡ 0
  by true e = absurd (apart ((Decides-eqb a b).0 e))
  by false e = refl

pub is_eq : (a b : ℕ) → a ≡ b → one_if (nat_eq a b) ≡ 1
is_eq a b e = ap one_if ((Decides-eqb a b).1 e)

greater : (n : ℕ) (ns : List ℕ) → greatest (n ∷ ns) ≡ max n (greatest ns)
greater n ns = refl

pub own_le : (n : ℕ) (ns : List ℕ) → n ≤ greatest (n ∷ ns)
own_le n ns = let e = greater n ns in omega arith

pub rest_le : (n : ℕ) (ns : List ℕ) → greatest ns ≤ greatest (n ∷ ns)
rest_le n ns = let e = greater n ns in omega arith

pub both_le : (b n : ℕ) (ns : List ℕ) → n ≤ b → greatest ns ≤ b → greatest (n ∷ ns) ≤ b
both_le b n ns own rest = let e = greater n ns in omega arith

-- none is longer than the greatest
none_longer : (b : ℕ) (ns : List ℕ) → greatest ns ≤ b → count_by (nat_lt b) ns ≡ 0
none_longer b [] le = refl
none_longer b (n ∷ ns) le =
    let all = counted (nat_lt b) n ns in
    let own = own_le n ns in
    let rest = rest_le n ns in
    let no = not_lt b n (omega arith) in
    let none = none_longer b ns (omega arith) in
    omega arith

below : (b : ℕ) (ns : List ℕ) → count_by (nat_lt b) ns ≡ 0 → greatest ns ≤ b
below b [] none = omega arith
below b (n ∷ ns) none =
    let all = counted (nat_lt b) n ns in
    both_le b n ns
    (⊎_elim (λ (lt : b < n). absurd (let yes = is_lt b n lt in omega arith)) (λ (le : n ≤ b). le) (cases_lt b n))
    (below b ns (omega arith))

reached : (b : ℕ) (ns : List ℕ) → 0 < count_by (nat_eq b) ns → b ≤ greatest ns
reached b [] some = absurd (omega arith)
reached b (n ∷ ns) some = by (nat_eq b n) refl (λ more. reached b ns more) where
  by : (r : Bool) → nat_eq b n ≡ r → (0 < count_by (nat_eq b) ns → b ≤ greatest ns) → b ≤ greatest (n ∷ ns)
  by true e rest = let same : b ≡ n = (Decides-eqb b n).0 e in let own = own_le n ns in omega arith
  by false e rest =
      let all = counted (nat_eq b) n ns in
      let no : one_if (nat_eq b n) ≡ 0 = ap one_if e in
      let more = rest (omega arith) in
      let le = rest_le n ns in
      omega arith

-- the greatest stands among them, or it is 0
stands : (ns : List ℕ) → count_by (nat_eq (greatest ns)) ns ≡ 0 → greatest ns ≡ 0
stands [] none = refl
stands (n ∷ ns) none =
    let all = counted (nat_eq (greatest (n ∷ ns))) n ns in
    let e = greater n ns in
    ⊎_elim (λ (lt : greatest ns < n). absurd (let one = is_eq (greatest (n ∷ ns)) n (omega arith) in omega arith))
    (λ (le : n ≤ greatest ns).
    let same : greatest (n ∷ ns) ≡ greatest ns = omega arith in
    let rest : count_by (nat_eq (greatest (n ∷ ns))) ns ≡ 0 = omega arith in
    same ∙ stands ns (ap (λ (g : ℕ). count_by (nat_eq g) ns) (sym same) ∙ rest))
    (cases_lt (greatest ns) n)

-- none is longer, so many are as long, and without any it is 0
record Counts (l : Longest) (ns : List ℕ) : Type 0 where
  longer : count_by (nat_lt l.bytes) ns ≡ 0
  as_long : l.names ≡ count_by (nat_eq l.bytes) ns
  none : l.names ≡ 0 → l.bytes ≡ 0

counts : (l : Longest) (ns : List ℕ) → IsLongest l ns → Counts l ns
counts l ns is = record {
  longer = none_longer l.bytes ns (let e = is.bytes in omega arith);
  as_long = is.names;
  none = λ z. is.bytes ∙ stands ns (ap (λ (g : ℕ). count_by (nat_eq g) ns) (sym is.bytes) ∙ sym is.names ∙ z);
}

longest : (l : Longest) (ns : List ℕ) → Counts l ns → IsLongest l ns
longest l ns c = record {
  bytes =
      let le = below l.bytes ns c.longer in
      ⊎_elim (λ (some : 0 < l.names). let as_long = c.as_long in let ge = reached l.bytes ns (omega arith) in omega arith)
      (λ (few : l.names ≤ 0). let zero = c.none (omega arith) in omega arith) (cases_lt 0 l.names);
  names = c.as_long;
}

-- ---- one more

pub raised : (l : Longest) (n : ℕ) (ns : List ℕ) → l.bytes < n → IsLongest l ns → IsLongest (record { bytes = n; names = 1 }) (ns ++ n ∷ [])
raised l n ns lt is =
    let old = counts l ns is in
    let le = below l.bytes ns old.longer in
    longest (record { bytes = n; names = 1 }) (ns ++ n ∷ []) (record {
      longer = let all = pushed (nat_lt n) ns n in let own = not_lt n n (omega arith) in let rest = none_longer n ns (omega arith) in omega arith;
      as_long =
          let all = pushed (nat_eq n) ns n in
          let own = is_eq n n refl in
          ⊎_elim (λ (some : 0 < count_by (nat_eq n) ns). absurd (let ge = reached n ns some in omega arith)) (λ (few : count_by (nat_eq n) ns ≤ 0). omega arith) (cases_lt 0 (count_by (nat_eq n) ns));
      none = λ z. absurd (omega arith);
    })

pub joined : (l : Longest) (ns : List ℕ) → IsLongest l ns → IsLongest (record { bytes = l.bytes; names = l.names + 1 }) (ns ++ l.bytes ∷ [])
joined l ns is =
    let old = counts l ns is in
    let longer = old.longer in
    let as_long = old.as_long in
    longest (record { bytes = l.bytes; names = l.names + 1 }) (ns ++ l.bytes ∷ []) (record {
      longer = let all = pushed (nat_lt l.bytes) ns l.bytes in let own = not_lt l.bytes l.bytes (omega arith) in omega arith;
      as_long = let all = pushed (nat_eq l.bytes) ns l.bytes in let own = is_eq l.bytes l.bytes refl in omega arith;
      none = λ z. absurd (omega arith);
    })

pub below_it : (l : Longest) (n : ℕ) (ns : List ℕ) → n < l.bytes → IsLongest l ns → IsLongest l (ns ++ n ∷ [])
below_it l n ns lt is =
    let old = counts l ns is in
    let longer = old.longer in
    let as_long = old.as_long in
    longest l (ns ++ n ∷ []) (record {
      longer = let all = pushed (nat_lt l.bytes) ns n in let own = not_lt l.bytes n (omega arith) in omega arith;
      as_long = let all = pushed (nat_eq l.bytes) ns n in let own = not_eq l.bytes n (λ e. omega arith) in omega arith;
      none = old.none;
    })

-- ---- one less

-- of these, one of n is gone
abbrev pub HasLeft : List ℕ → List ℕ → ℕ → Type 0
HasLeft ns left n = (p : ℕ → Bool) → count_by p left + cond (p n) 1 0 ≡ count_by p ns

pub shorter_left : (l : Longest) (n : ℕ) (ns left : List ℕ) → HasLeft ns left n → n < l.bytes → IsLongest l ns → IsLongest l left
shorter_left l n ns left gone lt is =
    let old = counts l ns is in
    let longer = old.longer in
    let as_long = old.as_long in
    longest l left (record {
      longer = let all = gone (nat_lt l.bytes) in omega arith;
      as_long = let all = gone (nat_eq l.bytes) in let own = not_eq l.bytes n (λ e. omega arith) in omega arith;
      none = old.none;
    })

pub one_left : (l : Longest) (n m : ℕ) (ns left : List ℕ) → HasLeft ns left n → l.bytes ≤ n → 2 ≤ l.names → m + 1 ≡ l.names → IsLongest l ns → IsLongest (record { bytes = l.bytes; names = m }) left
one_left l n m ns left gone le two less is =
    let old = counts l ns is in
    let longer = old.longer in
    let as_long = old.as_long in
    let over = gone (nat_lt l.bytes) in
    let same : l.bytes ≡ n = ⊎_elim (λ (lt : l.bytes < n). absurd (let yes = is_lt l.bytes n lt in omega arith)) (λ (ge : n ≤ l.bytes). omega arith) (cases_lt l.bytes n) in
    longest (record { bytes = l.bytes; names = m }) left (record {
      longer = omega arith;
      as_long = let all = gone (nat_eq l.bytes) in let own = is_eq l.bytes n same in omega arith;
      none = λ z. absurd (omega arith);
    })
