-- The size of what is written, from what it leaves of a budget.
use Rattle.std.proofs.Common.{◌≡◌, ℕ, ◌-◌, ◌^◌, Bool, true, false, ◌&&◌, cond, ltb, leb, Some, None, length, refl, sym, ap, ◌∙◌, inl, inr, arith}
use Rattle.std.proofs.lemmas.Bool.{cases_lt, le-leb, lt-leb, lt-ltb, le-ltb}
use Rattle.wire_types.specs.Grammar.{Grammar}
use Rattle.wire_types.specs.Spelling.{left_after}
use Rattle.wire_types.specs.Laws.{size_of}

some_is : (x y : ℕ) → Some x ≡ Some y → x ≡ y
some_is x y e = cc

sized : (fits : Bool) (n left : ℕ) → left_after fits n (2 ^ 64 - 1) ≡ Some left → Some (2 ^ 64 - 1 - left) ≡ cond (fits && ltb n (2 ^ 64)) (Some n) None
unfolding left_after
sized false n left e = absurd cc
sized true n left e =
    elim (cases_lt (2 ^ 64 - 1) n) [
      | inl large ↦ let f : leb n (2 ^ 64 - 1) ≡ false = lt-leb n (2 ^ 64 - 1) large in
          let none : None ≡ Some left = sym (ap (λ (b : Bool). cond b (Some (2 ^ 64 - 1 - n)) None) f) ∙ e in absurd cc
      | inr small ↦ let t : leb n (2 ^ 64 - 1) ≡ true = le-leb n (2 ^ 64 - 1) small in
          let s : ltb n (2 ^ 64) ≡ true = lt-ltb n (2 ^ 64) (omega arith) in
          let is : 2 ^ 64 - 1 - n ≡ left = some_is _ _ (sym (ap (λ (b : Bool). cond b (Some (2 ^ 64 - 1 - n)) None) t) ∙ e) in
          let back : 2 ^ 64 - 1 - left ≡ n = omega arith in
          rw (s, back) refl
    ]

not_sized : (fits : Bool) (n : ℕ) → left_after fits n (2 ^ 64 - 1) ≡ None → None ≡ cond (fits && ltb n (2 ^ 64)) (Some n) None
unfolding left_after
not_sized false n e = refl
not_sized true n e =
    elim (cases_lt (2 ^ 64 - 1) n) [
      | inl large ↦ let f : ltb n (2 ^ 64) ≡ false = le-ltb n (2 ^ 64) (omega arith) in rw f refl
      | inr small ↦ let t : leb n (2 ^ 64 - 1) ≡ true = le-leb n (2 ^ 64 - 1) small in
          let some : Some (2 ^ 64 - 1 - n) ≡ None = sym (ap (λ (b : Bool). cond b (Some (2 ^ 64 - 1 - n)) None) t) ∙ e in absurd cc
    ]

pub size-some : {A : Type 0} (g : Grammar A) (x : A) (left : ℕ) → g.left x (2 ^ 64 - 1) ≡ Some left → Some (2 ^ 64 - 1 - left) ≡ size_of g x
size-some g x left e = sized (g.fits x) (length (g.written x)) left (sym (g.lefts x (2 ^ 64 - 1)) ∙ e)

pub size-none : {A : Type 0} (g : Grammar A) (x : A) → g.left x (2 ^ 64 - 1) ≡ None → None ≡ size_of g x
size-none g x e = not_sized (g.fits x) (length (g.written x)) (sym (g.lefts x (2 ^ 64 - 1)) ∙ e)
