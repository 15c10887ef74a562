-- The size of what is written, told by what it leaves of a budget.
use Rattle.std.proofs.Common.{◌≡◌, ℕ, pos, ◌-◌, ◌≤◌, ◌^◌, Bool, true, false, ◌&&◌, ltb, leb, List, ◌++◌, length, Option, Some, None, Result, Ok, Err, refl, sym, ap, subst, ◌∙◌, arith, inl, inr}
use Rattle.std.proofs.lemmas.Bool.{lt-ltb, le-ltb, le-leb, lt-leb, cases_lt}
use Rattle.std.specs.Result.{IsErrAnd}
use Rattle.std.specs.Prelude.{IsSome, ◌↔◌}
use Rattle.wire_types.specs.declared.fault.WriteFault.{WriteFault}
use Rattle.wire_types.specs.declared.fault.WriteFault.TheVariants as faults
use Rattle.wire_types.specs.Grammar.{Grammar, Body}
use Rattle.wire_types.specs.Spelling.{left_after}
use Rattle.wire_types.specs.Writing.{Writes}
use Rattle.wire_types.specs.Combinators.{◌⨟◌}
use Rattle.wire_types.specs.Schema.{int32}
use Rattle.msg_admin.specs.Frame.{frame_bytes, frame_fits, GivesFrame, TellsSize}

some_where : (fits : Bool) (n budget : ℕ) → IsSome (left_after fits n budget) ↔ ((fits ≡ true) × (n ≤ budget))
unfolding left_after
some_where false n budget = (λ some. absurd cc, λ h. absurd cc)
some_where true n budget =
    elim (cases_lt budget n) [
      | inl long ↦ let f : leb n budget ≡ false = lt-leb n budget long in rw f (λ some. absurd cc, λ h. absurd (omega (arith, h.1)))
      | inr short ↦ let t : leb n budget ≡ true = le-leb n budget short in rw t (λ some. (refl, short), λ h. refl)
    ]

-- what a body leaves of a budget tells whether it fits there
pub fits_where_left : {A : Type 0} (g : Body A) (x : A) (limit : ℕ) (o : Option ℕ) → o ≡ g.left x limit → IsSome o ↔ ((g.fits x ≡ true) × (length (g.written x) ≤ limit))
fits_where_left g x limit o e = subst (λ (r : Option ℕ). IsSome r ↔ ((g.fits x ≡ true) × (length (g.written x) ≤ limit))) (sym (e ∙ g.lefts x limit)) (some_where (g.fits x) (length (g.written x)) limit)

abbrev greatest : ℕ
greatest = 2147483647

abbrev Refuses : Bool → WriteFault → Type 0
Refuses fits faults.NoMemory = Unit {0}
Refuses fits faults.TooLong = fits ≡ false

no_some : (n : ℕ) → Some n ≡ None → ⊥
no_some n e = cc

same_some : (m n : ℕ) → Some m ≡ Some n → m ≡ n
same_some m n e = cc

never : (a b c : Bool) → b ≡ false → ((a && b) && c) ≡ false
never true b c e = rw e refl
never false b c e = refl

some_left : (fits : Bool) (n left : ℕ) → Some left ≡ left_after fits n greatest → ((fits && ltb n (2 ^ 31)) ≡ true) × (n ≤ greatest) × (left ≡ greatest - n)
unfolding left_after
some_left false n left e = absurd cc
some_left true n left e =
    elim (cases_lt greatest n) [
      | inl long ↦ let f : leb n greatest ≡ false = lt-leb n greatest long in absurd (no_some left (e ∙ rw f refl))
      | inr short ↦
          let t : leb n greatest ≡ true = le-leb n greatest short in
          let below : ltb n (2 ^ 31) ≡ true = lt-ltb n (2 ^ 31) (omega arith) in
          (below, short, same_some left (greatest - n) (e ∙ rw t refl))
    ]

none_left : (fits : Bool) (n : ℕ) → None ≡ left_after fits n greatest → (fits && ltb n (2 ^ 31)) ≡ false
unfolding left_after
none_left false n e = refl
none_left true n e =
    elim (cases_lt greatest n) [
      | inl long ↦ le-ltb n (2 ^ 31) (omega arith)
      | inr short ↦ let t : leb n greatest ≡ true = le-leb n greatest short in absurd (no_some (greatest - n) (sym (e ∙ rw t refl)))
    ]

pub left_bounded : {A : Type 0} (g : Grammar A) (x : A) (left : ℕ) → Some left ≡ g.left x greatest → left ≤ greatest
left_bounded g x left e = let p = some_left (g.fits x) (length (g.written x)) left (e ∙ g.lefts x greatest) in omega (arith, p.2)

pub tells_some : {A : Type 0} (g : Grammar A) (x : A) (left : ℕ) → Some left ≡ g.left x greatest → TellsSize g x (Some (greatest - left))
unfolding frame_fits
tells_some g x left e =
    let p = some_left (g.fits x) (length (g.written x)) left (e ∙ g.lefts x greatest) in
    (p.0, omega (arith, p.1, p.2), omega arith)

pub tells_none : {A : Type 0} (g : Grammar A) (x : A) → None ≡ g.left x greatest → frame_fits g x ≡ false
unfolding frame_fits
tells_none g x e = none_left (g.fits x) (length (g.written x)) (e ∙ g.lefts x greatest)

-- what can not be written is too long
refused : (fits both : Bool) (e : WriteFault) (whole new : List ℕ) → (fits ≡ false → both ≡ false) → Writes {T = Unit {0}} fits whole (Err e) new → Refuses both e
refused fits both faults.NoMemory whole new so h = tt
refused fits both faults.TooLong whole new so h = so h

passed_on : {A : Type 0} (g : Grammar A) (x : A) (e : WriteFault) (r : Result (List ℕ) WriteFault) → Refuses (frame_fits g x) e → IsErrAnd r (λ d. d ≡ e) → GivesFrame g x r
passed_on g x e (Ok bytes) refuses is = absurd is
passed_on g x e (Err faults.NoMemory) refuses is = tt
passed_on g x e (Err faults.TooLong) refuses is = subst (Refuses (frame_fits g x)) (sym is) refuses

pub header_refused : {A B : Type 0} (f : Grammar A) (g : Grammar B) (x : A) (y : B) (e : WriteFault) (r : Result (List ℕ) WriteFault) (whole new : List ℕ)
    → Writes {T = Unit {0}} (f.fits x) whole (Err e) new → IsErrAnd r (λ d. d ≡ e) → GivesFrame (f ⨟ g) (x, y) r
unfolding frame_fits
header_refused f g x y e r whole new h is = passed_on (f ⨟ g) (x, y) e r (refused (f.fits x) (frame_fits (f ⨟ g) (x, y)) e whole new (λ no. rw no refl) h) is

pub body_refused : {A B : Type 0} (f : Grammar A) (g : Grammar B) (x : A) (y : B) (e : WriteFault) (r : Result (List ℕ) WriteFault) (whole new : List ℕ)
    → Writes {T = Unit {0}} (g.fits y) whole (Err e) new → IsErrAnd r (λ d. d ≡ e) → GivesFrame (f ⨟ g) (x, y) r
unfolding frame_fits
body_refused f g x y e r whole new h is = passed_on (f ⨟ g) (x, y) e r (refused (g.fits y) (frame_fits (f ⨟ g) (x, y)) e whole new (never (f.fits x) (g.fits y) _) h) is

-- the size, the header and the body, one after the other
pub frame_is : {A B : Type 0} (f : Grammar A) (g : Grammar B) (x : A) (y : B) (size : ℕ) (sized headed whole : List ℕ)
    → size ≡ length ((f ⨟ g).written (x, y)) → sized ≡ int32.written (pos size) → headed ≡ f.put sized x → whole ≡ g.put headed y → whole ≡ frame_bytes ((f ⨟ g).written (x, y))
frame_is {A} {B} f g x y size sized headed whole is first second third =
    let both : Grammar (A × B) = f ⨟ g in
    let put : whole ≡ both.put sized (x, y) = third ∙ ap (λ (t : List ℕ). g.put t y) second in
    put ∙ both.puts sized (x, y) ∙ ap (λ (t : List ℕ). t ++ both.written (x, y)) (first ∙ ap (λ (n : ℕ). int32.written (pos n)) is)

-- ---- a header alone

pub alone_refused : {A : Type 0} (g : Grammar A) (x : A) (e : WriteFault) (r : Result (List ℕ) WriteFault) (whole new : List ℕ)
    → Writes {T = Unit {0}} (g.fits x) whole (Err e) new → IsErrAnd r (λ d. d ≡ e) → GivesFrame g x r
unfolding frame_fits
alone_refused g x e r whole new h is = passed_on g x e r (refused (g.fits x) (frame_fits g x) e whole new (λ no. rw no refl) h) is

pub alone_is : {A : Type 0} (g : Grammar A) (x : A) (size : ℕ) (sized whole : List ℕ) → size ≡ length (g.written x) → sized ≡ int32.written (pos size) → whole ≡ g.put sized x → whole ≡ frame_bytes (g.written x)
alone_is g x size sized whole is first second = second ∙ g.puts sized x ∙ ap (λ (t : List ℕ). t ++ g.written x) (first ∙ ap (λ (n : ℕ). int32.written (pos n)) is)
