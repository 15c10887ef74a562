-- The verdict of a list of bindings is the right one.
use Rattle.std.proofs.Common.{◌≡◌, ℕ, suc, ◌<◌, ◌≤◌, min, List, [], ◌∷◌, Option, Some, None, Bool, true, false, ◌||◌, cond, refl, sym, ◌∙◌, arith, ⊎_elim}
use Rattle.std.specs.List.{All, Any}
use Rattle.std.proofs.lemmas.Bool.{cases_lt, true≢false}
use Rattle.std.proofs.lemmas.List.Folds.{Any-from_list_any}
use Rattle.std.proofs.lemmas.List.Elements.{All-nil, All-cons}
use Rattle.acl_binding.specs.declared.binding.Numbered.{Numbered}
use Rattle.acl_binding.specs.declared.question.Question.{Question}
use Rattle.acl_binding.specs.Verdict.{least_of, lesser_of, denials, is_denial, is_grant, any_grant, verdict_by, verdict_of, IsDecided, IsFirstDenial}

any_first : {X : Type 0} (P : X → Type 0) (x : X) (xs : List X) → P x → Any P (x ∷ xs)
any_first P x xs p = (0, x, omega arith, refl, p)

any_later : {X : Type 0} (P : X → Type 0) (x : X) (xs : List X) → Any P xs → Any P (x ∷ xs)
any_later P x xs (k, y, within, is, p) = (suc k, y, omega arith, is, p)

all_weaker : {X : Type 0} (P Q : X → Type 0) (xs : List X) → ((x : X) → P x → Q x) → All P xs → All Q xs
all_weaker P Q xs weaker all = λ k d within. weaker _ (all k d within)

abbrev Undenied : Question → Numbered → Type 0
Undenied q e = is_denial q e.binding ≡ false

abbrev DeniesAt : Question → ℕ → Numbered → Type 0
DeniesAt q n e = (e.number ≡ n) × (is_denial q e.binding ≡ true)

abbrev DeniesFrom : Question → ℕ → Numbered → Type 0
DeniesFrom q n e = is_denial q e.binding ≡ true → n ≤ e.number

never : (q : Question) (n : ℕ) (e : Numbered) → Undenied q e → DeniesFrom q n e
never q n e other denies = absurd (true≢false (sym denies ∙ other))

lower : (q : Question) (m n : ℕ) (e : Numbered) → m ≤ n → DeniesFrom q n e → DeniesFrom q m e
lower q m n e le from denies = let least = from denies in omega arith

-- what the least of the denials says of the bindings
abbrev LeastIs : List Numbered → Question → Option ℕ → Type 0
LeastIs es q None = All (Undenied q) es
LeastIs es q (Some n) = IsFirstDenial es q n

-- one in front that doesn't deny changes nothing
passed : (e : Numbered) (es : List Numbered) (q : Question) (o : Option ℕ) → Undenied q e → LeastIs es q o → LeastIs (e ∷ es) q o
passed e es q None other is = All-cons (Undenied q) e es other is
passed e es q (Some n) other is = record {
  denies = any_later (DeniesAt q n) e es is.denies;
  first = All-cons (DeniesFrom q n) e es (never q n e other) is.first;
}

-- one in front that denies is the first, or the first of the others is
headed : (e : Numbered) (es : List Numbered) (q : Question) (o : Option ℕ) → is_denial q e.binding ≡ true → LeastIs es q o → LeastIs (e ∷ es) q (Some (lesser_of e.number o))
headed e es q None denies is = record {
  denies = any_first (DeniesAt q e.number) e es (refl, denies);
  first = All-cons (DeniesFrom q e.number) e es (λ _. omega arith) (all_weaker (Undenied q) (DeniesFrom q e.number) es (never q e.number) is);
}
headed e es q (Some n) denies is = ⊎_elim older younger (cases_lt n e.number) where
  others : (m : ℕ) → m ≤ n → All (DeniesFrom q m) es
  others m le = all_weaker (DeniesFrom q n) (DeniesFrom q m) es (λ x from. lower q m n x le from) is.first

  older : n < e.number → IsFirstDenial (e ∷ es) q (min e.number n)
  older lt = let least : min e.number n ≡ n = omega arith in rw least (record {
    denies = any_later (DeniesAt q n) e es is.denies;
    first = All-cons (DeniesFrom q n) e es (λ _. omega arith) (others n (omega arith));
  })

  younger : e.number ≤ n → IsFirstDenial (e ∷ es) q (min e.number n)
  younger le = let least : min e.number n ≡ e.number = omega arith in rw least (record {
    denies = any_first (DeniesAt q e.number) e es (refl, denies);
    first = All-cons (DeniesFrom q e.number) e es (λ _. omega arith) (others e.number le);
  })

least_is : (es : List Numbered) (q : Question) → LeastIs es q (least_of (denials es q))
least_is [] q = All-nil (Undenied q)
least_is (e ∷ es) q = by (is_denial q e.binding) refl (least_is es q) where
  by : (t : Bool) → is_denial q e.binding ≡ t → LeastIs es q (least_of (denials es q)) → LeastIs (e ∷ es) q (least_of (cond t (e.number ∷ denials es q) (denials es q)))
  by true denies rest = headed e es q (least_of (denials es q)) denies rest
  by false other rest = passed e es q (least_of (denials es q)) other rest

abbrev Ungranted : Question → Numbered → Type 0
Ungranted q e = is_grant q e.binding ≡ false

neither : (a b : Bool) → (a || b) ≡ false → (a ≡ false) × (b ≡ false)
neither true b h = absurd (true≢false h)
neither false b h = (refl, h)

none_grants : (es : List Numbered) (q : Question) → any_grant es q ≡ false → All (Ungranted q) es
none_grants [] q h = All-nil (Ungranted q)
none_grants (e ∷ es) q h =
    let parts = neither (is_grant q e.binding) (any_grant es q) h in
    All-cons (Ungranted q) e es parts.0 (none_grants es q parts.1)

pub verdict_right : (es : List Numbered) (q : Question) → IsDecided es q (verdict_of es q)
verdict_right es q = by (least_of (denials es q)) (any_grant es q) refl (least_is es q) where
  by : (o : Option ℕ) (any : Bool) → any_grant es q ≡ any → LeastIs es q o → IsDecided es q (verdict_by o any)
  by (Some n) any is first = first
  by None true is undenied = record { undenied = undenied; allows = Any-from_list_any (λ (e : Numbered). is_grant q e.binding) es is }
  by None false is undenied = record { undenied = undenied; unallowed = none_grants es q is }
