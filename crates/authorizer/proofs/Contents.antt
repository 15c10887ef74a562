-- An equal binding is found by what it says.
use Rattle.std.proofs.Common.{◌≡◌, ℕ, List, [], ◌∷◌, ◌++◌, Option, Some, None, Bool, true, false, cond, ◌||◌, refl, ap, ◌∙◌}
use Rattle.std.specs.List.{find, list_any}
use Rattle.std.specs.Option.{option_map}
use Rattle.acl_binding.specs.declared.binding.Numbered.{Numbered}
use Rattle.acl_binding.specs.Binding.{same_binding}
use Rattle.acl_binding.specs.Book.{number_of}
use Rattle.acl_binding.proofs.Same.{same_sym}
use Rattle.authorizer.specs.Contents.{says_same}

abbrev number_if : Option Numbered → Option ℕ
number_if o = option_map (λ (e : Numbered). e.number) o

-- the first that says the same has the number
pub number_found : (es : List Numbered) (e : Numbered) → number_if (find (says_same e) es) ≡ number_of es e.binding
number_found [] e = refl
number_found (x ∷ es) e = by (same_binding x.binding e.binding) (same_sym e.binding x.binding) (number_found es e) where
  by : (t : Bool) → same_binding e.binding x.binding ≡ t → number_if (find (says_same e) es) ≡ number_of es e.binding →
      number_if (cond (same_binding e.binding x.binding) (Some x) (find (says_same e) es)) ≡ cond t (Some x.number) (number_of es e.binding)
  by true same rest = ap (λ (t : Bool). number_if (cond t (Some x) (find (says_same e) es))) same
  by false same rest = ap (λ (t : Bool). number_if (cond t (Some x) (find (says_same e) es))) same ∙ rest

pub number_there : (es : List Numbered) (e there : Numbered) → Some there ≡ find (says_same e) es → Some there.number ≡ number_of es e.binding
number_there es e there found = ap number_if found ∙ number_found es e

pub number_absent : (es : List Numbered) (e : Numbered) → None ≡ find (says_same e) es → None ≡ number_of es e.binding
number_absent es e none = ap number_if none ∙ number_found es e

-- what isn't there comes last
pub none_said : (es : List Numbered) (e : Numbered) → number_of es e.binding ≡ None → list_any (says_same e) es ≡ false
none_said [] e none = refl
none_said (x ∷ es) e none = by (same_binding x.binding e.binding) (same_sym e.binding x.binding) none (none_said es e) where
  by : (t : Bool) → same_binding e.binding x.binding ≡ t → cond t (Some x.number) (number_of es e.binding) ≡ None → (number_of es e.binding ≡ None → list_any (says_same e) es ≡ false) →
      (same_binding e.binding x.binding || list_any (says_same e) es) ≡ false
  by true same h rest = absurd (let clash : Some x.number ≡ None = h in cc)
  by false same h rest = ap (λ (t : Bool). t || list_any (says_same e) es) same ∙ rest h

pub said_last : (es : List Numbered) (e : Numbered) → number_of es e.binding ≡ None → cond (list_any (says_same e) es) es (es ++ e ∷ []) ≡ es ++ e ∷ []
said_last es e none = ap (λ (t : Bool). cond t es (es ++ e ∷ [])) (none_said es e none)
