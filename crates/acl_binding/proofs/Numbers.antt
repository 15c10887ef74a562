-- A walk that looks for a binding: where it stands, or that it is among the rest.
use Rattle.std.proofs.Common.{◌≡◌, ℕ, suc, ◌+◌, ◌<◌, List, ◌∷◌, length, get_or, drop, drop-cons, Some, true, false, cond, sym, ap, ◌∙◌, add-one}
use Rattle.acl_binding.specs.declared.binding.Binding.{Binding}
use Rattle.acl_binding.specs.declared.binding.Numbered.{Numbered}
use Rattle.acl_binding.specs.Binding.{same_binding}
use Rattle.acl_binding.specs.Book.{number_of}

-- the rest begins with the entry at the place
rest_at : (es : List Numbered) (b : Binding) (i : ℕ) (e : Numbered) → i < length es → e ≡ get_or es i e → number_of (drop i es) b ≡ cond (same_binding e.binding b) (Some e.number) (number_of (drop (suc i) es) b)
rest_at es b i e lt is = ap (λ l. number_of l b) (drop-cons es i e lt ∙ ap (λ x. x ∷ drop (suc i) es) (sym is))

pub number_found : (es : List Numbered) (b : Binding) (i : ℕ) (e : Numbered) → number_of (drop i es) b ≡ number_of es b → i < length es → e ≡ get_or es i e → same_binding e.binding b ≡ true → Some e.number ≡ number_of es b
number_found es b i e rest lt is same =
    ap (λ t. cond t (Some e.number) (number_of (drop (suc i) es) b)) (sym same) ∙ sym (rest_at es b i e lt is) ∙ rest

pub number_passed : (es : List Numbered) (b : Binding) (i : ℕ) (e : Numbered) → number_of (drop i es) b ≡ number_of es b → i < length es → e ≡ get_or es i e → same_binding e.binding b ≡ false → number_of (drop (i + 1) es) b ≡ number_of es b
number_passed es b i e rest lt is other =
    rw add-one (ap (λ t. cond t (Some e.number) (number_of (drop (suc i) es) b)) (sym other) ∙ sym (rest_at es b i e lt is) ∙ rest)
