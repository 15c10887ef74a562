-- Each removal takes a binding out, so that edit numbers stay below twice the creation numbers.
use Rattle.std.proofs.Common.{◌≡◌, ℕ, suc, ◌+◌, ◌<◌, Bool, true, false, cond, not, List, [], ◌∷◌, filter, length, refl, ap, arith}
use Rattle.acl_binding.specs.declared.binding.Numbered.{Numbered}
use Rattle.acl_binding.specs.declared.filter.Filter.{Filter}
use Rattle.acl_binding.specs.Book.{BookValue}
use Rattle.acl_binding.specs.Filter.{matches, matching_bindings, is_not_matched, without_matching}
use Rattle.authorizer.specs.Policy.{IsCounted}

-- what is taken out and what stays are all
split_size : (f : Filter) (es : List Numbered) → length (filter (is_not_matched f) es) + length (matching_bindings es f) ≡ length es
split_size f [] = refl
split_size f (e ∷ es) = by_match (matches f e.binding) (split_size f es) where
  by_match : (m : Bool) → length (filter (is_not_matched f) es) + length (matching_bindings es f) ≡ length es
      → length (cond (not m) (e ∷ filter (is_not_matched f) es) (filter (is_not_matched f) es)) + length (cond m (e.binding ∷ matching_bindings es f) (matching_bindings es f)) ≡ suc (length es)
  by_match true rest = omega (arith, rest)
  by_match false rest = omega (arith, rest)

-- where nothing is taken out all stays
all_stay : (f : Filter) (es : List Numbered) → matching_bindings es f ≡ [] → es ≡ filter (is_not_matched f) es
all_stay f [] none = refl
all_stay f (e ∷ es) none = by_match (matches f e.binding) none (all_stay f es) where
  by_match : (m : Bool) → cond m (e.binding ∷ matching_bindings es f) (matching_bindings es f) ≡ [] → (matching_bindings es f ≡ [] → es ≡ filter (is_not_matched f) es) → e ∷ es ≡ cond (not m) (e ∷ filter (is_not_matched f) es) (filter (is_not_matched f) es)
  by_match true h rest = absurd (let clash : e.binding ∷ matching_bindings es f ≡ [] = h in cc)
  by_match false h rest = ap (λ (l : List Numbered). e ∷ l) (rest h)

pub none_removed : (book : BookValue) (f : Filter) → matching_bindings book.entries f ≡ [] → book ≡ without_matching book f
none_removed book f none = λ i. record { entries = all_stay f book.entries none i; next = book.next }

pub counted_removed : (edit : ℕ) (book : BookValue) (f : Filter) → 0 < length (matching_bindings book.entries f) → IsCounted edit book → IsCounted (edit + 1) (without_matching book f)
counted_removed edit book f some counted = omega (arith, split_size f book.entries, some, counted)

pub counted_kept : (edit : ℕ) (book : BookValue) (f : Filter) → IsCounted edit book → IsCounted edit (without_matching book f)
counted_kept edit book f counted = omega (arith, split_size f book.entries, counted)
