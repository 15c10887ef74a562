-- Bindings by their principals, and what these say together.
use Rattle.std.proofs.Common.{◌≡◌, ℕ, ◌+◌, ◌<◌, length, take, get_or, List, [], ◌∷◌, ◌++◌, filter, Option, Some, Bool, true, false, cond, ◌&&◌, ◌||◌, refl, sym, ap, subst, ◌∙◌, append-nil}
use Rattle.std.specs.Prelude.{IfSome}
use Rattle.std.specs.Option.{unwrap_or, option_and_then}
use Rattle.std.specs.Str.{bytes_eq}
use Rattle.std.proofs.lemmas.Bool.{and_parts}
use Rattle.std.proofs.lemmas.List.{take_more}
use Rattle.std.proofs.lemmas.List.Elements.{filter-append}
use Rattle.acl_binding.specs.declared.binding.Numbered.{Numbered}
use Rattle.acl_binding.specs.declared.filter.Filter.{Filter}
use Rattle.acl_binding.specs.declared.question.Question.{Question}
use Rattle.acl_binding.specs.Binding.{any_principal, applies}
use Rattle.acl_binding.specs.Book.{IsRising}
use Rattle.acl_binding.specs.Filter.{is_not_matched}
use Rattle.acl_binding.specs.Verdict.{is_denial, is_grant, denials, least_of}
use Rattle.acl_binding.proofs.Kept.{rising_filter}
use Rattle.authorizer.specs.Index.{named_bindings, bindings_under, nonempty, HasMore, HasLess}
use Rattle.authorizer.specs.Looking.{finding_of, combined_finding}
use Rattle.authorizer.specs.Principals.{is_for, AreByPrincipal}
use Rattle.authorizer.proofs.Findings.{joined_parts, with_head}
use Rattle.authorizer.proofs.Indexing.{unwrapped, pushed, filtered, filter_swap}
use Rattle.authorizer.proofs.Tables.{same_bytes}

abbrev pub Table : Type 0
Table = List (List ℕ × List Numbered)

-- ---- what is held

pub held_of : (table : Table) (es : List Numbered) (who : List ℕ) → AreByPrincipal table es → bindings_under table who ≡ filter (is_for who) es
held_of table es who is = ap (λ (o : Option (List Numbered)). unwrap_or o []) (is who) ∙ unwrapped (filter (is_for who) es)

pub there : (o : Option Table) (table : Table) (es : List Numbered) → o ≡ Some table → IfSome o (λ t. AreByPrincipal t es) → AreByPrincipal table es
there o table es some is = subst (λ (p : Option Table). IfSome p (λ t. AreByPrincipal t es)) some is

pub rising_held : (o : Option Table) (table : Table) (es held : List Numbered) (who : List ℕ) → o ≡ Some table → IfSome o (λ t. AreByPrincipal t es) → IsRising 1 es → held ≡ bindings_under table who → IsRising 1 held
rising_held o table es held who some is rising found = subst (IsRising 1) (sym (found ∙ held_of table es who (there o table es some is))) (rising_filter (is_for who) es 1 rising)

-- ---- one more

pub more_by : (old new : Table) (e : Numbered) → HasMore old new e.binding.principal e → (es : List Numbered) → AreByPrincipal old es → AreByPrincipal new (es ++ e ∷ [])
more_by old new e more es is other =
    more other ∙ by (bytes_eq e.binding.principal other) refl ∙ sym (ap nonempty (filter-append (is_for other) es (e ∷ []))) where
      by : (b : Bool) → bytes_eq e.binding.principal other ≡ b → cond b (Some (bindings_under old e.binding.principal ++ e ∷ [])) (named_bindings old other) ≡ nonempty (filter (is_for other) es ++ cond b (e ∷ []) [])
      by true same =
          let held : bindings_under old e.binding.principal ≡ filter (is_for other) es =
          held_of old es e.binding.principal is ∙ ap (λ (who : List ℕ). filter (is_for who) es) (same_bytes e.binding.principal other same) in
          ap (λ (h : List Numbered). Some (h ++ e ∷ [])) held ∙ pushed (filter (is_for other) es) e
      by false same = is other ∙ ap nonempty (sym (append-nil (filter (is_for other) es)))

-- those so far, and the next one
pub next_by : (new : Table) (es : List Numbered) (i : ℕ) (e other : Numbered) → i < length es → e ≡ get_or es i e → other ≡ e → ((old : List Numbered) → old ≡ take i es → AreByPrincipal new (old ++ other ∷ [])) → AreByPrincipal new (take (i + 1) es)
next_by new es i e other within is same more =
    let step : take (i + 1) es ≡ take i es ++ other ∷ [] = take_more es i e within ∙ ap (λ (x : Numbered). take i es ++ x ∷ []) (sym is ∙ sym same) in
    subst (AreByPrincipal new) (sym step) (more (take i es) refl)

-- ---- what `clean` leaves

pub less_by : (old new : Table) (f : Filter) (es : List Numbered) → HasLess old new f → AreByPrincipal old es → AreByPrincipal new (filter (is_not_matched f) es)
less_by old new f es less is other =
    less other ∙ ap (option_and_then (λ (held : List Numbered). nonempty (filter (is_not_matched f) held))) (is other)
    ∙ filtered (is_not_matched f) (filter (is_for other) es) ∙ ap nonempty (filter_swap (is_for other) (is_not_matched f) es)

-- ---- what isn't for the caller says nothing

unapplied : (c a r : Bool) → a ≡ false → (c && (a && r)) ≡ false
unapplied true true r h = absurd (let clash : true ≡ false = h in cc)
unapplied true false r h = refl
unapplied false a r h = refl

applying : (T : Numbered → Bool) (es : List Numbered) (q : Question) → ((e : Numbered) → applies e.binding q.who q.host ≡ true → T e ≡ true) → finding_of (filter T es) q ≡ finding_of es q
applying T [] q h = refl
applying T (e ∷ es) q h = by (T e) (applies e.binding q.who q.host) refl refl (applying T es q h) where
  by : (t a : Bool) → T e ≡ t → applies e.binding q.who q.host ≡ a → finding_of (filter T es) q ≡ finding_of es q → finding_of (cond t (e ∷ filter T es) (filter T es)) q ≡ finding_of (e ∷ es) q
  by true a is own rest = λ i. record { denied = with_head (is_denial q e.binding) e.number _ _ (λ j. (rest j).denied) i; allowed = is_grant q e.binding || (rest i).allowed }
  by false true is own rest = absurd (let clash : true ≡ false = sym (h e own) ∙ is in cc)
  by false false is own rest =
      rest ∙ sym (ap (λ (d : Bool). record { denied = least_of (cond d (e.number ∷ denials es q) (denials es q)); allowed = is_grant q e.binding || (finding_of es q).allowed }) (unapplied _ _ _ own)
      ∙ ap (λ (g : Bool). record { denied = least_of (denials es q); allowed = g || (finding_of es q).allowed }) (unapplied _ _ _ own))

for_caller : (q : Question) (e : Numbered) → applies e.binding q.who q.host ≡ true → (is_for q.who e || is_for any_principal e) ≡ true
for_caller q e own = (and_parts _ _ own).0

pub found_by : (o : Option Table) (table : Table) (es : List Numbered) (q : Question) (own any : List Numbered) → o ≡ Some table → IfSome o (λ t. AreByPrincipal t es)
    → own ≡ bindings_under table q.who → any ≡ bindings_under table any_principal → combined_finding (finding_of own q) (finding_of any q) ≡ finding_of es q
found_by o table es q own any some is of_own of_any =
    let by = there o table es some is in
    ap (λ (l : List Numbered). combined_finding (finding_of l q) (finding_of any q)) (of_own ∙ held_of table es q.who by)
    ∙ ap (λ (l : List Numbered). combined_finding (finding_of (filter (is_for q.who) es) q) (finding_of l q)) (of_any ∙ held_of table es any_principal by)
    ∙ joined_parts (is_for q.who) (is_for any_principal) es q
    ∙ applying (λ e. is_for q.who e || is_for any_principal e) es q (for_caller q)
