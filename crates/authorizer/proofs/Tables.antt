-- A table of names as its entries, and what each call does to it.
use Rattle.std.proofs.Common.{◌≡◌, ℕ, List, [], ◌∷◌, ◌++◌, length, filter, Option, Some, None, Bool, true, false, cond, not, refl, sym, ap, subst, ◌∙◌}
use Rattle.std.specs.Prelude.{nat_eq}
use Rattle.std.specs.Prelude.{Result, Ok, Err, OnErr}
use Rattle.std.specs.Option.{unwrap_or, option_and_then}
use Rattle.std.specs.Map.{lookup, keys_of}
use Rattle.std.specs.Map.Calls.{RetainsPairs}
use Rattle.std.specs.List.{IsDistinct, AllByRecursion}
use Rattle.std.specs.Str.{bytes_eq}
use Rattle.std.specs.String.{string_bytes, string_eq}
use Rattle.std.specs.declared.string.String.{String}
use Rattle.std.specs.declared.alloc.Global.{Global}
use Rattle.std.proofs.Common.{arith}
use Rattle.std.proofs.lemmas.Bool.Decides.{nat_tests}
use Rattle.std.proofs.lemmas.Slice.Eq.{bytes_eq-Decides}
use Rattle.acl_binding.specs.declared.binding.Numbered.{Numbered}
use Rattle.acl_binding.specs.declared.filter.Filter.{Filter}
use Rattle.acl_binding.specs.Filter.{is_not_matched}
use Rattle.authorizer.specs.Index.{rows, named_bindings, nonempty, HasMore, HasSame, HasLessAt}

-- the test by which the bytes are looked up
abbrev pub is_text : List ℕ → String Global → Bool
is_text bs k = bytes_eq bs (string_bytes k)

pub found_rows : (es : List (String Global × List Numbered)) (name : List ℕ) → lookup (is_text name) es ≡ named_bindings (rows es) name
found_rows [] name = refl
found_rows (e ∷ es) name = ap (λ (o : Option (List Numbered)). cond (bytes_eq name (string_bytes e.0)) (Some e.1) o) (found_rows es name)

pub same_bytes : (a b : List ℕ) → bytes_eq a b ≡ true → a ≡ b
same_bytes a b h = (bytes_eq-Decides a b).0 h

pub has_more : (m n : List (String Global × List Numbered)) (name : List ℕ) (held : List Numbered) (entry : Numbered) →
    ((other : List ℕ) → lookup (is_text other) n ≡ cond (bytes_eq name other) (Some held) (lookup (is_text other) m)) →
    held ≡ unwrap_or (lookup (is_text name) m) [] ++ entry ∷ [] → HasMore (rows m) (rows n) name entry
has_more m n name held entry changed is other =
    sym (found_rows n other) ∙ changed other
    ∙ ap (λ (o : Option (List Numbered)). cond (bytes_eq name other) (Some held) o) (found_rows m other)
    ∙ ap (λ (h : List Numbered). cond (bytes_eq name other) (Some h) (named_bindings (rows m) other)) (is ∙ ap (λ (o : Option (List Numbered)). unwrap_or o [] ++ entry ∷ []) (found_rows m name))

pub has_same : (m n : List (String Global × List Numbered)) (name : List ℕ) (held : List Numbered) →
    ((other : List ℕ) → lookup (is_text other) n ≡ cond (bytes_eq name other) (Some held) (lookup (is_text other) m)) →
    Some held ≡ lookup (is_text name) m → HasSame (rows m) (rows n)
has_same m n name held changed is other = sym (found_rows n other) ∙ changed other ∙ by (bytes_eq name other) refl ∙ found_rows m other where
  by : (b : Bool) → bytes_eq name other ≡ b → cond b (Some held) (lookup (is_text other) m) ≡ lookup (is_text other) m
  by true e = is ∙ ap (λ (t : List ℕ). lookup (is_text t) m) (same_bytes name other e)
  by false e = refl

pub on_err : {T E P : Type 0} (r : Result T E) → P → OnErr r P
on_err (Ok x) p = tt
on_err (Err e) p = p

-- ---- what `clean` leaves

pub none_after : (k : String Global) (name : List ℕ) (es : List (String Global × List Numbered)) → bytes_eq name (string_bytes k) ≡ true → AllByRecursion (λ y. string_eq k y ≡ false) (keys_of es) → lookup (is_text name) es ≡ None
none_after k name [] same apart = refl
none_after k name (e ∷ es) same apart =
    let here : bytes_eq name (string_bytes e.0) ≡ false = ap (λ (t : List ℕ). bytes_eq t (string_bytes e.0)) (same_bytes name (string_bytes k) same) ∙ apart.0 in
    ap (λ (b : Bool). cond b (Some e.1) (lookup (is_text name) es)) here ∙ none_after k name es same apart.1

left_some : (xs : List Numbered) → true ≡ not (nat_eq (length xs) 0) → Some xs ≡ nonempty xs
left_some [] h = absurd (let clash : true ≡ false = h in cc)
left_some (x ∷ xs) h = refl

left_none : (xs : List Numbered) → false ≡ not (nat_eq (length xs) 0) → None ≡ nonempty xs
left_none [] h = refl
left_none (x ∷ xs) h = absurd (grind (arith, nat_tests, h))

pub lookup_retained : {F : Type 0} (T : F → String Global → List Numbered → Bool → List Numbered → F → Type 0) (s : Numbered → Bool) (f : F)
    (says : (k : String Global) (v : List Numbered) (b : Bool) (w : List Numbered) (g : F) → T f k v b w g → (w ≡ filter s v) × (b ≡ not (nat_eq (length w) 0)) × (g ≡ f))
    (name : List ℕ) (es kept : List (String Global × List Numbered)) → IsDistinct string_eq (keys_of es) → RetainsPairs T f es kept →
    lookup (is_text name) kept ≡ option_and_then (λ held. nonempty (filter s held)) (lookup (is_text name) es)
unfolding IsDistinct
lookup_retained T s f says name [] kept apart h = ap (lookup (is_text name)) h
lookup_retained T s f says name (e ∷ es) kept apart h =
    let t = says e.0 e.1 h.0 h.1 h.2 h.4 in
    let rest : lookup (is_text name) h.3 ≡ option_and_then (λ held. nonempty (filter s held)) (lookup (is_text name) es) =
    lookup_retained T s f says name es h.3 apart.1 (subst (λ g. RetainsPairs T g es h.3) t.2 h.5) in
    ap (lookup (is_text name)) h.6 ∙ by_key (bytes_eq name (string_bytes e.0)) refl rest t.0 t.1 where
      by_key : (b : Bool) → bytes_eq name (string_bytes e.0) ≡ b →
          lookup (is_text name) h.3 ≡ option_and_then (λ held. nonempty (filter s held)) (lookup (is_text name) es) →
          h.1 ≡ filter s e.1 → h.0 ≡ not (nat_eq (length h.1) 0) →
          lookup (is_text name) (cond h.0 ((e.0, h.1) ∷ h.3) h.3) ≡ option_and_then (λ held. nonempty (filter s held)) (cond b (Some e.1) (lookup (is_text name) es))
      by_key true same rest left keeps = by_left h.0 keeps where
        by_left : (b : Bool) → b ≡ not (nat_eq (length h.1) 0) → lookup (is_text name) (cond b ((e.0, h.1) ∷ h.3) h.3) ≡ nonempty (filter s e.1)
        by_left true keeps = ap (λ (t : Bool). cond t (Some h.1) (lookup (is_text name) h.3)) same ∙ left_some h.1 keeps ∙ ap nonempty left
        by_left false keeps = rest ∙ ap (option_and_then (λ held. nonempty (filter s held))) (none_after e.0 name es same apart.0) ∙ left_none h.1 keeps ∙ ap nonempty left
      by_key false same rest left keeps = by_left h.0 where
        by_left : (b : Bool) → lookup (is_text name) (cond b ((e.0, h.1) ∷ h.3) h.3) ≡ option_and_then (λ held. nonempty (filter s held)) (lookup (is_text name) es)
        by_left true = ap (λ (t : Bool). cond t (Some h.1) (lookup (is_text name) h.3)) same ∙ rest
        by_left false = rest

-- ---- what `clean_at` leaves

-- the name, cleaned, and the others as they were
less_by : (m n : List (String Global × List Numbered)) (name : List ℕ) (f : Filter) (left : Option (List Numbered)) →
    ((other : List ℕ) → lookup (is_text other) n ≡ cond (bytes_eq name other) left (lookup (is_text other) m)) →
    left ≡ option_and_then (λ held. nonempty (filter (is_not_matched f) held)) (lookup (is_text name) m) → HasLessAt (rows m) (rows n) name f
less_by m n name f left changed is other = sym (found_rows n other) ∙ changed other ∙ by (bytes_eq name other) refl where
  by : (b : Bool) → bytes_eq name other ≡ b → cond b left (lookup (is_text other) m) ≡ cond b (option_and_then (λ held. nonempty (filter (is_not_matched f) held)) (named_bindings (rows m) other)) (named_bindings (rows m) other)
  by true same = is ∙ ap (option_and_then (λ held. nonempty (filter (is_not_matched f) held))) (ap (λ (t : List ℕ). lookup (is_text t) m) (same_bytes name other same) ∙ found_rows m other)
  by false apart = found_rows m other

cleaned : (m : List (String Global × List Numbered)) (name : List ℕ) (f : Filter) (v held : List Numbered) → Some v ≡ lookup (is_text name) m → held ≡ filter (is_not_matched f) v →
    nonempty held ≡ option_and_then (λ held. nonempty (filter (is_not_matched f) held)) (lookup (is_text name) m)
cleaned m name f v held was left = ap nonempty left ∙ ap (option_and_then (λ held. nonempty (filter (is_not_matched f) held))) was

-- something of the name is left
pub less_kept : (m n : List (String Global × List Numbered)) (name : List ℕ) (f : Filter) (v held : List Numbered) →
    ((other : List ℕ) → lookup (is_text other) n ≡ cond (bytes_eq name other) (Some held) (lookup (is_text other) m)) →
    Some v ≡ lookup (is_text name) m → held ≡ filter (is_not_matched f) v → true ≡ not (nat_eq (length held) 0) → HasLessAt (rows m) (rows n) name f
less_kept m n name f v held changed was left any = less_by m n name f (Some held) changed (left_some held any ∙ cleaned m name f v held was left)

-- nothing of it is left
pub less_gone : (m o n : List (String Global × List Numbered)) (name : List ℕ) (f : Filter) (v held : List Numbered) →
    ((other : List ℕ) → lookup (is_text other) o ≡ cond (bytes_eq name other) (Some held) (lookup (is_text other) m)) →
    ((other : List ℕ) → lookup (is_text other) n ≡ cond (bytes_eq name other) None (lookup (is_text other) o)) →
    Some v ≡ lookup (is_text name) m → held ≡ filter (is_not_matched f) v → false ≡ not (nat_eq (length held) 0) → HasLessAt (rows m) (rows n) name f
less_gone m o n name f v held written gone was left none =
    less_by m n name f None (λ other. gone other ∙ ap (cond (bytes_eq name other) None) (written other) ∙ twice (bytes_eq name other) (lookup (is_text other) m)) (left_none held none ∙ cleaned m name f v held was left) where
      twice : (b : Bool) (rest : Option (List Numbered)) → cond b None (cond b (Some held) rest) ≡ cond b None rest
      twice true rest = refl
      twice false rest = refl

-- the name isn't there
pub less_absent : (m : List (String Global × List Numbered)) (name : List ℕ) (f : Filter) → None ≡ lookup (is_text name) m → HasLessAt (rows m) (rows m) name f
less_absent m name f none = less_by m m name f None (λ other. by other (bytes_eq name other) refl) (ap (option_and_then (λ held. nonempty (filter (is_not_matched f) held))) none) where
  by : (other : List ℕ) (b : Bool) → bytes_eq name other ≡ b → lookup (is_text other) m ≡ cond b None (lookup (is_text other) m)
  by other true same = ap (λ (t : List ℕ). lookup (is_text t) m) (sym (same_bytes name other same)) ∙ sym none
  by other false apart = refl
