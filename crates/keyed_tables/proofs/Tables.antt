-- What is looked up in a table whose values hold their own keys, and what a write leaves there.
use Rattle.std.proofs.Common.{◌≡◌, ℕ, zero, suc, ◌+◌, ◌<◌, List, [], ◌∷◌, ◌++◌, length, map, take, drop, slice_get, get_or, add-one, Option, Some, None, Bool, true, false, cond, refl, sym, subst, ap, ◌∙◌, arith}
use Rattle.std.specs.Cmp.Lexicographic.{nat_list_eq_equiv}
use Rattle.std.specs.List.{find}
use Rattle.std.specs.Map.{lookup, set_value, values_of}
use Rattle.std.specs.Str.{bytes_eq}
use Rattle.std.specs.String.{string_bytes, string_eq}
use Rattle.std.specs.declared.string.String.{String}
use Rattle.std.specs.declared.alloc.Global.{Global}
use Rattle.std.proofs.lemmas.List.{length-map}
use Rattle.std.proofs.lemmas.Option.{slice_get_within, get_or_from_slice_get}
use Rattle.std.proofs.lemmas.Slice.Eq.{bytes_eq-Decides}
use Rattle.indexmap.specs.IndexMap.{insert_entry, set_value_at}
use Rattle.keyed_tables.specs.Keyed.{AreKeyed, each_changed}

-- the test of a look-up by these bytes
abbrev pub is_under : List ℕ → String Global → Bool
is_under name key = bytes_eq name (string_bytes key)

abbrev find_by : {V : Type 0} → (V → List ℕ) → List V → List ℕ → Option V
find_by {V = V} key vs name = find (λ (v : V). bytes_eq (key v) name) vs

pub same_test : {V : Type 0} (key : V → List ℕ) (name : List ℕ) (e : String Global × V) → string_bytes e.0 ≡ key e.1 → is_under name e.0 ≡ bytes_eq (key e.1) name
same_test key name e keyed = nat_list_eq_equiv.symm name (string_bytes e.0) ∙ ap (λ (n : List ℕ). bytes_eq n name) keyed

-- ---- a look-up

pub looked_up : {V : Type 0} (key : V → List ℕ) (es : List (String Global × V)) (name : List ℕ) → AreKeyed key es → lookup (is_under name) es ≡ find_by key (values_of es) name
looked_up key [] name h = refl
looked_up key (e ∷ es) name h = λ i. cond (same_test key name e h.0 i) (Some e.1) (looked_up key es name h.1 i)

-- where it is by a text that is this name
pub found_in : {V : Type 0} (key : V → List ℕ) (es : List (String Global × V)) (asked name : List ℕ) (o : Option V) → asked ≡ name → AreKeyed key es → o ≡ lookup (is_under asked) es → find_by key (values_of es) name ≡ o
found_in key es asked name o same h found = sym (looked_up key es name h) ∙ ap (λ (n : List ℕ). lookup (is_under n) es) (sym same) ∙ sym found

-- what is found has the key
pub found_key : {V : Type 0} (key : V → List ℕ) (es : List (String Global × V)) (name : List ℕ) (v : V) → AreKeyed key es → lookup (is_under name) es ≡ Some v → key v ≡ name
found_key key [] name v h found = absurd (let clash : None ≡ Some v = found in cc)
found_key {V = V} key (e ∷ es) name v h found = by_test (is_under name e.0) refl found (found_key key es name v h.1) where
  by_test : (b : Bool) → is_under name e.0 ≡ b → cond b (Some e.1) (lookup (is_under name) es) ≡ Some v → (lookup (is_under name) es ≡ Some v → key v ≡ name) → key v ≡ name
  by_test true same found more = let is : v ≡ e.1 = cc in ap key is ∙ sym h.0 ∙ sym ((bytes_eq-Decides name (string_bytes e.0)).0 same)
  by_test false same found more = more found

-- ---- a value in the place of the one of its key

-- the same value leaves all as it was
pub set_same : {V : Type 0} (es : List (String Global × V)) (test : String Global → Bool) (v : V) → Some v ≡ lookup test es → values_of (set_value test es v) ≡ values_of es
set_same [] test v found = refl
set_same {V = V} (e ∷ es) test v found = by_test (test e.0) found (set_same es test v) where
  by_test : (b : Bool) → Some v ≡ cond b (Some e.1) (lookup test es) → (Some v ≡ lookup test es → values_of (set_value test es v) ≡ values_of es) → values_of (cond b ((e.0, v) ∷ es) (e ∷ set_value test es v)) ≡ e.1 ∷ values_of es
  by_test true found more = let is : v ≡ e.1 = cc in ap (λ (x : V). x ∷ values_of es) is
  by_test false found more = ap (λ (l : List V). e.1 ∷ l) (more found)

-- a value of the same key stands under it
pub keyed_set : {V : Type 0} (key : V → List ℕ) (es : List (String Global × V)) (test : String Global → Bool) (v new : V) → Some v ≡ lookup test es → key new ≡ key v → AreKeyed key es → AreKeyed key (set_value test es new)
keyed_set key [] test v new found same h = tt
keyed_set {V = V} key (e ∷ es) test v new found same h = by_test (test e.0) found (λ later. keyed_set key es test v new later same h.1) where
  by_test : (b : Bool) → Some v ≡ cond b (Some e.1) (lookup test es) → (Some v ≡ lookup test es → AreKeyed key (set_value test es new)) → AreKeyed key (cond b ((e.0, new) ∷ es) (e ∷ set_value test es new))
  by_test true found more = let is : e.1 ≡ v = cc in (h.0 ∙ ap key is ∙ sym same, h.1)
  by_test false found more = (h.0, more found)

-- ---- one value more

-- one of a new key stands after the others
pub entered : {V : Type 0} (key : V → List ℕ) (es : List (String Global × V)) (name : String Global) (v : V) → string_bytes name ≡ key v → AreKeyed key es → find_by key (values_of es) (key v) ≡ None → insert_entry string_eq es name v ≡ es ++ (name, v) ∷ []
entered key [] name v keyed h none = refl
entered {V = V} key (e ∷ es) name v keyed h none = by_test (string_eq name e.0) test none (entered key es name v keyed h.1) where
  test : string_eq name e.0 ≡ bytes_eq (key e.1) (key v)
  test = same_test key (string_bytes name) e h.0 ∙ ap (bytes_eq (key e.1)) keyed

  by_test : (b : Bool) → b ≡ bytes_eq (key e.1) (key v) → cond (bytes_eq (key e.1) (key v)) (Some e.1) (find_by key (values_of es) (key v)) ≡ None → (find_by key (values_of es) (key v) ≡ None → insert_entry string_eq es name v ≡ es ++ (name, v) ∷ [])
      → cond b ((e.0, v) ∷ es) (e ∷ insert_entry string_eq es name v) ≡ e ∷ (es ++ (name, v) ∷ [])
  by_test true is none more = absurd (let clash : Some e.1 ≡ None = ap (λ (b : Bool). cond b (Some e.1) (find_by key (values_of es) (key v))) is ∙ none in cc)
  by_test false is none more = ap (λ (l : List (String Global × V)). e ∷ l) (more (ap (λ (b : Bool). cond b (Some e.1) (find_by key (values_of es) (key v))) is ∙ none))

-- it stands under its key, new or not
pub keyed_insert : {V : Type 0} (key : V → List ℕ) (es : List (String Global × V)) (name : String Global) (v : V) → string_bytes name ≡ key v → AreKeyed key es → AreKeyed key (insert_entry string_eq es name v)
keyed_insert key [] name v keyed h = (keyed, tt)
keyed_insert {V = V} key (e ∷ es) name v keyed h = by_test (string_eq name e.0) refl (keyed_insert key es name v keyed h.1) where
  by_test : (b : Bool) → string_eq name e.0 ≡ b → AreKeyed key (insert_entry string_eq es name v) → AreKeyed key (cond b ((e.0, v) ∷ es) (e ∷ insert_entry string_eq es name v))
  by_test true same more = (sym ((bytes_eq-Decides (string_bytes name) (string_bytes e.0)).0 same) ∙ keyed, h.1)
  by_test false same more = (h.0, more)

-- ---- each value changed in turn

pub changed_in : {V : Type 0} (change : V → V) (es : List (String Global × V)) → values_of (each_changed change es) ≡ map change (values_of es)
changed_in change [] = refl
changed_in {V = V} change (e ∷ es) = ap (λ (l : List V). change e.1 ∷ l) (changed_in change es)

pub keyed_changed : {V : Type 0} (key : V → List ℕ) (change : V → V) (es : List (String Global × V)) → ((v : V) → key (change v) ≡ key v) → AreKeyed key es → AreKeyed key (each_changed change es)
keyed_changed key change [] same h = tt
keyed_changed key change (e ∷ es) same h = (h.0 ∙ sym (same e.1), keyed_changed key change es same h.1)

next_after : {V : Type 0} (change : V → V) (es : List (String Global × V)) (place : ℕ) (v : V) → place < length es → get_or (values_of es) place v ≡ v
    → take (suc place) (set_value_at es place (change v)) ++ each_changed change (drop (suc place) (set_value_at es place (change v))) ≡ take place es ++ each_changed change (drop place es)
next_after change [] place v lt at = absurd (omega arith)
next_after {V = V} change (e ∷ es) zero v lt at = ap (λ (x : V). (e.0, change x) ∷ each_changed change es) (sym at)
next_after {V = V} change (e ∷ es) (suc place) v lt at = ap (λ (l : List (String Global × V)). e ∷ l) (next_after change es place v (omega arith) at)

-- the value at a place is changed, and then those after it
pub changed_next : {V : Type 0} (change : V → V) (es : List (String Global × V)) (place : ℕ) (v : V) → slice_get (values_of es) place ≡ Some v
    → take (place + 1) (set_value_at es place (change v)) ++ each_changed change (drop (place + 1) (set_value_at es place (change v))) ≡ take place es ++ each_changed change (drop place es)
changed_next {V = V} change es place v at =
    let lt : place < length es = subst (λ (n : ℕ). place < n) (length-map es (λ (e : String Global × V). e.1)) (slice_get_within (values_of es) place v at) in
    ap (λ (n : ℕ). take n (set_value_at es place (change v)) ++ each_changed change (drop n (set_value_at es place (change v)))) (add-one place)
    ∙ next_after change es place v lt (get_or_from_slice_get (values_of es) place v v at)
