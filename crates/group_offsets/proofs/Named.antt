-- The groups as a table keeps them: what is looked up, and what a call leaves there.
use Rattle.std.proofs.Common.{◌≡◌, ℕ, ◌+◌, List, [], ◌∷◌, Option, Some, None, Bool, true, false, cond, refl, sym, subst, ap, ◌∙◌}
use Rattle.std.specs.Prelude.{unwrap_or}
use Rattle.std.specs.Map.{lookup, set_value, values_of}
use Rattle.std.specs.Option.{option_map}
use Rattle.std.specs.Str.{bytes_eq}
use Rattle.std.specs.declared.string.String.{String}
use Rattle.std.specs.declared.alloc.Global.{Global}
use Rattle.keyed_tables.proofs.Tables.{is_under, same_test, found_in as found_by, set_same, keyed_set, keyed_changed}
use Rattle.group_offsets.specs.declared.group.Group.{Group}
use Rattle.group_offsets.specs.GroupTransition.{GroupTransition, Stays, Puts, answer_of, group_after}
use Rattle.group_offsets.specs.Group.{fresh_group, without_lapsed}
use Rattle.group_offsets.specs.Groups.{find_group, group_of, groups_with, groups_after, place_of}
use Rattle.group_offsets.proofs.Places.{found_name}
use Rattle.group_offsets.proofs.Apart.{expired_name}
use Rattle.group_offsets.specs.Named.{name_of, AreNamed, all_expired}

abbrev Entry : Type 0
Entry = String Global × Group

-- ---- the group of a name

-- where it is asked for by a text of this name
pub found_in : (es : List Entry) (asked name : List ℕ) (o : Option Group) → asked ≡ name → AreNamed es → o ≡ lookup (is_under asked) es → find_group (values_of es) name ≡ o
found_in es asked name o same h found = found_by name_of es asked name o same h found

pub group_in : (es : List Entry) (asked name : List ℕ) (g : Group) → asked ≡ name → AreNamed es → Some g ≡ lookup (is_under asked) es → group_of (values_of es) name ≡ g
group_in es asked name g same h found = ap (λ (o : Option Group). unwrap_or o (fresh_group name)) (found_in es asked name (Some g) same h found)

-- a group that isn't found has no place
pub no_place : (gs : List Group) (name : List ℕ) → find_group gs name ≡ None → place_of gs name ≡ None
no_place [] name h = refl
no_place (g ∷ gs) name h = by_test (bytes_eq g.name name) h (no_place gs name) where
  by_test : (b : Bool) → cond b (Some g) (find_group gs name) ≡ None → (find_group gs name ≡ None → place_of gs name ≡ None) → cond b (Some 0) (option_map (λ i. i + 1) (place_of gs name)) ≡ None
  by_test true h more = absurd (let clash : Some g ≡ None = h in cc)
  by_test false h more = ap (option_map (λ i. i + 1)) (more h)

pub none_in : (es : List Entry) (asked name : List ℕ) → asked ≡ name → AreNamed es → None ≡ lookup (is_under asked) es → place_of (values_of es) name ≡ None
none_in es asked name same h found = no_place (values_of es) name (found_in es asked name None same h found)

-- ---- what a call leaves

set_put : (es : List Entry) (name : List ℕ) (g new : Group) → new.name ≡ name → AreNamed es → Some g ≡ lookup (is_under name) es → values_of (set_value (is_under name) es new) ≡ groups_with (values_of es) new
set_put [] name g new named h found = absurd (let clash : Some g ≡ None = found in cc)
set_put (e ∷ es) name g new named h found =
    by_test (is_under name e.0) found (set_put es name g new named h.1)
    ∙ ap (λ (b : Bool). cond b (new ∷ values_of es) (e.1 ∷ groups_with (values_of es) new)) (same_test name_of name e h.0 ∙ ap (bytes_eq e.1.name) (sym named)) where
      by_test : (b : Bool) → Some g ≡ cond b (Some e.1) (lookup (is_under name) es) → (Some g ≡ lookup (is_under name) es → values_of (set_value (is_under name) es new) ≡ groups_with (values_of es) new)
          → values_of (cond b ((e.0, new) ∷ es) (e ∷ set_value (is_under name) es new)) ≡ cond b (new ∷ values_of es) (e.1 ∷ groups_with (values_of es) new)
      by_test true found more = refl
      by_test false found more = ap (λ (l : List Group). e.1 ∷ l) (more found)

-- the group of the name as its transition leaves it, the others as before
pub turned_in : {A : Type 0} (es new_es : List Entry) (asked name : List ℕ) (g new : Group) (transition : Group → GroupTransition A) → asked ≡ name → AreNamed es → Some g ≡ lookup (is_under asked) es
    → new_es ≡ set_value (is_under asked) es new → new ≡ group_after g (transition g) → new.name ≡ g.name → values_of new_es ≡ groups_after (values_of es) (transition (group_of (values_of es) name))
turned_in {A = A} es new_es asked name g new transition same h found written made named =
    ap values_of written ∙ ap (λ (n : List ℕ). values_of (set_value (is_under n) es new)) same ∙ by_transition (transition g) made
    ∙ ap (λ (x : Group). groups_after (values_of es) (transition x)) (sym (group_in es asked name g same h found)) where
      own : Some g ≡ lookup (is_under name) es
      own = found ∙ ap (λ (n : List ℕ). lookup (is_under n) es) same

      by_transition : (t : GroupTransition A) → new ≡ group_after g t → values_of (set_value (is_under name) es new) ≡ groups_after (values_of es) t
      by_transition (Stays code) e = ap (λ (x : Group). values_of (set_value (is_under name) es x)) e ∙ set_same es (is_under name) g own
      by_transition (Puts answer x) e = set_put es name g new (named ∙ found_name (values_of es) g name (found_in es asked name (Some g) same h found)) h own ∙ ap (groups_with (values_of es)) e

pub answered_in : {A : Type 0} (es : List Entry) (asked name : List ℕ) (g : Group) (transition : Group → GroupTransition A) → asked ≡ name → AreNamed es → Some g ≡ lookup (is_under asked) es
    → answer_of (transition g) ≡ answer_of (transition (group_of (values_of es) name))
answered_in es asked name g transition same h found = ap (λ (x : Group). answer_of (transition x)) (sym (group_in es asked name g same h found))

-- a call that fails leaves all as before
pub unchanged_in : (es new_es : List Entry) (asked : List ℕ) (g new : Group) → Some g ≡ lookup (is_under asked) es → new_es ≡ set_value (is_under asked) es new → new ≡ g → values_of new_es ≡ values_of es
unchanged_in es new_es asked g new found written same = ap values_of written ∙ ap (λ (x : Group). values_of (set_value (is_under asked) es x)) same ∙ set_same es (is_under asked) g found

pub named_in : (es new_es : List Entry) (asked : List ℕ) (g new : Group) → Some g ≡ lookup (is_under asked) es → new_es ≡ set_value (is_under asked) es new → new.name ≡ g.name → AreNamed es → AreNamed new_es
named_in es new_es asked g new found written named h = subst AreNamed (sym written) (keyed_set name_of es (is_under asked) g new found named h)

-- ---- all that expire

pub named_expired : (moment : ℕ) (es : List Entry) → AreNamed es → AreNamed (all_expired moment es)
named_expired moment es h = keyed_changed name_of (without_lapsed moment) es (expired_name moment) h
