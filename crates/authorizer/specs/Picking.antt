-- What a filter picks among the bindings that are looked at.
use Rattle.std.specs.Prelude.{◌≡◌, ℕ, Bool, true, not, ◌&&◌, ◌||◌, ◌==◌, List, [], ◌∷◌, map, filter, Option, Some, None}
use Rattle.std.specs.Ordering.{nat_cmp}
use Rattle.std.specs.BTreeMap.{insert_entry, is_at as is_key}
use Rattle.std.specs.Map.{remove_entry}
use Rattle.std.specs.List.{list_any}
use Rattle.acl_binding.specs.declared.words.Kind.{Kind}
use Rattle.acl_binding.specs.declared.binding.Numbered.{Numbered}
use Rattle.acl_binding.specs.declared.filter.Filter.{Filter}
use Rattle.acl_binding.specs.declared.filter.FilterPattern.{FilterPattern}
use Rattle.acl_binding.specs.declared.filter.FilterPattern.TheVariants as wanted
use Rattle.acl_binding.specs.declared.words.Pattern.TheVariants.{Literal, Prefixed}
use Rattle.acl_binding.specs.Words.{kind_number}
use Rattle.acl_binding.specs.Binding.{star}
use Rattle.acl_binding.specs.Filter.{matches}
use Rattle.authorizer.specs.Looking.{is_at, is_longer, IsNamed}
use Rattle.authorizer.specs.declared.acl_key.AclKey.{AclKey}

-- the bindings under their numbers
abbrev pub under_numbers : List Numbered → List (ℕ × Numbered)
under_numbers es = map (λ (e : Numbered). (e.number, e)) es

-- the table with one binding after the other, each in its place
abbrev pub with_entries : List (ℕ × Numbered) → List Numbered → List (ℕ × Numbered)
with_entries table [] = table
with_entries table (e ∷ es) = with_entries (insert_entry nat_cmp table e.number e) es

-- the table without the bindings of these numbers
abbrev pub without_numbers : List (ℕ × Numbered) → List ℕ → List (ℕ × Numbered)
without_numbers table [] = table
without_numbers table (n ∷ ns) = without_numbers (remove_entry (is_key (nat_cmp n)) table) ns

-- the filter picks it
abbrev pub picks : Filter → Numbered → Bool
picks f e = matches f e.binding

-- where those of the bindings stood in the table that pass some test, there stand now also those
-- that are looked at and that the filter picks
abbrev pub HasPicked : List (ℕ × Numbered) → List (ℕ × Numbered) → Filter → List Numbered
    → (Numbered → Bool) → Type 0
HasPicked old new f es looked =
    (test : Numbered → Bool) → old ≡ under_numbers (filter test es)
    → new ≡ under_numbers (filter (λ e. test e || (looked e && picks f e)) es)

-- what is left where of those that are looked at the filter's are taken out
abbrev pub is_left : Filter → (Numbered → Bool) → Numbered → Bool
is_left f looked e = not (looked e && picks f e)

-- ---- where bindings stand

-- the binding stands at the place
abbrev pub stands_at : AclKey → Numbered → Bool
stands_at acl_key e = is_at acl_key.kind acl_key.pattern acl_key.name.now e

-- the binding stands at one of the places
abbrev pub stands_in : List AclKey → Numbered → Bool
stands_in acl_keys e = list_any (λ acl_key. stands_at acl_key e) acl_keys

-- where those of a kind stand that such a pattern with this name picks: under the name, and for
-- MATCH also under `*` and under the name's beginnings
abbrev pub stands_under : FilterPattern → Kind → List ℕ → Numbered → Bool
stands_under wanted.Any kind name e = is_at kind Literal name e || is_at kind Prefixed name e
stands_under wanted.Match kind name e =
    (is_at kind Literal name e || is_at kind Literal star e) || is_longer kind name 0 e
stands_under wanted.Literal kind name e = is_at kind Literal name e
stands_under wanted.Prefixed kind name e = is_at kind Prefixed name e

-- each binding that the filter picks stands at one of the places, where there are any
abbrev pub AreAllAt : Option (List AclKey) → Filter → Type 0
AreAllAt None f = Unit {0}
AreAllAt (Some acl_keys) f =
    (e : Numbered) → IsNamed e → picks f e ≡ true → stands_in acl_keys e ≡ true

-- it is of this kind
abbrev pub is_of_kind : Kind → Numbered → Bool
is_of_kind kind e = kind_number e.binding.kind == kind_number kind
