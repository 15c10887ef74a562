-- Each binding that a filter with a name picks stands at one of its places.
use Rattle.std.proofs.Common.{◌≡◌, ℕ, ◌+◌, ◌<◌, ◌≤◌, List, [], ◌∷◌, ◌++◌, length, take, drop, Option, Some, Bool, true, false, ◌&&◌, ◌||◌, refl, sym, ap, ◌∙◌}
use Rattle.std.specs.Prelude.{◌==◌, nat_lt, nat_eq}
use Rattle.std.specs.List.{starts_with}
use Rattle.std.specs.Str.{IsCharBoundary, bytes_eq}
use Rattle.std.specs.Char.{len_utf8, encode_utf8}
use Rattle.std.proofs.lemmas.Bool.{and_parts, and_from}
use Rattle.std.proofs.lemmas.Bool.Decides.{Decides-ltb}
use Rattle.std.proofs.lemmas.Cmp.{nat_eq_equiv, nat_list_eq_equiv}
use Rattle.std.proofs.lemmas.List.Folds.{list_any-append}
use Rattle.acl_binding.specs.declared.words.Kind.{Kind}
use Rattle.acl_binding.specs.declared.words.Kind.TheVariants.{Topic, Group, Cluster, TransactionalId}
use Rattle.acl_binding.specs.declared.words.Pattern.{Pattern}
use Rattle.acl_binding.specs.declared.words.Pattern.TheVariants.{Literal, Prefixed}
use Rattle.acl_binding.specs.declared.binding.Numbered.{Numbered}
use Rattle.acl_binding.specs.declared.filter.Filter.{Filter}
use Rattle.acl_binding.specs.declared.filter.FilterPattern.{FilterPattern}
use Rattle.acl_binding.specs.declared.filter.FilterPattern.TheVariants as wanted
use Rattle.acl_binding.specs.Words.{kind_number, pattern_number}
use Rattle.acl_binding.specs.Binding.{name_covers, star}
use Rattle.acl_binding.specs.Filter.{kind_fits, name_fits}
use Rattle.authorizer.specs.Looking.{is_at, is_longer, IsNamed}
use Rattle.authorizer.specs.Picking.{picks, is_of_kind, stands_at, stands_in, stands_under}
use Rattle.authorizer.specs.declared.acl_key.AclKey.{AclKey}
use Rattle.authorizer.proofs.Looked.{one_longer}
use Rattle.authorizer.proofs.Prefixes.{not_longer}

or_nothing : (a : Bool) → (a || false) ≡ a
or_nothing true = refl
or_nothing false = refl

or_assoc : (a b c : Bool) → ((a || b) || c) ≡ (a || (b || c))
or_assoc true b c = refl
or_assoc false b c = refl

-- ---- places are added

pub one_more : (acl_keys : List AclKey) (acl_key : AclKey) (e : Numbered) → stands_in (acl_keys ++ acl_key ∷ []) e ≡ (stands_in acl_keys e || stands_at acl_key e)
one_more acl_keys acl_key e = list_any-append (λ (p : AclKey). stands_at p e) acl_keys (acl_key ∷ []) ∙ ap (λ (b : Bool). stands_in acl_keys e || b) (or_nothing (stands_at acl_key e))

pub two_more : (old a b c x y : Bool) → a ≡ (old || x) → b ≡ (a || y) → b ≡ (old || (x || y))
two_more old a b c x y first second = second ∙ ap (λ (t : Bool). t || y) first ∙ or_assoc old x y

pub three_more : (old a b c x y z : Bool) → a ≡ (old || x) → b ≡ (a || y) → c ≡ (b || z) → c ≡ (old || ((x || y) || z))
three_more old a b c x y z first second third = third ∙ ap (λ (t : Bool). t || z) (two_more old a b c x y first second) ∙ or_assoc old (x || y) z

-- the place of one more beginning
pub one_beginning : (old new initial : Bool) (kind : Kind) (name rest : List ℕ) (k c : ℕ) (e : Numbered) → IsNamed e → IsCharBoundary name k → drop k name ≡ encode_utf8 c ++ rest →
    new ≡ (old || is_at kind Prefixed (take (k + len_utf8 c) name) e) → (old || is_longer kind name k e) ≡ (initial || is_longer kind name 0 e) →
    (new || is_longer kind name (k + len_utf8 c) e) ≡ (initial || is_longer kind name 0 e)
one_beginning old new initial kind name rest k c e n boundary next more so_far =
    ap (λ (b : Bool). b || is_longer kind name (k + len_utf8 c) e) more
    ∙ or_assoc old (is_at kind Prefixed (take (k + len_utf8 c) name) e) (is_longer kind name (k + len_utf8 c) e)
    ∙ ap (λ (b : Bool). old || b) (one_longer kind name rest k c e n.text boundary next) ∙ so_far

-- nothing is longer than the name
pub last_beginning : (new initial : Bool) (kind : Kind) (name : List ℕ) (k : ℕ) (e : Numbered) → length name ≤ k → (new || is_longer kind name k e) ≡ (initial || is_longer kind name 0 e) → new ≡ (initial || is_longer kind name 0 e)
last_beginning new initial kind name k e le so_far =
    sym (ap (λ (b : Bool). new || b) (not_longer (kind_number e.binding.kind == kind_number kind) (pattern_number e.binding.pattern == 4) name e.binding.name k le) ∙ or_nothing new) ∙ so_far

-- ---- what a filter can pick by its name

name_wanted : (f : Filter) (e : Numbered) (pattern : FilterPattern) (name : List ℕ) → f.pattern ≡ pattern → f.name ≡ Some name → picks f e ≡ true → name_fits pattern (Some name) e.binding ≡ true
name_wanted f e pattern name wants named fits =
    let parts = and_parts (kind_fits f.kind e.binding.kind && name_fits f.pattern f.name e.binding) _ fits in
    sym (λ i. name_fits (wants i) (named i) e.binding) ∙ (and_parts (kind_fits f.kind e.binding.kind) _ parts.0).1

own_name : (name own : List ℕ) → bytes_eq name own ≡ true → bytes_eq own name ≡ true
own_name name own h = nat_list_eq_equiv.symm own name ∙ h

at_pattern : (k p n : Bool) → p ≡ true → n ≡ true → (k && (p && n)) ≡ k
at_pattern true true true h i = refl
at_pattern true true false h i = absurd (let clash : false ≡ true = i in cc)
at_pattern true false n h i = absurd (let clash : false ≡ true = h in cc)
at_pattern false p n h i = refl

at_either : (k : Bool) (p : Pattern) (n : Bool) → n ≡ true → ((k && ((pattern_number p == 3) && n)) || (k && ((pattern_number p == 4) && n))) ≡ k
at_either true Literal true h = refl
at_either true Prefixed true h = refl
at_either true p false h = absurd (let clash : false ≡ true = h in cc)
at_either false p n h = refl

at_covering : (k : Bool) (p : Pattern) (own name : List ℕ) → (p ≡ Prefixed → 0 < length own) → name_covers p own name ≡ true →
    (((k && ((pattern_number p == 3) && bytes_eq own name)) || (k && ((pattern_number p == 3) && bytes_eq own star))) || (k && ((pattern_number p == 4) && (starts_with nat_eq name own && nat_lt 0 (length own))))) ≡ k
at_covering true Literal own name some covers = or_nothing (bytes_eq own name || bytes_eq own star) ∙ covers
at_covering true Prefixed own name some covers = and_from (starts_with nat_eq name own) (nat_lt 0 (length own)) covers ((Decides-ltb 0 (length own)).1 (some refl))
at_covering false p own name some covers = refl

-- under the name, as the filter wants it, stand those of the kind
under_named : (f : Filter) (kind : Kind) (name : List ℕ) (e : Numbered) → IsNamed e → f.name ≡ Some name → picks f e ≡ true → stands_under f.pattern kind name e ≡ is_of_kind kind e
under_named f kind name e n named fits = by f.pattern refl where
  by : (w : FilterPattern) → f.pattern ≡ w → stands_under w kind name e ≡ is_of_kind kind e
  by wanted.Any is = at_either (is_of_kind kind e) e.binding.pattern (bytes_eq e.binding.name name) (own_name name e.binding.name (name_wanted f e wanted.Any name is named fits))
  by wanted.Match is = at_covering (is_of_kind kind e) e.binding.pattern e.binding.name name n.some (name_wanted f e wanted.Match name is named fits)
  by wanted.Literal is =
      let own = and_parts (pattern_number e.binding.pattern == 3) (bytes_eq name e.binding.name) (name_wanted f e wanted.Literal name is named fits) in
      at_pattern (is_of_kind kind e) (pattern_number e.binding.pattern == 3) (bytes_eq e.binding.name name) own.0 (own_name name e.binding.name own.1)
  by wanted.Prefixed is =
      let own = and_parts (pattern_number e.binding.pattern == 4) (bytes_eq name e.binding.name) (name_wanted f e wanted.Prefixed name is named fits) in
      at_pattern (is_of_kind kind e) (pattern_number e.binding.pattern == 4) (bytes_eq e.binding.name name) own.0 (own_name name e.binding.name own.1)

-- ---- of each kind

swap_number : (m n : ℕ) → (m == n) ≡ true → (n == m) ≡ true
swap_number m n h = nat_eq_equiv.symm n m ∙ h

or_true : (a b : Bool) → b ≡ true → (a || b) ≡ true
or_true true b h = refl
or_true false b h = h

kind_wanted : (f : Filter) (kind : Kind) (e : Numbered) → f.kind ≡ Some kind → picks f e ≡ true → is_of_kind kind e ≡ true
kind_wanted f kind e wants fits =
    let parts = and_parts (kind_fits f.kind e.binding.kind && name_fits f.pattern f.name e.binding) _ fits in
    swap_number (kind_number kind) (kind_number e.binding.kind) (sym (ap (λ (k : Option Kind). kind_fits k e.binding.kind) wants) ∙ (and_parts (kind_fits f.kind e.binding.kind) _ parts.0).0)

-- a filter for one kind
pub stands_of_kind : (f : Filter) (kind : Kind) (name : List ℕ) (old new : List AclKey) → f.name ≡ Some name → f.kind ≡ Some kind →
    ((e : Numbered) → IsNamed e → stands_in new e ≡ (stands_in old e || stands_under f.pattern kind name e)) → (e : Numbered) → IsNamed e → picks f e ≡ true → stands_in new e ≡ true
stands_of_kind f kind name old new named wants more e n fits =
    more e n ∙ or_true (stands_in old e) _ (under_named f kind name e n named fits ∙ kind_wanted f kind e wants fits)

one_of_four : (k : Kind) → ((((kind_number k == 2) || (kind_number k == 3)) || (kind_number k == 4)) || (kind_number k == 5)) ≡ true
one_of_four Topic = refl
one_of_four Group = refl
one_of_four Cluster = refl
one_of_four TransactionalId = refl

in_four : (o t g c i : Bool) → (((t || g) || c) || i) ≡ true → ((((o || t) || g) || c) || i) ≡ true
in_four true t g c i h = refl
in_four false t g c i h = h

-- a filter for all kinds
pub stands_of_kinds : (f : Filter) (name : List ℕ) (none topics groups cluster ids : List AclKey) → f.name ≡ Some name →
    ((e : Numbered) → IsNamed e → stands_in topics e ≡ (stands_in none e || stands_under f.pattern Topic name e)) →
    ((e : Numbered) → IsNamed e → stands_in groups e ≡ (stands_in topics e || stands_under f.pattern Group name e)) →
    ((e : Numbered) → IsNamed e → stands_in cluster e ≡ (stands_in groups e || stands_under f.pattern Cluster name e)) →
    ((e : Numbered) → IsNamed e → stands_in ids e ≡ (stands_in cluster e || stands_under f.pattern TransactionalId name e)) →
    (e : Numbered) → IsNamed e → picks f e ≡ true → stands_in ids e ≡ true
stands_of_kinds f name none topics groups cluster ids named first second third fourth e n fits =
    fourth e n
    ∙ (λ i. third e n i || under_named f TransactionalId name e n named fits i)
    ∙ (λ i. (second e n i || under_named f Cluster name e n named fits i) || is_of_kind TransactionalId e)
    ∙ (λ i. ((first e n i || under_named f Group name e n named fits i) || is_of_kind Cluster e) || is_of_kind TransactionalId e)
    ∙ (λ i. (((stands_in none e || under_named f Topic name e n named fits i) || is_of_kind Group e) || is_of_kind Cluster e) || is_of_kind TransactionalId e)
    ∙ in_four (stands_in none e) (is_of_kind Topic e) (is_of_kind Group e) (is_of_kind Cluster e) (is_of_kind TransactionalId e) (one_of_four e.binding.kind)
