-- Bindings are read one by one, and stand resource by resource.
use Rattle.std.proofs.Common.{◌≡◌, ℕ, ◌+◌, ◌<◌, pos, length, get_or, take, List, [], ◌∷◌, ◌++◌, map, filter, Option, Some, None, Bool, true, false, cond, ◌&&◌, ◌||◌, refl, sym, ap, subst, ◌∙◌, append_assoc, append-nil}
use Rattle.std.specs.Prelude.{◌==◌}
use Rattle.std.specs.List.{list_any, AllByRecursion, IsDistinct}
use Rattle.std.specs.Map.{keys_of, values_of, lookup, set_value}
use Rattle.std.specs.Ordering.{int_eq}
use Rattle.std.specs.Cmp.{IsEquivalence, signed_Decides}
use Rattle.std.proofs.lemmas.Bool.{or_parts}
use Rattle.std.proofs.lemmas.Bool.Decides.{Decides-eqb, same_from_decides}
use Rattle.std.proofs.lemmas.Cmp.{and_equiv, on_equiv, nat_eq_equiv, nat_list_eq_equiv}
use Rattle.std.proofs.lemmas.List.{map-append, take_more}
use Rattle.std.proofs.lemmas.List.Elements.{filter-append}
use Rattle.std.proofs.lemmas.List.Folds.{list_any-append}
use Rattle.std.proofs.lemmas.Map.Keys.{IsDistinct-head, IsDistinct-tail}
use Rattle.std.proofs.lemmas.Map.Steps.{list_any_congr}
use Rattle.std.specs.Str.{bytes_eq}
use Rattle.msg_acl.specs.declared.describe_acls.DescribedAcl.{DescribedAcl}
use Rattle.msg_acl.specs.declared.describe_acls.DescribedResource.{DescribedResource}
use Rattle.acl_binding.specs.declared.binding.Binding.{Binding}
use Rattle.acl_binding.specs.Words.{kind_number, pattern_number}
use Rattle.acl_binding.specs.WireNumbers.{kind_code, pattern_code}
use Rattle.acl_handlers.specs.declared.resource.Resource.{Resource}
use Rattle.acl_handlers.specs.DescribeAcls.{same_resource, described_acl, described_resource, first_of_each}
use Rattle.acl_handlers.specs.Groups.{resource_of, group_of, groups_of, resource_with, resource_with_next}

-- ---- being about one resource

same_laws : IsEquivalence same_resource
same_laws = and_equiv (on_equiv (λ (b : Binding). kind_number b.kind) nat_eq_equiv) (and_equiv (on_equiv (λ (b : Binding). pattern_number b.pattern) nat_eq_equiv) (on_equiv (λ (b : Binding). b.name) nat_list_eq_equiv))

-- the test of two keys
abbrev pub same_key : Resource → Resource → Bool
same_key a b = int_eq a.kind b.kind && (int_eq a.pattern b.pattern && bytes_eq a.name b.name)

inside : (m n : ℕ) → pos m ≡ pos n → m ≡ n
inside m n e = cc

number_test : (m n : ℕ) → int_eq (pos m) (pos n) ≡ (m == n)
number_test m n = same_from_decides {P = m ≡ n} (int_eq (pos m) (pos n)) (m == n) (λ e. inside m n ((signed_Decides (pos m) (pos n)).0 e), λ e. (signed_Decides (pos m) (pos n)).1 (ap (λ (k : ℕ). pos k) e)) (Decides-eqb m n)

key_test : (a b : Binding) → same_key (resource_of a) (resource_of b) ≡ same_resource a b
unfolding kind_code pattern_code
key_test a b = λ i. number_test (kind_number a.kind) (kind_number b.kind) i && (number_test (pattern_number a.pattern) (pattern_number b.pattern) i && bytes_eq a.name b.name)

-- ---- the first binding of each resource

swap_or : (a b c : Bool) → ((a || b) || c) ≡ (a || (b || c))
swap_or true b c = refl
swap_or false b c = refl

or_again : (a x c : Bool) → (x ≡ true → a ≡ true) → ((a || x) || c) ≡ (a || c)
or_again true x c h = refl
or_again false true c h = absurd (let clash : false ≡ true = h refl in cc)
or_again false false c h = refl

or_nothing : (a : Bool) → (a || false) ≡ a
or_nothing true = refl
or_nothing false = refl

any_push : (p : Binding → Bool) (s : List Binding) (x : Binding) → list_any p (s ++ x ∷ []) ≡ (list_any p s || p x)
any_push p s x = list_any-append p s (x ∷ []) ∙ ap (λ (t : Bool). list_any p s || t) (or_nothing (p x))

-- a resource of which a binding was read, or is the first one later, has a binding
seen_firsts : (b : Binding) (s bs : List Binding) → (list_any (same_resource b) s || list_any (same_resource b) (first_of_each s bs)) ≡ list_any (same_resource b) (s ++ bs)
seen_firsts b s [] = or_nothing (list_any (same_resource b) s) ∙ sym (ap (list_any (same_resource b)) (append-nil s))
seen_firsts b s (x ∷ bs) = by (list_any (same_resource x) s) refl (seen_firsts b (s ++ x ∷ []) bs) where
  by : (t : Bool) → list_any (same_resource x) s ≡ t →
      (list_any (same_resource b) (s ++ x ∷ []) || list_any (same_resource b) (first_of_each (s ++ x ∷ []) bs)) ≡ list_any (same_resource b) ((s ++ x ∷ []) ++ bs) →
      (list_any (same_resource b) s || list_any (same_resource b) (cond t (first_of_each (s ++ x ∷ []) bs) (x ∷ first_of_each (s ++ x ∷ []) bs))) ≡ list_any (same_resource b) (s ++ x ∷ bs)
  by true seen rest =
      sym (or_again (list_any (same_resource b) s) (same_resource b x) (list_any (same_resource b) (first_of_each (s ++ x ∷ []) bs)) (λ e. list_any_congr same_laws b x s e ∙ seen))
      ∙ ap (λ (t : Bool). t || list_any (same_resource b) (first_of_each (s ++ x ∷ []) bs)) (sym (any_push (same_resource b) s x))
      ∙ rest ∙ ap (list_any (same_resource b)) (append_assoc s (x ∷ []) bs)
  by false seen rest =
      sym (swap_or (list_any (same_resource b) s) (same_resource b x) (list_any (same_resource b) (first_of_each (s ++ x ∷ []) bs)))
      ∙ ap (λ (t : Bool). t || list_any (same_resource b) (first_of_each (s ++ x ∷ []) bs)) (sym (any_push (same_resource b) s x))
      ∙ rest ∙ ap (list_any (same_resource b)) (append_assoc s (x ∷ []) bs)

-- one more binding is the first one of its resource, or isn't
firsts_push : (b : Binding) (s bs : List Binding) → first_of_each s (bs ++ b ∷ []) ≡ first_of_each s bs ++ cond (list_any (same_resource b) (s ++ bs)) [] (b ∷ [])
firsts_push b s [] = ap (λ (l : List Binding). cond (list_any (same_resource b) l) [] (b ∷ [])) (sym (append-nil s))
firsts_push b s (x ∷ bs) = by (list_any (same_resource x) s) (firsts_push b (s ++ x ∷ []) bs ∙ ap (λ (l : List Binding). first_of_each (s ++ x ∷ []) bs ++ cond (list_any (same_resource b) l) [] (b ∷ [])) (append_assoc s (x ∷ []) bs)) where
  by : (t : Bool) → first_of_each (s ++ x ∷ []) (bs ++ b ∷ []) ≡ first_of_each (s ++ x ∷ []) bs ++ cond (list_any (same_resource b) (s ++ x ∷ bs)) [] (b ∷ []) →
      cond t (first_of_each (s ++ x ∷ []) (bs ++ b ∷ [])) (x ∷ first_of_each (s ++ x ∷ []) (bs ++ b ∷ [])) ≡ cond t (first_of_each (s ++ x ∷ []) bs) (x ∷ first_of_each (s ++ x ∷ []) bs) ++ cond (list_any (same_resource b) (s ++ x ∷ bs)) [] (b ∷ [])
  by true rest = rest
  by false rest = ap (λ (l : List Binding). x ∷ l) rest

-- ---- a group, after one more binding

acls_push : (d b : Binding) (seen : List Binding) (t : Bool) → same_resource d b ≡ t →
    map described_acl (filter (same_resource d) (seen ++ b ∷ [])) ≡ map described_acl (filter (same_resource d) seen) ++ cond t (described_acl b ∷ []) []
acls_push d b seen t is =
    ap (map described_acl) (filter-append (same_resource d) seen (b ∷ [])) ∙ map-append described_acl (filter (same_resource d) seen) (cond (same_resource d b) (b ∷ []) [])
    ∙ ap (λ (x : Bool). map described_acl (filter (same_resource d) seen) ++ map described_acl (cond x (b ∷ []) [])) is ∙ by t where
      by : (t : Bool) → map described_acl (filter (same_resource d) seen) ++ map described_acl (cond t (b ∷ []) []) ≡ map described_acl (filter (same_resource d) seen) ++ cond t (described_acl b ∷ []) []
      by true = refl
      by false = refl

abbrev with_acls : Binding → List DescribedAcl → DescribedResource
with_acls d acls = record { kind = kind_code d.kind; name = d.name; pattern = pattern_code d.pattern; acls = acls }

own_more : (d b : Binding) (seen : List Binding) → same_resource d b ≡ true → resource_with_next (described_resource seen d) b ≡ described_resource (seen ++ b ∷ []) d
own_more d b seen is = ap (with_acls d) (sym (acls_push d b seen true is))

other_more : (d b : Binding) (seen : List Binding) → same_resource d b ≡ false → described_resource seen d ≡ described_resource (seen ++ b ∷ []) d
other_more d b seen is = ap (with_acls d) (sym (acls_push d b seen false is ∙ append-nil (map described_acl (filter (same_resource d) seen))))

-- groups of other resources
others_more : (b : Binding) (seen ds : List Binding) → list_any (same_resource b) ds ≡ false → map (group_of seen) ds ≡ map (group_of (seen ++ b ∷ [])) ds
others_more b seen [] none = refl
others_more b seen (d ∷ ds) none =
    let parts = or_parts (same_resource b d) (list_any (same_resource b) ds) none in
    λ i. (resource_of d, other_more d b seen (same_laws.symm d b ∙ parts.0) i) ∷ others_more b seen ds parts.1 i

none_of : (p : Binding → Bool) (bs : List Binding) → list_any p bs ≡ false → filter p bs ≡ []
none_of p [] none = refl
none_of p (x ∷ bs) none =
    let parts = or_parts (p x) (list_any p bs) none in
    ap (λ (t : Bool). cond t (x ∷ filter p bs) (filter p bs)) parts.0 ∙ none_of p bs parts.1

-- the first binding of a resource
first_more : (b : Binding) (seen : List Binding) → list_any (same_resource b) seen ≡ false → resource_with b ≡ described_resource (seen ++ b ∷ []) b
first_more b seen none = ap (with_acls b) (sym (acls_push b b seen true (same_laws.refl b) ∙ ap (λ (l : List Binding). map described_acl l ++ described_acl b ∷ []) (none_of (same_resource b) seen none)))

-- ---- the table

abbrev pub by_key : Binding → List (Resource × DescribedResource) → Option DescribedResource
by_key b table = lookup (same_key (resource_of b)) table

is_there : (b : Binding) (seen ds : List Binding) (g : DescribedResource) → Some g ≡ by_key b (map (group_of seen) ds) → list_any (same_resource b) ds ≡ true
is_there b seen [] g found = absurd (let clash : Some g ≡ None = found in cc)
is_there b seen (d ∷ ds) g found = by (same_resource b d) (key_test b d) (is_there b seen ds g) where
  by : (t : Bool) → same_key (resource_of b) (resource_of d) ≡ t → (Some g ≡ by_key b (map (group_of seen) ds) → list_any (same_resource b) ds ≡ true) → (t || list_any (same_resource b) ds) ≡ true
  by true is rest = refl
  by false is rest = rest (found ∙ ap (λ (t : Bool). cond t (Some (described_resource seen d)) (by_key b (map (group_of seen) ds))) is)

is_new : (b : Binding) (seen ds : List Binding) → by_key b (map (group_of seen) ds) ≡ None → list_any (same_resource b) ds ≡ false
is_new b seen [] none = refl
is_new b seen (d ∷ ds) none = by (same_resource b d) (key_test b d) (is_new b seen ds) where
  by : (t : Bool) → same_key (resource_of b) (resource_of d) ≡ t → (by_key b (map (group_of seen) ds) ≡ None → list_any (same_resource b) ds ≡ false) → (t || list_any (same_resource b) ds) ≡ false
  by true is rest = absurd (let clash : Some (described_resource seen d) ≡ None = sym (ap (λ (t : Bool). cond t (Some (described_resource seen d)) (by_key b (map (group_of seen) ds))) is) ∙ none in cc)
  by false is rest = rest (sym (ap (λ (t : Bool). cond t (Some (described_resource seen d)) (by_key b (map (group_of seen) ds))) is) ∙ none)

-- resources after one of a binding are none of it
none_later : (b d : Binding) (seen ds : List Binding) → same_resource b d ≡ true → AllByRecursion (λ y. same_key (resource_of d) y ≡ false) (keys_of (map (group_of seen) ds)) → list_any (same_resource b) ds ≡ false
none_later b d seen [] same apart = refl
none_later b d seen (x ∷ ds) same apart =
    ap (λ (t : Bool). t || list_any (same_resource b) ds) (same_laws.congr b d x same ∙ sym (key_test d x) ∙ apart.0) ∙ none_later b d seen ds same apart.1

written : (b : Binding) (seen ds : List Binding) (g : DescribedResource) → IsDistinct same_key (keys_of (map (group_of seen) ds)) → Some g ≡ by_key b (map (group_of seen) ds) →
    set_value (same_key (resource_of b)) (map (group_of seen) ds) (resource_with_next g b) ≡ map (group_of (seen ++ b ∷ [])) ds
written b seen [] g apart found = refl
written b seen (d ∷ ds) g apart found = by (same_resource b d) refl (written b seen ds g (IsDistinct-tail same_key (resource_of d) (keys_of (map (group_of seen) ds)) apart)) where
  here : (t : Bool) → same_resource b d ≡ t → Some g ≡ cond t (Some (described_resource seen d)) (by_key b (map (group_of seen) ds))
  here t is = found ∙ ap (λ (x : Bool). cond x (Some (described_resource seen d)) (by_key b (map (group_of seen) ds))) (key_test b d ∙ is)

  step : (t : Bool) → same_resource b d ≡ t → set_value (same_key (resource_of b)) (map (group_of seen) (d ∷ ds)) (resource_with_next g b)
      ≡ cond t ((resource_of d, resource_with_next g b) ∷ map (group_of seen) ds) ((resource_of d, described_resource seen d) ∷ set_value (same_key (resource_of b)) (map (group_of seen) ds) (resource_with_next g b))
  step t is = ap (λ (x : Bool). cond x ((resource_of d, resource_with_next g b) ∷ map (group_of seen) ds) ((resource_of d, described_resource seen d) ∷ set_value (same_key (resource_of b)) (map (group_of seen) ds) (resource_with_next g b))) (key_test b d ∙ is)

  by : (t : Bool) → same_resource b d ≡ t → (Some g ≡ by_key b (map (group_of seen) ds) → set_value (same_key (resource_of b)) (map (group_of seen) ds) (resource_with_next g b) ≡ map (group_of (seen ++ b ∷ [])) ds) →
      set_value (same_key (resource_of b)) (map (group_of seen) (d ∷ ds)) (resource_with_next g b) ≡ map (group_of (seen ++ b ∷ [])) (d ∷ ds)
  by true is others =
      let own : g ≡ described_resource seen d = let both = here true is in cc in
      step true is
      ∙ (λ i. (resource_of d, (ap (λ (r : DescribedResource). resource_with_next r b) own ∙ own_more d b seen (same_laws.symm d b ∙ is)) i)
      ∷ others_more b seen ds (none_later b d seen ds is (IsDistinct-head same_key (resource_of d) (keys_of (map (group_of seen) ds)) apart)) i)
  by false is others = step false is ∙ (λ i. (resource_of d, other_more d b seen (same_laws.symm d b ∙ is) i) ∷ others (here false is) i)

-- a binding of a resource that is there
pub groups_joined : (b : Binding) (key : Resource) (seen : List Binding) (table new : List (Resource × DescribedResource)) (g : DescribedResource) (a : DescribedAcl) (acls : List DescribedAcl) →
    key ≡ resource_of b → IsDistinct same_key (keys_of table) → Some g ≡ lookup (same_key key) table → a ≡ described_acl b → acls ≡ g.acls ++ a ∷ [] →
    new ≡ set_value (same_key key) table (record g { acls = acls }) → table ≡ groups_of seen → new ≡ groups_of (seen ++ b ∷ [])
groups_joined b key seen table new g a acls own apart found one more changed is =
    let there : Some g ≡ by_key b (groups_of seen) = found ∙ (λ i. lookup (same_key (own i)) (is i)) in
    let any : list_any (same_resource b) seen ≡ true = sym (seen_firsts b [] seen) ∙ is_there b seen (first_of_each [] seen) g there in
    let same : first_of_each [] (seen ++ b ∷ []) ≡ first_of_each [] seen = firsts_push b [] seen ∙ ap (λ (t : Bool). first_of_each [] seen ++ cond t [] (b ∷ [])) any ∙ append-nil (first_of_each [] seen) in
    let acls_are : acls ≡ g.acls ++ described_acl b ∷ [] = more ∙ ap (λ (x : DescribedAcl). g.acls ++ x ∷ []) one in
    changed ∙ (λ i. set_value (same_key (own i)) (is i) (record g { acls = acls_are i }))
    ∙ written b seen (first_of_each [] seen) g (subst (λ (l : List (Resource × DescribedResource)). IsDistinct same_key (keys_of l)) is apart) there
    ∙ ap (map (group_of (seen ++ b ∷ []))) (sym same)

-- the first binding of a resource
pub groups_begun : (b : Binding) (key : Resource) (seen : List Binding) (table new : List (Resource × DescribedResource)) (r : DescribedResource) →
    key ≡ resource_of b → None ≡ lookup (same_key key) table → r ≡ resource_with b → new ≡ table ++ (key, r) ∷ [] → table ≡ groups_of seen → new ≡ groups_of (seen ++ b ∷ [])
groups_begun b key seen table new r own none one changed is =
    let absent : by_key b (groups_of seen) ≡ None = sym (none ∙ (λ i. lookup (same_key (own i)) (is i))) in
    let unread : list_any (same_resource b) (first_of_each [] seen) ≡ false = is_new b seen (first_of_each [] seen) absent in
    let unseen : list_any (same_resource b) seen ≡ false = sym (seen_firsts b [] seen) ∙ unread in
    let more : first_of_each [] (seen ++ b ∷ []) ≡ first_of_each [] seen ++ b ∷ [] = firsts_push b [] seen ∙ ap (λ (t : Bool). first_of_each [] seen ++ cond t [] (b ∷ [])) unseen in
    changed ∙ (λ i. is i ++ (own i, (one ∙ first_more b seen unseen) i) ∷ [])
    ∙ ap (λ (l : List (Resource × DescribedResource)). l ++ group_of (seen ++ b ∷ []) b ∷ []) (others_more b seen (first_of_each [] seen) unread)
    ∙ sym (map-append (group_of (seen ++ b ∷ [])) (first_of_each [] seen) (b ∷ []))
    ∙ ap (map (group_of (seen ++ b ∷ []))) (sym more)

-- the resources of a table
pub groups_told : (bs ds : List Binding) → values_of (map (group_of bs) ds) ≡ map (described_resource bs) ds
groups_told bs [] = refl
groups_told bs (d ∷ ds) = ap (λ (l : List DescribedResource). described_resource bs d ∷ l) (groups_told bs ds)

pub taken_next : (bs : List Binding) (i : ℕ) (b : Binding) → i < length bs → b ≡ get_or bs i b → take i bs ++ b ∷ [] ≡ take (i + 1) bs
taken_next bs i b lt is = sym (take_more bs i b lt ∙ ap (λ (x : Binding). take i bs ++ x ∷ []) (sym is))
