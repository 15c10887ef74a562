-- Bindings by their resources: each stands in one group.
use Rattle.std.proofs.Common.{◌≡◌, ◌≢◌, ◌==◌, ℕ, ℤ, pos, Bool, true, false, cond, not, ◌&&◌, ◌||◌, List, [], ◌∷◌, ◌++◌, map, filter, Some, None, refl, sym, ap, subst, ◌∙◌}
use Rattle.std.specs.Prelude.{flat_map, IsPermutation}
use Rattle.std.specs.Ordering.{int_eq}
use Rattle.std.specs.List.{list_any, IsDistinct, AllByRecursion}
use Rattle.std.specs.Str.{bytes_eq}
use Rattle.std.proofs.Math.Bool.{or-false}
use Rattle.std.proofs.lemmas.Bool.{or_parts}
use Rattle.std.proofs.lemmas.Bool.Decides.{Decides-eqb, Decides-int_eq, same_from_decides}
use Rattle.std.proofs.lemmas.Slice.Eq.{bytes_eq-Decides}
use Rattle.std.proofs.lemmas.List.{append_assoc, append-nil, map-append}
use Rattle.std.proofs.lemmas.List.Elements.{filter_agree}
use Rattle.std.proofs.lemmas.List.Sorted.{IsPermutation-refl, IsPermutation-trans, IsPermutation-append_right, IsPermutation-filter_both, IsPermutation-map}
use Rattle.std.proofs.lemmas.Map.Keys.{IsDistinct-IsPermutation}
use Rattle.msg_acl.specs.declared.entries.BindingEntry.{BindingEntry}
use Rattle.acl_binding.specs.declared.binding.Binding.{Binding}
use Rattle.acl_binding.specs.declared.binding.Numbered.{Numbered}
use Rattle.acl_binding.specs.declared.filter.Filter.{Filter}
use Rattle.acl_binding.specs.Words.{kind_number, pattern_number, operation_number, permission_number}
use Rattle.acl_binding.specs.WireNumbers.{kind_code, pattern_code, operation_code, permission_code}
use Rattle.acl_binding.specs.Binding.{same_binding}
use Rattle.acl_binding.specs.Book.{number_of, AreDistinct}
use Rattle.acl_binding.specs.Filter.{matches, matching_bindings}
use Rattle.acl_handlers.specs.DescribeAcls.{same_resource, described_acl, described_resource, first_of_each, described_resources, describe_acls_reply}
use Rattle.acl_handlers.specs.DeleteAcls.{entry_of_binding}
use Rattle.api_laws.specs.DescribeLaws.{described_entry, described_entries, same_entry, same_group, DescribesEach}

-- ---- bindings of one resource

both : (a b : Bool) → (a && b) ≡ true → (a ≡ true) × (b ≡ true)
both true true h = (refl, refl)
both true false h = absurd (let clash : false ≡ true = h in cc)
both false b h = absurd (let clash : false ≡ true = h in cc)

same_number : (m n : ℕ) → (m == n) ≡ true → m ≡ n
same_number m n h = (Decides-eqb m n).0 h

same_bytes : (a b : List ℕ) → bytes_eq a b ≡ true → a ≡ b
same_bytes a b h = (bytes_eq-Decides a b).0 h

record OneResource (a b : Binding) : Type 0 where
  pub kind : kind_number a.kind ≡ kind_number b.kind
  pub pattern : pattern_number a.pattern ≡ pattern_number b.pattern
  pub name : a.name ≡ b.name

one_resource : (a b : Binding) → same_resource a b ≡ true → OneResource a b
one_resource a b same =
    let kind = both _ _ same in
    let pattern = both _ _ kind.1 in
    record { kind = same_number _ _ kind.0; pattern = same_number _ _ pattern.0; name = same_bytes _ _ pattern.1 }

itself : (a : Binding) → same_resource a a ≡ true
itself a = rw ((Decides-eqb (kind_number a.kind) (kind_number a.kind)).1 refl, (Decides-eqb (pattern_number a.pattern) (pattern_number a.pattern)).1 refl, (bytes_eq-Decides a.name a.name).1 refl)

of_one : (a b c : Binding) → same_resource a b ≡ true → same_resource a c ≡ same_resource b c
of_one a b c same =
    let one = one_resource a b same in
    ap (λ (k : ℕ). (k == kind_number c.kind) && ((pattern_number a.pattern == pattern_number c.pattern) && bytes_eq a.name c.name)) one.kind
    ∙ ap (λ (p : ℕ). (kind_number b.kind == kind_number c.kind) && ((p == pattern_number c.pattern) && bytes_eq a.name c.name)) one.pattern
    ∙ ap (λ (n : List ℕ). (kind_number b.kind == kind_number c.kind) && ((pattern_number b.pattern == pattern_number c.pattern) && bytes_eq n c.name)) one.name

turned : (a b : Binding) → same_resource a b ≡ true → same_resource b a ≡ true
turned a b same = sym (of_one a b a same) ∙ itself a

either_way : (a b : Binding) → same_resource a b ≡ same_resource b a
either_way a b = by_tests (same_resource a b) (same_resource b a) refl refl where
  by_tests : (x y : Bool) → same_resource a b ≡ x → same_resource b a ≡ y → x ≡ y
  by_tests true true h k = refl
  by_tests false false h k = refl
  by_tests true false h k = sym (turned a b h) ∙ k
  by_tests false true h k = sym h ∙ turned b a k

-- ---- resources that are seen

alike : (b c : Binding) → same_resource b c ≡ true → (bs : List Binding) → list_any (same_resource b) bs ≡ list_any (same_resource c) bs
alike b c same [] = refl
alike b c same (x ∷ bs) =
    ap (λ (t : Bool). t || list_any (same_resource b) bs) (of_one b c x same)
    ∙ ap (λ (t : Bool). same_resource c x || t) (alike b c same bs)

or_more : (a b c : Bool) → (a || (b || c)) ≡ ((a || b) || c)
or_more true b c = refl
or_more false b c = refl

seen_more : (bs : List Binding) (b c : Binding) → list_any (same_resource c) (bs ++ b ∷ []) ≡ (list_any (same_resource c) bs || same_resource c b)
seen_more [] b c = or-false (same_resource c b)
seen_more (x ∷ bs) b c =
    ap (λ (t : Bool). same_resource c x || t) (seen_more bs b c)
    ∙ or_more (same_resource c x) (list_any (same_resource c) bs) (same_resource c b)

seen_there : (front : List Binding) (b : Binding) (back : List Binding) → list_any (same_resource b) (front ++ b ∷ back) ≡ true
seen_there [] b back = ap (λ (t : Bool). t || list_any (same_resource b) back) (itself b)
seen_there (x ∷ front) b back = by_first (same_resource b x) (seen_there front b back) where
  by_first : (t : Bool) → list_any (same_resource b) (front ++ b ∷ back) ≡ true → (t || list_any (same_resource b) (front ++ b ∷ back)) ≡ true
  by_first true there = refl
  by_first false there = there

-- its resource isn't among these
abbrev fresh : List Binding → Binding → Bool
fresh seen c = not (list_any (same_resource c) seen)

-- where the resource was seen, one more of it changes nothing
fresh_again : (seen : List Binding) (b : Binding) → list_any (same_resource b) seen ≡ true → (c : Binding) → fresh seen c ≡ fresh (seen ++ b ∷ []) c
fresh_again seen b there c = ap not (by_same (same_resource c b) refl ∙ sym (seen_more seen b c)) where
  by_same : (t : Bool) → same_resource c b ≡ t → list_any (same_resource c) seen ≡ (list_any (same_resource c) seen || same_resource c b)
  by_same true same =
      let seen_too : list_any (same_resource c) seen ≡ true = alike c b same seen ∙ there in
      seen_too ∙ sym (ap (λ (t : Bool). t || same_resource c b) seen_too)
  by_same false same = sym (ap (λ (t : Bool). list_any (same_resource c) seen || t) same ∙ or-false (list_any (same_resource c) seen))

and_false : (a : Bool) → (a && false) ≡ false
and_false true = refl
and_false false = refl

-- where it wasn't, none of its bindings was
fresh_own : (seen : List Binding) (b : Binding) → list_any (same_resource b) seen ≡ false → (c : Binding) → (fresh seen c && same_resource b c) ≡ same_resource b c
fresh_own seen b none c = by_same (same_resource b c) refl where
  by_same : (t : Bool) → same_resource b c ≡ t → (fresh seen c && t) ≡ t
  by_same true same = ap (λ (t : Bool). not t && true) (sym (alike b c same seen) ∙ none)
  by_same false same = and_false (fresh seen c)

neither : (a b : Bool) → (not a && not b) ≡ not (a || b)
neither true b = refl
neither false b = refl

-- what is left of the fresh ones
fresh_rest : (seen : List Binding) (b c : Binding) → (fresh seen c && not (same_resource b c)) ≡ fresh (seen ++ b ∷ []) c
fresh_rest seen b c =
    ap (λ (t : Bool). fresh seen c && not t) (either_way b c)
    ∙ neither (list_any (same_resource c) seen) (same_resource c b)
    ∙ ap not (sym (seen_more seen b c))

-- ---- one group after the other

filter_filter : (p q : Binding → Bool) (xs : List Binding) → filter q (filter p xs) ≡ filter (λ x. p x && q x) xs
filter_filter p q [] = refl
filter_filter p q (x ∷ xs) = by_first (p x) (filter_filter p q xs) where
  by_first : (t : Bool) → filter q (filter p xs) ≡ filter (λ x. p x && q x) xs → filter q (cond t (x ∷ filter p xs) (filter p xs)) ≡ cond (t && q x) (x ∷ filter (λ x. p x && q x) xs) (filter (λ x. p x && q x) xs)
  by_first true rest = ap (λ (l : List Binding). cond (q x) (x ∷ l) l) rest
  by_first false rest = rest

none_left : (front back : List Binding) → filter (fresh (front ++ back)) back ≡ []
none_left front [] = refl
none_left front (b ∷ back) =
    ap (λ (t : Bool). cond (not t) (b ∷ filter (fresh (front ++ b ∷ back)) back) (filter (fresh (front ++ b ∷ back)) back)) (seen_there front b back)
    ∙ ap (λ (l : List Binding). filter (fresh l) back) (sym (append_assoc front (b ∷ []) back)) ∙ none_left (front ++ b ∷ []) back

-- the bindings of the resource
abbrev group : List Binding → Binding → List Binding
group all b = filter (same_resource b) all

grouped : (all seen rest : List Binding) → all ≡ seen ++ rest → IsPermutation (filter (fresh seen) all) (flat_map (group all) (first_of_each seen rest))
grouped all seen [] is =
    let whole : all ≡ seen = is ∙ append-nil seen in
    let none : filter (fresh seen) all ≡ [] = ap (filter (fresh seen)) whole ∙ none_left [] seen in
    subst (λ (l : List Binding). IsPermutation l []) (sym none) (IsPermutation-refl [])
grouped all seen (b ∷ rest) is =
    by_seen (list_any (same_resource b) seen) refl (grouped all (seen ++ b ∷ []) rest (is ∙ sym (append_assoc seen (b ∷ []) rest))) where
      by_seen : (t : Bool) → list_any (same_resource b) seen ≡ t → IsPermutation (filter (fresh (seen ++ b ∷ [])) all) (flat_map (group all) (first_of_each (seen ++ b ∷ []) rest))
          → IsPermutation (filter (fresh seen) all) (flat_map (group all) (cond t (first_of_each (seen ++ b ∷ []) rest) (b ∷ first_of_each (seen ++ b ∷ []) rest)))
      by_seen true there left =
          subst (λ (l : List Binding). IsPermutation l (flat_map (group all) (first_of_each (seen ++ b ∷ []) rest))) (sym (filter_agree (fresh seen) (fresh (seen ++ b ∷ [])) (fresh_again seen b there) all)) left
      by_seen false none left =
          let own : filter (same_resource b) (filter (fresh seen) all) ≡ group all b = filter_filter (fresh seen) (same_resource b) all ∙ filter_agree _ (same_resource b) (fresh_own seen b none) all in
          let others : filter (λ c. not (same_resource b c)) (filter (fresh seen) all) ≡ filter (fresh (seen ++ b ∷ [])) all = filter_filter (fresh seen) (λ c. not (same_resource b c)) all ∙ filter_agree _ (fresh (seen ++ b ∷ [])) (fresh_rest seen b) all in
          let parted : IsPermutation (filter (fresh seen) all) (filter (same_resource b) (filter (fresh seen) all) ++ filter (λ c. not (same_resource b c)) (filter (fresh seen) all)) = IsPermutation-filter_both (same_resource b) (λ c. not (same_resource b c)) (λ c. refl) (filter (fresh seen) all) in
          let joined : IsPermutation (filter (fresh seen) all) (group all b ++ filter (fresh (seen ++ b ∷ [])) all) = subst (λ (l : List Binding). IsPermutation (filter (fresh seen) all) (l ++ filter (fresh (seen ++ b ∷ [])) all)) own (subst (λ (l : List Binding). IsPermutation (filter (fresh seen) all) (filter (same_resource b) (filter (fresh seen) all) ++ l)) others parted) in
          IsPermutation-trans _ _ _ joined (IsPermutation-append_right (group all b) _ _ left)

all_fresh : (bs : List Binding) → filter (fresh []) bs ≡ bs
all_fresh [] = refl
all_fresh (b ∷ bs) = ap (λ (l : List Binding). b ∷ l) (all_fresh bs)

-- ---- what is told of a group

told_one : (all : List Binding) (b c : Binding) → same_resource b c ≡ true → described_entry (described_resource all b) (described_acl c) ≡ entry_of_binding c
unfolding kind_code pattern_code
told_one all b c same =
    let one = one_resource b c same in
    let kind : pos (kind_number b.kind) ≡ pos (kind_number c.kind) = ap (λ (n : ℕ). pos n) one.kind in
    let pattern : pos (pattern_number b.pattern) ≡ pos (pattern_number c.pattern) = ap (λ (n : ℕ). pos n) one.pattern in
    λ i. record { kind = kind i; name = one.name i; pattern = pattern i; principal = c.principal; host = c.host; operation = operation_code c.operation; permission = permission_code c.permission }

told_group : (all : List Binding) (b : Binding) (bs : List Binding) → map (described_entry (described_resource all b)) (map described_acl (filter (same_resource b) bs)) ≡ map entry_of_binding (filter (same_resource b) bs)
told_group all b [] = refl
told_group all b (c ∷ bs) = by_same (same_resource b c) refl (told_group all b bs) where
  by_same : (t : Bool) → same_resource b c ≡ t → map (described_entry (described_resource all b)) (map described_acl (filter (same_resource b) bs)) ≡ map entry_of_binding (filter (same_resource b) bs)
      → map (described_entry (described_resource all b)) (map described_acl (cond t (c ∷ filter (same_resource b) bs) (filter (same_resource b) bs))) ≡ map entry_of_binding (cond t (c ∷ filter (same_resource b) bs) (filter (same_resource b) bs))
  by_same true same rest =
      ap (λ (e : BindingEntry). e ∷ map (described_entry (described_resource all b)) (map described_acl (filter (same_resource b) bs))) (told_one all b c same)
      ∙ ap (λ (l : List BindingEntry). entry_of_binding c ∷ l) rest
  by_same false same rest = rest

told_groups : (all bs : List Binding) → described_entries (map (described_resource all) bs) ≡ map entry_of_binding (flat_map (group all) bs)
told_groups all [] = refl
told_groups all (b ∷ bs) =
    ap (λ (l : List BindingEntry). l ++ described_entries (map (described_resource all) bs)) (told_group all b all)
    ∙ ap (λ (l : List BindingEntry). map entry_of_binding (group all b) ++ l) (told_groups all bs)
    ∙ sym (map-append entry_of_binding (group all b) (flat_map (group all) bs))

told_all : (bs : List Binding) → IsPermutation (map entry_of_binding bs) (described_entries (described_resources bs))
told_all bs =
    let parts : IsPermutation bs (flat_map (group bs) (first_of_each [] bs)) = subst (λ (l : List Binding). IsPermutation l (flat_map (group bs) (first_of_each [] bs))) (all_fresh bs) (grouped bs [] bs refl) in
    subst (λ (l : List BindingEntry). IsPermutation (map entry_of_binding bs) l) (sym (told_groups bs (first_of_each [] bs))) (IsPermutation-map entry_of_binding _ _ parts)

-- ---- no two groups of one resource

weaker : {A : Type 0} (P Q : A → Type 0) → ((x : A) → P x → Q x) → (xs : List A) → AllByRecursion P xs → AllByRecursion Q xs
weaker P Q to [] h = tt
weaker P Q to (x ∷ xs) h = (to x h.0, weaker P Q to xs h.1)

unseen : (seen rest : List Binding) → AllByRecursion (λ c. list_any (same_resource c) seen ≡ false) (first_of_each seen rest)
unseen seen [] = tt
unseen seen (b ∷ rest) =
    by_seen (list_any (same_resource b) seen) refl (weaker (λ c. list_any (same_resource c) (seen ++ b ∷ []) ≡ false) (λ c. list_any (same_resource c) seen ≡ false) fewer (first_of_each (seen ++ b ∷ []) rest) (unseen (seen ++ b ∷ []) rest)) where
      fewer : (c : Binding) → list_any (same_resource c) (seen ++ b ∷ []) ≡ false → list_any (same_resource c) seen ≡ false
      fewer c none = (or_parts (list_any (same_resource c) seen) (same_resource c b) (sym (seen_more seen b c) ∙ none)).0

      by_seen : (t : Bool) → list_any (same_resource b) seen ≡ t → AllByRecursion (λ c. list_any (same_resource c) seen ≡ false) (first_of_each (seen ++ b ∷ []) rest) → AllByRecursion (λ c. list_any (same_resource c) seen ≡ false) (cond t (first_of_each (seen ++ b ∷ []) rest) (b ∷ first_of_each (seen ++ b ∷ []) rest))
      by_seen true there rest = rest
      by_seen false none rest = (none, rest)

numbers_alike : (m n : ℕ) → int_eq (pos m) (pos n) ≡ (m == n)
numbers_alike m n = same_from_decides _ _ ((λ e. let same = (Decides-int_eq (pos m) (pos n)).0 e in cc), (λ e. (Decides-int_eq (pos m) (pos n)).1 (ap (λ (k : ℕ). pos k) e))) (Decides-eqb m n)

groups_alike : (all : List Binding) (b c : Binding) → same_group (described_resource all b) (described_resource all c) ≡ same_resource b c
unfolding kind_code pattern_code
groups_alike all b c = rw (numbers_alike (kind_number b.kind) (kind_number c.kind), numbers_alike (pattern_number b.pattern) (pattern_number c.pattern))

apart : (all seen rest : List Binding) → IsDistinct same_group (map (described_resource all) (first_of_each seen rest))
unfolding IsDistinct
apart all seen [] = tt
apart all seen (b ∷ rest) = by_seen (list_any (same_resource b) seen) (unseen (seen ++ b ∷ []) rest) (apart all (seen ++ b ∷ []) rest) where
  others : (bs : List Binding) → AllByRecursion (λ c. list_any (same_resource c) (seen ++ b ∷ []) ≡ false) bs → AllByRecursion (λ r. same_group (described_resource all b) r ≡ false) (map (described_resource all) bs)
  others [] h = tt
  others (c ∷ bs) h = (groups_alike all b c ∙ either_way b c ∙ (or_parts (list_any (same_resource c) seen) (same_resource c b) (sym (seen_more seen b c) ∙ h.0)).1, others bs h.1)

  by_seen : (t : Bool) → AllByRecursion (λ c. list_any (same_resource c) (seen ++ b ∷ []) ≡ false) (first_of_each (seen ++ b ∷ []) rest) → IsDistinct same_group (map (described_resource all) (first_of_each (seen ++ b ∷ []) rest))
      → IsDistinct same_group (map (described_resource all) (cond t (first_of_each (seen ++ b ∷ []) rest) (b ∷ first_of_each (seen ++ b ∷ []) rest)))
  by_seen true new rest_apart = rest_apart
  by_seen false new rest_apart = (others (first_of_each (seen ++ b ∷ []) rest) new, rest_apart)

-- ---- no group without a binding

kept_some : (b : Binding) (front back : List Binding) → filter (same_resource b) (front ++ b ∷ back) ≢ []
kept_some b [] back = by_own (same_resource b b) (itself b) where
  by_own : (t : Bool) → t ≡ true → cond t (b ∷ filter (same_resource b) back) (filter (same_resource b) back) ≢ []
  by_own true h e = cc
  by_own false h e = cc
kept_some b (x ∷ front) back = by_first (same_resource b x) (kept_some b front back) where
  by_first : (t : Bool) → filter (same_resource b) (front ++ b ∷ back) ≢ [] → cond t (x ∷ filter (same_resource b) (front ++ b ∷ back)) (filter (same_resource b) (front ++ b ∷ back)) ≢ []
  by_first true some e = cc
  by_first false some e = some e

map_some : (bs : List Binding) → bs ≢ [] → map described_acl bs ≢ []
map_some [] some e = some refl
map_some (b ∷ bs) some e = cc

some_each : (all seen rest : List Binding) → all ≡ seen ++ rest → AllByRecursion (λ r. r.acls ≢ []) (map (described_resource all) (first_of_each seen rest))
some_each all seen [] is = tt
some_each all seen (b ∷ rest) is =
    by_seen (list_any (same_resource b) seen) (some_each all (seen ++ b ∷ []) rest (is ∙ sym (append_assoc seen (b ∷ []) rest))) where
      own : group all b ≢ []
      own e = kept_some b seen rest (ap (filter (same_resource b)) (sym is) ∙ e)

      by_seen : (t : Bool) → AllByRecursion (λ r. r.acls ≢ []) (map (described_resource all) (first_of_each (seen ++ b ∷ []) rest))
          → AllByRecursion (λ r. r.acls ≢ []) (map (described_resource all) (cond t (first_of_each (seen ++ b ∷ []) rest) (b ∷ first_of_each (seen ++ b ∷ []) rest)))
      by_seen true left = left
      by_seen false left = (map_some (group all b) own, left)

-- ---- no binding twice

entries_alike : (a b : Binding) → same_entry (entry_of_binding a) (entry_of_binding b) ≡ same_binding a b
unfolding kind_code pattern_code operation_code permission_code
entries_alike a b = rw (numbers_alike (kind_number a.kind) (kind_number b.kind), numbers_alike (pattern_number a.pattern) (pattern_number b.pattern), numbers_alike (operation_number a.operation) (operation_number b.operation), numbers_alike (permission_number a.permission) (permission_number b.permission))

flip_int : (x y : ℤ) → int_eq x y ≡ int_eq y x
flip_int x y = same_from_decides _ _ (Decides-int_eq x y) ((λ e. sym ((Decides-int_eq y x).0 e)), (λ e. (Decides-int_eq y x).1 (sym e)))

flip_bytes : (x y : List ℕ) → bytes_eq x y ≡ bytes_eq y x
flip_bytes x y = same_from_decides _ _ (bytes_eq-Decides x y) ((λ e. sym ((bytes_eq-Decides y x).0 e)), (λ e. (bytes_eq-Decides y x).1 (sym e)))

flips : (a b : BindingEntry) → same_entry a b ≡ same_entry b a
flips a b = rw (flip_int a.kind b.kind, flip_bytes a.name b.name, flip_int a.pattern b.pattern, flip_bytes a.principal b.principal, flip_bytes a.host b.host, flip_int a.operation b.operation, flip_int a.permission b.permission)

other_way : (a b : Binding) → same_binding b a ≡ false → same_entry (entry_of_binding a) (entry_of_binding b) ≡ false
other_way a b none = flips (entry_of_binding a) (entry_of_binding b) ∙ entries_alike b a ∙ none

absent : (b : Binding) (es : List Numbered) (f : Filter) → number_of es b ≡ None → AllByRecursion (λ e. same_entry (entry_of_binding b) e ≡ false) (map entry_of_binding (matching_bindings es f))
absent b [] f none = tt
absent b (e ∷ es) f none = by_same (same_binding e.binding b) refl none (λ later. absent b es f later) where
  by_match : (t : Bool) → same_binding e.binding b ≡ false → AllByRecursion (λ e. same_entry (entry_of_binding b) e ≡ false) (map entry_of_binding (matching_bindings es f))
      → AllByRecursion (λ e. same_entry (entry_of_binding b) e ≡ false) (map entry_of_binding (cond t (e.binding ∷ matching_bindings es f) (matching_bindings es f)))
  by_match true other rest = (other_way b e.binding other, rest)
  by_match false other rest = rest

  by_same : (t : Bool) → same_binding e.binding b ≡ t → cond t (Some e.number) (number_of es b) ≡ None → (number_of es b ≡ None → AllByRecursion (λ e. same_entry (entry_of_binding b) e ≡ false) (map entry_of_binding (matching_bindings es f)))
      → AllByRecursion (λ e. same_entry (entry_of_binding b) e ≡ false) (map entry_of_binding (cond (matches f e.binding) (e.binding ∷ matching_bindings es f) (matching_bindings es f)))
  by_same true same there rest = absurd (let clash : Some e.number ≡ None = there in cc)
  by_same false other later rest = by_match (matches f e.binding) other (rest later)

distinct : (es : List Numbered) (f : Filter) → AreDistinct es → IsDistinct same_entry (map entry_of_binding (matching_bindings es f))
unfolding IsDistinct
distinct [] f apart = tt
distinct (e ∷ es) f apart = by_match (matches f e.binding) (absent e.binding es f apart.0) (distinct es f apart.1) where
  by_match : (t : Bool) → AllByRecursion (λ d. same_entry (entry_of_binding e.binding) d ≡ false) (map entry_of_binding (matching_bindings es f)) → IsDistinct same_entry (map entry_of_binding (matching_bindings es f))
      → IsDistinct same_entry (map entry_of_binding (cond t (e.binding ∷ matching_bindings es f) (matching_bindings es f)))
  by_match true none rest = (none, rest)
  by_match false none rest = rest

pub describes_each : DescribesEach describe_acls_reply
describes_each = record {
  each = λ book f. told_all (matching_bindings book.entries f);
  once = λ book f is. IsDistinct-IsPermutation same_entry flips _ _ (told_all (matching_bindings book.entries f)) (distinct book.entries f is.distinct);
  apart = λ book f. apart (matching_bindings book.entries f) [] (matching_bindings book.entries f);
  some = λ book f. some_each (matching_bindings book.entries f) [] (matching_bindings book.entries f) refl;
}
