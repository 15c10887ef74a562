-- What is decided by tests is what the relations say.
use Rattle.std.proofs.Common.{◌≡◌, ◌⊎◌, inl, inr, ◌==◌, ℕ, Bool, true, false, not, ◌&&◌, ◌||◌, List, [], ◌∷◌, refl, sym, ap, ◌∙◌}
use Rattle.std.specs.Prelude.{nat_eq}
use Rattle.std.specs.List.{list_any, starts_with}
use Rattle.std.specs.Str.{bytes_eq}
use Rattle.std.proofs.lemmas.Bool.{true≢false, not-true, and_from, or_cases}
use Rattle.acl_binding.specs.declared.words.Kind.{Kind}
use Rattle.acl_binding.specs.declared.words.Kind.TheVariants.{Topic}
use Rattle.acl_binding.specs.declared.words.Pattern.{Pattern}
use Rattle.acl_binding.specs.declared.words.Pattern.TheVariants.{Literal, Prefixed}
use Rattle.acl_binding.specs.declared.words.Operation.TheVariants.{Write}
use Rattle.acl_binding.specs.declared.binding.Binding.{Binding}
use Rattle.acl_binding.specs.declared.binding.Numbered.{Numbered}
use Rattle.acl_binding.specs.Words.{kind_number, pattern_number}
use Rattle.acl_binding.specs.Binding.{star, applies, denies, allows}
use Rattle.acl_binding.specs.Relations.{Applies, Denies}
use Rattle.acl_binding.proofs.Same.{both, kind_one, pattern_one, same_number, same_bytes, itself_number, itself_bytes}
use Rattle.acl_binding.proofs.Relations.{or_first, or_second, front_is, front_of, does_apply, is_applied, does_deny, is_denied, does_allow, is_allowed}
use Rattle.authorizer.specs.AnyTopic.{is_topics, lets_write, bars_write, is_star, is_prefix_of, is_same_literal, takes_name, stands_over, is_overridden_by_deny, any_topic}
use Rattle.authorizer.specs.SomeTopic.{IsBound, IsForAll, TakesName, LeavesNoName, MayWriteSomeTopic, SomeTopicIsExact}

-- ---- tests of one or two bindings

same_pattern : (p q : Pattern) → (pattern_number p == pattern_number q) ≡ true → p ≡ q
same_pattern p q h = pattern_one p q (same_number (pattern_number p) (pattern_number q) h)

own_pattern : (p q : Pattern) → p ≡ q → (pattern_number p == pattern_number q) ≡ true
own_pattern p q same = ap (λ (r : Pattern). pattern_number p == pattern_number r) (sym same) ∙ itself_number (pattern_number p)

topics_is : (b : Binding) → is_topics b ≡ true → b.kind ≡ Topic
topics_is b h = kind_one b.kind Topic (same_number (kind_number b.kind) (kind_number Topic) h)

is_topics_of : (b : Binding) → b.kind ≡ Topic → is_topics b ≡ true
is_topics_of b same = ap (λ (k : Kind). kind_number b.kind == kind_number k) (sym same) ∙ itself_number (kind_number b.kind)

star_is : (b : Binding) → is_star b ≡ true → IsForAll b
star_is b h =
    let parts = both (pattern_number b.pattern == pattern_number Literal) (bytes_eq b.name star) h in
    (same_pattern b.pattern Literal parts.0, same_bytes b.name star parts.1)

is_star_of : (b : Binding) → IsForAll b → is_star b ≡ true
is_star_of b h =
    and_from (pattern_number b.pattern == pattern_number Literal) (bytes_eq b.name star)
    (own_pattern b.pattern Literal h.0)
    (ap (bytes_eq b.name) (sym h.1) ∙ itself_bytes b.name)

not_star : (b : Binding) → (IsForAll b → ⊥) → not (is_star b) ≡ true
not_star b other = by_test (is_star b) refl where
  by_test : (t : Bool) → is_star b ≡ t → not t ≡ true
  by_test true is = absurd (other (star_is b is))
  by_test false is = refl

takes_is : (b other : Binding) → takes_name b other ≡ true → TakesName b other
takes_is b other h = by_case (or_cases (is_prefix_of b other) (is_same_literal b other) h) where
  by_case : (is_prefix_of b other ≡ true) ⊎ (is_same_literal b other ≡ true) → TakesName b other
  by_case (inl front) =
      let parts = both (pattern_number b.pattern == pattern_number Prefixed) (starts_with nat_eq other.name b.name) front in
      inl (same_pattern b.pattern Prefixed parts.0, front_is b.name other.name parts.1)
  by_case (inr same) =
      let parts = both (pattern_number b.pattern == pattern_number Literal) ((pattern_number other.pattern == pattern_number Literal) && bytes_eq b.name other.name) same in
      let rest = both (pattern_number other.pattern == pattern_number Literal) (bytes_eq b.name other.name) parts.1 in
      inr (same_pattern b.pattern Literal parts.0, same_pattern other.pattern Literal rest.0, same_bytes b.name other.name rest.1)

takes_of : (b other : Binding) → TakesName b other → takes_name b other ≡ true
takes_of b other (inl h) =
    or_first (is_prefix_of b other) (is_same_literal b other)
    (and_from (pattern_number b.pattern == pattern_number Prefixed) (starts_with nat_eq other.name b.name)
    (own_pattern b.pattern Prefixed h.0)
    (ap (λ (n : List ℕ). starts_with nat_eq n b.name) h.1.1 ∙ front_of b.name h.1.0))
takes_of b other (inr h) =
    or_second (is_prefix_of b other) (is_same_literal b other)
    (and_from (pattern_number b.pattern == pattern_number Literal) ((pattern_number other.pattern == pattern_number Literal) && bytes_eq b.name other.name)
    (own_pattern b.pattern Literal h.0)
    (and_from (pattern_number other.pattern == pattern_number Literal) (bytes_eq b.name other.name)
    (own_pattern other.pattern Literal h.1)
    (ap (bytes_eq b.name) (sym h.2) ∙ itself_bytes b.name)))

over_is : (deny allow : Binding) → stands_over deny allow ≡ true → LeavesNoName deny allow
over_is deny allow h = by_case (or_cases (is_star deny) (not (is_star allow) && takes_name deny allow) h) where
  by_case : (is_star deny ≡ true) ⊎ ((not (is_star allow) && takes_name deny allow) ≡ true) → LeavesNoName deny allow
  by_case (inl all) = inl (star_is deny all)
  by_case (inr some) =
      let parts = both (not (is_star allow)) (takes_name deny allow) some in
      inr ((λ all. true≢false (sym (is_star_of allow all) ∙ not-true (is_star allow) parts.0)), takes_is deny allow parts.1)

over_of : (deny allow : Binding) → LeavesNoName deny allow → stands_over deny allow ≡ true
over_of deny allow (inl all) = or_first (is_star deny) (not (is_star allow) && takes_name deny allow) (is_star_of deny all)
over_of deny allow (inr some) =
    or_second (is_star deny) (not (is_star allow) && takes_name deny allow)
    (and_from (not (is_star allow)) (takes_name deny allow) (not_star allow some.0) (takes_of deny allow some.1))

-- ---- some binding of the book

pub record IsSome (p : Binding → Bool) (es : List Numbered) : Type 0 where
  pub binding : Binding
  pub bound : IsBound es binding
  pub passes : p binding ≡ true

some_is : (p : Binding → Bool) (es : List Numbered) → list_any (λ (e : Numbered). p e.binding) es ≡ true → IsSome p es
some_is p [] h = absurd (true≢false (sym h))
some_is p (e ∷ es) h = by_case (or_cases (p e.binding) (list_any (λ (e : Numbered). p e.binding) es) h) (some_is p es) where
  by_case : (p e.binding ≡ true) ⊎ (list_any (λ (e : Numbered). p e.binding) es ≡ true) → (list_any (λ (e : Numbered). p e.binding) es ≡ true → IsSome p es) → IsSome p (e ∷ es)
  by_case (inl here) more = record { binding = e.binding; bound = inl refl; passes = here }
  by_case (inr later) more = let rest = more later in record { binding = rest.binding; bound = inr rest.bound; passes = rest.passes }

some_of : (p : Binding → Bool) (es : List Numbered) (b : Binding) → IsBound es b → p b ≡ true → list_any (λ (e : Numbered). p e.binding) es ≡ true
some_of p [] b bound h = absurd bound
some_of p (e ∷ es) b bound h = by_case bound (λ later. some_of p es b later h) where
  by_case : (e.binding ≡ b) ⊎ IsBound es b → (IsBound es b → list_any (λ (e : Numbered). p e.binding) es ≡ true) → (p e.binding || list_any (λ (e : Numbered). p e.binding) es) ≡ true
  by_case (inl here) more = or_first (p e.binding) (list_any (λ (e : Numbered). p e.binding) es) (ap p here ∙ h)
  by_case (inr later) more = or_second (p e.binding) (list_any (λ (e : Numbered). p e.binding) es) (more later)

-- ---- the two

abbrev bars : List ℕ → List ℕ → Binding → Binding → Bool
bars who host allow b = is_topics b && (bars_write who host b && stands_over b allow)

abbrev lets : List Numbered → List ℕ → List ℕ → Binding → Bool
lets es who host b = is_topics b && (lets_write who host b && not (is_overridden_by_deny es who host b))

unbarred_is : (es : List Numbered) (who host : List ℕ) (allow : Binding) → is_overridden_by_deny es who host allow ≡ false
    → (deny : Binding) → IsBound es deny → deny.kind ≡ Topic → Applies deny who host → Denies deny Write → LeavesNoName deny allow → ⊥
unbarred_is es who host allow none deny bound topics applies_to denies_it over =
    true≢false (sym (some_of (bars who host allow) es deny bound
    (and_from (is_topics deny) (bars_write who host deny && stands_over deny allow) (is_topics_of deny topics)
    (and_from (bars_write who host deny) (stands_over deny allow)
    (and_from (applies deny who host) (denies deny Write) (is_applied deny who host applies_to) (is_denied deny Write denies_it))
    (over_of deny allow over)))) ∙ none)

not_barred : (es : List Numbered) (who host : List ℕ) (allow : Binding)
    → ((deny : Binding) → IsBound es deny → deny.kind ≡ Topic → Applies deny who host → Denies deny Write → LeavesNoName deny allow → ⊥) → is_overridden_by_deny es who host allow ≡ false
not_barred es who host allow unbarred = by_test (is_overridden_by_deny es who host allow) refl where
  by_test : (t : Bool) → is_overridden_by_deny es who host allow ≡ t → t ≡ false
  by_test false h = refl
  by_test true h =
      let some = some_is (bars who host allow) es h in
      let b = some.binding in
      let topics = both (is_topics b) (bars_write who host b && stands_over b allow) some.passes in
      let over = both (bars_write who host b) (stands_over b allow) topics.1 in
      let writes = both (applies b who host) (denies b Write) over.0 in
      absurd (unbarred b some.bound (topics_is b topics.0) (does_apply b who host writes.0) (does_deny b Write writes.1) (over_is b allow over.1))

may_is : (es : List Numbered) (who host : List ℕ) → any_topic es who host ≡ true → MayWriteSomeTopic es who host
may_is es who host h =
    let some = some_is (lets es who host) es h in
    let b = some.binding in
    let topics = both (is_topics b) (lets_write who host b && not (is_overridden_by_deny es who host b)) some.passes in
    let free = both (lets_write who host b) (not (is_overridden_by_deny es who host b)) topics.1 in
    let writes = both (applies b who host) (allows b Write) free.0 in
    record {
      allow = b;
      bound = some.bound;
      topics = topics_is b topics.0;
      applies = does_apply b who host writes.0;
      allows = does_allow b Write writes.1;
      unbarred = unbarred_is es who host b (not-true (is_overridden_by_deny es who host b) free.1);
    }

may_of : (es : List Numbered) (who host : List ℕ) → MayWriteSomeTopic es who host → any_topic es who host ≡ true
may_of es who host h =
    some_of (lets es who host) es h.allow h.bound
    (and_from (is_topics h.allow) (lets_write who host h.allow && not (is_overridden_by_deny es who host h.allow)) (is_topics_of h.allow h.topics)
    (and_from (lets_write who host h.allow) (not (is_overridden_by_deny es who host h.allow))
    (and_from (applies h.allow who host) (allows h.allow Write) (is_applied h.allow who host h.applies) (is_allowed h.allow Write h.allows))
    (ap not (not_barred es who host h.allow h.unbarred))))

pub exact : SomeTopicIsExact
exact es who host = (may_is es who host, may_of es who host)
