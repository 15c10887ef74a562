-- The tests of bindings are the relations, and wrong ones are others.
use Rattle.std.proofs.Common.{◌≡◌, ◌⊎◌, inl, inr, ◌↔◌, ℕ, ◌≤◌, Bool, true, false, List, [], ◌∷◌, refl, codes as bytes, sym, ap, subst, ◌∙◌, arith}
use Rattle.std.specs.List.{All, Any}
use Rattle.std.specs.Str.{bytes_eq}
use Rattle.std.proofs.lemmas.Bool.{true≢false}
use Rattle.acl_binding.specs.declared.words.Kind.{Kind}
use Rattle.acl_binding.specs.declared.words.Kind.TheVariants as kinds
use Rattle.acl_binding.specs.declared.words.Pattern.{Pattern}
use Rattle.acl_binding.specs.declared.words.Pattern.TheVariants as patterns
use Rattle.acl_binding.specs.declared.words.Operation.{Operation}
use Rattle.acl_binding.specs.declared.words.Operation.TheVariants as operations
use Rattle.acl_binding.specs.declared.words.Permission.{Permission}
use Rattle.acl_binding.specs.declared.words.Permission.TheVariants as permissions
use Rattle.acl_binding.specs.declared.binding.Binding.{Binding}
use Rattle.acl_binding.specs.declared.binding.Numbered.{Numbered}
use Rattle.acl_binding.specs.declared.question.Question.{Question}
use Rattle.acl_binding.specs.declared.question.Verdict.{Verdict}
use Rattle.acl_binding.specs.declared.question.Verdict.TheVariants.{Yes, Denied, Nothing}
use Rattle.acl_binding.specs.Binding.{covers, applies, denies, allows}
use Rattle.acl_binding.specs.Verdict.{is_denial, is_grant, verdict_of, IsDecided, IsFirstDenial, IsAllowed, IsUnmatched}
use Rattle.acl_binding.proofs.Relations.{tests_are}
use Rattle.acl_binding.proofs.Decided.{verdict_right}
use Rattle.authorizer.specs.AnyTopic.{any_topic}
use Rattle.authorizer.proofs.SomeTopic.{exact}
use Rattle.wrong_rules.specs.Permissions.{CoversByPattern, OnlyRuleOfCovering, AppliesToItsOwn, OnlyRuleOfApplying, DeniesItsOwn, OnlyRuleOfDenying, AllowsWhatIsImplied, OnlyRuleOfAllowing, DeniesBeforeItAllows, OnlyRuleOfVerdicts, AsksForSomeTopic, OnlyRuleOfSomeTopic, covering_by_beginning, covering_itself, applying_at_each_host, applying_to_one_user, denying_what_is_implied, denying_one_operation, allowing_nothing_implied, allowing_by_denials, allowing_first, naming_the_last, allowing_by_default, some_topic_undenied, some_resource}
use Rattle.wrong_rules.proofs.Supers.{same_truth}

-- two tests of one relation are one
one_test : {R : Type 0} (a b : Bool) → (a ≡ true) ↔ R → (b ≡ true) ↔ R → a ≡ b
one_test a b left right = same_truth a b (λ h. right.1 (left.0 h)) (λ h. left.1 (right.0 h))

pub covers_by_pattern : CoversByPattern covers
covers_by_pattern b kind name = tests_are.covering b kind name

pub only_covering : OnlyRuleOfCovering covers
only_covering rule law b kind name = one_test (rule b kind name) (covers b kind name) (law b kind name) (covers_by_pattern b kind name)

pub applies_to_its_own : AppliesToItsOwn applies
applies_to_its_own b who host = tests_are.applying b who host

pub only_applying : OnlyRuleOfApplying applies
only_applying rule law b who host = one_test (rule b who host) (applies b who host) (law b who host) (applies_to_its_own b who host)

pub denies_its_own : DeniesItsOwn denies
denies_its_own b op = tests_are.denying b op

pub only_denying : OnlyRuleOfDenying denies
only_denying rule law b op = one_test (rule b op) (denies b op) (law b op) (denies_its_own b op)

pub allows_what_is_implied : AllowsWhatIsImplied allows
allows_what_is_implied b op = tests_are.allowing b op

pub only_allowing : OnlyRuleOfAllowing allows
only_allowing rule law b op = one_test (rule b op) (allows b op) (law b op) (allows_what_is_implied b op)

pub asks_for_some_topic : AsksForSomeTopic any_topic
asks_for_some_topic es who host = exact es who host

pub only_some_topic : OnlyRuleOfSomeTopic any_topic
only_some_topic rule law es who host = one_test (rule es who host) (any_topic es who host) (law es who host) (exact es who host)

-- ---- verdicts

pub denies_before_it_allows : DeniesBeforeItAllows verdict_of
denies_before_it_allows es q = verdict_right es q

-- what holds of all holds of the one of which something else holds
meets : {X : Type 0} (P Q : X → Type 0) (xs : List X) → Any P xs → All Q xs → (x : X) × P x × Q x
meets P Q xs (k, y, within, is, p) all = (y, p, subst Q is (all k y within))

least : (es : List Numbered) (q : Question) (n m : ℕ) → IsFirstDenial es q n → IsFirstDenial es q m → m ≤ n
least es q n m a b =
    let found = meets (λ (e : Numbered). (e.number ≡ n) × (is_denial q e.binding ≡ true)) (λ (e : Numbered). is_denial q e.binding ≡ true → m ≤ e.number) es a.denies b.first in
    subst (λ (k : ℕ). m ≤ k) found.1.0 (found.2 found.1.1)

denied_not_allowed : (es : List Numbered) (q : Question) (n : ℕ) → IsFirstDenial es q n → All (λ (e : Numbered). is_denial q e.binding ≡ false) es → ⊥
denied_not_allowed es q n a none =
    let found = meets (λ (e : Numbered). (e.number ≡ n) × (is_denial q e.binding ≡ true)) (λ (e : Numbered). is_denial q e.binding ≡ false) es a.denies none in
    true≢false (sym found.1.1 ∙ found.2)

allowed_not_none : (es : List Numbered) (q : Question) → IsAllowed es q → IsUnmatched es q → ⊥
allowed_not_none es q a none =
    let found = meets (λ (e : Numbered). is_grant q e.binding ≡ true) (λ (e : Numbered). is_grant q e.binding ≡ false) es a.allows none.unallowed in
    true≢false (sym found.1 ∙ found.2)

one_verdict : (es : List Numbered) (q : Question) (v w : Verdict) → IsDecided es q v → IsDecided es q w → v ≡ w
one_verdict es q (Denied n) (Denied m) a b = ap Denied (let low = least es q n m a b in let high = least es q m n b a in omega (arith, low, high))
one_verdict es q (Denied n) Yes a b = absurd (denied_not_allowed es q n a b.undenied)
one_verdict es q (Denied n) Nothing a b = absurd (denied_not_allowed es q n a b.undenied)
one_verdict es q Yes (Denied m) a b = absurd (denied_not_allowed es q m b a.undenied)
one_verdict es q Nothing (Denied m) a b = absurd (denied_not_allowed es q m b a.undenied)
one_verdict es q Yes Yes a b = refl
one_verdict es q Nothing Nothing a b = refl
one_verdict es q Yes Nothing a b = absurd (allowed_not_none es q a b)
one_verdict es q Nothing Yes a b = absurd (allowed_not_none es q b a)

pub only_verdicts : OnlyRuleOfVerdicts verdict_of
only_verdicts rule law es q = one_verdict es q (rule es q) (verdict_of es q) (law es q) (verdict_right es q)

-- ---- wrong ones

abbrev binding : Pattern → List ℕ → List ℕ → Operation → Permission → Binding
binding pattern principal host op permission = record { kind = kinds.Topic; name = bytes "a"; pattern = pattern; principal = principal; host = host; operation = op; permission = permission }

abbrev ann : List ℕ
ann = bytes "User:ann"

abbrev for_ann : Operation → Permission → Binding
for_ann op permission = binding patterns.Literal ann (bytes "h") op permission

differs : (a b : List ℕ) → bytes_eq a a ≡ true → bytes_eq a b ≡ false → a ≡ b → ⊥
differs a b itself other same = true≢false (sym itself ∙ ap (bytes_eq a) same ∙ other)

pub not_by_beginning : ¬ CoversByPattern covering_by_beginning
not_by_beginning law = by ((law (for_ann operations.Read permissions.Allow) kinds.Topic (bytes "ab")).0 refl).1 where
  by : (bytes "a" ≡ bytes "ab") ⊎ (bytes "a" ≡ bytes "*") → ⊥
  by (inl same) = differs (bytes "a") (bytes "ab") refl refl same
  by (inr same) = differs (bytes "a") (bytes "*") refl refl same

pub not_itself : ¬ CoversByPattern covering_itself
not_itself law =
    let clash : false ≡ true = (law (binding patterns.Prefixed ann (bytes "h") operations.Read permissions.Allow) kinds.Topic (bytes "ab")).1 (refl, (bytes "b", refl)) in cc

pub not_at_each_host : ¬ AppliesToItsOwn applying_at_each_host
not_at_each_host law = by ((law (for_ann operations.Read permissions.Allow) ann (bytes "g")).0 refl).1 where
  by : (bytes "h" ≡ bytes "g") ⊎ (bytes "h" ≡ bytes "*") → ⊥
  by (inl same) = differs (bytes "h") (bytes "g") refl refl same
  by (inr same) = differs (bytes "h") (bytes "*") refl refl same

pub not_to_one_user : ¬ AppliesToItsOwn applying_to_one_user
not_to_one_user law =
    let clash : false ≡ true = (law (binding patterns.Literal (bytes "User:*") (bytes "h") operations.Read permissions.Allow) ann (bytes "h")).1 (inr refl, inl refl) in cc

pub not_what_is_implied : ¬ DeniesItsOwn denying_what_is_implied
not_what_is_implied law = by ((law (for_ann operations.Read permissions.Deny) operations.Describe).0 refl).1 where
  by : (operations.Read ≡ operations.Describe) ⊎ (operations.Read ≡ operations.All) → ⊥
  by (inl same) = let clash : operations.Read ≡ operations.Describe = same in cc
  by (inr same) = let clash : operations.Read ≡ operations.All = same in cc

pub not_one_operation : ¬ DeniesItsOwn denying_one_operation
not_one_operation law = let clash : false ≡ true = (law (for_ann operations.All permissions.Deny) operations.Read).1 (refl, inr refl) in cc

pub not_nothing_implied : ¬ AllowsWhatIsImplied allowing_nothing_implied
not_nothing_implied law = let clash : false ≡ true = (law (for_ann operations.Read permissions.Allow) operations.Describe).1 (refl, inr (inr (inl (refl, inl refl)))) in cc

pub not_by_denials : ¬ AllowsWhatIsImplied allowing_by_denials
not_by_denials law = let clash : permissions.Deny ≡ permissions.Allow = ((law (for_ann operations.Read permissions.Deny) operations.Read).0 refl).0 in cc

-- ann reads `a`, which the first binding allows, and the second and the third deny
abbrev question : Question
question = record { who = ann; host = bytes "h"; op = operations.Read; kind = kinds.Topic; name = bytes "a" }

abbrev numbered : ℕ → Permission → Numbered
numbered number permission = record { number = number; binding = for_ann operations.Read permission }

abbrev three : List Numbered
three = numbered 1 permissions.Allow ∷ numbered 2 permissions.Deny ∷ numbered 3 permissions.Deny ∷ []

second_denies : is_denial question (numbered 2 permissions.Deny).binding ≡ true
second_denies = refl

pub not_allowing_first : ¬ DeniesBeforeItAllows allowing_first
not_allowing_first law = let clash : true ≡ false = (law three question).undenied 1 (numbered 2 permissions.Deny) (omega arith) in cc

pub not_the_last : ¬ DeniesBeforeItAllows naming_the_last
not_the_last law = let high : 3 ≤ 2 = (law three question).first 1 (numbered 2 permissions.Deny) (omega arith) second_denies in omega (arith, high)

pub not_by_default : ¬ DeniesBeforeItAllows allowing_by_default
not_by_default law = none ((law [] question).allows) where
  none : Any (λ (e : Numbered). is_grant question e.binding ≡ true) [] → ⊥
  none (k, y, within, is, p) = omega (arith, within)

-- ann may write `a`, which is denied; and a group `a`
abbrev writes : Kind → Permission → Numbered
writes kind permission = record { number = 1; binding = record (for_ann operations.Write permission) { kind = kind } }

pub not_undenied : ¬ AsksForSomeTopic some_topic_undenied
not_undenied law =
    let may = (law (writes kinds.Topic permissions.Allow ∷ writes kinds.Topic permissions.Deny ∷ []) ann (bytes "h")).0 refl in
    true≢false (sym ((exact (writes kinds.Topic permissions.Allow ∷ writes kinds.Topic permissions.Deny ∷ []) ann (bytes "h")).1 may))

pub not_some_resource : ¬ AsksForSomeTopic some_resource
not_some_resource law =
    let may = (law (writes kinds.Group permissions.Allow ∷ []) ann (bytes "h")).0 refl in
    true≢false (sym ((exact (writes kinds.Group permissions.Allow ∷ []) ann (bytes "h")).1 may))
