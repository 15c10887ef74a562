-- Two bindings pass the test of all seven fields exactly where they are one.
use Rattle.std.proofs.Common.{◌≡◌, ◌==◌, ℕ, Bool, true, false, ◌&&◌, List, Option, Some, if◌then◌else◌, refl, sym, ap, ◌∙◌}
use Rattle.std.specs.Bool.{Decides}
use Rattle.std.specs.Str.{bytes_eq}
use Rattle.std.proofs.lemmas.Bool.Decides.{Decides-eqb, same_from_decides}
use Rattle.std.proofs.lemmas.Slice.Eq.{bytes_eq-Decides}
use Rattle.std.specs.Cmp.Lexicographic.{pointwise}
use denote.Enum.Bare.{sameb, same_true, true_same}
use Rattle.acl_binding.specs.contracts.words.Kind as kinds
use Rattle.acl_binding.specs.contracts.words.Pattern as patterns
use Rattle.acl_binding.specs.contracts.words.Operation as operations
use Rattle.acl_binding.specs.contracts.words.Permission as permissions
use Rattle.acl_binding.specs.declared.words.Kind.{Kind}
use Rattle.acl_binding.specs.declared.words.Kind.TheVariants.{Topic, Group, Cluster, TransactionalId}
use Rattle.acl_binding.specs.declared.words.Pattern.{Pattern}
use Rattle.acl_binding.specs.declared.words.Pattern.TheVariants.{Literal, Prefixed}
use Rattle.acl_binding.specs.declared.words.Operation.{Operation}
use Rattle.acl_binding.specs.declared.words.Operation.TheVariants.{All, Read, Write, Create, Delete, Alter, Describe, ClusterAction, DescribeConfigs, AlterConfigs, IdempotentWrite}
use Rattle.acl_binding.specs.declared.words.Permission.{Permission}
use Rattle.acl_binding.specs.declared.words.Permission.TheVariants.{Deny, Allow}
use Rattle.acl_binding.specs.declared.binding.Binding.{Binding}
use Rattle.acl_binding.specs.Words.{kind_number, pattern_number, operation_number, permission_number}
use Rattle.acl_binding.specs.Binding.{same_binding}

-- ---- each word has its own number

inside : {A : Type 0} (a b : A) → Some a ≡ Some b → a ≡ b
inside a b e = cc

kind_at : ℕ → Option Kind
kind_at n = if n == 2 then Some Topic else (if n == 3 then Some Group else (if n == 4 then Some Cluster else Some TransactionalId))

kind_back : (k : Kind) → kind_at (kind_number k) ≡ Some k
unfolding kind_at
kind_back Topic = refl
kind_back Group = refl
kind_back Cluster = refl
kind_back TransactionalId = refl

pub kind_one : (a b : Kind) → kind_number a ≡ kind_number b → a ≡ b
kind_one a b e = inside a b (sym (kind_back a) ∙ ap kind_at e ∙ kind_back b)

pattern_at : ℕ → Option Pattern
pattern_at n = if n == 3 then Some Literal else Some Prefixed

pattern_back : (p : Pattern) → pattern_at (pattern_number p) ≡ Some p
unfolding pattern_at
pattern_back Literal = refl
pattern_back Prefixed = refl

pub pattern_one : (a b : Pattern) → pattern_number a ≡ pattern_number b → a ≡ b
pattern_one a b e = inside a b (sym (pattern_back a) ∙ ap pattern_at e ∙ pattern_back b)

permission_at : ℕ → Option Permission
permission_at n = if n == 2 then Some Deny else Some Allow

permission_back : (p : Permission) → permission_at (permission_number p) ≡ Some p
unfolding permission_at
permission_back Deny = refl
permission_back Allow = refl

pub permission_one : (a b : Permission) → permission_number a ≡ permission_number b → a ≡ b
permission_one a b e = inside a b (sym (permission_back a) ∙ ap permission_at e ∙ permission_back b)

late_operation_at : ℕ → Option Operation
late_operation_at n = if n == 8 then Some Describe else (if n == 9 then Some ClusterAction else (if n == 10 then Some DescribeConfigs else (if n == 11 then Some AlterConfigs else Some IdempotentWrite)))

operation_at : ℕ → Option Operation
operation_at n = if n == 2 then Some All else (if n == 3 then Some Read else (if n == 4 then Some Write else (if n == 5 then Some Create else (if n == 6 then Some Delete else (if n == 7 then Some Alter else late_operation_at n)))))

operation_back : (o : Operation) → operation_at (operation_number o) ≡ Some o
unfolding operation_at late_operation_at
operation_back All = refl
operation_back Read = refl
operation_back Write = refl
operation_back Create = refl
operation_back Delete = refl
operation_back Alter = refl
operation_back Describe = refl
operation_back ClusterAction = refl
operation_back DescribeConfigs = refl
operation_back AlterConfigs = refl
operation_back IdempotentWrite = refl

pub operation_one : (a b : Operation) → operation_number a ≡ operation_number b → a ≡ b
operation_one a b e = inside a b (sym (operation_back a) ∙ ap operation_at e ∙ operation_back b)

-- ---- the test

pub both : (a b : Bool) → (a && b) ≡ true → (a ≡ true) × (b ≡ true)
both true true h = (refl, refl)
both true false h = absurd (let clash : false ≡ true = h in cc)
both false b h = absurd (let clash : false ≡ true = h in cc)

pub same_number : (m n : ℕ) → (m == n) ≡ true → m ≡ n
same_number m n h = (Decides-eqb m n).0 h

pub same_bytes : (a b : List ℕ) → bytes_eq a b ≡ true → a ≡ b
same_bytes a b h = (bytes_eq-Decides a b).0 h

same_fields : (k n p w h o g : Bool) → (k && (n && (p && (w && (h && (o && g)))))) ≡ true → (k ≡ true) × (n ≡ true) × (p ≡ true) × (w ≡ true) × (h ≡ true) × (o ≡ true) × (g ≡ true)
same_fields k n p w h o g e =
    let kind = both k (n && (p && (w && (h && (o && g))))) e in
    let name = both n (p && (w && (h && (o && g)))) kind.1 in
    let pattern = both p (w && (h && (o && g))) name.1 in
    let principal = both w (h && (o && g)) pattern.1 in
    let host = both h (o && g) principal.1 in
    let operation = both o g host.1 in
    (kind.0, name.0, pattern.0, principal.0, host.0, operation.0, operation.1)

pub same_is_equal : (a b : Binding) → same_binding a b ≡ true → a ≡ b
same_is_equal a b same =
    let fields = same_fields _ _ _ _ _ _ _ same in
    let kind = kind_one a.kind b.kind (same_number _ _ fields.0) in
    let name = same_bytes a.name b.name fields.1 in
    let pattern = pattern_one a.pattern b.pattern (same_number _ _ fields.2) in
    let principal = same_bytes a.principal b.principal fields.3 in
    let host = same_bytes a.host b.host fields.4 in
    let operation = operation_one a.operation b.operation (same_number _ _ fields.5) in
    let permission = permission_one a.permission b.permission (same_number _ _ fields.6) in
    λ i. record { kind = kind i; name = name i; pattern = pattern i; principal = principal i; host = host i; operation = operation i; permission = permission i }

pub itself_number : (n : ℕ) → (n == n) ≡ true
itself_number n = (Decides-eqb n n).1 refl

pub itself_bytes : (a : List ℕ) → bytes_eq a a ≡ true
itself_bytes a = (bytes_eq-Decides a a).1 refl

pub same_itself : (a : Binding) → same_binding a a ≡ true
same_itself a = rw (itself_number (kind_number a.kind), itself_bytes a.name, itself_number (pattern_number a.pattern), itself_bytes a.principal, itself_bytes a.host, itself_number (operation_number a.operation), itself_number (permission_number a.permission))

pub equal_is_same : (a b : Binding) → a ≡ b → same_binding a b ≡ true
equal_is_same a b e = ap (λ x. same_binding a x) (sym e) ∙ same_itself a

pub same_decides : (a b : Binding) → Decides (same_binding a b) (a ≡ b)
same_decides a b = (same_is_equal a b, equal_is_same a b)

pub same_sym : (a b : Binding) → same_binding a b ≡ same_binding b a
same_sym a b = by_tests (same_binding a b) (same_binding b a) refl refl where
  by_tests : (x y : Bool) → same_binding a b ≡ x → same_binding b a ≡ y → x ≡ y
  by_tests true true h k = refl
  by_tests false false h k = refl
  by_tests true false h k = sym (equal_is_same b a (sym (same_is_equal a b h))) ∙ k
  by_tests false true h k = sym h ∙ equal_is_same a b (sym (same_is_equal b a k))

pub not_same_either_way : (a b : Binding) → same_binding a b ≡ false → same_binding b a ≡ false
not_same_either_way a b h = same_sym b a ∙ h

-- ---- what `==` tests

kind_test : (a b : Kind) → sameb kinds.the_type a b ≡ (kind_number a == kind_number b)
kind_test a b = same_from_decides _ _ (same_true kinds.the_type tt a b, true_same kinds.the_type a b) (λ e. kind_one a b (same_number _ _ e), λ e. ap (λ k. kind_number a == kind_number k) (sym e) ∙ itself_number (kind_number a))

pattern_test : (a b : Pattern) → sameb patterns.the_type a b ≡ (pattern_number a == pattern_number b)
pattern_test a b = same_from_decides _ _ (same_true patterns.the_type tt a b, true_same patterns.the_type a b) (λ e. pattern_one a b (same_number _ _ e), λ e. ap (λ p. pattern_number a == pattern_number p) (sym e) ∙ itself_number (pattern_number a))

operation_test : (a b : Operation) → sameb operations.the_type a b ≡ (operation_number a == operation_number b)
operation_test a b = same_from_decides _ _ (same_true operations.the_type tt a b, true_same operations.the_type a b) (λ e. operation_one a b (same_number _ _ e), λ e. ap (λ o. operation_number a == operation_number o) (sym e) ∙ itself_number (operation_number a))

permission_test : (a b : Permission) → sameb permissions.the_type a b ≡ (permission_number a == permission_number b)
permission_test a b = same_from_decides _ _ (same_true permissions.the_type tt a b, true_same permissions.the_type a b) (λ e. permission_one a b (same_number _ _ e), λ e. ap (λ p. permission_number a == permission_number p) (sym e) ∙ itself_number (permission_number a))

-- the derived `==` tests all seven fields
pub derived_test : (a b : Binding) → (sameb kinds.the_type a.kind b.kind && (pointwise ◌==◌ a.name b.name && (sameb patterns.the_type a.pattern b.pattern && (pointwise ◌==◌ a.principal b.principal && (pointwise ◌==◌ a.host b.host && (sameb operations.the_type a.operation b.operation && sameb permissions.the_type a.permission b.permission)))))) ≡ same_binding a b
derived_test a b = rw (kind_test a.kind b.kind, pattern_test a.pattern b.pattern, operation_test a.operation b.operation, permission_test a.permission b.permission)
