-- The tests of a binding are the relations.
use Rattle.std.proofs.Common.{◌≡◌, ◌⊎◌, inl, inr, ◌==◌, ℕ, ◌≤◌, Bool, true, false, ◌&&◌, ◌||◌, List, ◌++◌, length, take, drop, codes, refl, sym, subst, ap, ◌∙◌, arith}
use Rattle.std.specs.List.{starts_with}
use Rattle.std.specs.Prelude.{nat_eq}
use Rattle.std.specs.Str.{bytes_eq}
use Rattle.std.proofs.lemmas.Bool.{and_from, or_cases}
use Rattle.std.proofs.lemmas.List.{take-append-drop, take-append-le, take_all}
use Rattle.acl_binding.specs.declared.words.Kind.{Kind}
use Rattle.acl_binding.specs.declared.words.Pattern.{Pattern}
use Rattle.acl_binding.specs.declared.words.Pattern.TheVariants.{Literal, Prefixed}
use Rattle.acl_binding.specs.declared.words.Operation.{Operation}
use Rattle.acl_binding.specs.declared.words.Operation.TheVariants.{All, Read, Write, Create, Delete, Alter, Describe, ClusterAction, DescribeConfigs, AlterConfigs, IdempotentWrite}
use Rattle.acl_binding.specs.declared.words.Permission.{Permission}
use Rattle.acl_binding.specs.declared.words.Permission.TheVariants.{Deny, Allow}
use Rattle.acl_binding.specs.declared.binding.Binding.{Binding}
use Rattle.acl_binding.specs.Words.{kind_number, operation_number, permission_number}
use Rattle.acl_binding.specs.Binding.{star, any_principal, name_covers, covers, applies, is_of, implies, denies, allows}
use Rattle.acl_binding.specs.Relations.{CoversName, Covers, Applies, Implies, Denies, Allows, TestsAreRelations}
use Rattle.acl_binding.proofs.Same.{both, kind_one, operation_one, permission_one, same_number, same_bytes, itself_number, itself_bytes}

-- ---- texts

pub or_first : (a b : Bool) → a ≡ true → (a || b) ≡ true
or_first true b h = refl
or_first false b h = absurd (let clash : false ≡ true = h in cc)

pub or_second : (a b : Bool) → b ≡ true → (a || b) ≡ true
or_second true b h = refl
or_second false b h = h

one_or_other : (own name other : List ℕ) → (bytes_eq own name || bytes_eq own other) ≡ true → (own ≡ name) ⊎ (own ≡ other)
one_or_other own name other h = by_case (or_cases (bytes_eq own name) (bytes_eq own other) h) where
  by_case : (bytes_eq own name ≡ true) ⊎ (bytes_eq own other ≡ true) → (own ≡ name) ⊎ (own ≡ other)
  by_case (inl same) = inl (same_bytes own name same)
  by_case (inr same) = inr (same_bytes own other same)

either : (own name other : List ℕ) → (own ≡ name) ⊎ (own ≡ other) → (bytes_eq own name || bytes_eq own other) ≡ true
either own name other (inl same) = or_first (bytes_eq own name) (bytes_eq own other) (ap (bytes_eq own) (sym same) ∙ itself_bytes own)
either own name other (inr same) = or_second (bytes_eq own name) (bytes_eq own other) (ap (bytes_eq own) (sym same) ∙ itself_bytes own)

-- ---- names

pub front_is : (own name : List ℕ) → starts_with nat_eq name own ≡ true → (rest : List ℕ) × (name ≡ own ++ rest)
front_is own name h =
    let front : own ≡ take (length own) name = same_bytes own (take (length own) name) h in
    (drop (length own) name, sym (take-append-drop (length own) name) ∙ ap (λ (l : List ℕ). l ++ drop (length own) name) (sym front))

pub front_of : (own rest : List ℕ) → starts_with nat_eq (own ++ rest) own ≡ true
front_of own rest =
    let front : take (length own) (own ++ rest) ≡ own = take-append-le (length own) own rest (omega arith) ∙ take_all (length own) own (omega arith) in
    ap (bytes_eq own) front ∙ itself_bytes own

name_covered : (p : Pattern) (own name : List ℕ) → name_covers p own name ≡ true → CoversName p own name
name_covered Literal own name h = one_or_other own name star h
name_covered Prefixed own name h = front_is own name h

covers_name : (p : Pattern) (own name : List ℕ) → CoversName p own name → name_covers p own name ≡ true
covers_name Literal own name h = either own name star h
covers_name Prefixed own name h = ap (λ (n : List ℕ). starts_with nat_eq n own) h.1 ∙ front_of own h.0

-- ---- operations

same_operation : (own op : Operation) → (operation_number own == operation_number op) ≡ true → own ≡ op
same_operation own op h = operation_one own op (same_number (operation_number own) (operation_number op) h)

itself_operation : (own op : Operation) → own ≡ op → (operation_number own == operation_number op) ≡ true
itself_operation own op same = ap (λ (o : Operation). operation_number own == operation_number o) (sym same) ∙ itself_number (operation_number own)

of_own : (own op : Operation) → is_of own op ≡ true → (own ≡ op) ⊎ (own ≡ All)
of_own own op h = by_case (or_cases (operation_number own == operation_number op) (operation_number own == operation_number All) h) where
  by_case : ((operation_number own == operation_number op) ≡ true) ⊎ ((operation_number own == operation_number All) ≡ true) → (own ≡ op) ⊎ (own ≡ All)
  by_case (inl same) = inl (same_operation own op same)
  by_case (inr all) = inr (same_operation own All all)

is_of_own : (own op : Operation) → (own ≡ op) ⊎ (own ≡ All) → is_of own op ≡ true
is_of_own own op (inl same) = or_first (operation_number own == operation_number op) (operation_number own == operation_number All) (itself_operation own op same)
is_of_own own op (inr all) = or_second (operation_number own == operation_number op) (operation_number own == operation_number All) (itself_operation own All all)

own_or_all : (own op : Operation) → is_of own op ≡ true → (own ≡ op) ⊎ (own ≡ All) ⊎ Implies own op
own_or_all own op h = by_case (of_own own op h) where
  by_case : (own ≡ op) ⊎ (own ≡ All) → (own ≡ op) ⊎ (own ≡ All) ⊎ Implies own op
  by_case (inl same) = inl same
  by_case (inr all) = inr (inl all)

implied : (own op : Operation) → implies own op ≡ true → (own ≡ op) ⊎ (own ≡ All) ⊎ Implies own op
implied All op h = own_or_all All op h
implied Read All h = own_or_all Read All h
implied Read Read h = own_or_all Read Read h
implied Read Write h = own_or_all Read Write h
implied Read Create h = own_or_all Read Create h
implied Read Delete h = own_or_all Read Delete h
implied Read Alter h = own_or_all Read Alter h
implied Read Describe h = inr (inr (inl (refl, inl refl)))
implied Read ClusterAction h = own_or_all Read ClusterAction h
implied Read DescribeConfigs h = own_or_all Read DescribeConfigs h
implied Read AlterConfigs h = own_or_all Read AlterConfigs h
implied Read IdempotentWrite h = own_or_all Read IdempotentWrite h
implied Write All h = own_or_all Write All h
implied Write Read h = own_or_all Write Read h
implied Write Write h = own_or_all Write Write h
implied Write Create h = own_or_all Write Create h
implied Write Delete h = own_or_all Write Delete h
implied Write Alter h = own_or_all Write Alter h
implied Write Describe h = inr (inr (inl (refl, inr (inl refl))))
implied Write ClusterAction h = own_or_all Write ClusterAction h
implied Write DescribeConfigs h = own_or_all Write DescribeConfigs h
implied Write AlterConfigs h = own_or_all Write AlterConfigs h
implied Write IdempotentWrite h = own_or_all Write IdempotentWrite h
implied Create op h = own_or_all Create op h
implied Delete All h = own_or_all Delete All h
implied Delete Read h = own_or_all Delete Read h
implied Delete Write h = own_or_all Delete Write h
implied Delete Create h = own_or_all Delete Create h
implied Delete Delete h = own_or_all Delete Delete h
implied Delete Alter h = own_or_all Delete Alter h
implied Delete Describe h = inr (inr (inl (refl, inr (inr (inl refl)))))
implied Delete ClusterAction h = own_or_all Delete ClusterAction h
implied Delete DescribeConfigs h = own_or_all Delete DescribeConfigs h
implied Delete AlterConfigs h = own_or_all Delete AlterConfigs h
implied Delete IdempotentWrite h = own_or_all Delete IdempotentWrite h
implied Alter All h = own_or_all Alter All h
implied Alter Read h = own_or_all Alter Read h
implied Alter Write h = own_or_all Alter Write h
implied Alter Create h = own_or_all Alter Create h
implied Alter Delete h = own_or_all Alter Delete h
implied Alter Alter h = own_or_all Alter Alter h
implied Alter Describe h = inr (inr (inl (refl, inr (inr (inr refl)))))
implied Alter ClusterAction h = own_or_all Alter ClusterAction h
implied Alter DescribeConfigs h = own_or_all Alter DescribeConfigs h
implied Alter AlterConfigs h = own_or_all Alter AlterConfigs h
implied Alter IdempotentWrite h = own_or_all Alter IdempotentWrite h
implied Describe op h = own_or_all Describe op h
implied ClusterAction op h = own_or_all ClusterAction op h
implied DescribeConfigs op h = own_or_all DescribeConfigs op h
implied AlterConfigs All h = own_or_all AlterConfigs All h
implied AlterConfigs Read h = own_or_all AlterConfigs Read h
implied AlterConfigs Write h = own_or_all AlterConfigs Write h
implied AlterConfigs Create h = own_or_all AlterConfigs Create h
implied AlterConfigs Delete h = own_or_all AlterConfigs Delete h
implied AlterConfigs Alter h = own_or_all AlterConfigs Alter h
implied AlterConfigs Describe h = own_or_all AlterConfigs Describe h
implied AlterConfigs ClusterAction h = own_or_all AlterConfigs ClusterAction h
implied AlterConfigs DescribeConfigs h = inr (inr (inr (refl, refl)))
implied AlterConfigs AlterConfigs h = own_or_all AlterConfigs AlterConfigs h
implied AlterConfigs IdempotentWrite h = own_or_all AlterConfigs IdempotentWrite h
implied IdempotentWrite op h = own_or_all IdempotentWrite op h

implies_itself : (own : Operation) → implies own own ≡ true
implies_itself All = refl
implies_itself Read = refl
implies_itself Write = refl
implies_itself Create = refl
implies_itself Delete = refl
implies_itself Alter = refl
implies_itself Describe = refl
implies_itself ClusterAction = refl
implies_itself DescribeConfigs = refl
implies_itself AlterConfigs = refl
implies_itself IdempotentWrite = refl

all_implies : (op : Operation) → implies All op ≡ true
all_implies op = or_second (operation_number All == operation_number op) (operation_number All == operation_number All) (itself_number (operation_number All))

by_relation : (own op : Operation) → Implies own op → implies own op ≡ true
by_relation own op (inl (described, from)) = ap (implies own) described ∙ by_own from where
  by_own : (own ≡ Read) ⊎ (own ≡ Write) ⊎ (own ≡ Delete) ⊎ (own ≡ Alter) → implies own Describe ≡ true
  by_own (inl is) = ap (λ (o : Operation). implies o Describe) is
  by_own (inr (inl is)) = ap (λ (o : Operation). implies o Describe) is
  by_own (inr (inr (inl is))) = ap (λ (o : Operation). implies o Describe) is
  by_own (inr (inr (inr is))) = ap (λ (o : Operation). implies o Describe) is
by_relation own op (inr (described, from)) = ap (implies own) described ∙ ap (λ (o : Operation). implies o DescribeConfigs) from

does_imply : (own op : Operation) → (own ≡ op) ⊎ (own ≡ All) ⊎ Implies own op → implies own op ≡ true
does_imply own op (inl same) = ap (implies own) (sym same) ∙ implies_itself own
does_imply own op (inr (inl all)) = ap (λ (o : Operation). implies o op) all ∙ all_implies op
does_imply own op (inr (inr relation)) = by_relation own op relation

-- ---- bindings

same_permission : (own other : Permission) → (permission_number own == permission_number other) ≡ true → own ≡ other
same_permission own other h = permission_one own other (same_number (permission_number own) (permission_number other) h)

itself_permission : (own other : Permission) → own ≡ other → (permission_number own == permission_number other) ≡ true
itself_permission own other same = ap (λ (p : Permission). permission_number own == permission_number p) (sym same) ∙ itself_number (permission_number own)

does_cover : (b : Binding) (kind : Kind) (name : List ℕ) → covers b kind name ≡ true → Covers b kind name
does_cover b kind name h =
    let parts = both (kind_number b.kind == kind_number kind) (name_covers b.pattern b.name name) h in
    (kind_one b.kind kind (same_number (kind_number b.kind) (kind_number kind) parts.0), name_covered b.pattern b.name name parts.1)

is_covered : (b : Binding) (kind : Kind) (name : List ℕ) → Covers b kind name → covers b kind name ≡ true
is_covered b kind name h =
    and_from (kind_number b.kind == kind_number kind) (name_covers b.pattern b.name name)
    (ap (λ (k : Kind). kind_number b.kind == kind_number k) (sym h.0) ∙ itself_number (kind_number b.kind))
    (covers_name b.pattern b.name name h.1)

pub does_apply : (b : Binding) (who host : List ℕ) → applies b who host ≡ true → Applies b who host
does_apply b who host h =
    let parts = both (bytes_eq b.principal who || bytes_eq b.principal any_principal) (bytes_eq b.host host || bytes_eq b.host star) h in
    (one_or_other b.principal who any_principal parts.0, one_or_other b.host host star parts.1)

pub is_applied : (b : Binding) (who host : List ℕ) → Applies b who host → applies b who host ≡ true
is_applied b who host h = and_from _ _ (either b.principal who any_principal h.0) (either b.host host star h.1)

pub does_deny : (b : Binding) (op : Operation) → denies b op ≡ true → Denies b op
does_deny b op h =
    let parts = both (permission_number b.permission == permission_number Deny) (is_of b.operation op) h in
    (same_permission b.permission Deny parts.0, of_own b.operation op parts.1)

pub is_denied : (b : Binding) (op : Operation) → Denies b op → denies b op ≡ true
is_denied b op h = and_from _ _ (itself_permission b.permission Deny h.0) (is_of_own b.operation op h.1)

pub does_allow : (b : Binding) (op : Operation) → allows b op ≡ true → Allows b op
does_allow b op h =
    let parts = both (permission_number b.permission == permission_number Allow) (implies b.operation op) h in
    (same_permission b.permission Allow parts.0, implied b.operation op parts.1)

pub is_allowed : (b : Binding) (op : Operation) → Allows b op → allows b op ≡ true
is_allowed b op h = and_from _ _ (itself_permission b.permission Allow h.0) (does_imply b.operation op h.1)

pub tests_are : TestsAreRelations
tests_are = record {
  covering = λ b kind name. (does_cover b kind name, is_covered b kind name);
  applying = λ b who host. (does_apply b who host, is_applied b who host);
  denying = λ b op. (does_deny b op, is_denied b op);
  allowing = λ b op. (does_allow b op, is_allowed b op);
}
