-- What a binding is about and what it permits, and what bindings say together (Kafka documentation,
-- 'Authorization and ACLs'; KIP-290, KIP-679): each test is that of a relation.
use Rattle.std.specs.Prelude.{◌≡◌, ◌↔◌, true, ℕ, Bool, ◌&&◌, ◌==◌, List, [], ◌∷◌, if◌then◌else◌}
use Rattle.std.specs.List.{list_any}
use Rattle.std.specs.Str.{bytes_eq}
use Rattle.acl_binding.specs.declared.words.Kind.{Kind}
use Rattle.acl_binding.specs.declared.words.Pattern.TheVariants as patterns
use Rattle.acl_binding.specs.declared.words.Operation.{Operation}
use Rattle.acl_binding.specs.declared.words.Permission.TheVariants as permissions
use Rattle.acl_binding.specs.declared.binding.Binding.{Binding}
use Rattle.acl_binding.specs.declared.binding.Numbered.{Numbered}
use Rattle.acl_binding.specs.declared.question.Question.{Question}
use Rattle.acl_binding.specs.declared.question.Verdict.{Verdict}
use Rattle.acl_binding.specs.declared.question.Verdict.TheVariants.{Yes, Denied}
use Rattle.acl_binding.specs.Words.{operation_number, permission_number}
use Rattle.acl_binding.specs.Binding.{covers, applies, denies, allows, implies, is_of}
use Rattle.acl_binding.specs.Relations.{Covers, Applies, Denies, Allows}
use Rattle.acl_binding.specs.Verdict.{denials, any_grant, verdict_of, IsDecided}
use Rattle.authorizer.specs.AnyTopic.{lets_write, is_topics}
use Rattle.authorizer.specs.SomeTopic.{MayWriteSomeTopic}

-- ---- which names a binding covers

abbrev pub CoverRule : Type 0
CoverRule = Binding → Kind → List ℕ → Bool

-- a binding covers its own kind; and of the names, its own or all if it is literal, or those that
-- begin with its own if it is prefixed
abbrev pub CoversByPattern : CoverRule → Type 0
CoversByPattern rule =
    (b : Binding) (kind : Kind) (name : List ℕ) → (rule b kind name ≡ true) ↔ Covers b kind name

-- no other rule of what a binding covers has that
abbrev pub OnlyRuleOfCovering : CoverRule → Type 0
OnlyRuleOfCovering right =
    (rule : CoverRule) → CoversByPattern rule
    → (b : Binding) (kind : Kind) (name : List ℕ) → rule b kind name ≡ right b kind name

-- ---- to whom it applies

abbrev pub ApplyRule : Type 0
ApplyRule = Binding → List ℕ → List ℕ → Bool

-- a binding applies to its own principal, or to all users, at its own host, or at all
abbrev pub AppliesToItsOwn : ApplyRule → Type 0
AppliesToItsOwn rule =
    (b : Binding) (who host : List ℕ) → (rule b who host ≡ true) ↔ Applies b who host

-- no other rule of whom a binding applies to has that
abbrev pub OnlyRuleOfApplying : ApplyRule → Type 0
OnlyRuleOfApplying right =
    (rule : ApplyRule) → AppliesToItsOwn rule
    → (b : Binding) (who host : List ℕ) → rule b who host ≡ right b who host

-- ---- what it permits

abbrev pub PermitRule : Type 0
PermitRule = Binding → Operation → Bool

-- a DENY denies its own operation, or all, and nothing that its operation implies
abbrev pub DeniesItsOwn : PermitRule → Type 0
DeniesItsOwn rule = (b : Binding) (op : Operation) → (rule b op ≡ true) ↔ Denies b op

-- no other rule of what is denied has that
abbrev pub OnlyRuleOfDenying : PermitRule → Type 0
OnlyRuleOfDenying right =
    (rule : PermitRule) → DeniesItsOwn rule
    → (b : Binding) (op : Operation) → rule b op ≡ right b op

-- an ALLOW allows its own operation, all, or what its operation implies
abbrev pub AllowsWhatIsImplied : PermitRule → Type 0
AllowsWhatIsImplied rule = (b : Binding) (op : Operation) → (rule b op ≡ true) ↔ Allows b op

-- no other rule of what is allowed has that
abbrev pub OnlyRuleOfAllowing : PermitRule → Type 0
OnlyRuleOfAllowing right =
    (rule : PermitRule) → AllowsWhatIsImplied rule
    → (b : Binding) (op : Operation) → rule b op ≡ right b op

-- ---- what bindings say together

abbrev pub VerdictRule : Type 0
VerdictRule = List Numbered → Question → Verdict

-- the first binding that denies is named; where none does, it is Yes if one allows
abbrev pub DeniesBeforeItAllows : VerdictRule → Type 0
DeniesBeforeItAllows rule = (es : List Numbered) (q : Question) → IsDecided es q (rule es q)

-- no other rule of verdicts has that
abbrev pub OnlyRuleOfVerdicts : VerdictRule → Type 0
OnlyRuleOfVerdicts right =
    (rule : VerdictRule) → DeniesBeforeItAllows rule
    → (es : List Numbered) (q : Question) → rule es q ≡ right es q

-- ---- who may have a producer id without a transactional id

abbrev pub SomeTopicRule : Type 0
SomeTopicRule = List Numbered → List ℕ → List ℕ → Bool

-- whoever may write some topic: an ALLOW lets it, and no DENY leaves that one no name
abbrev pub AsksForSomeTopic : SomeTopicRule → Type 0
AsksForSomeTopic rule =
    (es : List Numbered) (who host : List ℕ)
    → (rule es who host ≡ true) ↔ MayWriteSomeTopic es who host

-- no other rule of it has that
abbrev pub OnlyRuleOfSomeTopic : SomeTopicRule → Type 0
OnlyRuleOfSomeTopic right =
    (rule : SomeTopicRule) → AsksForSomeTopic rule
    → (es : List Numbered) (who host : List ℕ) → rule es who host ≡ right es who host

-- ---- wrong

-- a literal name covers each name that begins with it
abbrev pub covering_by_beginning : CoverRule
covering_by_beginning b kind name = covers (record b { pattern = patterns.Prefixed }) kind name

-- a prefixed name covers no name but its own
abbrev pub covering_itself : CoverRule
covering_itself b kind name = covers (record b { pattern = patterns.Literal }) kind name

-- a binding applies at each host
abbrev pub applying_at_each_host : ApplyRule
applying_at_each_host b who host = applies (record b { host = host }) who host

-- a binding for all users applies to nobody
abbrev pub applying_to_one_user : ApplyRule
applying_to_one_user b who host = applies b who host && bytes_eq b.principal who

-- a DENY denies what its operation implies
abbrev pub denying_what_is_implied : PermitRule
denying_what_is_implied b op =
    (permission_number b.permission == permission_number permissions.Deny) && implies b.operation op

-- a DENY of all operations denies none but ALL
abbrev pub denying_one_operation : PermitRule
denying_one_operation b op =
    denies b op && (operation_number b.operation == operation_number op)

-- READ and WRITE imply nothing
abbrev pub allowing_nothing_implied : PermitRule
allowing_nothing_implied b op = allows b op && is_of b.operation op

-- a DENY is taken for an ALLOW
abbrev pub allowing_by_denials : PermitRule
allowing_by_denials b op = implies b.operation op

-- ALLOW goes before DENY
abbrev pub allowing_first : VerdictRule
allowing_first es q = if any_grant es q then Yes else verdict_of es q

abbrev pub last_of : List ℕ → Verdict → Verdict
last_of [] otherwise = otherwise
last_of (n ∷ ns) otherwise = last_of ns (Denied n)

-- the last binding that denies is named
abbrev pub naming_the_last : VerdictRule
naming_the_last es q = last_of (denials es q) (verdict_of es q)

-- whatever isn't denied is allowed
abbrev pub allowing_by_default : VerdictRule
allowing_by_default es q = if list_any (λ n. true) (denials es q) then verdict_of es q else Yes

-- no DENY is looked at
abbrev pub some_topic_undenied : SomeTopicRule
some_topic_undenied es who host =
    list_any (λ (e : Numbered). is_topics e.binding && lets_write who host e.binding) es

-- whoever is let write a group, too
abbrev pub some_resource : SomeTopicRule
some_resource es who host = list_any (λ (e : Numbered). lets_write who host e.binding) es
