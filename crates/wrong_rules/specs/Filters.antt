-- Which bindings a filter takes, as a relation (Kafka, AclBindingFilter; KIP-290).
use Rattle.std.specs.Prelude.{◌≡◌, ◌↔◌, true, Bool, ◌&&◌, ℕ, List, nat_eq, Option, Some, None}
use Rattle.std.specs.List.{starts_with}
use Rattle.acl_binding.specs.declared.words.Pattern.TheVariants as patterns
use Rattle.acl_binding.specs.declared.binding.Binding.{Binding}
use Rattle.acl_binding.specs.declared.filter.Filter.{Filter}
use Rattle.acl_binding.specs.declared.filter.FilterPattern.{FilterPattern}
use Rattle.acl_binding.specs.declared.filter.FilterPattern.TheVariants as wanted
use Rattle.acl_binding.specs.Relations.{CoversName}
use Rattle.acl_binding.specs.Filter.{matches}

abbrev pub FilterRule : Type 0
FilterRule = Filter → Binding → Bool

-- it is what is wanted; and so is anything where nothing is
abbrev pub IsWanted : {A : Type 0} → Option A → A → Type 0
IsWanted None own = Unit {0}
IsWanted (Some wanted) own = wanted ≡ own

-- LITERAL and PREFIXED want a binding of that pattern and name, ANY one of that name, and MATCH one
-- that covers the name
abbrev pub IsNamed : FilterPattern → Option (List ℕ) → Binding → Type 0
IsNamed wanted.Any name b = IsWanted name b.name
IsNamed wanted.Match None b = Unit {0}
IsNamed wanted.Match (Some name) b = CoversName b.pattern b.name name
IsNamed wanted.Literal name b = (b.pattern ≡ patterns.Literal) × IsWanted name b.name
IsNamed wanted.Prefixed name b = (b.pattern ≡ patterns.Prefixed) × IsWanted name b.name

pub record Takes (f : Filter) (b : Binding) : Type 0 where
  pub kind : IsWanted f.kind b.kind
  pub name : IsNamed f.pattern f.name b
  pub principal : IsWanted f.principal b.principal
  pub host : IsWanted f.host b.host
  pub operation : IsWanted f.operation b.operation
  pub permission : IsWanted f.permission b.permission

-- a filter takes a binding exactly where each of its fields is what is wanted
abbrev pub TakesWhatIsWanted : FilterRule → Type 0
TakesWhatIsWanted rule = (f : Filter) (b : Binding) → (rule f b ≡ true) ↔ Takes f b

-- every rule under which filters take what is wanted is this one
abbrev pub OnlyRuleOfFilters : FilterRule → Type 0
OnlyRuleOfFilters right =
    (rule : FilterRule) → TakesWhatIsWanted rule → (f : Filter) (b : Binding) → rule f b ≡ right f b

-- ---- wrong

-- whatever the host of the binding is
abbrev pub taking_any_host : FilterRule
taking_any_host f b = matches (record f { host = None }) b

-- an ALLOW too where a DENY is wanted, and the other way round
abbrev pub taking_any_permission : FilterRule
taking_any_permission f b = matches (record f { permission = None }) b

abbrev pub begins : Option (List ℕ) → List ℕ → Bool
begins None own = true
begins (Some wanted) own = starts_with nat_eq own wanted

-- each principal whose name begins with the one that is wanted
abbrev pub taking_by_prefix : FilterRule
taking_by_prefix f b = matches (record f { principal = None }) b && begins f.principal b.principal
