-- Whether a caller may write to some topic, by relations (KIP-679): what `AnyTopic` decides, in
-- words of its own.
use Rattle.std.specs.Prelude.{◌≡◌, ◌⊎◌, ◌↔◌, true, ℕ, List, [], ◌∷◌, ◌++◌, codes}
use Rattle.acl_binding.specs.declared.words.Kind.TheVariants.{Topic}
use Rattle.acl_binding.specs.declared.words.Pattern.TheVariants.{Literal, Prefixed}
use Rattle.acl_binding.specs.declared.words.Operation.TheVariants.{Write}
use Rattle.acl_binding.specs.declared.binding.Binding.{Binding}
use Rattle.acl_binding.specs.declared.binding.Numbered.{Numbered}
use Rattle.acl_binding.specs.Relations.{Applies, Allows, Denies}
use Rattle.authorizer.specs.AnyTopic.{any_topic}

-- the binding is one of the book's
abbrev pub IsBound : List Numbered → Binding → Type 0
IsBound [] b = ⊥
IsBound (e ∷ es) b = (e.binding ≡ b) ⊎ IsBound es b

-- it is for every name
abbrev pub IsForAll : Binding → Type 0
IsForAll b = (b.pattern ≡ Literal) × (b.name ≡ codes "*")

-- the one's name begins the other's, or both are for one literal name
abbrev pub TakesName : Binding → Binding → Type 0
TakesName b other =
    ((b.pattern ≡ Prefixed) × ((rest : List ℕ) × (other.name ≡ b.name ++ rest)))
    ⊎ ((b.pattern ≡ Literal) × (other.pattern ≡ Literal) × (b.name ≡ other.name))

-- a denial leaves an allowance no name: it is for every name, or takes the name of one that isn't
abbrev pub LeavesNoName : Binding → Binding → Type 0
LeavesNoName deny allow = IsForAll deny ⊎ ((IsForAll allow → ⊥) × TakesName deny allow)

-- a binding on topics allows the caller to write, and none on topics that denies it leaves that one
-- no name
pub record MayWriteSomeTopic (es : List Numbered) (who host : List ℕ) : Type 0 where
  pub allow : Binding
  pub bound : IsBound es allow
  pub topics : allow.kind ≡ Topic
  pub applies : Applies allow who host
  pub allows : Allows allow Write
  pub unbarred : (deny : Binding) → IsBound es deny → deny.kind ≡ Topic → Applies deny who host
      → Denies deny Write → LeavesNoName deny allow → ⊥

abbrev pub SomeTopicIsExact : Type 0
SomeTopicIsExact =
    (es : List Numbered) (who host : List ℕ)
    → (any_topic es who host ≡ true) ↔ MayWriteSomeTopic es who host
