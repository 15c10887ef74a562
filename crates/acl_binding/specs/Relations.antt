-- What a binding is about and what it permits, as relations: the tests of `Binding` once more, in
-- words of their own (Kafka documentation, 'Authorization and ACLs'; KIP-290).
use Rattle.std.specs.Prelude.{◌≡◌, ◌⊎◌, ◌↔◌, true, ℕ, List, ◌++◌, codes}
use Rattle.acl_binding.specs.declared.words.Kind.{Kind}
use Rattle.acl_binding.specs.declared.words.Pattern.{Pattern}
use Rattle.acl_binding.specs.declared.words.Pattern.TheVariants.{Literal, Prefixed}
use Rattle.acl_binding.specs.declared.words.Operation.{Operation}
use Rattle.acl_binding.specs.declared.words.Operation.TheVariants.{All, Read, Write, Delete, Alter, Describe, DescribeConfigs, AlterConfigs}
use Rattle.acl_binding.specs.declared.words.Permission.TheVariants.{Deny, Allow}
use Rattle.acl_binding.specs.declared.binding.Binding.{Binding}
use Rattle.acl_binding.specs.Binding.{covers, applies, denies, allows}

-- a literal name is the name itself, or the star that stands for all; a prefixed one has the name
-- go on from it
abbrev pub CoversName : Pattern → List ℕ → List ℕ → Type 0
CoversName Literal own name = (own ≡ name) ⊎ (own ≡ codes "*")
CoversName Prefixed own name = (rest : List ℕ) × (name ≡ own ++ rest)

abbrev pub Covers : Binding → Kind → List ℕ → Type 0
Covers b kind name = (b.kind ≡ kind) × CoversName b.pattern b.name name

-- the principal is the binding's, or the binding is for all users; and so with the host
abbrev pub Applies : Binding → List ℕ → List ℕ → Type 0
Applies b who host =
    ((b.principal ≡ who) ⊎ (b.principal ≡ codes "User:*"))
    × ((b.host ≡ host) ⊎ (b.host ≡ codes "*"))

-- whoever may read, write, delete or alter may describe, and whoever may alter configs may describe
-- them
abbrev pub Implies : Operation → Operation → Type 0
Implies own op =
    ((op ≡ Describe) × ((own ≡ Read) ⊎ (own ≡ Write) ⊎ (own ≡ Delete) ⊎ (own ≡ Alter)))
    ⊎ ((op ≡ DescribeConfigs) × (own ≡ AlterConfigs))

-- a denial denies its own operation, or all, and nothing that the operation implies
abbrev pub Denies : Binding → Operation → Type 0
Denies b op = (b.permission ≡ Deny) × ((b.operation ≡ op) ⊎ (b.operation ≡ All))

-- a grant allows its own operation, all, or what the operation implies
abbrev pub Allows : Binding → Operation → Type 0
Allows b op =
    (b.permission ≡ Allow) × ((b.operation ≡ op) ⊎ (b.operation ≡ All) ⊎ Implies b.operation op)

-- the tests are the relations
pub record TestsAreRelations : Type 0 where
  pub covering : (b : Binding) (kind : Kind) (name : List ℕ)
      → (covers b kind name ≡ true) ↔ Covers b kind name
  pub applying : (b : Binding) (who host : List ℕ)
      → (applies b who host ≡ true) ↔ Applies b who host
  pub denying : (b : Binding) (op : Operation) → (denies b op ≡ true) ↔ Denies b op
  pub allowing : (b : Binding) (op : Operation) → (allows b op ≡ true) ↔ Allows b op
