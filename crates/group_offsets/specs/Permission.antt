-- Who may call on a group.
use Rattle.std.specs.Prelude.{◌≡◌, ℕ, List}
use Rattle.acl_binding.specs.declared.words.Kind.TheVariants as kinds
use Rattle.acl_binding.specs.declared.words.Operation.{Operation}
use Rattle.authorizer.specs.Policy.{PolicyValue, PermitValue, IsGood}

-- the permit may be spent, and it is for this operation on the group of this name
pub record MayUse (policy : PolicyValue) (op : Operation) (name : List ℕ) (permit : PermitValue)
    : Type 0 where
  pub good : IsGood policy permit
  pub operation : permit.question.op ≡ op
  pub kind : permit.question.kind ≡ kinds.Group
  pub named : permit.question.name ≡ name
