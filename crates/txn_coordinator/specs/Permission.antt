-- Who may call for a transactional id (KIP-98, 'Authorization').
use Rattle.std.specs.Prelude.{◌≡◌, ℕ, List}
use Rattle.acl_binding.specs.declared.words.Kind.TheVariants.{TransactionalId}
use Rattle.acl_binding.specs.declared.words.Operation.TheVariants.{Write}
use Rattle.authorizer.specs.Policy.{PolicyValue, PermitValue, IsGood}

-- a good permit of WRITE on the transactional id
pub record MayWrite (policy : PolicyValue) (permit : PermitValue) (id : List ℕ) : Type 0 where
  pub good : IsGood policy permit
  pub op : permit.question.op ≡ Write
  pub kind : permit.question.kind ≡ TransactionalId
  pub name : permit.question.name ≡ id
