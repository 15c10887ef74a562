-- A change of the book raises the edit number, so that no permit of before is good.
use Rattle.std.proofs.Common.{◌≡◌, ℕ, ◌+◌, ◌<◌, Option, None, is_some, cond, length, nat_eq, sym, ap, ◌∙◌, arith}
use Rattle.acl_binding.specs.declared.binding.Binding.{Binding}
use Rattle.acl_binding.specs.declared.filter.Filter.{Filter}
use Rattle.acl_binding.specs.Book.{number_of}
use Rattle.acl_binding.specs.Filter.{matching_bindings}
use Rattle.authorizer.specs.Policy.{PolicyValue, PermitValue, IsGood, policy_added, policy_removed}

raised_where_new : (o : Option ℕ) (edit : ℕ) → o ≡ None → cond (is_some o) edit (edit + 1) ≡ edit + 1
raised_where_new o edit e = ap (λ x. cond (is_some x) edit (edit + 1)) e

raised_where_any : (n edit : ℕ) → 0 < n → cond (nat_eq n 0) edit (edit + 1) ≡ edit + 1
raised_where_any n edit some = grind arith

pub good_until_added : (policy : PolicyValue) (b : Binding) (permit : PermitValue) → IsGood policy permit → number_of policy.book.entries b ≡ None → IsGood (policy_added policy b) permit → ⊥
good_until_added policy b permit before new after =
    let then' = before.current in
    let now = after.current in
    let raised = raised_where_new (number_of policy.book.entries b) policy.edit new in
    absurd (omega (arith, sym then' ∙ now ∙ raised))

pub good_until_taken_out : (policy : PolicyValue) (f : Filter) (permit : PermitValue) → IsGood policy permit → 0 < length (matching_bindings policy.book.entries f) → IsGood (policy_removed policy f) permit → ⊥
good_until_taken_out policy f permit before some after =
    let then' = before.current in
    let now = after.current in
    let raised = raised_where_any (length (matching_bindings policy.book.entries f)) policy.edit some in
    absurd (omega (arith, sym then' ∙ now ∙ raised))
