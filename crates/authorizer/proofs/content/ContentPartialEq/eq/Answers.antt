use Rattle.std.proofs.Common.{◌∙◌}
use Rattle.acl_binding.specs.Binding.{same_binding}
use Rattle.acl_binding.proofs.Same.{derived_test}
use Rattle.authorizer.proofs.content.ContentPartialEq.eq.Goals as goal

pub returns : goal.returns
returns c = c.eq.ensures ∙ derived_test c.binding.result.now c.binding-2.result.now ∙ (λ i. same_binding (c.binding.ensures i) (c.binding-2.ensures i))
