use Rattle.std.proofs.Common.{◌≡◌, [], ◌++◌, ap, sym, ◌∙◌, rules, append-nil}
use Rattle.std.specs.Map.{values_of}
use Rattle.std.proofs.lemmas.List.{take_all, map-id}
use Rattle.std.proofs.lemmas.Map.Iter.{rest_so_far}
use Rattle.msg_acl.specs.declared.describe_acls.DescribedResource.{DescribedResource}
use Rattle.acl_handlers.specs.DescribeAcls.{first_of_each}
use Rattle.acl_handlers.specs.Groups.{groups_of}
use Rattle.acl_handlers.proofs.Groups.{groups_told}
use Rattle.acl_handlers.proofs.describe_acls.described.Goals as goal

pub returns : goal.returns
returns c =
    let ran = c.in_ok-resources.ensures.ran in
    let rest = ran.1.2 (search rules) in
    let all : c.into_values.result ≡ ran.0 =
    rest_so_far (λ (r : DescribedResource). r) ran.0 c.into_values.result ran.1.0 ran.1.1 ∙ (λ i. map-id ran.0 i ++ rest.1.0 i) ∙ append-nil ran.0 in
    let groups : c.loop-binding.groups.entries ≡ groups_of c.args.bindings.now =
    c.loop-binding.invariant ∙ ap groups_of (take_all c.loop-binding.binding-index c.args.bindings.now c.loop-binding-test.false) in
    c.from.ensures ∙ ran.2.0 ∙ sym all ∙ c.into_values.ensures.rest ∙ ap values_of groups ∙ groups_told c.args.bindings.now (first_of_each [] c.args.bindings.now)
