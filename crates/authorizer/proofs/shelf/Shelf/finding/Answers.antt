use Rattle.std.proofs.Common.{◌∙◌, ap}
use Rattle.acl_binding.specs.Binding.{any_principal}
use Rattle.authorizer.specs.Index.{bindings_under}
use Rattle.authorizer.specs.Looking.{finding_of, combined_finding}
use Rattle.authorizer.specs.declared.looking.Finding.{Finding}
use Rattle.authorizer.proofs.ByPrincipal.{rising_held, found_by}
use Rattle.authorizer.proofs.shelf.Shelf.finding.Goals as goal

pub of-own-requires : goal.of-own-requires
of-own-requires c = rising_held c.self.inside.principals c.in-Some.principals c.self.inside.all c.held.result.now c.as_str.result.now c.in-Some.is c.self.invariant (rw c.self.view_is c.requires) c.held.ensures

pub of-requires : goal.of-requires
of-requires c = rising_held c.self.inside.principals c.in-Some.principals c.self.inside.all c.held-in-Some.result.now any_principal c.in-Some.is c.self.invariant (rw c.self.view_is c.requires) c.held-in-Some.ensures

pub returns-in-Some : goal.returns-in-Some
returns-in-Some c = rw (← c.self.view_is)
    (c.joined.ensures
    ∙ ap (λ (f : Finding). combined_finding f c.of.result) c.of-own.ensures
    ∙ ap (λ (f : Finding). combined_finding (finding_of c.held.result.now c.args.question.now) f) c.of.ensures
    ∙ found_by c.self.inside.principals c.in-Some.principals c.self.inside.all c.args.question.now c.held.result.now c.held-in-Some.result.now c.in-Some.is c.self.invariant
    (c.held.ensures ∙ ap (bindings_under c.in-Some.principals) c.as_str.ensures) c.held-in-Some.ensures)
