use Rattle.std.proofs.Common.{subst, rules, Any, ap, ◌∙◌}
use Rattle.request_handlers.specs.Core.{CoreValue}
use Rattle.session_workers.specs.Settle.{IsInTrail}
use Rattle.session_workers.proofs.Places.{told_places}
use Rattle.session_workers.proofs.settlement.settle.Goals as goal

pub returns-then-not-are_told-clause-err : goal.returns-then-not-are_told-clause-err
returns-then-not-are_told-clause-err g c = subst (λ t. Any (λ v. Any (λ r. ¬ IsInTrail t r) v.items) c.args.ends.now) (c.trail-trail.ensures.trail ∙ ap (λ (k : CoreValue). k.trail) c.core.ensures) c.if-not-are_told.ensures

pub tick_ends-requires : goal.tick_ends-requires
tick_ends-requires g c = told_places c.trail-trail.result.now c.args.ends.now _ (search rules) c.if-not-are_told.ensures
