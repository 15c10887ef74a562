use Rattle.std.proofs.Common.{◌≡◌, Option, None, false, true, arith, rules, subst}
use Rattle.std.specs.Prelude.{IsSome}
use Rattle.session_workers.proofs.Keeping.{came_more, halted, ended}
use Rattle.session_workers.proofs.keeper.keep.Goals as goal
use Rattle.session_workers.proofs.keeper.keep.Goals.{in-None, in-Some+in_default}

pub returns-then-not-on_result-clause-ran : goal.returns-then-not-on_result-clause-ran
returns-then-not-on_result-clause-ran g c =
    halted _ _ _ _ _ _ _ _ _ _ _ _ _ _ c.loop.invariant.came c.next-in-loop.ensures (search rules) c.submit-back.ensures.added c.on_result.ensures.goes_on (search rules) c.why_of.ensures

pub loop-preserved : goal.loop-preserved
loop-preserved g c = record {
  risen = omega (arith, c.loop.invariant.risen, c.submit-back.ensures.risen);
  came = came_more _ _ _ _ _ _ _ _ _ _ _ _ _ c.loop.invariant.came c.next-in-loop.ensures (search rules) c.submit-back.ensures.added c.submit-back.ensures.state c.on_result.ensures.told;
}

-- the loop has no end of its own
pub returns-clause-ran : goal.returns-clause-ran
returns-clause-ran g c = elim c.match-next.branch [
  | in-None w ↦ absurd (let none : c.next.result ≡ None = search rules in let clash : false ≡ true = subst (λ (o : Option (Unit {0})). IsSome o) none c.next.ensures.steps in cc)
  | in-Some+in_default w ↦ ended _ _ _ g.K.Steps.halts _ _ _ _ _ c.loop.invariant.came w.next-in-loop.ensures (search rules)
]
