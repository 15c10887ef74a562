use Rattle.std.proofs.Common.{subst, take_all}
use Rattle.session_workers.specs.Settle.{AreInTrail}
use Rattle.session_workers.proofs.Places.{told_more, stray_at}
use Rattle.session_workers.proofs.settlement.are_told.Goals as goal

pub returns-then-not-all_told : goal.returns-then-not-all_told
returns-then-not-all_told c = stray_at _ _ _ _ _ c.loop-end-test.true c.end-item.is c.as_slice.ensures.value c.if-not-all_told.ensures

pub loop-end-preserved : goal.loop-end-preserved
loop-end-preserved c = told_more _ _ _ _ _ c.loop-end-test.true c.end-item.is c.as_slice.ensures.value c.loop-end.invariant c.if-not-all_told.ensures

pub returns : goal.returns
returns c = subst (AreInTrail c.args.trail.now) (take_all c.loop-end.end-index c.args.ends.now c.loop-end-test.false) c.loop-end.invariant
