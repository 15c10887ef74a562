use Rattle.std.proofs.Common.{arith}
use Rattle.deadlines.proofs.Cuts.{more_passed}
use Rattle.deadlines.proofs.progress.Progress.pass.Goals as goal

pub loop-passed-preserved : goal.loop-passed-preserved
loop-passed-preserved c = record {
  within = grind arith;
  cut = λ came cut. more_passed came c.args.now c.args.bytes.now c.loop-passed.passed c.step-passed.result c.step-passed.new.self
      (c.step-passed.ensures.cut _ (c.loop-passed.invariant.cut came cut));
}
