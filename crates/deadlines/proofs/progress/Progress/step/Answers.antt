use Rattle.std.proofs.Common.{arith, take}
use Rattle.std.proofs.lemmas.List.{length-take}
use Rattle.deadlines.proofs.Cuts.{first, fourth, further, one_byte, second, third}
use Rattle.deadlines.proofs.progress.Progress.step.Goals as goal

pub returns-in-Nothing-clause-cut : goal.returns-in-Nothing-clause-cut
returns-in-Nothing-clause-cut c came cut =
    one_byte came c.args.now c.args.bytes.now _ c.requires
    (first came c.args.self.now c.args.now _ c.in-Nothing.is cut)

pub returns-in-One-clause-cut : goal.returns-in-One-clause-cut
returns-in-One-clause-cut c came cut =
    one_byte came c.args.now c.args.bytes.now _ c.requires
    (second came c.args.self.now c.args.now c.in-One.a _ c.in-One.is cut)

pub returns-in-Two-clause-cut : goal.returns-in-Two-clause-cut
returns-in-Two-clause-cut c came cut =
    one_byte came c.args.now c.args.bytes.now _ c.requires
    (third came c.args.self.now c.args.now c.in-Two.a c.in-Two.b _ c.in-Two.is cut)

pub returns-in-Three-clause-cut : goal.returns-in-Three-clause-cut
returns-in-Three-clause-cut c came cut =
    one_byte came c.args.now c.args.bytes.now _ c.requires
    (fourth came c.args.self.now c.args.now c.in-Three.a c.in-Three.b c.in-Three.c _ c.from_be_bytes.result _ c.in-Three.is c.from_be_bytes.ensures c.part_of-self.ensures cut)

pub returns-in-Body-clause-cut : goal.returns-in-Body-clause-cut
returns-in-Body-clause-cut c came cut =
    further came c.args.self.now c.args.now c.in-Body.more _ (take c.min-count.result c.args.bytes.now) _ c.in-Body.is
    (grind (arith, length-take)) c.part_of-self-in-Body.ensures cut
