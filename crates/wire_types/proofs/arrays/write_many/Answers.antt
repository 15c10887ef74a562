use Rattle.wire_types.proofs.Writes.{text_goes_on, fit_goes_on}
use Rattle.wire_types.proofs.Fronts.{after_spelling}
use Rattle.wire_types.proofs.arrays.write_many.Goals as goal

pub loop-item-preserved : goal.loop-item-preserved
loop-item-preserved g c =
    let i = c.loop-item.item-index in
    record {
      fit = fit_goes_on g.T.Wire.grammar.fits c.args.items.now i c.item-item.result _ c.loop-item-test.true c.item-item.is c.in-Ok.ensures.spelled.0 c.loop-item.invariant.fit;
      text = text_goes_on g.T.Wire.grammar c.args.items.now i c.item-item.result c.loop-item.out.items c.write.new.out.items _ c.loop-item-test.true c.item-item.is c.in-Ok.ensures.spelled.1 c.loop-item.invariant.text;
      begun = after_spelling g.T.Wire.grammar c.args.out.now.items c.loop-item.out.items c.write.new.out.items c.item-item.result c.in-Ok.ensures.spelled.1 c.loop-item.invariant.begun;
    }
