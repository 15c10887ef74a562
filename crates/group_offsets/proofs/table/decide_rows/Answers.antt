use Rattle.std.proofs.Common.{◌<◌, length, get_or, take, ℤ, ◌∙◌, w64, to_z, of_z, arith}
use Rattle.std.specs.Map.{values_of}
use Rattle.std.proofs.lemmas.List.{take_more}
use Rattle.std.proofs.lemmas.Map.Entries.{length-values_of}
use Rattle.group_offsets.proofs.Partitions.{keys_set, decided_row}
use Rattle.group_offsets.proofs.table.decide_rows.Goals as goal

pub index_mut-requires : goal.index_mut-requires
index_mut-requires c =
    let below = c.requires c.loop-at.at-index 0 c.loop-at-test.true in
    omega (arith, below, c.loop-at.invariant.decided.each, length-values_of c.args.rows.now.entries, length-values_of c.loop-at.rows.entries)

pub loop-at-preserved : goal.loop-at-preserved
loop-at-preserved c =
    let es = c.loop-at.rows.entries in
    let key : ℤ = to_z w64 (of_z w64 c.args.producer) in
    let at = get_or c.args.places.now c.loop-at.at-index 0 in
    let below = c.requires c.loop-at.at-index 0 c.loop-at-test.true in
    let within : at < length es = omega (arith, below, c.loop-at.invariant.decided.each, length-values_of c.args.rows.now.entries, length-values_of es) in
    record {
      decided = rw (take_more c.args.places.now c.loop-at.at-index 0 c.loop-at-test.true)
          (decided_row es at c.index_mut.result.now c.decide.new.self within c.index_mut.ensures.value (take c.loop-at.at-index c.args.places.now) key c.args.outcome (values_of c.args.rows.now.entries) c.decide.ensures c.loop-at.invariant.decided);
      same = keys_set es at c.decide.new.self ∙ c.loop-at.invariant.same;
    }
