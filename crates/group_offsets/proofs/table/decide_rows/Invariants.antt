use Rattle.std.proofs.Common.{◌≡◌, take}
use Rattle.indexmap.specs.IndexMap.{keys, values}
use Rattle.group_offsets.specs.Kept.{AreDecided}
use Rattle.group_offsets.proofs.table.decide_rows.Given as goal

abbrev pub invariant-loop-at : goal.invariant-loop-at
invariant-loop-at l = record {
  decided : AreDecided (take l.at-index l.places) l.producer l.outcome (values l.fn.rows) (values l.rows);
  same : keys l.rows ≡ keys l.fn.rows;
}
