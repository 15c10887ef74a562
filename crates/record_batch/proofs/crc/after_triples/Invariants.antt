use Rattle.std.proofs.Common.{◌≡◌, drop}
use Rattle.std.specs.List.{concat, flat_map}
use Rattle.record_batch.specs.Crc.{crc_after}
use Rattle.record_batch.proofs.Triples.{joined}
use Rattle.record_batch.proofs.crc.after_triples.Given as goal

abbrev pub invariant-loop-one : goal.invariant-loop-one
invariant-loop-one l = crc_after (joined l.first l.second l.third) (flat_map concat (drop l.one-index l.triples)) ≡ crc_after l.fn.crc (flat_map concat l.fn.triples)
