use Rattle.std.proofs.Common.{arith}
use Rattle.message_words.proofs.FaultPlaces.{nothing_is_short}
use Rattle.message_words.proofs.fault_place.fault_end.Goals as goal

pub loop-enough-init : goal.loop-enough-init
loop-enough-init c = record {
  ordered = omega arith;
  apart = λ some. some;
  within = omega (arith, c.len-enough.ensures);
  told = λ less. absurd (omega (arith, less, c.len-enough.ensures));
  before = nothing_is_short;
}
