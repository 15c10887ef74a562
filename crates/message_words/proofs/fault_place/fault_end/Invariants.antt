use Rattle.std.proofs.Common.{◌≡◌, ◌≤◌, ◌<◌, ◌-◌, length, take, true, false}
use Rattle.message_words.specs.FaultPlace.{is_short}
use Rattle.message_words.proofs.fault_place.fault_end.Given as goal

-- the front of `short` bytes is too short, and that of `enough` isn't, unless it is all
abbrev pub invariant-loop-enough : goal.invariant-loop-enough
invariant-loop-enough l = record {
  ordered : l.short ≤ l.enough;
  apart : 0 < l.enough → l.short < l.enough;
  within : l.enough ≤ length l.frame;
  told : l.enough < length l.frame → is_short (take l.enough l.frame) ≡ false;
  before : is_short (take l.short l.frame) ≡ true;
}

abbrev pub decreases-loop-enough : goal.decreases-loop-enough
decreases-loop-enough l = l.enough - l.short
