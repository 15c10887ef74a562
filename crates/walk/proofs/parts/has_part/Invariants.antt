use Rattle.std.proofs.Common.{◌≡◌, drop}
use Rattle.walk.specs.Woven.{has_part}
use Rattle.walk.proofs.parts.has_part.Given as goal

-- what is left decides
abbrev pub invariant-loop-topic : goal.invariant-loop-topic
invariant-loop-topic g l = has_part (drop l.topic-index l.topics) ≡ has_part l.topics
