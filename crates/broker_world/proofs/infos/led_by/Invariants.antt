use Rattle.std.proofs.Common.{◌≡◌, ◌++◌, ◌-◌}
use Rattle.broker_world.specs.Partitions.{partitions_from}
use Rattle.broker_world.proofs.infos.led_by.Given as goal

-- what is told so far, and then what is left
abbrev pub invariant-loop-index : goal.invariant-loop-index
invariant-loop-index l = l.infos ++ partitions_from l.node l.index (l.count - l.index) ≡ partitions_from l.node 0 l.count
