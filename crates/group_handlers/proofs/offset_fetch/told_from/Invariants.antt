use Rattle.std.proofs.Common.{◌≡◌, ◌++◌, ◌-◌}
use Rattle.group_handlers.specs.OffsetFetch.{listed_offsets_from}
use Rattle.group_handlers.proofs.offset_fetch.told_from.Given as goal

-- what is told so far, and then what is left
abbrev pub invariant-loop-index : goal.invariant-loop-index
invariant-loop-index l = l.told ++ listed_offsets_from l.offsets l.stable l.name l.index (l.count - l.index) ≡ listed_offsets_from l.offsets l.stable l.name 0 l.count
