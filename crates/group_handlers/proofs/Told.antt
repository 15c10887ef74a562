-- Partition by partition: what is told of one, and then of those after it.
use Rattle.std.proofs.Common.{◌≡◌, ℕ, pos, suc, ◌+◌, ◌-◌, ◌<◌, List, ◌++◌, Bool, ap, arith}
use Rattle.group_offsets.specs.declared.event.OffsetEvent.{OffsetEvent}
use Rattle.group_handlers.specs.OffsetFetch.{listed_offset_at, listed_offsets_from}

-- what is told of a partition, and then of those after it
pub told_more : (es : List OffsetEvent) (stable : Bool) (name : List ℕ) (n i : ℕ) → i < n → listed_offsets_from es stable name i (n - i) ≡ listed_offset_at es stable name (pos i) ++ listed_offsets_from es stable name (i + 1) (n - (i + 1))
told_more es stable name n i lt = let more : n - i ≡ suc (n - (i + 1)) = omega arith in ap (listed_offsets_from es stable name i) more
