-- Partitions as keys.
use Rattle.std.specs.Prelude.{ℕ, ℤ, Bool, ◌&&◌, List}
use Rattle.std.specs.Ordering.{int_eq}
use Rattle.std.specs.Str.{bytes_eq}
use Rattle.std.specs.String.{string_bytes}
use Rattle.group_offsets.specs.declared.partition.Partition.{Partition}

-- the key is that of this partition
abbrev pub is_key : List ℕ → ℤ → Partition → Bool
is_key topic index k = bytes_eq topic (string_bytes k.topic) && int_eq index k.index
