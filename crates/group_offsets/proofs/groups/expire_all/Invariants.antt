use Rattle.std.proofs.Common.{◌≡◌, ◌++◌, drop, length, take}
use Rattle.group_offsets.specs.Named.{all_expired}
use Rattle.group_offsets.proofs.groups.expire_all.Given as goal

-- what is done so far, and then what is left
abbrev pub invariant-loop-place : goal.invariant-loop-place
invariant-loop-place l = record {
  done : take l.place l.groups.entries ++ all_expired l.moment (drop l.place l.groups.entries) ≡ all_expired l.moment l.fn.groups.entries;
  count : length l.groups.entries ≡ l.place-end;
}
