use Rattle.std.proofs.Common.{◌≡◌, ◌++◌, drop, length, take}
use Rattle.std.specs.Map.{values_of}
use Rattle.txn_coordinator.specs.Bounds.{AllCanRaise}
use Rattle.txn_coordinator.specs.Kept.{all_expired}
use Rattle.txn_coordinator.proofs.expiry.expire_all.Given as goal

-- what is done so far, and then what is left, in which each epoch can be raised
abbrev pub invariant-loop-place : goal.invariant-loop-place
invariant-loop-place l = record {
  done : take l.place l.records.entries ++ all_expired l.moment (drop l.place l.records.entries) ≡ all_expired l.moment l.fn.records.entries;
  count : length l.records.entries ≡ l.place-end;
  can_raise : AllCanRaise (values_of (drop l.place l.records.entries));
}
