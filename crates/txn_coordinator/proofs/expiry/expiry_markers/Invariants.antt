use Rattle.std.proofs.Common.{◌≡◌, ◌++◌, drop}
use Rattle.std.specs.List.{flat_map}
use Rattle.txn_coordinator.specs.Expiry.{expiry_markers}
use Rattle.txn_coordinator.specs.Bounds.{AllCanRaise}
use Rattle.txn_coordinator.proofs.expiry.expiry_markers.Given as goal

abbrev pub invariant-loop-transaction : goal.invariant-loop-transaction
invariant-loop-transaction l = record {
  can_raise : AllCanRaise (drop l.transaction-index l.transactions);
  owed : l.owed.items ++ flat_map (expiry_markers l.moment) (drop l.transaction-index l.transactions) ≡ flat_map (expiry_markers l.moment) l.transactions;
}
