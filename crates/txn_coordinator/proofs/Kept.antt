-- What every call leaves.
use Rattle.std.proofs.Common.{[], ◌∷◌, None}
use Rattle.txn_coordinator.specs.Coordinator.{CoordinatorValue}
use Rattle.txn_coordinator.specs.InitProducerId.{init}
use Rattle.txn_coordinator.specs.Adding.{add_partitions, add_group}
use Rattle.txn_coordinator.specs.EndTxn.{end}
use Rattle.txn_coordinator.specs.Bounds.{IsCoordinator}
use Rattle.txn_coordinator.specs.Laws.{KeepsRanges}
use Rattle.txn_coordinator.proofs.Ranges.{taken, given_range, init_range, partitions_range, group_range, end_range, expired_range, written_range}
use Rattle.std.proofs.Common.{length}

pub kept : (c : CoordinatorValue) → IsCoordinator c → KeepsRanges c
kept c s = record {
  from_init = λ id timeout greatest. taken c (init c id timeout greatest) s (init_range c id timeout greatest s);
  from_partitions = λ id pair moment partitions. taken c (add_partitions c id pair moment partitions) s (partitions_range c id pair moment partitions s);
  from_group = λ id pair moment group. taken c (add_group c id pair moment group) s (group_range c id pair moment group s);
  from_end = λ form id pair outcome. taken c (end c form id pair outcome) s (end_range c form id pair outcome s);
  from_fresh = given_range c.given (None ∷ []) c.transactions s;
  from_expiry = λ moment. expired_range (length c.given) moment c.transactions s;
  from_marker = written_range c s;
}
