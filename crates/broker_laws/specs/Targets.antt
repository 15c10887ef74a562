-- What transactions take in exists: so each marker that is pending has a log or a group to be
-- written to.
use Rattle.std.specs.Prelude.{◌≡◌, Bool, true, List, is_some}
use Rattle.txn_coordinator.specs.declared.target.Target.{Target}
use Rattle.txn_coordinator.specs.declared.target.Target.TheVariants.{Partition, Group}
use Rattle.txn_coordinator.specs.declared.transaction.Transaction.{Transaction}
use Rattle.txn_coordinator.specs.declared.marker.PendingMarker.{PendingMarker}
use Rattle.txn_coordinator.specs.Words.{targets}
use Rattle.txn_coordinator.specs.Coordinator.{CoordinatorValue}
use Rattle.txn_laws.specs.Sound.{Each}
use Rattle.broker_world.specs.World.{World, TopicValue}
use Rattle.broker_world.specs.Logs.{log_at}

-- the target is a partition that is there, or any group: a group begins with the first call that
-- changes it
abbrev pub is_there : List TopicValue → Target → Bool
is_there topics (Partition p) = is_some (log_at topics p.topic p.index)
is_there topics (Group g) = true

abbrev pub IsThere : List TopicValue → Target → Type 0
IsThere topics target = is_there topics target ≡ true

-- all that the transaction takes in
abbrev pub TakesInExisting : List TopicValue → Transaction → Type 0
TakesInExisting topics t = Each (IsThere topics) (targets t)

abbrev pub IsPendingToExisting : List TopicValue → PendingMarker → Type 0
IsPendingToExisting topics m = IsThere topics m.target

-- all that transactions take in, and all to which a marker is pending
pub record AllExist (topics : List TopicValue) (c : CoordinatorValue) : Type 0 where
  pub added : Each (TakesInExisting topics) c.transactions
  pub owed : Each (IsPendingToExisting topics) c.warrants

abbrev pub HasTargets : World → Type 0
HasTargets w = AllExist w.topics w.coordinator
