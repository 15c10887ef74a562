-- Who may write in a transaction: the check of Produce, for a partition, and of TxnOffsetCommit,
-- for a group.
use Rattle.std.specs.Prelude.{ℕ, ℤ, Bool, true, ◌&&◌, int_lt, List, Option, Some, None, if◌then◌else◌}
use Rattle.std.specs.Ordering.{int_eq}
use Rattle.wire_types.specs.declared.error_code.ErrorCode.{ErrorCode}
use Rattle.wire_types.specs.declared.error_code.ErrorCode.TheVariants as codes
use Rattle.txn_coordinator.specs.declared.producer_id.ProducerIdAndEpoch.{ProducerIdAndEpoch}
use Rattle.txn_coordinator.specs.declared.target.Target.{Target}
use Rattle.txn_coordinator.specs.declared.target.Target.TheVariants.{Partition, Group}
use Rattle.txn_coordinator.specs.declared.transaction.Transaction.{Transaction}
use Rattle.txn_coordinator.specs.Words.{last_epoch, has_target, is_ongoing}
use Rattle.txn_coordinator.specs.Coordinator.{CoordinatorValue, id_record}

-- TxnOffsetCommit takes the last epoch for another one; a Produce with it is told that nothing is
-- open
abbrev pub is_usable : Target → ℤ → Bool
is_usable (Partition p) epoch = true
is_usable (Group g) epoch = int_lt epoch last_epoch

abbrev pub holding_code_of : Option Transaction → ProducerIdAndEpoch → Target → ErrorCode
holding_code_of None pair target = codes.InvalidProducerIdMapping
holding_code_of (Some t) pair target =
    if int_eq t.pair.producer pair.producer
    then (if int_eq t.pair.epoch pair.epoch && is_usable target pair.epoch
    then (if is_ongoing t.state && has_target t target then codes.None else codes.InvalidTxnState)
    else codes.InvalidProducerEpoch)
    else codes.InvalidProducerIdMapping

abbrev pub holding_code : CoordinatorValue → List ℕ → ProducerIdAndEpoch → Target → ErrorCode
holding_code c id pair target = holding_code_of (id_record c.transactions id) pair target
