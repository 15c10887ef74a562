-- A transaction is prepared: its outcome is decided, and a marker is owed to each partition and
-- group that was added (KIP-98, 'EndTxn', and KIP-447 for groups).
use Rattle.std.specs.Prelude.{ℕ, List, [], map, Option, Some, None, if◌then◌else◌}
use Rattle.std.specs.Ordering.{int_eq}
use Rattle.std.specs.Prelude.{◌&&◌, int_lt}
use Rattle.wire_types.specs.declared.error_code.ErrorCode.{ErrorCode}
use Rattle.wire_types.specs.declared.error_code.ErrorCode.TheVariants.{InvalidProducerIdMapping}
use Rattle.txn_coordinator.specs.declared.producer_id.ProducerIdAndEpoch.{ProducerIdAndEpoch}
use Rattle.txn_coordinator.specs.declared.target.Target.{Target}
use Rattle.txn_coordinator.specs.declared.transaction.TransactionState.TheVariants.{PrepareAbort}
use Rattle.txn_coordinator.specs.declared.transaction.Transaction.{Transaction}
use Rattle.record_batch.specs.declared.transaction_result.TransactionResult.{TransactionResult}
use Rattle.record_batch.specs.declared.transaction_result.TransactionResult.TheVariants.{Abort}
use Rattle.txn_coordinator.specs.declared.marker.PendingMarker.{PendingMarker}
use Rattle.txn_coordinator.specs.Transition.{Transition, Puts}
use Rattle.txn_coordinator.specs.Words.{last_epoch, with_next_epoch, targets}

-- the marker that the transaction owes to one target
abbrev pub marker_for : List ℕ → ProducerIdAndEpoch → TransactionResult → Target → PendingMarker
marker_for id pair outcome target =
    record { id = id; pair = pair; outcome = outcome; target = target }

-- one for each added partition, then one for each added group, in the order of adding
abbrev pub markers : Transaction → ProducerIdAndEpoch → TransactionResult → List PendingMarker
markers t pair outcome = map (marker_for t.id pair outcome) (targets t)

-- ---- fencing: the transaction is aborted, and its producer shut out by the next epoch, which the
-- markers carry

abbrev pub fenced_transaction : Transaction → Transaction
fenced_transaction t = record t { pair = with_next_epoch t.pair; state = PrepareAbort }

abbrev pub fence_markers : Transaction → List PendingMarker
fence_markers t = markers t (with_next_epoch t.pair) Abort

abbrev pub fence_transition : ErrorCode → Transaction → Transition
fence_transition code t = Puts code (fenced_transaction t) [] (fence_markers t)

-- ---- who speaks for an id

-- the refusal of a call that doesn't come with the id's pair: of another producer id, or of another
-- epoch; the last epoch is nobody's
abbrev pub producer_refusal : ErrorCode → Transaction → ProducerIdAndEpoch → Option ErrorCode
producer_refusal other_epoch t p =
    if int_eq t.pair.producer p.producer
    then (if int_eq t.pair.epoch p.epoch && int_lt p.epoch last_epoch then None
    else Some other_epoch)
    else Some InvalidProducerIdMapping
