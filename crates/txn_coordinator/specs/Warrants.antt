-- The markers that are pending, written one after the other (KIP-98, 'WriteTxnMarkersRequest').
use Rattle.std.specs.Prelude.{ℕ, Bool, List, [], ◌∷◌, slice_get, Option, Some, None, if◌then◌else◌}
use Rattle.std.specs.List.{list_any}
use Rattle.std.specs.Str.{bytes_eq}
use Rattle.txn_coordinator.specs.declared.transaction.Transaction.{Transaction}
use Rattle.record_batch.specs.declared.transaction_result.TransactionResult.{TransactionResult}
use Rattle.txn_coordinator.specs.declared.marker.PendingMarker.{PendingMarker}
use Rattle.txn_coordinator.specs.Words.{completed_phase}
use Rattle.txn_coordinator.specs.Coordinator.{CoordinatorValue, id_record, records_with}

abbrev pub next_warrant : CoordinatorValue → Option PendingMarker
next_warrant c = slice_get c.warrants 0

-- the id owes a marker; its producer id doesn't tell, since it may be a new one by then
abbrev pub has_pending_marker : List PendingMarker → List ℕ → Bool
has_pending_marker owed id = list_any (λ (m : PendingMarker). bytes_eq m.id id) owed

abbrev pub completed_transaction : TransactionResult → Transaction → Transaction
completed_transaction outcome t =
    record t { state = completed_phase outcome; partitions = []; groups = [] }

abbrev pub with_completed : TransactionResult → Option Transaction → List Transaction
    → List Transaction
with_completed outcome None ts = ts
with_completed outcome (Some t) ts = records_with ts (completed_transaction outcome t)

-- the last marker of an id completes its transaction
abbrev pub after_marker : PendingMarker → List PendingMarker → List Transaction → List Transaction
after_marker m rest ts =
    if has_pending_marker rest m.id then ts else with_completed m.outcome (id_record ts m.id) ts

abbrev pub with_first_written : CoordinatorValue → List PendingMarker → CoordinatorValue
with_first_written c [] = c
with_first_written c (m ∷ rest) =
    record c { transactions = after_marker m rest c.transactions; warrants = rest }

-- the front marker is written
abbrev pub with_front_written : CoordinatorValue → CoordinatorValue
with_front_written c = with_first_written c c.warrants
