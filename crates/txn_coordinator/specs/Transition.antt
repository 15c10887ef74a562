-- What a call comes to, before anything is changed.
use Rattle.std.specs.Prelude.{ℕ, List, Option}
use Rattle.wire_types.specs.declared.error_code.ErrorCode.{ErrorCode}
use Rattle.txn_coordinator.specs.declared.transaction.Transaction.{Transaction}
use Rattle.txn_coordinator.specs.declared.marker.PendingMarker.{PendingMarker}

-- a code alone; or a code with the record that is put, the owners of the producer ids that are
-- given out for it, and the markers that are pending from then on
pub data Transition : Type 0 where
  Stays : ErrorCode → Transition
  Puts : ErrorCode → Transaction → List (Option (List ℕ)) → List PendingMarker → Transition
