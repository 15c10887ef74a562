-- Transactions whose time is over (KIP-98, 'transaction.timeout.ms').
use Rattle.std.specs.Prelude.{ℕ, ◌+◌, Bool, ◌&&◌, nat_lt, List, [], ◌++◌, map, if◌then◌else◌}
use Rattle.std.specs.List.{flat_map}
use Rattle.txn_coordinator.specs.declared.transaction.Transaction.{Transaction}
use Rattle.txn_coordinator.specs.declared.marker.PendingMarker.{PendingMarker}
use Rattle.txn_coordinator.specs.Words.{is_ongoing}
use Rattle.txn_coordinator.specs.Coordinator.{CoordinatorValue}
use Rattle.txn_coordinator.specs.Preparing.{fenced_transaction, fence_markers}

-- it is open, and the end of its time lies before the moment
abbrev pub is_due : ℕ → Transaction → Bool
is_due moment t = is_ongoing t.state && nat_lt (t.start + t.timeout) moment

abbrev pub fenced_if_due : ℕ → Transaction → Transaction
fenced_if_due moment t = if is_due moment t then fenced_transaction t else t

abbrev pub expiry_markers : ℕ → Transaction → List PendingMarker
expiry_markers moment t = if is_due moment t then fence_markers t else []

-- each that is due is fenced, in the order of the ids' creation
abbrev pub expire : CoordinatorValue → ℕ → CoordinatorValue
expire c moment =
    record c {
      transactions = map (fenced_if_due moment) c.transactions;
      warrants = c.warrants ++ flat_map (expiry_markers moment) c.transactions;
    }
