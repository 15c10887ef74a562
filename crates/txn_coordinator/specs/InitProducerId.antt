-- InitProducerId for a transactional id (KIP-98, 'InitPidRequest'): the id gets a pair that no
-- earlier producer has.
use Rattle.std.specs.Prelude.{ℕ, ℤ, pos, negsuc, ◌&&◌, nat_le, int_le, List, [], ◌∷◌, Option, Some, None, if◌then◌else◌}
use Rattle.wire_types.specs.declared.error_code.ErrorCode.TheVariants as codes
use Rattle.txn_coordinator.specs.declared.transaction.TransactionState.{TransactionState}
use Rattle.txn_coordinator.specs.declared.transaction.TransactionState.TheVariants.{Empty, Ongoing, PrepareCommit, PrepareAbort, CompleteCommit, CompleteAbort}
use Rattle.txn_coordinator.specs.declared.transaction.Transaction.{Transaction}
use Rattle.txn_coordinator.specs.Transition.{Transition, Stays, Puts}
use Rattle.txn_coordinator.specs.Words.{is_empty, next_id_and_epoch, given_after}
use Rattle.txn_coordinator.specs.Coordinator.{CoordinatorValue, id_record, fresh_producer_id}
use Rattle.txn_coordinator.specs.Preparing.{fence_transition}

-- the timeout that is asked for, where it is from 1 to the greatest
abbrev pub timeout_within : ℤ → ℤ → Option ℕ
timeout_within (pos n) greatest = if nat_le 1 n && int_le (pos n) greatest then Some n else None
timeout_within (negsuc n) greatest = None

-- a new id: a fresh producer id with epoch 0
abbrev pub new_transaction : List ℕ → ℤ → ℕ → Transaction
new_transaction id producer timeout = record {
  id = id;
  pair = record { producer = producer; epoch = pos 0 };
  timeout = timeout;
  start = 0;
  state = Empty;
  partitions = [];
  groups = [];
  kept = None;
}

-- nothing is open: the id gets the pair that follows its own
abbrev pub begin_transition : Transaction → ℤ → ℕ → Transition
begin_transition t next timeout =
    Puts codes.None
    (record t
    { pair = next_id_and_epoch t.pair next; timeout = timeout; state = Empty; kept = None })
    (given_after t.pair t.id) []

-- an open transaction is aborted first, and one that waits for its markers is waited for
abbrev pub init_in : TransactionState → Transaction → ℤ → ℕ → Transition
init_in Empty t next timeout = begin_transition t next timeout
init_in CompleteCommit t next timeout = begin_transition t next timeout
init_in CompleteAbort t next timeout = begin_transition t next timeout
init_in Ongoing t next timeout = fence_transition codes.ConcurrentTransactions t
init_in PrepareCommit t next timeout = Stays codes.ConcurrentTransactions
init_in PrepareAbort t next timeout = Stays codes.ConcurrentTransactions

abbrev pub init_for : Option ℕ → Option Transaction → List ℕ → ℤ → Transition
init_for None found id next = Stays codes.InvalidTransactionTimeout
init_for (Some timeout) None id next =
    Puts codes.None (new_transaction id next timeout) (Some id ∷ []) []
init_for (Some timeout) (Some t) id next = init_in t.state t next timeout

abbrev pub init : CoordinatorValue → List ℕ → ℤ → ℤ → Transition
init c id timeout greatest =
    if is_empty id then Stays codes.InvalidRequest
    else init_for (timeout_within timeout greatest) (id_record c.transactions id) id
    (fresh_producer_id c)
