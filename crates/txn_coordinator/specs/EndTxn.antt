-- EndTxn (KIP-98, 'EndTxnRequest'; KIP-890 for version 5, in which each ending raises the epoch).
use Rattle.std.specs.Prelude.{ℕ, ℤ, Bool, false, List, [], Option, Some, None, if◌then◌else◌}
use Rattle.wire_types.specs.declared.error_code.ErrorCode.{ErrorCode}
use Rattle.wire_types.specs.declared.error_code.ErrorCode.TheVariants as codes
use Rattle.txn_coordinator.specs.declared.producer_id.ProducerIdAndEpoch.{ProducerIdAndEpoch}
use Rattle.txn_coordinator.specs.declared.transaction.TransactionState.{TransactionState}
use Rattle.txn_coordinator.specs.declared.transaction.TransactionState.TheVariants.{Empty, Ongoing, PrepareCommit, PrepareAbort, CompleteCommit, CompleteAbort}
use Rattle.txn_coordinator.specs.declared.transaction.Transaction.{Transaction}
use Rattle.record_batch.specs.declared.transaction_result.TransactionResult.{TransactionResult}
use Rattle.record_batch.specs.declared.transaction_result.TransactionResult.TheVariants.{Commit, Abort}
use Rattle.txn_coordinator.specs.declared.marker.PendingMarker.{PendingMarker}
use Rattle.txn_coordinator.specs.declared.ending.EndForm.{EndForm}
use Rattle.txn_coordinator.specs.declared.ending.EndForm.TheVariants.{Plain, Fencing, Raising}
use Rattle.txn_coordinator.specs.Transition.{Transition, Stays, Puts}
use Rattle.txn_coordinator.specs.Words.{is_empty, is_same_producer, with_next_epoch, next_id_and_epoch, given_after, prepared_phase}
use Rattle.txn_coordinator.specs.Coordinator.{CoordinatorValue, id_record, fresh_producer_id}
use Rattle.txn_coordinator.specs.Preparing.{markers, producer_refusal}

-- the code for another epoch: from version 2 on the producer is told that it is fenced
abbrev pub other_epoch : EndForm → ErrorCode
other_epoch Plain = codes.InvalidProducerEpoch
other_epoch Fencing = codes.ProducerFenced
other_epoch Raising = codes.ProducerFenced

-- version 5: the id gets the pair that follows its own, and keeps the one that the call came with
abbrev pub renewal_transition : Transaction → ℤ → TransactionState → List PendingMarker → Transition
renewal_transition t next state owed =
    Puts codes.None
    (record t { pair = next_id_and_epoch t.pair next; state = state; kept = Some t.pair })
    (given_after t.pair t.id) owed

abbrev pub plain_prepare_transition : Transaction → TransactionResult → Transition
plain_prepare_transition t outcome =
    Puts codes.None (record t { state = prepared_phase outcome }) [] (markers t t.pair outcome)

-- an open transaction is prepared; in version 5 its markers carry the next epoch
abbrev pub end_ongoing : EndForm → Transaction → ℤ → TransactionResult → Transition
end_ongoing Plain t next outcome = plain_prepare_transition t outcome
end_ongoing Fencing t next outcome = plain_prepare_transition t outcome
end_ongoing Raising t next outcome =
    renewal_transition t next (prepared_phase outcome) (markers t (with_next_epoch t.pair) outcome)

-- nothing is open: version 5 has nothing to commit, and an abort renews the pair
abbrev pub end_closed : EndForm → Transaction → ℤ → TransactionResult → ErrorCode → Transition
end_closed Plain t next outcome code = Stays code
end_closed Fencing t next outcome code = Stays code
end_closed Raising t next Commit code = Stays codes.InvalidTxnState
end_closed Raising t next Abort code = renewal_transition t next CompleteAbort []

abbrev pub end_in : TransactionState → EndForm → Transaction → ℤ → TransactionResult → Transition
end_in Ongoing form t next outcome = end_ongoing form t next outcome
end_in PrepareCommit form t next Commit = Stays codes.ConcurrentTransactions
end_in PrepareCommit form t next Abort = Stays codes.InvalidTxnState
end_in PrepareAbort form t next Commit = Stays codes.InvalidTxnState
end_in PrepareAbort form t next Abort = Stays codes.ConcurrentTransactions
end_in Empty form t next outcome = end_closed form t next outcome codes.InvalidTxnState
end_in CompleteCommit form t next Commit = end_closed form t next Commit codes.None
end_in CompleteCommit form t next Abort = end_closed form t next Abort codes.InvalidTxnState
end_in CompleteAbort form t next Commit = end_closed form t next Commit codes.InvalidTxnState
end_in CompleteAbort form t next Abort = end_closed form t next Abort codes.None

-- ---- a version 5 call once more, with the pair that it came with the first time

abbrev pub is_kept : Option ProducerIdAndEpoch → ProducerIdAndEpoch → Bool
is_kept None pair = false
is_kept (Some kept) pair = is_same_producer kept pair

abbrev pub is_again : EndForm → Transaction → ProducerIdAndEpoch → Bool
is_again Plain t pair = false
is_again Fencing t pair = false
is_again Raising t pair = is_kept t.kept pair

abbrev pub end_again : TransactionState → TransactionResult → ErrorCode
end_again PrepareCommit Commit = codes.ConcurrentTransactions
end_again PrepareAbort Abort = codes.ConcurrentTransactions
end_again CompleteCommit Commit = codes.None
end_again CompleteAbort Abort = codes.None
end_again state outcome = codes.InvalidTxnState

-- ---- the call

abbrev pub end_by : Option ErrorCode → EndForm → Transaction → ℤ → TransactionResult → Transition
end_by (Some code) form t next outcome = Stays code
end_by None form t next outcome = end_in t.state form t next outcome

abbrev pub end_found : Option Transaction → EndForm → ℤ → ProducerIdAndEpoch → TransactionResult
    → Transition
end_found None form next pair outcome = Stays codes.InvalidProducerIdMapping
end_found (Some t) form next pair outcome =
    if is_again form t pair then Stays (end_again t.state outcome)
    else end_by (producer_refusal (other_epoch form) t pair) form t next outcome

abbrev pub end : CoordinatorValue → EndForm → List ℕ → ProducerIdAndEpoch → TransactionResult
    → Transition
end c form id pair outcome =
    if is_empty id then Stays codes.InvalidRequest
    else end_found (id_record c.transactions id) form (fresh_producer_id c) pair outcome
