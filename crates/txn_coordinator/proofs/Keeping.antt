-- A call keeps the id of the record that it changes.
use Rattle.std.proofs.Common.{◌≡◌, ℕ, ℤ, Option, Some, None, Bool, true, false, cond, refl}
use Rattle.wire_types.specs.declared.error_code.ErrorCode.{ErrorCode}
use Rattle.wire_types.specs.declared.error_code.ErrorCode.TheVariants as codes
use Rattle.txn_coordinator.specs.declared.producer_id.ProducerIdAndEpoch.{ProducerIdAndEpoch}
use Rattle.txn_coordinator.specs.declared.transaction.Transaction.{Transaction}
use Rattle.txn_coordinator.specs.declared.transaction.TransactionState.{TransactionState}
use Rattle.txn_coordinator.specs.declared.transaction.TransactionState.TheVariants.{Empty, Ongoing, PrepareCommit, PrepareAbort, CompleteCommit, CompleteAbort}
use Rattle.record_batch.specs.declared.transaction_result.TransactionResult.{TransactionResult}
use Rattle.record_batch.specs.declared.transaction_result.TransactionResult.TheVariants.{Commit, Abort}
use Rattle.txn_coordinator.specs.declared.ending.EndForm.{EndForm}
use Rattle.txn_coordinator.specs.declared.ending.EndForm.TheVariants as forms
use Rattle.txn_coordinator.specs.Transition.{Transition, Stays}
use Rattle.txn_coordinator.specs.Adding.{record_after}
use Rattle.txn_coordinator.specs.InitProducerId.{init_in}
use Rattle.txn_coordinator.specs.Preparing.{producer_refusal}
use Rattle.txn_coordinator.specs.EndTxn.{other_epoch, end_ongoing, end_closed, end_in, is_again, end_again, end_by, end_found}

abbrev KeepsId : Transaction → Transition → Type 0
KeepsId t transition = (record_after transition t).id ≡ t.id

init_in_id : (state : TransactionState) (t : Transaction) (next : ℤ) (timeout : ℕ) → KeepsId t (init_in state t next timeout)
init_in_id Empty t next timeout = refl
init_in_id Ongoing t next timeout = refl
init_in_id PrepareCommit t next timeout = refl
init_in_id PrepareAbort t next timeout = refl
init_in_id CompleteCommit t next timeout = refl
init_in_id CompleteAbort t next timeout = refl

pub init_id : (t : Transaction) (next : ℤ) (timeout : ℕ) → (record_after (init_in t.state t next timeout) t).id ≡ t.id
init_id t next timeout = init_in_id t.state t next timeout

ongoing_id : (form : EndForm) (t : Transaction) (next : ℤ) (o : TransactionResult) → KeepsId t (end_ongoing form t next o)
ongoing_id forms.Plain t next o = refl
ongoing_id forms.Fencing t next o = refl
ongoing_id forms.Raising t next o = refl

closed_id : (form : EndForm) (t : Transaction) (next : ℤ) (o : TransactionResult) (code : ErrorCode) → KeepsId t (end_closed form t next o code)
closed_id forms.Plain t next o code = refl
closed_id forms.Fencing t next o code = refl
closed_id forms.Raising t next Commit code = refl
closed_id forms.Raising t next Abort code = refl

end_in_id : (state : TransactionState) (form : EndForm) (t : Transaction) (next : ℤ) (o : TransactionResult) → KeepsId t (end_in state form t next o)
end_in_id Ongoing form t next o = ongoing_id form t next o
end_in_id PrepareCommit form t next Commit = refl
end_in_id PrepareCommit form t next Abort = refl
end_in_id PrepareAbort form t next Commit = refl
end_in_id PrepareAbort form t next Abort = refl
end_in_id Empty form t next o = closed_id form t next o codes.InvalidTxnState
end_in_id CompleteCommit form t next Commit = closed_id form t next Commit codes.None
end_in_id CompleteCommit form t next Abort = closed_id form t next Abort codes.InvalidTxnState
end_in_id CompleteAbort form t next Commit = closed_id form t next Commit codes.InvalidTxnState
end_in_id CompleteAbort form t next Abort = closed_id form t next Abort codes.None

pub end_id : (t : Transaction) (form : EndForm) (next : ℤ) (p : ProducerIdAndEpoch) (o : TransactionResult) → (record_after (end_found (Some t) form next p o) t).id ≡ t.id
end_id t form next p o = by_again (is_again form t p) where
  by_refusal : (refusal : Option ErrorCode) → KeepsId t (end_by refusal form t next o)
  by_refusal (Some code) = refl
  by_refusal None = end_in_id t.state form t next o

  by_again : (b : Bool) → KeepsId t (cond b (Stays (end_again t.state o)) (end_by (producer_refusal (other_epoch form) t p) form t next o))
  by_again true = refl
  by_again false = by_refusal (producer_refusal (other_epoch form) t p)
