-- The wrong ends of transactions are refuted, each in a worked case.
use Rattle.std.proofs.Common.{◌≡◌, ℤ, pos, true, List, [], ◌∷◌, ◌++◌, Option, Some, None, refl, codes as bytes, ap, ◌∙◌}
use Rattle.wire_types.specs.declared.error_code.ErrorCode.TheVariants as codes
use Rattle.settings.specs.declared.settings.Settings.{Settings}
use Rattle.record_batch.specs.declared.transaction_result.TransactionResult.TheVariants.{Abort}
use Rattle.msg_txn.specs.declared.init_producer_id.InitProducerIdRequest.{InitProducerIdRequest}
use Rattle.msg_txn.specs.declared.end_txn.EndTxnRequest.{EndTxnRequest}
use Rattle.msg_txn.specs.declared.end_txn.EndTxnRequest.TheVariants as versions
use Rattle.msg_txn.specs.declared.end_txn.EndTxnReply.{EndTxnReply}
use Rattle.msg_txn.specs.declared.end_txn.EndTxnReply.TheVariants as told
use Rattle.msg_admin.specs.declared.request.Request.TheVariants.{InitProducerId, AddOffsetsToTxn}
use Rattle.audit_trail.specs.declared.event.Event.{Event}
use Rattle.audit_trail.specs.declared.event.Event.TheVariants.{Tick}
use Rattle.txn_coordinator.specs.declared.producer_id.ProducerIdAndEpoch.{ProducerIdAndEpoch}
use Rattle.txn_coordinator.specs.declared.marker.PendingMarker.{PendingMarker}
use Rattle.txn_coordinator.specs.declared.transaction.Transaction.{Transaction}
use Rattle.txn_coordinator.specs.declared.transaction.TransactionState.{TransactionState}
use Rattle.txn_coordinator.specs.declared.transaction.TransactionState.TheVariants.{Empty, Ongoing, PrepareCommit, PrepareAbort}
use Rattle.api_dispatch.specs.Step.{reply_to}
use Rattle.broker_laws.specs.Laws.{Prepares, OwesMarkers, FencesProducers}
use Rattle.broker_laws.specs.WrongEnds.{step_swapping_outcomes, step_ending_nothing, step_taking_nothing_over, step_without_timeouts, step_owing_nothing, step_keeping_epochs, step_fencing_nobody}
use Rattle.broker_laws.proofs.Worked.{root, asks, transaction, with_open}

state_of : Option Transaction → TransactionState
state_of None = Empty
state_of (Some t) = t.state

-- ---- what prepares

abbrev commit : EndTxnRequest
commit = versions.Version1 (record { transactional_id = bytes "t"; producer = pos 0; epoch = pos 0; committed = true })

abbrev committed : EndTxnReply
committed = told.Version1 (record { throttle = pos 0; error = codes.None })

abbrev init : InitProducerIdRequest
init = record { transactional_id = Some (bytes "t"); timeout = pos 10 }

pub not_swapped : ¬ Prepares step_swapping_outcomes reply_to
unfolding state_of
not_swapped law =
    let by = (law with_open).ended root None commit committed transaction refl refl refl refl in
    let clash : PrepareAbort ≡ PrepareCommit = ap state_of by.after ∙ by.waits in
    cc

pub not_left_open : ¬ Prepares step_ending_nothing reply_to
unfolding state_of
not_left_open law =
    let by = (law with_open).ended root None commit committed transaction refl refl refl refl in
    let clash : Ongoing ≡ PrepareCommit = ap state_of by.after ∙ by.waits in
    cc

pub not_waiting_for_ever : ¬ Prepares step_taking_nothing_over reply_to
unfolding state_of
not_waiting_for_ever law =
    let by = (law with_open).taken_over root None init (bytes "t") transaction refl refl refl refl in
    let clash : Ongoing ≡ PrepareAbort = ap state_of by.after ∙ by.waits in
    cc

pub not_open_for_ever : ¬ Prepares step_without_timeouts reply_to
unfolding state_of
not_open_for_ever law =
    let by = (law with_open).timed_out 20 (bytes "t") transaction refl refl in
    let clash : Ongoing ≡ PrepareAbort = ap state_of by.after ∙ by.waits in
    cc

-- ---- markers and epochs

-- settings without a topic, by which `t` begins a transaction that takes in the group `h`
abbrev settings : Settings
settings = record { node_id = pos 0; host = bytes "h"; port = pos 9092; trail_limit = pos 100; max_batch = pos 1048576; max_txn_timeout = pos 900000; topics = []; acls = []; supers = bytes "User:root" ∷ [] }

abbrev inits : Event
inits = asks (InitProducerId init)

abbrev begins : List Event
begins = inits ∷ asks (AddOffsetsToTxn (record { transactional_id = bytes "t"; producer = pos 0; epoch = pos 0; group = bytes "h" })) ∷ []

abbrev aborted : Transaction
aborted = record transaction { pair = record { producer = pos 0; epoch = pos 1 }; state = PrepareAbort }

none_among : (front back : List PendingMarker) (m : PendingMarker) → [] ≡ front ++ m ∷ back → ⊥
none_among [] back m h = cc
none_among (x ∷ front) back m h = cc

pub not_without_markers : ¬ OwesMarkers step_owing_nothing
not_without_markers law =
    let owes = law settings begins (Tick 20) (bytes "t") transaction Abort (record { before = refl; ongoing = refl; transaction = aborted; after = refl; waits = refl }) in
    none_among owes.front owes.back _ owes.owed

epoch_of : ProducerIdAndEpoch → ℤ
epoch_of pair = pair.epoch

pub not_in_the_old_epoch : ¬ OwesMarkers step_keeping_epochs
unfolding epoch_of
not_in_the_old_epoch law =
    let kept : Transaction = record transaction { state = PrepareAbort } in
    let owes = law settings begins (Tick 20) (bytes "t") transaction Abort (record { before = refl; ongoing = refl; transaction = kept; after = refl; waits = refl }) in
    let clash : ◌≡◌ {A = ℤ} (pos 0) (pos 1) = ap epoch_of (owes.pair kept refl) in
    cc

pub not_unfenced : ¬ FencesProducers step_keeping_epochs reply_to
not_unfenced law = (law settings begins).timed_out 20 (bytes "t") transaction refl refl (record transaction { state = PrepareAbort }, refl, refl)

pub not_unfenced_by_init : ¬ FencesProducers step_fencing_nobody reply_to
not_unfenced_by_init law =
    let first : ProducerIdAndEpoch = record { producer = pos 0; epoch = pos 0 } in
    let begun : Transaction = record transaction { state = Empty; groups = [] } in
    (law settings (inits ∷ [])).begun root None init (bytes "t") first (record { producer = pos 0; epoch = pos 1 }) refl (begun, refl, refl) refl (begun, refl, refl)
