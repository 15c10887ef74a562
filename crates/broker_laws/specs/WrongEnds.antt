-- Wrong ends of transactions, each of which a law refutes.
use Rattle.std.specs.Prelude.{not, map, Option, Some, None}
use Rattle.msg_txn.specs.declared.end_txn.EndTxn.{EndTxn as EndTxnBody}
use Rattle.msg_txn.specs.declared.end_txn.FlexibleEndTxn.{FlexibleEndTxn}
use Rattle.msg_txn.specs.declared.end_txn.EndTxnRequest.{EndTxnRequest}
use Rattle.msg_txn.specs.declared.end_txn.EndTxnRequest.TheVariants as versions
use Rattle.msg_admin.specs.declared.request.Request.TheVariants.{InitProducerId, EndTxn}
use Rattle.audit_trail.specs.declared.event.Event.TheVariants.{Ask, Mark, Tick}
use Rattle.txn_coordinator.specs.declared.producer_id.ProducerIdAndEpoch.{ProducerIdAndEpoch}
use Rattle.txn_coordinator.specs.declared.transaction.Transaction.{Transaction}
use Rattle.txn_coordinator.specs.Coordinator.{CoordinatorValue, id_record}
use Rattle.api_dispatch.specs.Step.{step}
use Rattle.broker_laws.specs.Rules.{WorldRule}

-- ---- what prepares

-- a commit for an abort, and an abort for a commit
abbrev pub other_outcome : EndTxnBody → EndTxnBody
other_outcome r = record r { committed = not r.committed }

abbrev pub other_flexible : FlexibleEndTxn → FlexibleEndTxn
other_flexible r = record r { asked = other_outcome r.asked }

abbrev pub swapped : EndTxnRequest → EndTxnRequest
swapped (versions.Version0 r) = versions.Version0 (other_outcome r)
swapped (versions.Version1 r) = versions.Version1 (other_outcome r)
swapped (versions.Version2 r) = versions.Version2 (other_outcome r)
swapped (versions.Version3 r) = versions.Version3 (other_flexible r)
swapped (versions.Version4 r) = versions.Version4 (other_flexible r)
swapped (versions.Version5 r) = versions.Version5 (other_flexible r)

-- an EndTxn that commits aborts, and one that aborts commits
abbrev pub step_swapping_outcomes : WorldRule
step_swapping_outcomes w (Ask caller client (EndTxn r)) =
    step w (Ask caller client (EndTxn (swapped r)))
step_swapping_outcomes w e = step w e

-- an EndTxn is told no error, and its transaction stays open
abbrev pub step_ending_nothing : WorldRule
step_ending_nothing w (Ask caller client (EndTxn r)) =
    record (step w (Ask caller client (EndTxn r))) { coordinator = w.coordinator }
step_ending_nothing w e = step w e

-- an InitProducerId that is told to come again leaves the transaction open
abbrev pub step_taking_nothing_over : WorldRule
step_taking_nothing_over w (Ask caller client (InitProducerId r)) =
    record (step w (Ask caller client (InitProducerId r))) { coordinator = w.coordinator }
step_taking_nothing_over w e = step w e

-- a transaction stays open though its time is over
abbrev pub step_without_timeouts : WorldRule
step_without_timeouts w (Tick told) = record (step w (Tick told)) { coordinator = w.coordinator }
step_without_timeouts w e = step w e

-- ---- markers and epochs

-- a tick aborts a transaction, and leaves no marker of it pending
abbrev pub step_owing_nothing : WorldRule
step_owing_nothing w (Tick told) =
    record (step w (Tick told)) {
      coordinator = record (step w (Tick told)).coordinator {
        warrants = w.coordinator.warrants;
      };
    }
step_owing_nothing w e = step w e

abbrev pub pair_or : ProducerIdAndEpoch → Option Transaction → ProducerIdAndEpoch
pair_or pair None = pair
pair_or pair (Some t) = t.pair

-- each id has the producer id and epoch that it had before
abbrev pub with_old_pairs : CoordinatorValue → CoordinatorValue → CoordinatorValue
with_old_pairs old new =
    record new {
      transactions = map
          (λ (t : Transaction). record t {
            pair = pair_or t.pair (id_record old.transactions t.id);
          })
          new.transactions;
    }

-- a tick that aborts a transaction leaves its producer the epoch
abbrev pub step_keeping_epochs : WorldRule
step_keeping_epochs w (Tick told) =
    record (step w (Tick told)) {
      coordinator = with_old_pairs w.coordinator (step w (Tick told)).coordinator;
    }
step_keeping_epochs w e = step w e

-- an InitProducerId is answered a next epoch, and the one before it stays the id's
abbrev pub step_fencing_nobody : WorldRule
step_fencing_nobody w (Ask caller client (InitProducerId r)) =
    record (step w (Ask caller client (InitProducerId r))) {
      coordinator = with_old_pairs w.coordinator
          (step w (Ask caller client (InitProducerId r))).coordinator;
    }
step_fencing_nobody w e = step w e

-- a mark is taken off the markers that are pending, and no group is told of the end
abbrev pub step_deciding_nothing : WorldRule
step_deciding_nothing w Mark = record (step w Mark) { groups = w.groups }
step_deciding_nothing w e = step w e
