-- The wrong rules of logs, of what groups hold, and of marks are refuted, each in a worked case.
use Rattle.std.proofs.Common.{◌≡◌, ℕ, pos, List, [], ◌∷◌, length, Option, Some, refl, sym, subst, codes as bytes, ap}
use Rattle.authorizer.specs.declared.answer.Refusal.{Refusal}
use Rattle.record_batch.specs.declared.transaction_result.TransactionResult.TheVariants.{Commit}
use Rattle.msg_group.specs.declared.offset_commit.OffsetCommitRequest.{OffsetCommitRequest}
use Rattle.msg_admin.specs.declared.request.Request.TheVariants.{LeaveGroup, OffsetCommit, TxnOffsetCommit}
use Rattle.audit_trail.specs.declared.event.Event.TheVariants.{Ask, Tick}
use Rattle.txn_coordinator.specs.declared.target.Target.TheVariants as targets
use Rattle.txn_coordinator.specs.declared.marker.PendingMarker.{PendingMarker}
use Rattle.group_offsets.specs.declared.event.OffsetEvent.{OffsetEvent}
use Rattle.group_offsets.specs.declared.event.OffsetEvent.TheVariants.{Put}
use Rattle.txn_laws.specs.Small.{Entry}
use Rattle.txn_laws.specs.Small.Entry.{Other}
use Rattle.txn_laws.specs.Sound.{Each}
use Rattle.broker_world.specs.World.{World, LogValue}
use Rattle.broker_laws.specs.Laws.{ComesBy, EntriesAreTheLog, GroupsGoOn, MarksAreNotRefused}
use Rattle.broker_laws.specs.LogEnds.{LogsGoOn}
use Rattle.broker_laws.specs.Wrong.{step_with_retention, step_removing_groups, step_committing_at_once, refusals_of_marks, entries_of_partitions_alone}
use Rattle.broker_laws.proofs.Worked.{w, asks, batch, with_batch, five, group, with_member, with_open, staging}

pub not_with_retention : ¬ LogsGoOn step_with_retention
not_with_retention law =
    let longer = law with_batch (Tick 0) (record { topic = bytes "a"; index = pos 0 }) (batch ∷ []) refl in
    let clash : ◌≡◌ {A = Option LogValue} (Some []) (Some (batch ∷ longer.more)) = longer.log in
    cc

pub not_removed : ¬ GroupsGoOn step_removing_groups
not_removed law =
    let goes = law with_member (asks (LeaveGroup (record { group = bytes "g"; member = bytes "m" }))) (bytes "g") in
    let clash : ◌≡◌ {A = List OffsetEvent} [] (Put five ∷ goes.more) = goes.events in
    cc

pub not_at_once : ¬ GroupsGoOn step_committing_at_once
not_at_once law =
    let goes = law with_open (asks (TxnOffsetCommit staging)) (bytes "h") in
    let ways : Each (ComesBy with_open (asks (TxnOffsetCommit staging)) (bytes "h")) (Put five ∷ []) = subst (Each (ComesBy with_open (asks (TxnOffsetCommit staging)) (bytes "h"))) (sym goes.events) goes.ways in
    other ways.0.caller ways.0.client ways.0.request ways.0.event where
      other : (caller : _) (client : _) (r : OffsetCommitRequest) → asks (TxnOffsetCommit staging) ≡ Ask caller client (OffsetCommit r) → ⊥
      other caller client r h = cc

-- ---- marks

abbrev marker : PendingMarker
marker = record { id = bytes "t"; pair = record { producer = pos 0; epoch = pos 0 }; outcome = Commit; target = targets.Group (bytes "h") }

abbrev with_marker : World
with_marker = record w { coordinator = record { transactions = []; given = []; warrants = marker ∷ [] } }

pub not_asked : ¬ MarksAreNotRefused refusals_of_marks
not_asked law = let clash : ◌≡◌ {A = ℕ} 1 0 = ap (λ (l : List Refusal). length l) (law with_marker) in cc

-- ---- what the laws of transactions see

pub not_of_partitions_alone : ¬ EntriesAreTheLog entries_of_partitions_alone
not_of_partitions_alone law = let clash : ◌≡◌ {A = List Entry} [] (Other ∷ []) = law.begun with_member (bytes "g") group refl in cc
