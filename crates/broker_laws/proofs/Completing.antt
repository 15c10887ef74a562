-- A transaction that an event prepares, and one that waits, is completed by marker steps.
use Rattle.std.proofs.Common.{◌≡◌, ℕ, ◌≤◌, List, [], ◌∷◌, ◌++◌, map, Some, refl, sym, subst, ◌∙◌, arith}
use Rattle.msg_admin.specs.declared.request.Request.TheVariants.{Produce, Fetch, ListOffsets, Metadata, OffsetCommit, OffsetFetch, FindCoordinator, JoinGroup, Heartbeat, LeaveGroup, SyncGroup, SaslHandshake, ApiVersions, InitProducerId, AddPartitionsToTxn, AddOffsetsToTxn, EndTxn, TxnOffsetCommit, DescribeAcls, CreateAcls, DeleteAcls, SaslAuthenticate}
use Rattle.audit_trail.specs.declared.event.Event.{Event}
use Rattle.audit_trail.specs.declared.event.Event.TheVariants.{Ask, Mark, Tick}
use Rattle.txn_coordinator.specs.declared.producer_id.ProducerIdAndEpoch.{ProducerIdAndEpoch}
use Rattle.msg_txn.specs.declared.end_txn.EndTxnRequest.TheVariants as versions
use Rattle.txn_coordinator.specs.declared.target.Target.{Target}
use Rattle.txn_coordinator.specs.declared.target.Target.TheVariants.{Partition, Group}
use Rattle.txn_coordinator.specs.declared.transaction.Transaction.{Transaction}
use Rattle.record_batch.specs.declared.transaction_result.TransactionResult.{TransactionResult}
use Rattle.txn_coordinator.specs.declared.marker.PendingMarker.{PendingMarker}
use Rattle.txn_coordinator.specs.Words.{prepared_phase, targets}
use Rattle.txn_coordinator.specs.Coordinator.{id_record}
use Rattle.txn_coordinator.specs.Preparing.{marker_for, markers}
use Rattle.txn_coordinator.proofs.Table.{recorded_id}
use Rattle.txn_laws.specs.Small.{World as SmallWorld, count_of_marks as small_marks}
use Rattle.txn_laws.specs.Sound.{Each}
use Rattle.txn_laws.specs.Laws.{IsEnded, IsDone, up_to_last}
use Rattle.txn_laws.specs.Kept.{kept_id_and_epoch}
use Rattle.txn_laws.proofs.Base.{each_weaker}
use Rattle.txn_laws.proofs.Complete.{waiting_law}
use Rattle.broker_world.specs.World.{World}
use Rattle.api_dispatch.specs.Step.{step, world_after_events}
use Rattle.broker_laws.specs.Entries.{entries_in}
use Rattle.broker_laws.specs.Moves.{moves_of_all, count_of_mark_events}
use Rattle.broker_laws.specs.Laws.{InReached, IsPreparedBy, marker_id_and_epoch, CompletesPrepared, CompletesWaiting}
use Rattle.broker_laws.proofs.Reached.{full, IsGood, good_step, good_reached, ended_kept, good, reached_moved, all_marks}
use Rattle.broker_laws.proofs.Owing.{prepared_owes}

-- ---- one that waits

enough_marks : (v : World) (after : List Event) (n : ℕ) → n ≤ count_of_mark_events after → n ≤ small_marks (moves_of_all v after)
enough_marks v after n h = omega (arith, h, all_marks v after)

waiting_full : (w : World) (good : IsGood w) (id : List ℕ) (t : Transaction) (o : TransactionResult) (after : List Event) → id_record w.coordinator.transactions id ≡ Some t → t.state ≡ prepared_phase o → up_to_last w.coordinator.warrants id ≤ count_of_mark_events after
    → Each (λ (x : PendingMarker). x.id ≡ id → IsEnded x.pair o (good.entries x.target) ((good_reached w after good).entries x.target)) w.coordinator.warrants
waiting_full w good id t o after found waits enough =
    let done = waiting_law (full w good.entries) good.sound id t o (moves_of_all w after) found waits (enough_marks w after (up_to_last w.coordinator.warrants id) enough) in
    subst (λ (s : SmallWorld). Each (λ (x : PendingMarker). x.id ≡ id → IsEnded x.pair o (good.entries x.target) (s.entries x.target)) w.coordinator.warrants) (sym (reached_moved w after good)) done

pub waiting_completes : (w : World) → IsGood w → CompletesWaiting w
waiting_completes w good id t o after found waits enough =
    let v = world_after_events w after in
    each_weaker (λ (x : PendingMarker). x.id ≡ id → IsEnded x.pair o (good.entries x.target) ((good_reached w after good).entries x.target)) (λ (x : PendingMarker). x.id ≡ id → IsEnded (kept_id_and_epoch x.target x.pair) o (entries_in w x.target) (entries_in v x.target))
    (λ x h own. ended_kept w v good (good_reached w after good) x.target x.pair o (h own)) w.coordinator.warrants (waiting_full w good id t o after found waits enough)

pub completes_waiting : InReached CompletesWaiting
completes_waiting s es = waiting_completes _ (good s es)

-- ---- one that is prepared

each_after : {X : Type 0} (P : X → Type 0) → (xs ys : List X) → Each P (xs ++ ys) → Each P ys
each_after P [] ys h = h
each_after P (x ∷ xs) ys h = each_after P xs ys h.1

each_before : {X : Type 0} (P : X → Type 0) → (xs ys : List X) → Each P (xs ++ ys) → Each P xs
each_before P [] ys h = tt
each_before P (x ∷ xs) ys h = (h.0, each_before P xs ys h.1)

each_unmapped : {A X : Type 0} (f : A → X) (P : X → Type 0) → (xs : List A) → Each P (map f xs) → Each (λ a. P (f a)) xs
each_unmapped f P [] h = tt
each_unmapped f P (x ∷ xs) h = (h.0, each_unmapped f P xs h.1)

pub prepared_completes : (w : World) → IsGood w → CompletesPrepared w
prepared_completes w good e id t o after by enough =
    let v = step w e in
    let later = world_after_events v after in
    let owes = prepared_owes w good e id t o by in
    let pair = marker_id_and_epoch e t.pair in
    let Writes : PendingMarker → Type 0 = λ x. x.id ≡ id → IsEnded (kept_id_and_epoch x.target x.pair) o (entries_in v x.target) (entries_in later x.target) in
    let all : Each Writes v.coordinator.warrants = waiting_completes v (good_step w e good) id by.transaction o after by.after by.waits enough in
    let new = each_after Writes w.coordinator.warrants (owes.front ++ (markers t pair o ++ owes.back)) (subst (Each Writes) owes.owed all) in
    let own = each_before Writes (markers t pair o) owes.back (each_after Writes owes.front (markers t pair o ++ owes.back) new) in
    each_weaker (λ target. Writes (marker_for t.id pair o target)) (λ target. IsEnded (kept_id_and_epoch target pair) o (entries_in w target) (entries_in later target))
    (λ target h. subst (λ old. IsEnded (kept_id_and_epoch target pair) o old (entries_in later target)) (owes.entries target) (h (recorded_id w.coordinator.transactions id t by.before)))
    (targets t)
    (each_unmapped (marker_for t.id pair o) Writes (targets t) own)

pub completes_prepared : InReached CompletesPrepared
completes_prepared s es = prepared_completes _ (good s es)

-- such a marker is the producer's
own_producer : (e : Event) (pair : ProducerIdAndEpoch) → (marker_id_and_epoch e pair).producer ≡ pair.producer
own_producer (Ask caller client (Produce r)) pair = refl
own_producer (Ask caller client (Fetch r)) pair = refl
own_producer (Ask caller client (ListOffsets r)) pair = refl
own_producer (Ask caller client (Metadata r)) pair = refl
own_producer (Ask caller client (OffsetCommit r)) pair = refl
own_producer (Ask caller client (OffsetFetch r)) pair = refl
own_producer (Ask caller client (FindCoordinator r)) pair = refl
own_producer (Ask caller client (JoinGroup r)) pair = refl
own_producer (Ask caller client (Heartbeat r)) pair = refl
own_producer (Ask caller client (LeaveGroup r)) pair = refl
own_producer (Ask caller client (SyncGroup r)) pair = refl
own_producer (Ask caller client (InitProducerId r)) pair = refl
own_producer (Ask caller client (AddPartitionsToTxn r)) pair = refl
own_producer (Ask caller client (AddOffsetsToTxn r)) pair = refl
own_producer (Ask caller client (EndTxn (versions.Version0 body))) pair = refl
own_producer (Ask caller client (EndTxn (versions.Version1 body))) pair = refl
own_producer (Ask caller client (EndTxn (versions.Version2 body))) pair = refl
own_producer (Ask caller client (EndTxn (versions.Version3 body))) pair = refl
own_producer (Ask caller client (EndTxn (versions.Version4 body))) pair = refl
own_producer (Ask caller client (EndTxn (versions.Version5 body))) pair = refl
own_producer (Ask caller client (TxnOffsetCommit r)) pair = refl
own_producer (Ask caller client (SaslHandshake r)) pair = refl
own_producer (Ask caller client ApiVersions) pair = refl
own_producer (Ask caller client (SaslAuthenticate r)) pair = refl
own_producer (Ask caller client (DescribeAcls r)) pair = refl
own_producer (Ask caller client (CreateAcls r)) pair = refl
own_producer (Ask caller client (DeleteAcls r)) pair = refl
own_producer Mark pair = refl
own_producer (Tick told) pair = refl

kept_producer : (target : Target) (pair : ProducerIdAndEpoch) → (kept_id_and_epoch target pair).producer ≡ pair.producer
kept_producer (Partition p) pair = refl
kept_producer (Group g) pair = refl

pub prepared_done : (w : World) → IsGood w → (e : Event) (id : List ℕ) (t : Transaction) (o : TransactionResult) (after : List Event) → IsPreparedBy step w e id t o → up_to_last (step w e).coordinator.warrants id ≤ count_of_mark_events after
    → Each (λ target. IsDone t.pair.producer o (entries_in w target) (entries_in (world_after_events (step w e) after) target)) (targets t)
prepared_done w good e id t o after by enough =
    let pair = marker_id_and_epoch e t.pair in
    each_weaker (λ target. IsEnded (kept_id_and_epoch target pair) o (entries_in w target) (entries_in (world_after_events (step w e) after) target)) (λ target. IsDone t.pair.producer o (entries_in w target) (entries_in (world_after_events (step w e) after) target))
    (λ target h. (kept_id_and_epoch target pair, kept_producer target pair ∙ own_producer e t.pair, h))
    (targets t) (prepared_completes w good e id t o after by enough)
