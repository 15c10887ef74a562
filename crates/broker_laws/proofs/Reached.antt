-- Events lead where their moves lead, from the first world on.
use Rattle.std.proofs.Common.{◌≡◌, ℕ, zero, suc, ℤ, pos, negsuc, List, [], ◌∷◌, ◌++◌, Option, Some, None, Result, Ok, Err, Bool, true, false, cond, refl, sym, ap, subst, ◌∙◌, arith}
use Rattle.std.specs.Prelude.{slice_get, int_lt}
use Rattle.std.specs.Option.{option_and_then}
use Rattle.std.specs.Str.{bytes_eq}
use Rattle.acl_binding.specs.declared.question.Caller.{Caller}
use Rattle.authorizer.specs.Asking.{part_refusal}
use Rattle.wire_types.specs.declared.error_code.ErrorCode.{ErrorCode}
use Rattle.settings.specs.declared.settings.Settings.{Settings}
use Rattle.settings.specs.declared.settings.TopicSetting.{TopicSetting}
use Rattle.record_batch.specs.declared.header.BatchHeader.{BatchHeader}
use Rattle.record_batch.specs.BatchHeader.{is_transactional}
use Rattle.record_batch.specs.Batch.{BatchData}
use Rattle.producer_state.specs.declared.judgment.Judgment.{Judgment}
use Rattle.producer_state.specs.declared.judgment.Judgment.TheVariants.{Next, Repeat, Refused}
use Rattle.producer_state.specs.Sequences.{judgment_of as judged_by_log}
use Rattle.msg_data.specs.declared.produce.ProduceRequest.{ProduceRequest}
use Rattle.msg_data.specs.declared.produce.ProducedRecords.{ProducedRecords}
use Rattle.msg_admin.specs.declared.request.Request.TheVariants.{Produce, Fetch, ListOffsets, Metadata, OffsetCommit, OffsetFetch, FindCoordinator, JoinGroup, Heartbeat, LeaveGroup, SyncGroup, SaslHandshake, ApiVersions, InitProducerId, AddPartitionsToTxn, AddOffsetsToTxn, EndTxn, TxnOffsetCommit, DescribeAcls, CreateAcls, DeleteAcls, SaslAuthenticate}
use Rattle.audit_trail.specs.declared.event.Event.{Event}
use Rattle.audit_trail.specs.declared.event.Event.TheVariants.{Ask, Mark, Tick}
use Rattle.txn_coordinator.specs.declared.producer_id.ProducerIdAndEpoch.{ProducerIdAndEpoch}
use Rattle.record_batch.specs.declared.transaction_result.TransactionResult.{TransactionResult}
use Rattle.txn_coordinator.specs.declared.target.Target.{Target}
use Rattle.txn_coordinator.specs.declared.target.Target.TheVariants.{Partition, Group}
use Rattle.txn_coordinator.specs.declared.transaction.Transaction.{Transaction}
use Rattle.txn_laws.specs.Small.{World as SmallWorld, Entry, Move, first_world as first_small_world, world_after_move, world_after_moves, count_of_marks as small_marks}
use Rattle.txn_laws.specs.Small.Move.{AddPartitions, Send, Plain}
use Rattle.txn_laws.specs.Sound.{IsSound}
use Rattle.txn_laws.specs.Laws.{IsEnded, expiries}
use Rattle.txn_laws.specs.Kept.{kept_id_and_epoch, kept_entries, kept_world, kept_world_after_moves}
use Rattle.txn_laws.proofs.GroupsKeep.{kept_law, kept_end_law}
use Rattle.txn_laws.proofs.Moves.{moves_sound, first_sound}
use Rattle.broker_world.specs.World.{World, TopicValue, LogValue, rules_of, find_topic}
use Rattle.broker_world.specs.First.{non_negative, empty_logs, first_topic, first_topics, first_world}
use Rattle.broker_world.specs.Logs.{log_in, log_of, log_at}
use Rattle.data_handlers.specs.Judged.{id_and_epoch_of, partition_at, batch_to_append}
use Rattle.data_handlers.specs.Produce.{producing_rule}
use Rattle.txn_handlers.specs.EndTxn.{end_questions}
use Rattle.txn_handlers.specs.InitProducerId.{init_questions}
use Rattle.txn_handlers.specs.AddPartitions.{is_cut, partitions_of}
use Rattle.txn_handlers.specs.AddOffsets.{add_offsets_questions}
use Rattle.api_dispatch.specs.Step.{step, world_after_events}
use Rattle.broker_laws.specs.Entries.{log_entries, entries_in, small_world}
use Rattle.broker_laws.specs.Moves.{topics_moves, store_moves, append_moves, moves_by, batch_moves, produced_moves, init_id_moves, moves_of, moves_of_all, mark_count, count_of_mark_events}
use Rattle.broker_laws.specs.Targets.{HasTargets}
use Rattle.broker_laws.specs.Laws.{InReached, IsMoved}
use Rattle.broker_laws.proofs.Walks.{marks_append, unmarked_refusal, unmarked_walk}
use Rattle.broker_laws.proofs.Noted.{unmarked_commits, unmarked_stages}
use Rattle.broker_laws.proofs.Steps.{step_moved, step_targets}

-- ---- what holds of every world

-- the world with all of the entries' epochs
abbrev pub full : World → (Target → List Entry) → SmallWorld
full w entries = record { coordinator = w.coordinator; entries = entries; moment = w.moment }

-- the broker keeps of a sound small world what groups keep of it
pub record IsGood (w : World) : Type 0 where
  pub entries : Target → List Entry
  pub sound : IsSound (full w entries)
  pub keeps : (target : Target) → kept_entries target (entries target) ≡ entries_in w target
  pub all_exist : HasTargets w

kept_full : (w : World) (good : IsGood w) → kept_world (full w good.entries) ≡ small_world w
kept_full w good = λ k. record { coordinator = w.coordinator; entries = λ target. good.keeps target k; moment = w.moment }

event_moved : (w : World) (e : Event) → IsGood w → small_world (step w e) ≡ kept_world_after_moves (small_world w) (moves_of w e)
event_moved w e good = step_moved w e good.all_exist good.sound.own_ids

kept_step : (w : World) (e : Event) (good : IsGood w) → kept_world (world_after_moves (full w good.entries) (moves_of w e)) ≡ small_world (step w e)
kept_step w e good =
    kept_law.next (full w good.entries) (moves_of w e)
    ∙ ap (λ s. kept_world_after_moves s (moves_of w e)) (kept_full w good)
    ∙ sym (event_moved w e good)

-- the moves lead to the event's world, with entries that have their epochs
moved_full : (w : World) (e : Event) (good : IsGood w) → world_after_moves (full w good.entries) (moves_of w e) ≡ full (step w e) (world_after_moves (full w good.entries) (moves_of w e)).entries
moved_full w e good =
    let kept = kept_step w e good in
    λ k. record { coordinator = (kept k).coordinator; entries = (world_after_moves (full w good.entries) (moves_of w e)).entries; moment = (kept k).moment }

pub good_step : (w : World) (e : Event) → IsGood w → IsGood (step w e)
good_step w e good = record {
  entries = (world_after_moves (full w good.entries) (moves_of w e)).entries;
  sound = subst IsSound (moved_full w e good) (moves_sound (full w good.entries) (moves_of w e) good.sound);
  keeps = λ target. ap (λ (s : SmallWorld). s.entries target) (kept_step w e good);
  all_exist = step_targets w e good.all_exist;
}

pub good_moved : (w : World) (e : Event) (good : IsGood w) → full (step w e) (good_step w e good).entries ≡ world_after_moves (full w good.entries) (moves_of w e)
unfolding good_step
good_moved w e good = sym (moved_full w e good)

pub good_reached : (w : World) (es : List Event) → IsGood w → IsGood (world_after_events w es)
good_reached w [] good = good
good_reached w (e ∷ es) good = good_reached (step w e) es (good_step w e good)

-- an end is seen in what is kept
pub ended_kept : (w v : World) (before : IsGood w) (after : IsGood v) (target : Target) (pair : ProducerIdAndEpoch) (o : TransactionResult) → IsEnded pair o (before.entries target) (after.entries target) → IsEnded (kept_id_and_epoch target pair) o (entries_in w target) (entries_in v target)
ended_kept w v before after target pair o h =
    subst (λ old. IsEnded (kept_id_and_epoch target pair) o old (entries_in v target)) (before.keeps target)
    (subst (λ new. IsEnded (kept_id_and_epoch target pair) o (kept_entries target (before.entries target)) new) (after.keeps target)
    (kept_end_law target pair o (before.entries target) (after.entries target) h))

-- ---- the first world

none_in : (n k : ℕ) → log_entries (slice_get (empty_logs n) k) ≡ []
none_in zero k = refl
none_in (suc n) zero = refl
none_in (suc n) (suc k) = none_in n k

none_at : (n : ℕ) (i : ℤ) → log_entries (log_in i (empty_logs n)) ≡ []
none_at n (pos k) = none_in n k
none_at n (negsuc k) = refl

none_of : (ts : List TopicSetting) (name : List ℕ) (i : ℤ) → log_entries (log_at (first_topics ts) name i) ≡ []
none_of [] name i = refl
none_of (t ∷ ts) name i = by_name (bytes_eq t.name name) (none_of ts name i) where
  by_name : (b : Bool) → log_entries (log_at (first_topics ts) name i) ≡ [] → log_entries (option_and_then (log_of i) (cond b (Some (first_topic t)) (find_topic (first_topics ts) name))) ≡ []
  by_name true rest = none_at (non_negative t.partitions) i
  by_name false rest = rest

first_kept : (s : Settings) (target : Target) → kept_entries target [] ≡ entries_in (first_world s) target
first_kept s (Partition p) = sym (none_of s.topics p.topic p.index)
first_kept s (Group g) = refl

first_good : (s : Settings) → IsGood (first_world s)
first_good s = record { entries = λ target. []; sound = first_sound; keeps = first_kept s; all_exist = record { added = tt; owed = tt } }

pub good : (s : Settings) (es : List Event) → IsGood (world_after_events (first_world s) es)
good s es = good_reached (first_world s) es (first_good s)

-- ---- many events

moved_append : (s : SmallWorld) (ms ns : List Move) → world_after_moves s (ms ++ ns) ≡ world_after_moves (world_after_moves s ms) ns
moved_append s [] ns = refl
moved_append s (m ∷ ms) ns = moved_append (world_after_move s m) ms ns

pub reached_moved : (w : World) (es : List Event) (good : IsGood w) → full (world_after_events w es) (good_reached w es good).entries ≡ world_after_moves (full w good.entries) (moves_of_all w es)
unfolding good_reached
reached_moved w [] good = refl
reached_moved w (e ∷ es) good =
    reached_moved (step w e) es (good_step w e good)
    ∙ ap (λ s. world_after_moves s (moves_of_all (step w e) es)) (good_moved w e good)
    ∙ sym (moved_append (full w good.entries) (moves_of w e) (moves_of_all (step w e) es))

pub first_moved : (s : Settings) (es : List Event) → small_world (world_after_events (first_world s) es) ≡ kept_world (world_after_moves first_small_world (moves_of_all (first_world s) es))
unfolding good first_good
first_moved s es =
    sym (kept_full (world_after_events (first_world s) es) (good s es)) ∙ ap kept_world (reached_moved (first_world s) es (first_good s))

-- ---- marker steps are the marks

unmarked_batch : (id : Option (List ℕ)) (target : Target) (h : BatchHeader) → small_marks (append_moves id target h) ≡ 0
unmarked_batch id target h = by_kind (is_transactional h) (int_lt h.producer_id (pos 0)) id where
  by_kind : (k l : Bool) (own : Option (List ℕ)) → small_marks (cond k (store_moves own (id_and_epoch_of h) target) (cond l (Plain target ∷ []) (Send (id_and_epoch_of h) target ∷ []))) ≡ 0
  by_kind true l None = refl
  by_kind true l (Some x) = refl
  by_kind false true own = refl
  by_kind false false own = refl

unmarked_judged : (j : Judgment) (ms : List Move) → small_marks ms ≡ 0 → small_marks (moves_by j ms) ≡ 0
unmarked_judged Next ms h = h
unmarked_judged (Repeat offset) ms h = refl
unmarked_judged (Refused code) ms h = refl

unmarked_log : (id : Option (List ℕ)) (target : Target) (r : Result BatchData ErrorCode) (o : Option LogValue) → small_marks (batch_moves id target r o) ≡ 0
unmarked_log id target (Err code) o = refl
unmarked_log id target (Ok b) None = refl
unmarked_log id target (Ok b) (Some log) = unmarked_judged (judged_by_log log b) (append_moves id target b.header) (unmarked_batch id target b.header)

unmarked_produce : (w : World) (caller : Caller) (r : ProduceRequest) → small_marks (topics_moves (producing_rule w caller r) (rules_of w) (produced_moves w r) w.topics r.topics) ≡ 0
unmarked_produce w caller r = unmarked_walk (producing_rule w caller r) (rules_of w) (produced_moves w r) part w.topics r.topics where
  part : (topics : List TopicValue) (name : List ℕ) (p : ProducedRecords) → small_marks (produced_moves w r topics name p) ≡ 0
  part topics name p =
      let target = partition_at name p.index in
      unmarked_log r.transactional_id target (batch_to_append (non_negative w.node.max_batch) w.coordinator r.transactional_id r.acks target p.records) (log_at topics name p.index)

unmarked_init : (id : Option (List ℕ)) (timeout greatest : ℤ) → small_marks (init_id_moves id timeout greatest) ≡ 0
unmarked_init None timeout greatest = refl
unmarked_init (Some id) timeout greatest = refl

unmarked_expiries : (ts : List Transaction) → small_marks (expiries ts) ≡ 0
unmarked_expiries [] = refl
unmarked_expiries (t ∷ ts) = omega (arith, unmarked_expiries ts)

pub event_marks : (w : World) (e : Event) → small_marks (moves_of w e) ≡ mark_count e
event_marks w (Ask caller client (Produce r)) = unmarked_produce w caller r
event_marks w (Ask caller client (Fetch r)) = refl
event_marks w (Ask caller client (ListOffsets r)) = refl
event_marks w (Ask caller client (Metadata r)) = refl
event_marks w (Ask caller client (OffsetCommit r)) = unmarked_commits w caller r
event_marks w (Ask caller client (OffsetFetch r)) = refl
event_marks w (Ask caller client (FindCoordinator r)) = refl
event_marks w (Ask caller client (JoinGroup r)) = refl
event_marks w (Ask caller client (Heartbeat r)) = refl
event_marks w (Ask caller client (LeaveGroup r)) = refl
event_marks w (Ask caller client (SyncGroup r)) = refl
event_marks w (Ask caller client (InitProducerId r)) =
    unmarked_refusal (part_refusal (rules_of w) (init_questions (rules_of w) caller r.transactional_id)) _ (unmarked_init r.transactional_id r.timeout w.node.max_txn_timeout)
event_marks w (Ask caller client (AddPartitionsToTxn r)) = by_cut (is_cut caller r.transactional_id w.topics (rules_of w) r.topics) where
  by_cut : (b : Bool) → small_marks (cond b [] (AddPartitions r.transactional_id (record { producer = r.producer; epoch = r.epoch }) (partitions_of r.topics) ∷ [])) ≡ 0
  by_cut true = refl
  by_cut false = refl
event_marks w (Ask caller client (AddOffsetsToTxn r)) = unmarked_refusal (part_refusal (rules_of w) (add_offsets_questions caller r.transactional_id r.group)) _ refl
event_marks w (Ask caller client (EndTxn r)) = unmarked_refusal (part_refusal (rules_of w) (end_questions caller r)) _ refl
event_marks w (Ask caller client (TxnOffsetCommit r)) = unmarked_stages w caller r
event_marks w (Ask caller client (SaslHandshake r)) = refl
event_marks w (Ask caller client ApiVersions) = refl
event_marks w (Ask caller client (SaslAuthenticate r)) = refl
event_marks w (Ask caller client (DescribeAcls r)) = refl
event_marks w (Ask caller client (CreateAcls r)) = refl
event_marks w (Ask caller client (DeleteAcls r)) = refl
event_marks w Mark = refl
event_marks w (Tick told) = omega (arith, unmarked_expiries w.coordinator.transactions)

pub all_marks : (w : World) (es : List Event) → small_marks (moves_of_all w es) ≡ count_of_mark_events es
all_marks w [] = refl
all_marks w (e ∷ es) = omega (arith, marks_append (moves_of w e) (moves_of_all (step w e) es), event_marks w e, all_marks (step w e) es)

-- ---- the laws

pub is_moved : InReached IsMoved
is_moved s es e = event_moved (world_after_events (first_world s) es) e (good s es)

pub targets_exist : InReached HasTargets
targets_exist s es = (good s es).all_exist
