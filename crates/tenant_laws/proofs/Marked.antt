-- The marker step of a marker that is pending first in two worlds.
use Rattle.std.proofs.Common.{◌≡◌, ℕ, ℤ, ◌+◌, Bool, true, false, cond, List, ◌∷◌, Option, Some, None, refl, sym, ap, subst, ◌∙◌}
use Rattle.std.specs.Prelude.{slice_get}
use Rattle.std.specs.Option.{option_map}
use Rattle.std.specs.Str.{bytes_eq}
use Rattle.std.proofs.lemmas.Slice.Eq.{bytes_eq-Decides}
use Rattle.acl_binding.specs.declared.words.Kind.{Kind}
use Rattle.acl_binding.specs.declared.words.Kind.TheVariants as kinds
use Rattle.record_batch.specs.Batch.{BatchData}
use Rattle.txn_coordinator.specs.declared.marker.PendingMarker.{PendingMarker}
use Rattle.txn_coordinator.specs.declared.target.Target.{Target}
use Rattle.txn_coordinator.specs.declared.target.Target.TheVariants.{Partition, Group}
use Rattle.txn_coordinator.specs.declared.transaction.Transaction.{Transaction}
use Rattle.txn_coordinator.specs.Coordinator.{id_record, has_id}
use Rattle.txn_coordinator.specs.Warrants.{has_pending_marker, completed_transaction, with_completed, after_marker, with_first_written}
use Rattle.group_offsets.specs.Groups.{find_group}
use Rattle.group_offsets.specs.Laws.{Call as calls}
use Rattle.audit_trail.specs.declared.event.Event.TheVariants.{Mark}
use Rattle.broker_world.specs.World.{World, TopicValue, LogValue, find_topic}
use Rattle.broker_world.specs.Logs.{log_at, with_log, logs_with}
use Rattle.broker_world.specs.Markers.{marker_batch, log_with_marker, topics_with_marker_by, topics_with_marker}
use Rattle.txn_handlers.specs.Marks.{topics_with_marker_at, groups_with_decision_at, mark_by}
use Rattle.api_dispatch.specs.Step.{with_event_counted, step}
use Rattle.api_laws.specs.Tenants.{SameOn}
use Rattle.api_laws.proofs.DataGrants.{same_log, find_same, find_other}
use Rattle.api_laws.proofs.Recorded.{recorded_put}
use Rattle.tenant_laws.specs.Laws.{AgreeAmong}
use Rattle.tenant_laws.specs.Runs.{GoesAmong, OweAlike}
use Rattle.tenant_laws.proofs.AgreedGroups.{call_goes}

-- ---- a topic

marked_topic : (us vs : List TopicValue) (name other : List ℕ) (index : ℤ) (b : BatchData) → find_topic us name ≡ find_topic vs name → find_topic us other ≡ find_topic vs other → find_topic (topics_with_marker us name index b) other ≡ find_topic (topics_with_marker vs name index b) other
marked_topic us vs name other index b here there = by_log (log_at us name index) ∙ ap (λ (o : Option LogValue). find_topic (topics_with_marker_by vs name index b o) other) (same_log us vs name index here) where
  by_name : (x : Bool) → bytes_eq name other ≡ x → (log : LogValue) → find_topic (with_log us name index log) other ≡ find_topic (with_log vs name index log) other
  by_name true e log =
      let same : name ≡ other = (bytes_eq-Decides name other).0 e in
      subst (λ (n : List ℕ). find_topic (with_log us name index log) n ≡ find_topic (with_log vs name index log) n) same
      (find_same us name index log ∙ ap (option_map (λ (t : TopicValue). record { name = t.name; partitions = logs_with t.partitions index log })) here ∙ sym (find_same vs name index log))
  by_name false e log = find_other us name other index log e ∙ there ∙ sym (find_other vs name other index log e)

  by_log : (o : Option LogValue) → find_topic (topics_with_marker_by us name index b o) other ≡ find_topic (topics_with_marker_by vs name index b o) other
  by_log None = there
  by_log (Some log) = by_name (bytes_eq name other) refl (log_with_marker log b)

-- ---- a transactional id

marked_record : (m : PendingMarker) (first second : List PendingMarker) (ts us : List Transaction) (name : List ℕ) → has_pending_marker first m.id ≡ has_pending_marker second m.id → id_record ts m.id ≡ id_record us m.id → id_record ts name ≡ id_record us name
    → id_record (after_marker m first ts) name ≡ id_record (after_marker m second us) name
marked_record m first second ts us name more here there =
    ap (λ (b : Bool). id_record (cond b ts (with_completed m.outcome (id_record ts m.id) ts)) name) more ∙ by_more (has_pending_marker second m.id) where
      by_record : (o : Option Transaction) → id_record (with_completed m.outcome o ts) name ≡ id_record (with_completed m.outcome o us) name
      by_record None = there
      by_record (Some t) =
          recorded_put ts (completed_transaction m.outcome t) name
          ∙ ap (λ (o : Option Transaction). cond (has_id name (completed_transaction m.outcome t)) (Some (completed_transaction m.outcome t)) o) there
          ∙ sym (recorded_put us (completed_transaction m.outcome t) name)

      by_more : (b : Bool) → id_record (cond b ts (with_completed m.outcome (id_record ts m.id) ts)) name ≡ id_record (cond b us (with_completed m.outcome (id_record us m.id) us)) name
      by_more true = there
      by_more false = ap (λ (o : Option Transaction). id_record (with_completed m.outcome o ts) name) here ∙ by_record (id_record us m.id)

-- ---- the world

-- where this marker is pending first
abbrev written_world : World → PendingMarker → List PendingMarker → World
written_world w m rest = with_event_counted (record w {
  topics = topics_with_marker_at w.topics m.target (marker_batch m w.moment);
  groups = groups_with_decision_at w.groups m.target m;
  coordinator = with_first_written w.coordinator (m ∷ rest);
})

step_is : (w : World) (m : PendingMarker) (rest : List PendingMarker) → w.coordinator.warrants ≡ m ∷ rest → step w Mark ≡ written_world w m rest
step_is w m rest owed =
    ap (λ (l : List PendingMarker). with_event_counted (mark_by w (slice_get l 0)).world) owed
    ∙ ap (λ (l : List PendingMarker). with_event_counted (record w {
      topics = topics_with_marker_at w.topics m.target (marker_batch m w.moment);
      groups = groups_with_decision_at w.groups m.target m;
      coordinator = with_first_written w.coordinator l;
    })) owed

module _ (among : Kind → List ℕ → Bool) (v w : World) (agree : AgreeAmong among v w) (owe : OweAlike among v w) where
  same_batch : marker_batch owe.marker v.moment ≡ marker_batch owe.marker w.moment
  same_batch = ap (marker_batch owe.marker) agree.base.moment

  topic_marked : (name : List ℕ) (target : Target) → GoesAmong among target → among kinds.Topic name ≡ true → find_topic (topics_with_marker_at v.topics target (marker_batch owe.marker v.moment)) name ≡ find_topic (topics_with_marker_at w.topics target (marker_batch owe.marker w.moment)) name
  topic_marked name (Partition p) goes is =
      marked_topic v.topics w.topics p.topic name p.index (marker_batch owe.marker v.moment) (agree.resources kinds.Topic p.topic goes) (agree.resources kinds.Topic name is)
      ∙ ap (λ (b : BatchData). find_topic (topics_with_marker w.topics p.topic p.index b) name) same_batch
  topic_marked name (Group g) goes is = agree.resources kinds.Topic name is

  group_marked : (name : List ℕ) (target : Target) → among kinds.Group name ≡ true → find_group (groups_with_decision_at v.groups target owe.marker) name ≡ find_group (groups_with_decision_at w.groups target owe.marker) name
  group_marked name (Partition p) is = agree.resources kinds.Group name is
  group_marked name (Group g) is = call_goes v.groups w.groups (calls.Decides g owe.marker.pair.producer owe.marker.outcome) name (agree.resources kinds.Group name is)

  resources : (kind : Kind) (name : List ℕ) → among kind name ≡ true → SameOn (written_world v owe.marker owe.first) (written_world w owe.marker owe.second) kind name
  resources kinds.Topic name is = topic_marked name owe.marker.target owe.target is
  resources kinds.Group name is = group_marked name owe.marker.target is
  resources kinds.Cluster name is = agree.resources kinds.Cluster name is
  resources kinds.TransactionalId name is =
      marked_record owe.marker owe.first owe.second v.coordinator.transactions w.coordinator.transactions name owe.more (agree.resources kinds.TransactionalId owe.marker.id owe.own) (agree.resources kinds.TransactionalId name is)

  both : AgreeAmong among (written_world v owe.marker owe.first) (written_world w owe.marker owe.second)
  both = record {
    base = record { node = agree.base.node; supers = agree.base.supers; moment = agree.base.moment; events = ap (λ (n : ℕ). n + 1) agree.base.events; given = agree.base.given };
    resources = resources;
  }

  pub marks_agree : AgreeAmong among (step v Mark) (step w Mark)
  marks_agree =
      subst (λ (x : World). AgreeAmong among x (step w Mark)) (sym (step_is v owe.marker owe.first owe.in_first))
      (subst (AgreeAmong among (written_world v owe.marker owe.first)) (sym (step_is w owe.marker owe.second owe.in_second)) both)
