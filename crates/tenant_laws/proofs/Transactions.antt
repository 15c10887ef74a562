-- What a request for a transactional id was not granted is as before: its record, and what it owes.
use Rattle.std.proofs.Common.{◌≡◌, ◌⊎◌, inl, inr, ℕ, ℤ, Bool, true, false, cond, List, [], ◌∷◌, ◌++◌, Option, Some, None, refl, sym, ap, subst, ◌∙◌}
use Rattle.std.specs.Prelude.{◌||◌}
use Rattle.std.specs.List.{cons_option}
use Rattle.std.specs.Str.{bytes_eq}
use Rattle.std.proofs.lemmas.Slice.Eq.{bytes_eq-Decides}
use Rattle.acl_binding.specs.declared.question.Caller.{Caller}
use Rattle.acl_binding.specs.declared.question.Question.{Question}
use Rattle.acl_binding.specs.declared.words.Kind.{Kind}
use Rattle.acl_binding.specs.declared.words.Kind.TheVariants.{TransactionalId}
use Rattle.authorizer.specs.declared.answer.Refusal.{Refusal}
use Rattle.authorizer.specs.Asking.{part_refusal}
use Rattle.wire_types.specs.declared.error_code.ErrorCode.{ErrorCode}
use Rattle.wire_types.specs.declared.topic.Topic.{Topic as TopicParts}
use Rattle.msg_txn.specs.declared.init_producer_id.InitProducerIdRequest.{InitProducerIdRequest}
use Rattle.msg_txn.specs.declared.add_partitions.AddPartitionsToTxnRequest.{AddPartitionsToTxnRequest}
use Rattle.msg_txn.specs.declared.add_offsets.AddOffsetsToTxnRequest.{AddOffsetsToTxnRequest}
use Rattle.msg_txn.specs.declared.end_txn.EndTxnRequest.{EndTxnRequest}
use Rattle.msg_admin.specs.declared.reply.Reply.{Reply}
use Rattle.walk.specs.Walk.{parts_refused, refusals}
use Rattle.walk.specs.Woven.{has_any}
use Rattle.walk.specs.Alike.{AllParts, AllTopics}
use Rattle.txn_coordinator.specs.declared.marker.PendingMarker.{PendingMarker}
use Rattle.txn_coordinator.specs.Coordinator.{id_record}
use Rattle.txn_coordinator.specs.Coordinator.{CoordinatorValue}
use Rattle.txn_coordinator.specs.InitProducerId.{init}
use Rattle.group_offsets.specs.declared.group.Group.{Group as GroupValue}
use Rattle.group_offsets.specs.Groups.{find_group}
use Rattle.broker_world.specs.World.{World, TopicValue, rules_of, find_topic}
use Rattle.broker_world.specs.Whole.{Served, whole_outcome_by}
use Rattle.txn_handlers.specs.InitProducerId.{init_questions, coordinator_for, served_init, init_producer_id_outcome}
use Rattle.txn_handlers.specs.EndTxn.{end_transition, served_end, end_txn_outcome, end_questions, ending_id, ending_outcome, form_of}
use Rattle.txn_handlers.specs.AddPartitions.{add_questions, cut_rule, is_missing, is_cut, add_transition, cut_outcome, added_outcome, add_partitions_outcome, partitions_in, partitions_of}
use Rattle.txn_handlers.specs.AddOffsets.{add_offsets_questions, add_offsets_transition, served_add_offsets, add_offsets_outcome}
use Rattle.api_laws.specs.Tenants.{SameOn}
use Rattle.api_laws.proofs.Initials.{inits_once, init_depends}
use Rattle.txn_handlers.proofs.Added.{nothing_added}
use Rattle.api_laws.proofs.Together.{keep_the_rest}
use Rattle.api_laws.proofs.Staged.{staging_keeps}
use Rattle.txn_handlers.proofs.Adds.{add_keeps}
use Rattle.api_dispatch.specs.Questions.{partition_parts}
use Rattle.tenant_laws.specs.Laws.{AsksAbout, NoPartIsGranted, pending_markers_of}
use Rattle.tenant_laws.proofs.Parts.{each_partition}
use Rattle.tenant_laws.proofs.Owed.{other_owed, init_owes, end_owes, add_owes, add_group_owes}
use Rattle.tenant_laws.proofs.Settled.{whole_keeps}
use Rattle.tenant_laws.proofs.Resources.{same_by, differ, id_kept, one_refused}

-- ---- InitProducerId

module _ (w : World) (caller : Caller) (r : InitProducerIdRequest) (kind : Kind) (name : List ℕ) where
  init_groups : (init_producer_id_outcome w caller r).world.groups ≡ w.groups
  init_groups = whole_keeps (λ (u : World). u.groups) (part_refusal (rules_of w) (init_questions (rules_of w) caller r.transactional_id)) w _ (served_init w r) refl

  init_refused : (id : List ℕ) → r.transactional_id ≡ Some id → NoPartIsGranted w kind name (init_questions (rules_of w) caller r.transactional_id ∷ []) → kind ≡ TransactionalId → name ≡ id → (init_producer_id_outcome w caller r).world ≡ w
  init_refused id is none k named =
      one_refused w kind name (init_questions (rules_of w) caller r.transactional_id) ((init_producer_id_outcome w caller r).world ≡ w) (λ refusal refused. (inits_once.refused w caller r refusal refused).world) none
      (subst (λ (x : Option (List ℕ)). AsksAbout kind name (init_questions (rules_of w) caller x)) (sym is) (inl (sym k, sym named)))

  pub init_kept : NoPartIsGranted w kind name (init_questions (rules_of w) caller r.transactional_id ∷ []) → SameOn w (init_producer_id_outcome w caller r).world kind name
  init_kept none = by_id r.transactional_id refl where
    by_id : (id : Option (List ℕ)) → r.transactional_id ≡ id → SameOn w (init_producer_id_outcome w caller r).world kind name
    by_id None is =
        same_by w (init_producer_id_outcome w caller r).world kind name (λ k. ap (λ (ts : List TopicValue). find_topic ts name) (init_depends.topics w caller r)) (λ k. ap (λ (gs : List GroupValue). find_group gs name) init_groups)
        (λ k. whole_keeps (λ (u : World). id_record u.coordinator.transactions name) (part_refusal (rules_of w) (init_questions (rules_of w) caller r.transactional_id)) w _ (served_init w r)
        (ap (λ (id : Option (List ℕ)). id_record (coordinator_for id w.coordinator w.node.max_txn_timeout r.timeout).transactions name) is))
    by_id (Some id) is = id_kept w id (init_producer_id_outcome w caller r) (keep_the_rest.inits w caller r id is) init_groups kind name (λ k named. init_refused id is none k named)

-- ---- EndTxn

module _ (w : World) (caller : Caller) (r : EndTxnRequest) (kind : Kind) (name : List ℕ) where
  end_refused : NoPartIsGranted w kind name (end_questions caller r ∷ []) → kind ≡ TransactionalId → name ≡ ending_id r → (end_txn_outcome w caller r).world ≡ w
  end_refused none k named = one_refused w kind name (end_questions caller r) ((end_txn_outcome w caller r).world ≡ w) (λ refusal refused. (keep_the_rest.refused_end w caller r refusal refused).world) none (inl (sym k, sym named))

  pub end_kept : NoPartIsGranted w kind name (end_questions caller r ∷ []) → SameOn w (end_txn_outcome w caller r).world kind name
  end_kept none =
      id_kept w (ending_id r) (end_txn_outcome w caller r) (keep_the_rest.ends w caller r) (whole_keeps (λ (u : World). u.groups) (part_refusal (rules_of w) (end_questions caller r)) w _ (served_end w r) refl) kind name (end_refused none)

-- ---- AddPartitionsToTxn

module _ (w : World) (caller : Caller) (id : List ℕ) where
  abbrev IsRefused : List ℕ → ℤ → Type 0
  IsRefused name index = part_refusal (rules_of w) (add_questions caller id name) ≡ None → ⊥

  -- where each part is refused, one is, or there is none
  refused_or_none : (ts : List (TopicParts ℤ)) → AllTopics IsRefused ts → (has_any (refusals (cut_rule caller id w.topics) (rules_of w) ts) ≡ true) ⊎ (partitions_of ts ≡ [])
  refused_or_none [] all = inr refl
  refused_or_none (t ∷ ts) all = by_parts t.name t.partitions all.0 (refused_or_none ts all.1) where
    later : List Refusal
    later = refusals (cut_rule caller id w.topics) (rules_of w) ts

    by_refusal : (name : List ℕ) (indices : List ℤ) (o : Option Refusal) → part_refusal (rules_of w) (add_questions caller id name) ≡ o → (o ≡ None → ⊥)
        → has_any (cons_option o (parts_refused (cut_rule caller id w.topics) (rules_of w) name indices) ++ later) ≡ true
    by_refusal name indices None is none = absurd (none refl)
    by_refusal name indices (Some r) is none = refl

    by_parts : (name : List ℕ) (indices : List ℤ) → AllParts IsRefused name indices → (has_any later ≡ true) ⊎ (partitions_of ts ≡ []) → (has_any (parts_refused (cut_rule caller id w.topics) (rules_of w) name indices ++ later) ≡ true) ⊎ (partitions_in name indices ++ partitions_of ts ≡ [])
    by_parts name [] here rest = rest
    by_parts name (index ∷ indices) here rest = inl (by_refusal name indices (part_refusal (rules_of w) (add_questions caller id name)) refl here.0)

nothing_granted : (w : World) (caller : Caller) (r : AddPartitionsToTxnRequest) → AllTopics (IsRefused w caller r.transactional_id) r.topics → (add_partitions_outcome w caller r).world ≡ w
nothing_granted w caller r all = by_case (refused_or_none w caller r.transactional_id r.topics all) where
  by_cut : (b : Bool) → partitions_of r.topics ≡ [] → (cond b (cut_outcome w caller r) (added_outcome w r)).world ≡ w
  by_cut true none = refl
  by_cut false none = ap (λ (c : CoordinatorValue). record w { coordinator = c }) (nothing_added w.coordinator w.moment r none)

  by_case : (has_any (refusals (cut_rule caller r.transactional_id w.topics) (rules_of w) r.topics) ≡ true) ⊎ (partitions_of r.topics ≡ []) → (add_partitions_outcome w caller r).world ≡ w
  by_case (inl some) = ap (λ (b : Bool). (cond (b || is_missing w.topics r.topics) (cut_outcome w caller r) (added_outcome w r)).world) some
  by_case (inr none) = by_cut (is_cut caller r.transactional_id w.topics (rules_of w) r.topics) none

module _ (w : World) (caller : Caller) (r : AddPartitionsToTxnRequest) (kind : Kind) (name : List ℕ) where
  add_refused : NoPartIsGranted w kind name (partition_parts (add_questions caller r.transactional_id) r.topics) → kind ≡ TransactionalId → name ≡ r.transactional_id → (add_partitions_outcome w caller r).world ≡ w
  add_refused none k named =
      nothing_granted w caller r
      (each_partition (add_questions caller r.transactional_id) _ (IsRefused w caller r.transactional_id) (λ topic index refused granted. refused (inl (sym k, sym named)) granted) r.topics none)

  pub add_kept : NoPartIsGranted w kind name (partition_parts (add_questions caller r.transactional_id) r.topics) → SameOn w (add_partitions_outcome w caller r).world kind name
  add_kept none = id_kept w r.transactional_id (add_partitions_outcome w caller r) (keep_the_rest.adds w caller r) (add_keeps (λ (u : World). u.groups) (λ u c. refl) w caller r) kind name (add_refused none)

-- ---- AddOffsetsToTxn

module _ (w : World) (caller : Caller) (r : AddOffsetsToTxnRequest) (kind : Kind) (name : List ℕ) where
  group_refused : NoPartIsGranted w kind name (add_offsets_questions caller r.transactional_id r.group ∷ []) → kind ≡ TransactionalId → name ≡ r.transactional_id → (add_offsets_outcome w caller r).world ≡ w
  group_refused none k named =
      one_refused w kind name (add_offsets_questions caller r.transactional_id r.group) ((add_offsets_outcome w caller r).world ≡ w) (λ refusal refused. (staging_keeps.refused_add w caller r refusal refused).world) none (inl (sym k, sym named))

  pub add_group_kept : NoPartIsGranted w kind name (add_offsets_questions caller r.transactional_id r.group ∷ []) → SameOn w (add_offsets_outcome w caller r).world kind name
  add_group_kept none = id_kept w r.transactional_id (add_offsets_outcome w caller r) (staging_keeps.adds w caller r) (staging_keeps.adds_groups w caller r) kind name (group_refused none)

-- ---- what a transactional id owes

module _ (w : World) (caller : Caller) (id : List ℕ) where
  abbrev pub SameOwed : World → Type 0
  SameOwed u = pending_markers_of id u.coordinator.warrants ≡ pending_markers_of id w.coordinator.warrants

  -- of a call for this id or for another one
  owed_after : (u : World) (own : List ℕ) → (id ≡ own → u ≡ w) → ((id ≡ own → ⊥) → SameOwed u) → SameOwed u
  owed_after u own refused other = by_name (bytes_eq id own) refl where
    by_name : (b : Bool) → bytes_eq id own ≡ b → SameOwed u
    by_name true e = ap (λ (x : World). pending_markers_of id x.coordinator.warrants) (refused ((bytes_eq-Decides id own).0 e))
    by_name false e = other (differ id own e)

  pub whole_owed : (qs : List Question) (refused : ErrorCode → Reply) (served : Served) → SameOwed served.world → SameOwed (whole_outcome_by (part_refusal (rules_of w) qs) w refused served).world
  whole_owed qs refused served same = whole_keeps (λ (u : World). pending_markers_of id u.coordinator.warrants) (part_refusal (rules_of w) qs) w refused served same

  pub init_owed : (r : InitProducerIdRequest) → NoPartIsGranted w TransactionalId id (init_questions (rules_of w) caller r.transactional_id ∷ []) → SameOwed (init_producer_id_outcome w caller r).world
  init_owed r none = by_id r.transactional_id refl where
    owed_for : Option (List ℕ) → List PendingMarker
    owed_for x = pending_markers_of id (coordinator_for x w.coordinator w.node.max_txn_timeout r.timeout).warrants

    by_id : (x : Option (List ℕ)) → r.transactional_id ≡ x → SameOwed (init_producer_id_outcome w caller r).world
    by_id None is = whole_owed (init_questions (rules_of w) caller r.transactional_id) _ (served_init w r) (ap owed_for is)
    by_id (Some own) is =
        owed_after (init_producer_id_outcome w caller r).world own (λ named. init_refused w caller r TransactionalId id own is none refl named)
        (λ apart. whole_owed (init_questions (rules_of w) caller r.transactional_id) _ (served_init w r)
        (ap owed_for is ∙ other_owed w.coordinator own id (init w.coordinator own r.timeout w.node.max_txn_timeout) (init_owes w.coordinator own r.timeout w.node.max_txn_timeout) apart))

  pub end_owed : (r : EndTxnRequest) → NoPartIsGranted w TransactionalId id (end_questions caller r ∷ []) → SameOwed (end_txn_outcome w caller r).world
  end_owed r none =
      owed_after (end_txn_outcome w caller r).world (ending_id r) (end_refused w caller r TransactionalId id none refl)
      (λ apart. whole_owed (end_questions caller r) _ (served_end w r)
      (other_owed w.coordinator (ending_id r) id (end_transition w.coordinator r) (end_owes w.coordinator (form_of r) (ending_id r) _ (ending_outcome r)) apart))

  pub add_owed : (r : AddPartitionsToTxnRequest) → NoPartIsGranted w TransactionalId id (partition_parts (add_questions caller r.transactional_id) r.topics) → SameOwed (add_partitions_outcome w caller r).world
  add_owed r none = owed_after (add_partitions_outcome w caller r).world r.transactional_id (add_refused w caller r TransactionalId id none refl) (by_cut (is_cut caller r.transactional_id w.topics (rules_of w) r.topics)) where
    by_cut : (b : Bool) → (id ≡ r.transactional_id → ⊥) → SameOwed (cond b (cut_outcome w caller r) (added_outcome w r)).world
    by_cut true apart = refl
    by_cut false apart = other_owed w.coordinator r.transactional_id id (add_transition w.coordinator w.moment r) (add_owes w.coordinator r.transactional_id _ w.moment (partitions_of r.topics)) apart

  pub add_group_owed : (r : AddOffsetsToTxnRequest) → NoPartIsGranted w TransactionalId id (add_offsets_questions caller r.transactional_id r.group ∷ []) → SameOwed (add_offsets_outcome w caller r).world
  add_group_owed r none =
      owed_after (add_offsets_outcome w caller r).world r.transactional_id (group_refused w caller r TransactionalId id none refl)
      (λ apart. whole_owed (add_offsets_questions caller r.transactional_id r.group) _ (served_add_offsets w r)
      (other_owed w.coordinator r.transactional_id id (add_offsets_transition w.coordinator w.moment r) (add_group_owes w.coordinator r.transactional_id _ w.moment r.group) apart))
