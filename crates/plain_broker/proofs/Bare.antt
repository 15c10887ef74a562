-- The plain broker written out, with no caller and no rules: so it knows no permission.
use Rattle.std.proofs.Common.{◌≡◌, ℕ, ℤ, pos, Bool, true, false, cond, List, [], ◌∷◌, map, length, Option, Some, None, refl, sym, ap, ◌∙◌}
use Rattle.std.specs.Prelude.{◌||◌, is_none}
use Rattle.std.specs.List.{filter_map, cons_option}
use Rattle.acl_binding.specs.declared.question.Caller.{Caller}
use Rattle.acl_binding.specs.declared.question.Question.{Question}
use Rattle.acl_binding.specs.Book.{BookValue}
use Rattle.authorizer.specs.declared.answer.Refusal.{Refusal}
use Rattle.authorizer.specs.Asking.{Rules, part_refusal}
use Rattle.wire_types.specs.declared.error_code.ErrorCode.{ErrorCode}
use Rattle.wire_types.specs.declared.error_code.ErrorCode.TheVariants as codes
use Rattle.wire_types.specs.declared.topic.Topic.{Topic}
use Rattle.msg_data.specs.declared.metadata.TopicInfo.{TopicInfo}
use Rattle.msg_group.specs.declared.offset_fetch.FetchedOffset.{FetchedOffset}
use Rattle.msg_txn.specs.declared.add_partitions.AddPartitionsToTxnRequest.{AddPartitionsToTxnRequest}
use Rattle.msg_admin.specs.declared.request.Request.{Request}
use Rattle.msg_admin.specs.declared.request.Request.TheVariants.{Produce, Fetch, ListOffsets, Metadata, OffsetCommit, OffsetFetch, FindCoordinator, JoinGroup, Heartbeat, LeaveGroup, SyncGroup, SaslHandshake, ApiVersions, InitProducerId, AddPartitionsToTxn, AddOffsetsToTxn, EndTxn, TxnOffsetCommit, DescribeAcls, CreateAcls, DeleteAcls, SaslAuthenticate}
use Rattle.msg_admin.specs.declared.reply.Reply.{Reply}
use Rattle.msg_admin.specs.declared.reply.Reply.TheVariants as replies
use Rattle.msg_login.specs.SaslHandshake.{handshake_reply}
use Rattle.msg_login.specs.SaslAuthenticate.{authenticate_reply}
use Rattle.msg_admin.specs.Versions.{versions_reply}
use Rattle.group_offsets.specs.declared.event.OffsetEvent.{OffsetEvent}
use Rattle.txn_coordinator.specs.Coordinator.{apply_transition, transition_code}
use Rattle.walk.specs.Rule.{PartRule}
use Rattle.walk.specs.Walk.{plain_parts_world, plain_parts, plain_world, plain_topics, world_after, answers, refusals}
use Rattle.walk.specs.Woven.{has_any}
use Rattle.broker_world.specs.Brokers.{brokers_of}
use Rattle.broker_world.specs.World.{World, TopicValue, rules_of, topic_names}
use Rattle.broker_world.specs.HandlerResult.{HandlerResult}
use Rattle.broker_world.specs.Whole.{Served, whole_outcome_by}
use Rattle.broker_world.specs.Questions.{topic_refusal}
use Rattle.data_handlers.specs.Metadata.{topic_refusals, plain_topic, metadata_topics}
use Rattle.data_handlers.specs.Produce.{producing_rule, produce_reply}
use Rattle.data_handlers.specs.Fetch.{fetch_rule, whole_budget}
use Rattle.data_handlers.specs.ListOffsets.{list_rule}
use Rattle.group_handlers.specs.OffsetCommit.{commit_questions, committing_rule}
use Rattle.group_handlers.specs.OffsetFetch.{group_question, offset_rule, listed_offsets_from, listed_topic_of, listed_topics, fetch_reply, offsets_of, fetched_outcome, offset_fetch_by}
use Rattle.group_handlers.specs.FindCoordinator.{kind_of, find_questions, find_reply}
use Rattle.broker_world.specs.Questions.{read_question}
use Rattle.group_handlers.specs.Members.{served_join, served_sync, served_heartbeat, served_leave}
use Rattle.txn_handlers.specs.InitProducerId.{init_questions, served_init}
use Rattle.txn_handlers.specs.AddPartitions.{add_questions, cut_rule, code_rule, is_missing, add_transition, add_reply, cut_outcome, added_outcome}
use Rattle.txn_handlers.specs.AddOffsets.{add_offsets_questions, served_add_offsets}
use Rattle.txn_handlers.specs.EndTxn.{served_end, end_questions}
use Rattle.txn_handlers.specs.TxnOffsetCommit.{staging_of, stage_questions, staging_rule}
use Rattle.acl_binding.specs.Entries.{filter_of}
use Rattle.acl_handlers.specs.DescribeAcls.{describe_acls_questions, describe_acls_reply}
use Rattle.acl_handlers.specs.CreateAcls.{alter_questions, book_created, creation_result, create_acls_reply}
use Rattle.acl_handlers.specs.DeleteAcls.{book_deleted, deletion_results, delete_acls_reply}
use Rattle.api_dispatch.specs.Questions.{fetch_questions}
use Rattle.plain_broker.specs.Plain.{unrestricted_world, plain_outcome}
use Rattle.plain_broker.specs.Plainness.{is_about_bindings, RefusesNothing, SameForAll, LooksAtNoBook}
use Rattle.plain_broker.proofs.Freed.{freed}
use Rattle.plain_broker.proofs.Walking.{GrantsAll, free_world, free_answers, free_refusals}
use Rattle.plain_broker.proofs.Walks.{produce_freed}
use Rattle.plain_broker.proofs.Wholes.{find_freed, init_freed}
use Rattle.plain_broker.proofs.Nulls.{topic_freed, all_described, plain_listed}

-- ---- a walk whose parts are the same, permission aside

module _ {P A W : Type 0} (f g : PartRule P A W) (plains : (w : W) (name : List ℕ) (p : P) → f.plain w name p ≡ g.plain w name p) (afters : (w : W) (name : List ℕ) (p : P) → f.after w name p ≡ g.after w name p) where
  parts_world_same : (w : W) (name : List ℕ) (ps : List P) → plain_parts_world f w name ps ≡ plain_parts_world g w name ps
  parts_world_same w name [] = refl
  parts_world_same w name (p ∷ ps) = parts_world_same (f.after w name p) name ps ∙ ap (λ (v : W). plain_parts_world g v name ps) (afters w name p)

  parts_same : (w : W) (name : List ℕ) (ps : List P) → plain_parts f w name ps ≡ plain_parts g w name ps
  parts_same w name [] = refl
  parts_same w name (p ∷ ps) =
      ap (λ (a : A). a ∷ plain_parts f (f.after w name p) name ps) (plains w name p)
      ∙ ap (λ (l : List A). g.plain w name p ∷ l) (parts_same (f.after w name p) name ps ∙ ap (λ (v : W). plain_parts g v name ps) (afters w name p))

  world_same : (w : W) (ts : List (Topic P)) → plain_world f w ts ≡ plain_world g w ts
  world_same w [] = refl
  world_same w (t ∷ ts) = world_same (plain_parts_world f w t.name t.partitions) ts ∙ ap (λ (v : W). plain_world g v ts) (parts_world_same w t.name t.partitions)

  topics_same : (w : W) (ts : List (Topic P)) → plain_topics f w ts ≡ plain_topics g w ts
  topics_same w [] = refl
  topics_same w (t ∷ ts) =
      ap (λ (l : List A). record { name = t.name; partitions = l } ∷ plain_topics f (plain_parts_world f w t.name t.partitions) ts) (parts_same w t.name t.partitions)
      ∙ ap (λ (l : List (Topic A)). record { name = t.name; partitions = plain_parts g w t.name t.partitions } ∷ l) (topics_same (plain_parts_world f w t.name t.partitions) ts ∙ ap (λ (v : W). plain_topics g v ts) (parts_world_same w t.name t.partitions))

  -- under rules that grant everything, all that the one walk comes to is the plain walk of the other
  walk_bare : {X : Type 0} (told : W → List (Topic A) → List Refusal → X) (free : Rules) → GrantsAll f free → (w : W) (ts : List (Topic P))
      → told (world_after f free w ts) (answers f free w ts) (refusals f free ts) ≡ told (plain_world g w ts) (plain_topics g w ts) []
  walk_bare told free all w ts =
      ap (λ (v : W). told v (answers f free w ts) (refusals f free ts)) (free_world f free all w ts ∙ world_same w ts)
      ∙ ap (λ (l : List (Topic A)). told (plain_world g w ts) l (refusals f free ts)) (free_answers f free all w ts ∙ topics_same w ts)
      ∙ ap (told (plain_world g w ts) (plain_topics g w ts)) (free_refusals f free all ts)

-- ---- the plain broker

abbrev nobody : Caller
nobody = record { who = []; host = [] }

abbrev told_topic_bare : List OffsetEvent → Bool → TopicValue → Option (Topic FetchedOffset)
told_topic_bare es stable t = listed_topic_of t.name (listed_offsets_from es stable t.name 0 (length t.partitions))

abbrev offsets_bare : List OffsetEvent → Bool → Option (List (Topic ℤ)) → List TopicValue → List (Topic FetchedOffset)
offsets_bare es stable None topics = filter_map (told_topic_bare es stable) topics
offsets_bare es stable (Some ts) topics = plain_topics (offset_rule nobody es stable) tt ts

abbrev infos_bare : World → Option (List (List ℕ)) → List TopicInfo
infos_bare w None = map (plain_topic w) (topic_names w.topics)
infos_bare w (Some names) = map (plain_topic w) names

abbrev added_bare : World → AddPartitionsToTxnRequest → Bool → Served
added_bare w r true = record { world = w; reply = add_reply (plain_topics (cut_rule nobody r.transactional_id w.topics) tt r.topics) }
added_bare w r false = record { world = record w { coordinator = apply_transition w.coordinator (add_transition w.coordinator w.moment r) }; reply = add_reply (plain_topics (code_rule (transition_code (add_transition w.coordinator w.moment r))) tt r.topics) }

abbrev bare : World → Request → Served
bare w (Produce r) = record { world = record w { topics = plain_world (producing_rule w nobody r) w.topics r.topics }; reply = produce_reply r.acks (plain_topics (producing_rule w nobody r) w.topics r.topics) }
bare w (Fetch r) = record { world = w; reply = replies.Fetch (record { throttle = pos 0; topics = plain_topics (fetch_rule nobody r.isolation w.topics) (whole_budget r) r.topics }) }
bare w (ListOffsets r) = record { world = w; reply = replies.ListOffsets (record { throttle = pos 0; topics = plain_topics (list_rule nobody r.isolation w.topics) tt r.topics }) }
bare w (Metadata r) = record { world = w; reply = replies.Metadata (record { brokers = brokers_of w.node; controller = w.node.node_id; topics = infos_bare w r.topics }) }
bare w (OffsetCommit r) = record { world = record w { groups = plain_world (committing_rule w nobody r) w.groups r.topics }; reply = replies.OffsetCommit (record { topics = plain_topics (committing_rule w nobody r) w.groups r.topics }) }
bare w (OffsetFetch r) = record { world = w; reply = fetch_reply codes.None (offsets_bare (offsets_of w r.group) r.require_stable r.topics w.topics) }
bare w (FindCoordinator r) = record { world = w; reply = replies.FindCoordinator (find_reply (kind_of r.key_type) w.node) }
bare w (JoinGroup r) = served_join w r
bare w (Heartbeat r) = served_heartbeat w r
bare w (LeaveGroup r) = served_leave w r
bare w (SyncGroup r) = served_sync w r
bare w (InitProducerId r) = served_init w r
bare w (AddPartitionsToTxn r) = added_bare w r (is_missing w.topics r.topics)
bare w (AddOffsetsToTxn r) = served_add_offsets w r
bare w (EndTxn r) = served_end w r
bare w (TxnOffsetCommit r) = record { world = record w { groups = plain_world (staging_rule w nobody r) w.groups r.topics }; reply = replies.TxnOffsetCommit (record { throttle = pos 0; topics = plain_topics (staging_rule w nobody r) w.groups r.topics }) }
bare w (SaslHandshake r) = record { world = w; reply = replies.SaslHandshake (handshake_reply codes.IllegalSaslState) }
bare w ApiVersions = record { world = w; reply = replies.ApiVersions versions_reply }
bare w (SaslAuthenticate r) = record { world = w; reply = replies.SaslAuthenticate (authenticate_reply codes.IllegalSaslState) }
bare w (DescribeAcls r) = record { world = w; reply = replies.DescribeAcls (describe_acls_reply w.book (filter_of r.filter)) }
bare w (CreateAcls r) = record { world = record w { book = book_created w.book r.creations }; reply = replies.CreateAcls (create_acls_reply (map creation_result r.creations)) }
bare w (DeleteAcls r) = record { world = record w { book = book_deleted w.book r.filters }; reply = replies.DeleteAcls (delete_acls_reply (deletion_results w.book r.filters)) }

abbrev unrefused : Served → HandlerResult
unrefused s = record { world = s.world; reply = s.reply; refusals = [] }

-- ---- so it is

module _ (w : World) (caller : Caller) where
  whole_is : (questions : List Question) (refused : ErrorCode → Reply) (served : Served) → part_refusal (rules_of (unrestricted_world w caller)) questions ≡ None
      → whole_outcome_by (part_refusal (rules_of (unrestricted_world w caller)) questions) (unrestricted_world w caller) refused served ≡ unrefused served
  whole_is questions refused served none = ap (λ (o : Option Refusal). whole_outcome_by o (unrestricted_world w caller) refused served) none

  no_refusals : (names : List (List ℕ)) → filter_map (topic_refusal (rules_of (unrestricted_world w caller)) caller) names ≡ []
  no_refusals [] = refl
  no_refusals (name ∷ names) = ap (λ (o : Option Refusal). cons_option o (filter_map (topic_refusal (rules_of (unrestricted_world w caller)) caller) names)) (topic_freed w caller None name) ∙ no_refusals names

  infos_are : (topics : Option (List (List ℕ))) → metadata_topics (unrestricted_world w caller) caller topics ≡ infos_bare (unrestricted_world w caller) topics
  infos_are None = ap (map (plain_topic w)) (all_described w caller None (topic_names w.topics))
  infos_are (Some names) = plain_listed w caller None names

  refusals_are : (topics : Option (List (List ℕ))) → topic_refusals (rules_of (unrestricted_world w caller)) caller topics ≡ []
  refusals_are None = refl
  refusals_are (Some names) = no_refusals names

  offsets_are_all : (es : List OffsetEvent) (stable : Bool) (topics : List TopicValue) → listed_topics (rules_of (unrestricted_world w caller)) caller es stable topics ≡ filter_map (told_topic_bare es stable) topics
  offsets_are_all es stable [] = refl
  offsets_are_all es stable (t ∷ ts) =
      ap (λ (o : Option Refusal). cons_option (cond (is_none o) (told_topic_bare es stable t) None) (listed_topics (rules_of (unrestricted_world w caller)) caller es stable ts)) (topic_freed w caller None t.name)
      ∙ ap (cons_option (told_topic_bare es stable t)) (offsets_are_all es stable ts)

  offsets_are : (es : List OffsetEvent) (stable : Bool) (topics : Option (List (Topic ℤ))) → fetched_outcome (unrestricted_world w caller) caller es stable topics ≡ unrefused (record { world = unrestricted_world w caller; reply = fetch_reply codes.None (offsets_bare es stable topics w.topics) })
  offsets_are es stable None = ap (λ (l : List (Topic FetchedOffset)). record { world = unrestricted_world w caller; reply = fetch_reply codes.None l; refusals = [] }) (offsets_are_all es stable w.topics)
  offsets_are es stable (Some ts) =
      walk_bare (offset_rule caller es stable) (offset_rule nobody es stable) (λ v name p. refl) (λ v name p. refl)
      (λ v l rs. record { world = unrestricted_world w caller; reply = fetch_reply codes.None l; refusals = rs }) (rules_of (unrestricted_world w caller)) (λ name p. topic_freed w caller None name) tt ts

  module _ (r : AddPartitionsToTxnRequest) where
    add_freed : (name : List ℕ) (index : ℤ) → part_refusal (rules_of (unrestricted_world w caller)) (add_questions caller r.transactional_id name) ≡ None
    add_freed name index = freed w caller (add_questions caller r.transactional_id name) (refl, (refl, tt))

    added_is : (b : Bool) → cond b (cut_outcome (unrestricted_world w caller) caller r) (added_outcome (unrestricted_world w caller) r) ≡ unrefused (added_bare (unrestricted_world w caller) r b)
    added_is true =
        walk_bare (cut_rule caller r.transactional_id w.topics) (cut_rule nobody r.transactional_id w.topics) (λ v name p. refl) (λ v name p. refl)
        (λ v l rs. record { world = unrestricted_world w caller; reply = add_reply l; refusals = rs }) (rules_of (unrestricted_world w caller)) add_freed tt r.topics
    added_is false = refl

    add_is : plain_outcome w caller (AddPartitionsToTxn r) ≡ unrefused (bare (unrestricted_world w caller) (AddPartitionsToTxn r))
    add_is =
        ap (λ (rs : List Refusal). cond (has_any rs || is_missing w.topics r.topics) (cut_outcome (unrestricted_world w caller) caller r) (added_outcome (unrestricted_world w caller) r)) (free_refusals (cut_rule caller r.transactional_id w.topics) (rules_of (unrestricted_world w caller)) add_freed r.topics)
        ∙ added_is (is_missing w.topics r.topics)

  plain_is : (request : Request) → plain_outcome w caller request ≡ unrefused (bare (unrestricted_world w caller) request)
  plain_is (Produce r) =
      walk_bare (producing_rule w caller r) (producing_rule w nobody r) (λ v name p. refl) (λ v name p. refl)
      (λ v l rs. record { world = record (unrestricted_world w caller) { topics = v }; reply = produce_reply r.acks l; refusals = rs }) (rules_of (unrestricted_world w caller)) (λ name p. produce_freed w caller None r.transactional_id name) w.topics r.topics
  plain_is (Fetch r) =
      walk_bare (fetch_rule caller r.isolation w.topics) (fetch_rule nobody r.isolation w.topics) (λ v name p. refl) (λ v name p. refl)
      (λ v l rs. record { world = unrestricted_world w caller; reply = replies.Fetch (record { throttle = pos 0; topics = l }); refusals = rs }) (rules_of (unrestricted_world w caller)) (λ name p. freed w caller (fetch_questions caller name) (refl, tt)) (whole_budget r) r.topics
  plain_is (ListOffsets r) =
      walk_bare (list_rule caller r.isolation w.topics) (list_rule nobody r.isolation w.topics) (λ v name p. refl) (λ v name p. refl)
      (λ v l rs. record { world = unrestricted_world w caller; reply = replies.ListOffsets (record { throttle = pos 0; topics = l }); refusals = rs }) (rules_of (unrestricted_world w caller)) (λ name p. topic_freed w caller None name) tt r.topics
  plain_is (Metadata r) =
      ap (λ (l : List TopicInfo). record { world = unrestricted_world w caller; reply = replies.Metadata (record { brokers = brokers_of w.node; controller = w.node.node_id; topics = l }); refusals = topic_refusals (rules_of (unrestricted_world w caller)) caller r.topics }) (infos_are r.topics)
      ∙ ap (λ (rs : List Refusal). record { world = unrestricted_world w caller; reply = replies.Metadata (record { brokers = brokers_of w.node; controller = w.node.node_id; topics = infos_bare (unrestricted_world w caller) r.topics }); refusals = rs }) (refusals_are r.topics)
  plain_is (OffsetCommit r) =
      walk_bare (committing_rule w caller r) (committing_rule w nobody r) (λ v name p. refl) (λ v name p. refl)
      (λ v l rs. record { world = record (unrestricted_world w caller) { groups = v }; reply = replies.OffsetCommit (record { topics = l }); refusals = rs }) (rules_of (unrestricted_world w caller)) (λ name p. freed w caller (commit_questions caller r.group name) (refl, (refl, tt))) w.groups r.topics
  plain_is (OffsetFetch r) =
      ap (λ (o : Option Refusal). offset_fetch_by o (unrestricted_world w caller) caller r) (freed w caller (group_question caller r.group ∷ []) (refl, tt))
      ∙ offsets_are (offsets_of w r.group) r.require_stable r.topics
  plain_is (FindCoordinator r) = whole_is (find_questions caller (kind_of r.key_type) r.key) _ _ (find_freed w caller None (kind_of r.key_type) r.key)
  plain_is (JoinGroup r) = whole_is (read_question caller r.group ∷ []) _ (served_join (unrestricted_world w caller) r) (freed w caller (read_question caller r.group ∷ []) (refl, tt))
  plain_is (Heartbeat r) = whole_is (read_question caller r.group ∷ []) _ (served_heartbeat (unrestricted_world w caller) r) (freed w caller (read_question caller r.group ∷ []) (refl, tt))
  plain_is (LeaveGroup r) = whole_is (read_question caller r.group ∷ []) _ (served_leave (unrestricted_world w caller) r) (freed w caller (read_question caller r.group ∷ []) (refl, tt))
  plain_is (SyncGroup r) = whole_is (read_question caller r.group ∷ []) _ (served_sync (unrestricted_world w caller) r) (freed w caller (read_question caller r.group ∷ []) (refl, tt))
  plain_is (InitProducerId r) = whole_is (init_questions (rules_of (unrestricted_world w caller)) caller r.transactional_id) _ (served_init (unrestricted_world w caller) r) (init_freed w caller None (rules_of (unrestricted_world w caller)) r.transactional_id)
  plain_is (AddPartitionsToTxn r) = add_is r
  plain_is (AddOffsetsToTxn r) = whole_is (add_offsets_questions caller r.transactional_id r.group) _ (served_add_offsets (unrestricted_world w caller) r) (freed w caller (add_offsets_questions caller r.transactional_id r.group) (refl, (refl, tt)))
  plain_is (EndTxn r) = whole_is (end_questions caller r) _ (served_end (unrestricted_world w caller) r) (freed w caller (end_questions caller r) (refl, tt))
  plain_is (TxnOffsetCommit r) =
      walk_bare (staging_rule w caller r) (staging_rule w nobody r) (λ v name p. refl) (λ v name p. refl)
      (λ v l rs. record { world = record (unrestricted_world w caller) { groups = v }; reply = replies.TxnOffsetCommit (record { throttle = pos 0; topics = l }); refusals = rs }) (rules_of (unrestricted_world w caller)) (λ name p. freed w caller (stage_questions caller (staging_of r) name) (refl, (refl, (refl, tt)))) w.groups r.topics
  plain_is (SaslHandshake r) = refl
  plain_is ApiVersions = refl
  plain_is (SaslAuthenticate r) = refl
  plain_is (DescribeAcls r) = whole_is (describe_acls_questions caller) _ _ (freed w caller (describe_acls_questions caller) (refl, tt))
  plain_is (CreateAcls r) = whole_is (alter_questions caller) _ _ (freed w caller (alter_questions caller) (refl, tt))
  plain_is (DeleteAcls r) = whole_is (alter_questions caller) _ _ (freed w caller (alter_questions caller) (refl, tt))

pub refuses_nothing : RefusesNothing
refuses_nothing w caller request = ap (λ (o : HandlerResult). o.refusals) (plain_is w caller request)

-- ---- the same for all

module _ (w : World) (a b : Caller) where
  added_reply : (r : AddPartitionsToTxnRequest) (m : Bool) → (added_bare (unrestricted_world w a) r m).reply ≡ (added_bare (unrestricted_world w b) r m).reply
  added_reply r true = refl
  added_reply r false = refl

  added_world : (r : AddPartitionsToTxnRequest) (m : Bool) → record (added_bare (unrestricted_world w a) r m).world { supers = w.supers } ≡ record (added_bare (unrestricted_world w b) r m).world { supers = w.supers }
  added_world r true = refl
  added_world r false = refl

  bare_reply : (request : Request) → (bare (unrestricted_world w a) request).reply ≡ (bare (unrestricted_world w b) request).reply
  bare_reply (Produce r) = refl
  bare_reply (Fetch r) = refl
  bare_reply (ListOffsets r) = refl
  bare_reply (Metadata r) = refl
  bare_reply (OffsetCommit r) = refl
  bare_reply (OffsetFetch r) = refl
  bare_reply (FindCoordinator r) = refl
  bare_reply (JoinGroup r) = refl
  bare_reply (Heartbeat r) = refl
  bare_reply (LeaveGroup r) = refl
  bare_reply (SyncGroup r) = refl
  bare_reply (InitProducerId r) = refl
  bare_reply (AddPartitionsToTxn r) = added_reply r (is_missing w.topics r.topics)
  bare_reply (AddOffsetsToTxn r) = refl
  bare_reply (EndTxn r) = refl
  bare_reply (TxnOffsetCommit r) = refl
  bare_reply (SaslHandshake r) = refl
  bare_reply ApiVersions = refl
  bare_reply (SaslAuthenticate r) = refl
  bare_reply (DescribeAcls r) = refl
  bare_reply (CreateAcls r) = refl
  bare_reply (DeleteAcls r) = refl

  bare_world : (request : Request) → record (bare (unrestricted_world w a) request).world { supers = w.supers } ≡ record (bare (unrestricted_world w b) request).world { supers = w.supers }
  bare_world (Produce r) = refl
  bare_world (Fetch r) = refl
  bare_world (ListOffsets r) = refl
  bare_world (Metadata r) = refl
  bare_world (OffsetCommit r) = refl
  bare_world (OffsetFetch r) = refl
  bare_world (FindCoordinator r) = refl
  bare_world (JoinGroup r) = refl
  bare_world (Heartbeat r) = refl
  bare_world (LeaveGroup r) = refl
  bare_world (SyncGroup r) = refl
  bare_world (InitProducerId r) = refl
  bare_world (AddPartitionsToTxn r) = added_world r (is_missing w.topics r.topics)
  bare_world (AddOffsetsToTxn r) = refl
  bare_world (EndTxn r) = refl
  bare_world (TxnOffsetCommit r) = refl
  bare_world (SaslHandshake r) = refl
  bare_world ApiVersions = refl
  bare_world (SaslAuthenticate r) = refl
  bare_world (DescribeAcls r) = refl
  bare_world (CreateAcls r) = refl
  bare_world (DeleteAcls r) = refl

pub same_for_all : SameForAll
same_for_all w a b request = record {
  reply = ap (λ (o : HandlerResult). o.reply) (plain_is w a request) ∙ bare_reply w a b request ∙ sym (ap (λ (o : HandlerResult). o.reply) (plain_is w b request));
  world = ap (λ (o : HandlerResult). record o.world { supers = w.supers }) (plain_is w a request) ∙ bare_world w a b request ∙ sym (ap (λ (o : HandlerResult). record o.world { supers = w.supers }) (plain_is w b request));
}

-- ---- whatever the binding list is

module _ (w : World) (book : BookValue) where
  booked_reply : (r : AddPartitionsToTxnRequest) (m : Bool) → (added_bare (record w { book = book }) r m).reply ≡ (added_bare w r m).reply
  booked_reply r true = refl
  booked_reply r false = refl

  booked_world : (r : AddPartitionsToTxnRequest) (m : Bool) → (added_bare (record w { book = book }) r m).world ≡ record (added_bare w r m).world { book = book }
  booked_world r true = refl
  booked_world r false = refl

  any_reply : (request : Request) → is_about_bindings request ≡ false → (bare (record w { book = book }) request).reply ≡ (bare w request).reply
  any_reply (Produce r) not = refl
  any_reply (Fetch r) not = refl
  any_reply (ListOffsets r) not = refl
  any_reply (Metadata r) not = refl
  any_reply (OffsetCommit r) not = refl
  any_reply (OffsetFetch r) not = refl
  any_reply (FindCoordinator r) not = refl
  any_reply (JoinGroup r) not = refl
  any_reply (Heartbeat r) not = refl
  any_reply (LeaveGroup r) not = refl
  any_reply (SyncGroup r) not = refl
  any_reply (InitProducerId r) not = refl
  any_reply (AddPartitionsToTxn r) not = booked_reply r (is_missing w.topics r.topics)
  any_reply (AddOffsetsToTxn r) not = refl
  any_reply (EndTxn r) not = refl
  any_reply (TxnOffsetCommit r) not = refl
  any_reply (SaslHandshake r) not = refl
  any_reply ApiVersions not = refl
  any_reply (SaslAuthenticate r) not = refl
  any_reply (DescribeAcls r) not = absurd (let clash : true ≡ false = not in cc)
  any_reply (CreateAcls r) not = absurd (let clash : true ≡ false = not in cc)
  any_reply (DeleteAcls r) not = absurd (let clash : true ≡ false = not in cc)

  any_world : (request : Request) → is_about_bindings request ≡ false → (bare (record w { book = book }) request).world ≡ record (bare w request).world { book = book }
  any_world (Produce r) not = refl
  any_world (Fetch r) not = refl
  any_world (ListOffsets r) not = refl
  any_world (Metadata r) not = refl
  any_world (OffsetCommit r) not = refl
  any_world (OffsetFetch r) not = refl
  any_world (FindCoordinator r) not = refl
  any_world (JoinGroup r) not = refl
  any_world (Heartbeat r) not = refl
  any_world (LeaveGroup r) not = refl
  any_world (SyncGroup r) not = refl
  any_world (InitProducerId r) not = refl
  any_world (AddPartitionsToTxn r) not = booked_world r (is_missing w.topics r.topics)
  any_world (AddOffsetsToTxn r) not = refl
  any_world (EndTxn r) not = refl
  any_world (TxnOffsetCommit r) not = refl
  any_world (SaslHandshake r) not = refl
  any_world ApiVersions not = refl
  any_world (SaslAuthenticate r) not = refl
  any_world (DescribeAcls r) not = absurd (let clash : true ≡ false = not in cc)
  any_world (CreateAcls r) not = absurd (let clash : true ≡ false = not in cc)
  any_world (DeleteAcls r) not = absurd (let clash : true ≡ false = not in cc)

pub looks_at_no_book : LooksAtNoBook
looks_at_no_book w book caller request not = record {
  reply = ap (λ (o : HandlerResult). o.reply) (plain_is (record w { book = book }) caller request) ∙ any_reply (unrestricted_world w caller) book request not ∙ sym (ap (λ (o : HandlerResult). o.reply) (plain_is w caller request));
  world = ap (λ (o : HandlerResult). o.world) (plain_is (record w { book = book }) caller request) ∙ any_world (unrestricted_world w caller) book request not ∙ sym (ap (λ (o : HandlerResult). record o.world { book = book }) (plain_is w caller request));
}
