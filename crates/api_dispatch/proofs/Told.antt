-- The refusals of each api are those of its parts.
use Rattle.std.proofs.Common.{◌≡◌, ℕ, ℤ, Bool, true, false, cond, List, [], ◌∷◌, ◌++◌, map, Option, Some, None, refl, sym, ap, ◌∙◌}
use Rattle.std.specs.Prelude.{◌||◌}
use Rattle.std.specs.List.{cons_option, filter_map}
use Rattle.std.proofs.lemmas.List.Elements.{filter_map-append}
use Rattle.acl_binding.specs.declared.question.Caller.{Caller}
use Rattle.acl_binding.specs.declared.question.Question.{Question}
use Rattle.authorizer.specs.declared.answer.Refusal.{Refusal}
use Rattle.authorizer.specs.Asking.{Rules, part_refusal}
use Rattle.wire_types.specs.declared.error_code.ErrorCode.{ErrorCode}
use Rattle.wire_types.specs.declared.topic.Topic.{Topic}
use Rattle.msg_group.specs.declared.offset_fetch.OffsetFetchRequest.{OffsetFetchRequest}
use Rattle.msg_txn.specs.declared.add_partitions.AddPartitionsToTxnRequest.{AddPartitionsToTxnRequest}
use Rattle.msg_admin.specs.declared.request.Request.{Request}
use Rattle.msg_admin.specs.declared.request.Request.TheVariants.{Produce, Fetch, ListOffsets, Metadata, OffsetCommit, OffsetFetch, FindCoordinator, JoinGroup, Heartbeat, LeaveGroup, SyncGroup, SaslHandshake, ApiVersions, InitProducerId, AddPartitionsToTxn, AddOffsetsToTxn, EndTxn, TxnOffsetCommit, DescribeAcls, CreateAcls, DeleteAcls, SaslAuthenticate}
use Rattle.msg_admin.specs.declared.reply.Reply.{Reply}
use Rattle.walk.specs.Rule.{PartRule}
use Rattle.walk.specs.Walk.{parts_refused, refusals}
use Rattle.walk.specs.Woven.{has_any}
use Rattle.broker_world.specs.World.{World, rules_of}
use Rattle.broker_world.specs.Whole.{Served, whole_outcome_by}
use Rattle.broker_world.specs.Questions.{topic_part, topic_refusal}
use Rattle.data_handlers.specs.Metadata.{topic_refusals}
use Rattle.data_handlers.specs.Produce.{produce_questions, producing_rule}
use Rattle.data_handlers.specs.Fetch.{fetch_rule}
use Rattle.data_handlers.specs.ListOffsets.{list_rule}
use Rattle.group_handlers.specs.OffsetCommit.{commit_questions, committing_rule}
use Rattle.group_handlers.specs.OffsetFetch.{group_question, offset_rule, offsets_of, fetched_outcome, offset_fetch_by}
use Rattle.group_handlers.specs.FindCoordinator.{kind_of, find_questions}
use Rattle.broker_world.specs.Questions.{read_question}
use Rattle.group_handlers.specs.Members.{served_join, served_sync, served_heartbeat, served_leave}
use Rattle.txn_handlers.specs.InitProducerId.{init_questions, served_init}
use Rattle.txn_handlers.specs.AddOffsets.{add_offsets_questions, served_add_offsets}
use Rattle.txn_handlers.specs.EndTxn.{served_end, end_questions}
use Rattle.txn_handlers.specs.TxnOffsetCommit.{staging_of, stage_questions, staging_rule}
use Rattle.txn_handlers.specs.AddPartitions.{add_questions, cut_rule, is_missing, is_cut, cut_outcome, added_outcome, add_partitions_outcome}
use Rattle.acl_handlers.specs.DescribeAcls.{describe_acls_questions}
use Rattle.acl_handlers.specs.CreateAcls.{alter_questions}
use Rattle.api_dispatch.specs.Step.{request_outcome}
use Rattle.api_dispatch.specs.Questions.{fetch_questions, partition_parts, topic_parts, offset_parts}
use Rattle.api_dispatch.specs.Refusals.{refusals_in, refusal_or_rest, request_refusals, RefusalsAreOfParts}

-- ---- a walk

module _ (rules : Rules) (asks : List ℕ → List Question) where
  parts_told : {P A W : Type 0} (api : PartRule P A W) → ((name : List ℕ) (p : P) → api.questions name p ≡ asks name) → (name : List ℕ) (ps : List P) → parts_refused api rules name ps ≡ refusals_in rules (map (λ (p : P). asks name) ps)
  parts_told api same name [] = refl
  parts_told api same name (p ∷ ps) =
      ap (λ (qs : List Question). cons_option (part_refusal rules qs) (parts_refused api rules name ps)) (same name p)
      ∙ ap (cons_option (part_refusal rules (asks name))) (parts_told api same name ps)

  pub walk_told : {P A W : Type 0} (api : PartRule P A W) → ((name : List ℕ) (p : P) → api.questions name p ≡ asks name) → (ts : List (Topic P)) → refusals api rules ts ≡ refusals_in rules (partition_parts asks ts)
  walk_told api same [] = refl
  walk_told {P = P} api same (t ∷ ts) =
      ap (λ (rs : List Refusal). rs ++ refusals api rules ts) (parts_told api same t.name t.partitions)
      ∙ ap (λ (rs : List Refusal). refusals_in rules (map (λ (p : P). asks t.name) t.partitions) ++ rs) (walk_told api same ts)
      ∙ sym (filter_map-append (part_refusal rules) (map (λ (p : P). asks t.name) t.partitions) (partition_parts asks ts))

-- ---- a request that is one part

whole_told : (o : Option Refusal) (w : World) (refused : ErrorCode → Reply) (served : Served) → (whole_outcome_by o w refused served).refusals ≡ cons_option o []
whole_told None w refused served = refl
whole_told (Some r) w refused served = refl

-- ---- Metadata

names_told : (rules : Rules) (caller : Caller) (names : List (List ℕ)) → filter_map (topic_refusal rules caller) names ≡ refusals_in rules (map (topic_part caller) names)
names_told rules caller [] = refl
names_told rules caller (name ∷ names) = ap (cons_option (topic_refusal rules caller name)) (names_told rules caller names)

topics_told : (rules : Rules) (caller : Caller) (topics : Option (List (List ℕ))) → topic_refusals rules caller topics ≡ refusals_in rules (topic_parts caller topics)
topics_told rules caller None = refl
topics_told rules caller (Some names) = names_told rules caller names

-- ---- OffsetFetch

module _ (w : World) (caller : Caller) (r : OffsetFetchRequest) where
  fetched_told : (topics : Option (List (Topic ℤ))) → (fetched_outcome w caller (offsets_of w r.group) r.require_stable topics).refusals ≡ refusals_in (rules_of w) (offset_parts caller topics)
  fetched_told None = refl
  fetched_told (Some ts) = walk_told (rules_of w) (topic_part caller) (offset_rule caller (offsets_of w r.group) r.require_stable) (λ name index. refl) ts

  offsets_told : (o : Option Refusal) → (offset_fetch_by o w caller r).refusals ≡ refusal_or_rest o (refusals_in (rules_of w) (offset_parts caller r.topics))
  offsets_told None = fetched_told r.topics
  offsets_told (Some refusal) = refl

-- ---- AddPartitionsToTxn

none_told : (rs : List Refusal) (b : Bool) → (has_any rs || b) ≡ false → [] ≡ rs
none_told [] b h = refl
none_told (r ∷ rs) b h = absurd (let clash : true ≡ false = h in cc)

add_told : (w : World) (caller : Caller) (r : AddPartitionsToTxnRequest) → (add_partitions_outcome w caller r).refusals ≡ refusals (cut_rule caller r.transactional_id w.topics) (rules_of w) r.topics
add_told w caller r = by_cut (is_cut caller r.transactional_id w.topics (rules_of w) r.topics) refl where
  by_cut : (b : Bool) → is_cut caller r.transactional_id w.topics (rules_of w) r.topics ≡ b → (cond b (cut_outcome w caller r) (added_outcome w r)).refusals ≡ refusals (cut_rule caller r.transactional_id w.topics) (rules_of w) r.topics
  by_cut true is = refl
  by_cut false is = none_told (refusals (cut_rule caller r.transactional_id w.topics) (rules_of w) r.topics) (is_missing w.topics r.topics) is

-- ---- each api

module _ (w : World) (caller : Caller) where
  asked_told : (qs : List Question) (refused : ErrorCode → Reply) (served : Served) → (whole_outcome_by (part_refusal (rules_of w) qs) w refused served).refusals ≡ refusals_in (rules_of w) (qs ∷ [])
  asked_told qs refused served = whole_told (part_refusal (rules_of w) qs) w refused served

  told : (request : Request) → (request_outcome w caller request).refusals ≡ request_refusals (rules_of w) caller request
  told (Produce r) = walk_told (rules_of w) (produce_questions caller r.transactional_id) (producing_rule w caller r) (λ name p. refl) r.topics
  told (Fetch r) = walk_told (rules_of w) (fetch_questions caller) (fetch_rule caller r.isolation w.topics) (λ name p. refl) r.topics
  told (ListOffsets r) = walk_told (rules_of w) (topic_part caller) (list_rule caller r.isolation w.topics) (λ name p. refl) r.topics
  told (Metadata r) = topics_told (rules_of w) caller r.topics
  told (OffsetCommit r) = walk_told (rules_of w) (commit_questions caller r.group) (committing_rule w caller r) (λ name p. refl) r.topics
  told (OffsetFetch r) = offsets_told w caller r (part_refusal (rules_of w) (group_question caller r.group ∷ []))
  told (FindCoordinator r) = asked_told (find_questions caller (kind_of r.key_type) r.key) _ _
  told (JoinGroup r) = asked_told (read_question caller r.group ∷ []) _ (served_join w r)
  told (Heartbeat r) = asked_told (read_question caller r.group ∷ []) _ (served_heartbeat w r)
  told (LeaveGroup r) = asked_told (read_question caller r.group ∷ []) _ (served_leave w r)
  told (SyncGroup r) = asked_told (read_question caller r.group ∷ []) _ (served_sync w r)
  told (InitProducerId r) = asked_told (init_questions (rules_of w) caller r.transactional_id) _ (served_init w r)
  told (AddPartitionsToTxn r) =
      add_told w caller r ∙ walk_told (rules_of w) (add_questions caller r.transactional_id) (cut_rule caller r.transactional_id w.topics) (λ name index. refl) r.topics
  told (AddOffsetsToTxn r) = asked_told (add_offsets_questions caller r.transactional_id r.group) _ (served_add_offsets w r)
  told (EndTxn r) = asked_told (end_questions caller r) _ (served_end w r)
  told (TxnOffsetCommit r) = walk_told (rules_of w) (stage_questions caller (staging_of r)) (staging_rule w caller r) (λ name p. refl) r.topics
  told (SaslHandshake r) = refl
  told ApiVersions = refl
  told (SaslAuthenticate r) = refl
  told (DescribeAcls r) = asked_told (describe_acls_questions caller) _ _
  told (CreateAcls r) = asked_told (alter_questions caller) _ _
  told (DeleteAcls r) = asked_told (alter_questions caller) _ _

pub refusals_are_of_parts : RefusalsAreOfParts
refusals_are_of_parts w caller client request = told w caller request
