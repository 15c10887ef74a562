-- What is allowed is exactly what is granted.
use Rattle.std.proofs.Common.{◌≡◌, ℕ, ℤ, Bool, true, false, cond, List, [], ◌∷◌, ◌++◌, map, Option, Some, None, refl, sym, ap, ◌∙◌}
use Rattle.std.specs.Prelude.{filter, is_none}
use Rattle.std.specs.List.{cons_option}
use Rattle.std.proofs.lemmas.List.Elements.{filter-append}
use Rattle.acl_binding.specs.declared.question.Caller.{Caller}
use Rattle.acl_binding.specs.declared.question.Question.{Question}
use Rattle.authorizer.specs.declared.answer.Refusal.{Refusal}
use Rattle.authorizer.specs.Asking.{Rules, part_refusal}
use Rattle.wire_types.specs.declared.topic.Topic.{Topic}
use Rattle.msg_group.specs.declared.offset_fetch.OffsetFetchRequest.{OffsetFetchRequest}
use Rattle.msg_txn.specs.declared.add_partitions.AddPartitionsToTxnRequest.{AddPartitionsToTxnRequest}
use Rattle.msg_admin.specs.declared.request.Request.{Request}
use Rattle.msg_admin.specs.declared.request.Request.TheVariants.{Produce, Fetch, ListOffsets, Metadata, OffsetCommit, OffsetFetch, FindCoordinator, JoinGroup, Heartbeat, LeaveGroup, SyncGroup, SaslHandshake, ApiVersions, InitProducerId, AddPartitionsToTxn, AddOffsetsToTxn, EndTxn, TxnOffsetCommit, DescribeAcls, CreateAcls, DeleteAcls, SaslAuthenticate}
use Rattle.broker_world.specs.Questions.{topic_part}
use Rattle.data_handlers.specs.Produce.{produce_questions}
use Rattle.group_handlers.specs.OffsetCommit.{commit_questions}
use Rattle.group_handlers.specs.OffsetFetch.{group_question}
use Rattle.txn_handlers.specs.AddPartitions.{add_questions}
use Rattle.txn_handlers.specs.TxnOffsetCommit.{staging_of, stage_questions}
use Rattle.api_dispatch.specs.Questions.{fetch_questions, partition_parts, topic_parts, offset_parts, parts_of}
use Rattle.api_dispatch.specs.Refusals.{refusals_in, refusal_or_rest, request_refusals}
use Rattle.std.specs.Option.{option_map}
use Rattle.plain_broker.specs.Allowed.{allowed_part, unrefused_names, unrefused_topics, whole_or_cut, rest_or_nothing}
use Rattle.plain_broker.specs.Exactly.{is_granted, IsExact, AllowedIsExact, RefusedAnswers}
use Rattle.plain_broker.proofs.Terms.{refused_by}

module _ (rules : Rules) where
  -- ---- partitions

  granted_parts : {P : Type 0} (qs : List Question) (ps : List P) → map (λ (p : P). qs) (filter (λ (p : P). is_granted rules qs) ps) ≡ filter (is_granted rules) (map (λ (p : P). qs) ps)
  granted_parts qs [] = refl
  granted_parts {P = P} qs (p ∷ ps) = by_grant (granted_parts qs ps) (is_granted rules qs) where
    by_grant : map (λ (x : P). qs) (filter (λ (x : P). is_granted rules qs) ps) ≡ filter (is_granted rules) (map (λ (x : P). qs) ps) → (b : Bool)
        → map (λ (x : P). qs) (cond b (p ∷ filter (λ (x : P). is_granted rules qs) ps) (filter (λ (x : P). is_granted rules qs) ps)) ≡ cond b (qs ∷ filter (is_granted rules) (map (λ (x : P). qs) ps)) (filter (is_granted rules) (map (λ (x : P). qs) ps))
    by_grant rest true = ap (λ (l : List (List Question)). qs ∷ l) rest
    by_grant rest false = rest

  granted_walk : {P : Type 0} (asks : List ℕ → List Question) (ts : List (Topic P)) → partition_parts asks (unrefused_topics (refused_by rules asks) ts) ≡ filter (is_granted rules) (partition_parts asks ts)
  granted_walk asks [] = refl
  granted_walk {P = P} asks (t ∷ ts) =
      ap (λ (l : List (List Question)). l ++ partition_parts asks (unrefused_topics (refused_by rules asks) ts)) (granted_parts (asks t.name) t.partitions)
      ∙ ap (λ (l : List (List Question)). filter (is_granted rules) (map (λ (p : P). asks t.name) t.partitions) ++ l) (granted_walk asks ts)
      ∙ sym (filter-append (is_granted rules) (map (λ (p : P). asks t.name) t.partitions) (partition_parts asks ts))

  -- ---- names

  granted_list : (caller : Caller) (names : List (List ℕ)) → map (topic_part caller) (unrefused_names (refused_by rules (topic_part caller)) names) ≡ filter (is_granted rules) (map (topic_part caller) names)
  granted_list caller [] = refl
  granted_list caller (name ∷ names) = by_grant (granted_list caller names) (is_granted rules (topic_part caller name)) where
    by_grant : map (topic_part caller) (unrefused_names (refused_by rules (topic_part caller)) names) ≡ filter (is_granted rules) (map (topic_part caller) names) → (b : Bool)
        → map (topic_part caller) (cond b (name ∷ unrefused_names (refused_by rules (topic_part caller)) names) (unrefused_names (refused_by rules (topic_part caller)) names)) ≡ cond b (topic_part caller name ∷ filter (is_granted rules) (map (topic_part caller) names)) (filter (is_granted rules) (map (topic_part caller) names))
    by_grant rest true = ap (λ (l : List (List Question)). topic_part caller name ∷ l) rest
    by_grant rest false = rest

  granted_topics : (caller : Caller) (topics : Option (List (List ℕ))) → topic_parts caller (option_map (unrefused_names (refused_by rules (topic_part caller))) topics) ≡ filter (is_granted rules) (topic_parts caller topics)
  granted_topics caller None = refl
  granted_topics caller (Some names) = granted_list caller names

  granted_offsets : (caller : Caller) (topics : Option (List (Topic ℤ))) → offset_parts caller (option_map (unrefused_topics (refused_by rules (topic_part caller))) topics) ≡ filter (is_granted rules) (offset_parts caller topics)
  granted_offsets caller None = refl
  granted_offsets caller (Some ts) = granted_walk (topic_part caller) ts

  -- ---- a request without a refusal

  head_none : (o : Option Refusal) (xs : List Refusal) → cons_option o xs ≡ [] → o ≡ None
  head_none None xs h = refl
  head_none (Some x) xs h = absurd (let clash : x ∷ xs ≡ [] = h in cc)

  tail_none : (o : Option Refusal) (xs : List Refusal) → cons_option o xs ≡ [] → xs ≡ []
  tail_none None xs h = h
  tail_none (Some x) xs h = absurd (let clash : x ∷ xs ≡ [] = h in cc)

  all_granted : (parts : List (List Question)) → refusals_in rules parts ≡ [] → filter (is_granted rules) parts ≡ parts
  all_granted [] none = refl
  all_granted (qs ∷ parts) none =
      ap (λ (o : Option Refusal). cond (is_none o) (qs ∷ filter (is_granted rules) parts) (filter (is_granted rules) parts)) (head_none (part_refusal rules qs) (refusals_in rules parts) none)
      ∙ ap (λ (l : List (List Question)). qs ∷ l) (all_granted parts (tail_none (part_refusal rules qs) (refusals_in rules parts) none))

  module _ (caller : Caller) where
    -- a request that is one part
    whole : (request : Request) (qs : List Question) → parts_of rules caller request ≡ qs ∷ [] → request_refusals rules caller request ≡ refusals_in rules (qs ∷ []) → IsExact rules caller request (rest_or_nothing request (part_refusal rules qs))
    whole request qs parts refusals = by_refusal (part_refusal rules qs) refl where
      by_refusal : (o : Option Refusal) → part_refusal rules qs ≡ o → IsExact rules caller request (rest_or_nothing request o)
      by_refusal None is = parts ∙ sym (ap (filter (is_granted rules)) parts ∙ ap (λ (o : Option Refusal). cond (is_none o) (qs ∷ []) []) is)
      by_refusal (Some r) is = (r, refusals ∙ ap (λ (o : Option Refusal). cons_option o []) is, refl)

    offsets : (r : OffsetFetchRequest) (o : Option Refusal) → part_refusal rules (group_question caller r.group ∷ []) ≡ o
        → IsExact rules caller (OffsetFetch r) (rest_or_nothing (OffsetFetch (record r { topics = option_map (unrefused_topics (refused_by rules (topic_part caller))) r.topics })) o)
    offsets r None is =
        ap (λ (l : List (List Question)). (group_question caller r.group ∷ []) ∷ l) (granted_offsets caller r.topics)
        ∙ sym (ap (λ (o : Option Refusal). cond (is_none o) ((group_question caller r.group ∷ []) ∷ filter (is_granted rules) (offset_parts caller r.topics)) (filter (is_granted rules) (offset_parts caller r.topics))) is)
    offsets r (Some x) is = (x, ap (λ (o : Option Refusal). refusal_or_rest o (refusals_in rules (offset_parts caller r.topics))) is, refl)

    cuts : (r : AddPartitionsToTxnRequest) (rs : List Refusal) → refusals_in rules (partition_parts (add_questions caller r.transactional_id) r.topics) ≡ rs
        → IsExact rules caller (AddPartitionsToTxn r) (whole_or_cut (AddPartitionsToTxn r) (record r { topics = unrefused_topics (refused_by rules (add_questions caller r.transactional_id)) r.topics }) rs)
    cuts r [] is = sym (all_granted (partition_parts (add_questions caller r.transactional_id) r.topics) is)
    cuts r (x ∷ xs) is = granted_walk (add_questions caller r.transactional_id) r.topics

    exact : (request : Request) → IsExact rules caller request (allowed_part rules caller request)
    exact (Produce r) = granted_walk (produce_questions caller r.transactional_id) r.topics
    exact (Fetch r) = granted_walk (fetch_questions caller) r.topics
    exact (ListOffsets r) = granted_walk (topic_part caller) r.topics
    exact (Metadata r) = granted_topics caller r.topics
    exact (OffsetCommit r) = granted_walk (commit_questions caller r.group) r.topics
    exact (OffsetFetch r) = offsets r (part_refusal rules (group_question caller r.group ∷ [])) refl
    exact (AddPartitionsToTxn r) = cuts r (refusals_in rules (partition_parts (add_questions caller r.transactional_id) r.topics)) refl
    exact (TxnOffsetCommit r) = granted_walk (stage_questions caller (staging_of r)) r.topics
    exact (FindCoordinator r) = whole (FindCoordinator r) _ refl refl
    exact (JoinGroup r) = whole (JoinGroup r) _ refl refl
    exact (Heartbeat r) = whole (Heartbeat r) _ refl refl
    exact (LeaveGroup r) = whole (LeaveGroup r) _ refl refl
    exact (SyncGroup r) = whole (SyncGroup r) _ refl refl
    exact (InitProducerId r) = whole (InitProducerId r) _ refl refl
    exact (AddOffsetsToTxn r) = whole (AddOffsetsToTxn r) _ refl refl
    exact (EndTxn r) = whole (EndTxn r) _ refl refl
    exact (SaslHandshake r) = whole (SaslHandshake r) _ refl refl
    exact ApiVersions = whole ApiVersions _ refl refl
    exact (SaslAuthenticate r) = whole (SaslAuthenticate r) _ refl refl
    exact (DescribeAcls r) = whole (DescribeAcls r) _ refl refl
    exact (CreateAcls r) = whole (CreateAcls r) _ refl refl
    exact (DeleteAcls r) = whole (DeleteAcls r) _ refl refl

pub allowed_is_exact : AllowedIsExact
allowed_is_exact rules caller request = exact rules caller request

pub refused_answers : RefusedAnswers
refused_answers = record {
  produce = λ code p. refl;
  fetch = λ code p. refl;
  list_offsets = λ code p. refl;
  metadata = λ code name. refl;
  offset_commit = λ code p. refl;
  offset_fetch = λ code index. refl;
  add_partitions = λ code index. refl;
  txn_offset_commit = λ code p. refl;
  offset_fetch_itself = λ code r. refl;
  find_coordinator = λ code r. refl;
  join_group = λ code r. refl;
  sync_group = λ code r. refl;
  heartbeat = λ code r. refl;
  leave_group = λ code r. refl;
  init_producer_id = λ code r. refl;
  add_offsets = λ code r. refl;
  end_txn_0 = λ code r. refl;
  end_txn_1 = λ code r. refl;
  end_txn_2 = λ code r. refl;
  end_txn_3 = λ code r. refl;
  end_txn_4 = λ code r. refl;
  end_txn_5 = λ code r. refl;
  describe_acls = λ code r. refl;
  create_acls = λ code r. refl;
  delete_acls = λ code r. refl;
}
