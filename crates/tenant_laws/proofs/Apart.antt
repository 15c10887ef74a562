-- A reply depends on no topic, group or id that its request wasn't granted: api by api.
use Rattle.std.proofs.Common.{◌≡◌, ℕ, ℤ, pos, Bool, true, false, cond, List, [], ◌∷◌, map, length, Option, Some, None, refl, sym, ap, subst, ◌∙◌}
use Rattle.std.specs.Prelude.{is_none, filter, unwrap_or}
use Rattle.std.specs.Ordering.{int_eq}
use Rattle.std.specs.Option.{option_map}
use Rattle.std.specs.List.{AllByRecursion, filter_map}
use Rattle.acl_binding.specs.declared.question.Caller.{Caller}
use Rattle.acl_binding.specs.declared.question.Question.{Question}
use Rattle.acl_binding.specs.declared.question.Verdict.{Verdict}
use Rattle.authorizer.specs.declared.answer.Refusal.{Refusal}
use Rattle.walk.specs.Codes.{refusal_code}
use Rattle.walk.specs.Woven.{has_any}
use Rattle.authorizer.specs.Asking.{Rules, part_refusal}
use Rattle.wire_types.specs.declared.error_code.ErrorCode.{ErrorCode}
use Rattle.wire_types.specs.declared.error_code.ErrorCode.TheVariants as codes
use Rattle.wire_types.specs.declared.topic.Topic.{Topic}
use Rattle.msg_data.specs.declared.produce.ProduceRequest.{ProduceRequest}
use Rattle.msg_data.specs.declared.produce.ProducedOffset.{ProducedOffset}
use Rattle.msg_data.specs.declared.fetch.FetchRequest.{FetchRequest}
use Rattle.msg_data.specs.declared.fetch.FetchedRecords.{FetchedRecords}
use Rattle.msg_data.specs.declared.list_offsets.ListOffsetsRequest.{ListOffsetsRequest}
use Rattle.msg_data.specs.declared.list_offsets.FoundOffset.{FoundOffset}
use Rattle.msg_data.specs.declared.metadata.MetadataRequest.{MetadataRequest}
use Rattle.msg_data.specs.declared.metadata.TopicInfo.{TopicInfo}
use Rattle.msg_group.specs.declared.offset_commit.OffsetCommitRequest.{OffsetCommitRequest}
use Rattle.msg_group.specs.declared.offset_commit.CommittedOffset.{CommittedOffset}
use Rattle.msg_group.specs.declared.offset_fetch.OffsetFetchRequest.{OffsetFetchRequest}
use Rattle.msg_txn.specs.declared.txn_offset_commit.TxnOffsetCommitRequest.{TxnOffsetCommitRequest}
use Rattle.msg_txn.specs.declared.txn_offset_commit.StagedOffset.{StagedOffset}
use Rattle.msg_txn.specs.declared.add_partitions.AddPartitionsToTxnRequest.{AddPartitionsToTxnRequest}
use Rattle.msg_txn.specs.declared.add_partitions.AddedPartition.{AddedPartition}
use Rattle.msg_admin.specs.declared.request.Request.{Request}
use Rattle.msg_admin.specs.declared.request.Request.TheVariants.{Produce, Fetch, ListOffsets, Metadata, OffsetCommit, OffsetFetch, FindCoordinator, JoinGroup, Heartbeat, LeaveGroup, SyncGroup, SaslHandshake, ApiVersions, InitProducerId, AddPartitionsToTxn, AddOffsetsToTxn, EndTxn, TxnOffsetCommit, DescribeAcls, CreateAcls, DeleteAcls, SaslAuthenticate}
use Rattle.msg_admin.specs.declared.reply.Reply.{Reply}
use Rattle.msg_admin.specs.declared.reply.Reply.TheVariants as replies
use Rattle.audit_trail.specs.declared.event.Event.TheVariants.{Ask}
use Rattle.group_offsets.specs.declared.group.Group.{Group}
use Rattle.group_offsets.specs.Group.{fresh_group}
use Rattle.broker_world.specs.Brokers.{brokers_of}
use Rattle.broker_world.specs.declared.node.Node.{Node}
use Rattle.broker_world.specs.World.{World, LogValue, rules_of}
use Rattle.broker_world.specs.Logs.{log_at}
use Rattle.broker_world.specs.Questions.{topic_part}
use Rattle.data_handlers.specs.Produce.{produce_questions, produced_error}
use Rattle.data_handlers.specs.Fetch.{fetched_error}
use Rattle.data_handlers.specs.ListOffsets.{listed_error}
use Rattle.group_handlers.specs.OffsetCommit.{commit_questions, committed_code}
use Rattle.txn_handlers.specs.EndTxn.{end_questions}
use Rattle.txn_handlers.specs.TxnOffsetCommit.{staging_of, stage_questions, staged_code}
use Rattle.group_handlers.specs.OffsetFetch.{group_question, fetched_code, fetch_reply, offsets_of, offset_fetch_by, listed_topics}
use Rattle.group_handlers.specs.FindCoordinator.{kind_of, find_questions}
use Rattle.broker_world.specs.Questions.{read_question}
use Rattle.txn_handlers.specs.InitProducerId.{init_questions}
use Rattle.txn_handlers.specs.AddPartitions.{add_questions, cut_code, add_reply, is_cut, cut_outcome, added_outcome}
use Rattle.txn_handlers.specs.AddPartitions.{added_partition}
use Rattle.txn_handlers.specs.AddOffsets.{add_offsets_questions}
use Rattle.acl_handlers.specs.DescribeAcls.{describe_acls_questions}
use Rattle.acl_handlers.specs.CreateAcls.{alter_questions}
use Rattle.api_dispatch.specs.Step.{reply_to}
use Rattle.api_laws.proofs.DataGrants.{same_log}
use Rattle.api_dispatch.specs.Questions.{fetch_questions, partition_parts, offset_parts, parts_of, questions_of, wants_all}
use Rattle.api_dispatch.specs.Refusals.{refusals_in}
use Rattle.api_dispatch.specs.Refusals.{refusal_or_rest, request_refusals}
use Rattle.api_dispatch.proofs.Told.{refusals_are_of_parts}
use Rattle.plain_broker.specs.Allowed.{Allowed, Rest, Cut, Nothing, unrefused_topics, unrefused_names, whole_or_cut, rest_or_nothing, allowed_part}
use Rattle.plain_broker.proofs.Terms.{refused_by}
use Rattle.plain_broker.specs.Exactly.{is_granted}
use Rattle.plain_broker.specs.PutBack.{reply_with_refused}
use Rattle.plain_broker.specs.Plain.{unrestricted_world, plain_outcome, plain_cut, with_refusals}
use Rattle.plain_broker.specs.Plainness.{is_about_bindings}
use Rattle.plain_broker.specs.Exactly.{IsExact}
use Rattle.plain_broker.proofs.Together.{plain_of_allowed}
use Rattle.plain_broker.proofs.Exact.{allowed_is_exact}
use Rattle.tenant_laws.specs.Laws.{SameVerdicts}
use Rattle.api_laws.specs.Headline.{is_yes}
use Rattle.tenant_laws.specs.Replies.{SameNumbers, SameAbout, granted_parts, Sized, described_sizes, SameGrants, SameForReply, SameForParts, RepliesDependOnGrantedParts, AnswersDependOnGrantedParts, ReceiptsDependOnGrantedParts}
use Rattle.tenant_laws.proofs.Decided.{SameRefusal, SameCode, all_front, all_back, each_part, each_code, any_same, refusals_same, granted_same, put_same, names_same, infos_same}
use Rattle.tenant_laws.proofs.Core.{plain_same}
use Rattle.tenant_laws.proofs.Sizes.{told_sized, infos_of, told_by_sizes, infos_by_sizes}

-- ---- what is left of a request, by the code of its refusal

abbrev by_code : Request → Option ErrorCode → Allowed
by_code request None = Rest request
by_code request (Some code) = Nothing code

abbrev pub first_part : List (List Question) → List Question
first_part [] = []
first_part (qs ∷ parts) = qs

rest_code : (request : Request) (o : Option Refusal) → rest_or_nothing request o ≡ by_code request (option_map refusal_code o)
rest_code request None = refl
rest_code request (Some r) = refl

cut_code_by : (request : Request) (cut : AddPartitionsToTxnRequest) (rs : List Refusal) → whole_or_cut request cut rs ≡ cond (has_any rs) (Cut cut) (Rest request)
cut_code_by request cut [] = refl
cut_code_by request cut (r ∷ rs) = refl

null_code : (w : World) (caller : Caller) (r : OffsetFetchRequest) (a b : Option Refusal) → option_map refusal_code a ≡ option_map refusal_code b → (offset_fetch_by a w caller r).reply ≡ (offset_fetch_by b w caller r).reply
null_code w caller r None None same = refl
null_code w caller r None (Some y) same = absurd (let clash : None ≡ Some (refusal_code y) = same in cc)
null_code w caller r (Some x) None same = absurd (let clash : Some (refusal_code x) ≡ None = same in cc)
null_code w caller r (Some x) (Some y) same = ap (λ (o : Option ErrorCode). fetch_reply (unwrap_or o codes.None) []) same

-- the logs of the granted partitions of a cut request are the same
module _ (v w : World) (caller : Caller) (id : List ℕ) where
  cut_parts_same : (name : List ℕ) (ps : List ℤ) → AllByRecursion (SameAbout v w) (map (λ (p : ℤ). add_questions caller id name) ps)
      → map (λ (index : ℤ). added_partition (cut_code (log_at v.topics name index)) index) ps ≡ map (λ (index : ℤ). added_partition (cut_code (log_at w.topics name index)) index) ps
  cut_parts_same name [] about = refl
  cut_parts_same name (p ∷ ps) about =
      ap (λ (o : Option LogValue). added_partition (cut_code o) p ∷ map (λ (index : ℤ). added_partition (cut_code (log_at v.topics name index)) index) ps) (same_log v.topics w.topics name p about.0.1.0)
      ∙ ap (λ (l : List AddedPartition). added_partition (cut_code (log_at w.topics name p)) p ∷ l) (cut_parts_same name ps about.1)

  cuts_same : (ts : List (Topic ℤ)) → AllByRecursion (SameAbout v w) (partition_parts (add_questions caller id) ts) → map (plain_cut v.topics) ts ≡ map (plain_cut w.topics) ts
  cuts_same [] about = refl
  cuts_same (t ∷ ts) about =
      ap (λ (l : List AddedPartition). record { name = t.name; partitions = l } ∷ map (plain_cut v.topics) ts) (cut_parts_same t.name t.partitions (all_front _ (map (λ (p : ℤ). add_questions caller id t.name) t.partitions) (partition_parts (add_questions caller id) ts) about))
      ∙ ap (λ (l : List (Topic AddedPartition)). plain_cut w.topics t ∷ l) (cuts_same ts (all_back _ (map (λ (p : ℤ). add_questions caller id t.name) t.partitions) (partition_parts (add_questions caller id) ts) about))

module _ (v w : World) (caller : Caller) (client : Option (List ℕ)) where
  abbrev rv : Rules
  rv = rules_of v

  abbrev rw : Rules
  rw = rules_of w

  -- where no null list comes to topics
  abbrev Replied : Request → Type 0
  Replied request = reply_to v (Ask caller client request) ≡ reply_to w (Ask caller client request)

  each : (request : Request) → SameForReply v w caller request → AllByRecursion (SameCode v w) (parts_of rw caller request)
  each request same = each_code v w (parts_of rw caller request) same.grants

  -- by the plain broker
  plainly : (request : Request) → (with_refusals v caller request (allowed_part rv caller request)).reply ≡ (with_refusals w caller request (allowed_part rw caller request)).reply → Replied request
  plainly request same = (plain_of_allowed v caller client request).reply ∙ same ∙ sym (plain_of_allowed w caller client request).reply

  -- ---- a walk

  module _ {P : Type 0} (asks : List ℕ → List Question) (ts : List (Topic P)) (make : List (Topic P) → Request) (put : Rules → Reply → Reply) where
    walk_same : SameNumbers v w → wants_all (make (unrefused_topics (refused_by rw asks) ts)) ≡ false → (is_about_bindings (make (unrefused_topics (refused_by rw asks) ts)) ≡ true → v.book ≡ w.book)
        → AllByRecursion (SameCode v w) (partition_parts asks ts) → AllByRecursion (SameAbout v w) (parts_of rw caller (make (unrefused_topics (refused_by rw asks) ts)))
        → put rv (plain_outcome w caller (make (unrefused_topics (refused_by rw asks) ts))).reply ≡ put rw (plain_outcome w caller (make (unrefused_topics (refused_by rw asks) ts))).reply
        → put rv (plain_outcome v caller (make (unrefused_topics (refused_by rv asks) ts))).reply ≡ put rw (plain_outcome w caller (make (unrefused_topics (refused_by rw asks) ts))).reply
    walk_same numbers named bindings all about puts =
        ap (λ (l : List (Topic P)). put rv (plain_outcome v caller (make l)).reply) (granted_same v w asks ts all)
        ∙ ap (put rv) (plain_same v w caller (make (unrefused_topics (refused_by rw asks) ts)) numbers named bindings about)
        ∙ puts

  produce_put : (r : ProduceRequest) (b : Bool) (l : List (Topic ProducedOffset)) → AllByRecursion (SameCode v w) (parts_of rw caller (Produce r))
      → reply_with_refused rv caller (Produce r) (cond b (replies.SilentProduce (record { topics = l; throttle = pos 0 })) (replies.Produce (record { topics = l; throttle = pos 0 }))) ≡ reply_with_refused rw caller (Produce r) (cond b (replies.SilentProduce (record { topics = l; throttle = pos 0 })) (replies.Produce (record { topics = l; throttle = pos 0 })))
  produce_put r true l all = ap (λ (topics : List (Topic ProducedOffset)). replies.SilentProduce (record { topics = topics; throttle = pos 0 })) (put_same v w (produce_questions caller r.transactional_id) produced_error r.topics l all)
  produce_put r false l all = ap (λ (topics : List (Topic ProducedOffset)). replies.Produce (record { topics = topics; throttle = pos 0 })) (put_same v w (produce_questions caller r.transactional_id) produced_error r.topics l all)

  produces : (r : ProduceRequest) → SameForReply v w caller (Produce r) → Replied (Produce r)
  produces r same = plainly (Produce r)
      (walk_same (produce_questions caller r.transactional_id) r.topics (λ l. Produce (record r { topics = l })) (λ rules a. reply_with_refused rules caller (Produce r) a) same.numbers refl same.bindings (each (Produce r) same)
      (subst (AllByRecursion (SameAbout v w)) (sym (allowed_is_exact rw caller (Produce r))) same.granted)
      (produce_put r (int_eq r.acks (pos 0)) _ (each (Produce r) same)))

  fetches : (r : FetchRequest) → SameForReply v w caller (Fetch r) → Replied (Fetch r)
  fetches r same = plainly (Fetch r)
      (walk_same (fetch_questions caller) r.topics (λ l. Fetch (record r { topics = l })) (λ rules a. reply_with_refused rules caller (Fetch r) a) same.numbers refl same.bindings (each (Fetch r) same)
      (subst (AllByRecursion (SameAbout v w)) (sym (allowed_is_exact rw caller (Fetch r))) same.granted)
      (ap (λ (l : List (Topic FetchedRecords)). replies.Fetch (record { throttle = pos 0; topics = l })) (put_same v w (fetch_questions caller) fetched_error r.topics _ (each (Fetch r) same))))

  lists : (r : ListOffsetsRequest) → SameForReply v w caller (ListOffsets r) → Replied (ListOffsets r)
  lists r same = plainly (ListOffsets r)
      (walk_same (topic_part caller) r.topics (λ l. ListOffsets (record r { topics = l })) (λ rules a. reply_with_refused rules caller (ListOffsets r) a) same.numbers refl same.bindings (each (ListOffsets r) same)
      (subst (AllByRecursion (SameAbout v w)) (sym (allowed_is_exact rw caller (ListOffsets r))) same.granted)
      (ap (λ (l : List (Topic FoundOffset)). replies.ListOffsets (record { throttle = pos 0; topics = l })) (put_same v w (topic_part caller) listed_error r.topics _ (each (ListOffsets r) same))))

  commits : (r : OffsetCommitRequest) → SameForReply v w caller (OffsetCommit r) → Replied (OffsetCommit r)
  commits r same = plainly (OffsetCommit r)
      (walk_same (commit_questions caller r.group) r.topics (λ l. OffsetCommit (record r { topics = l })) (λ rules a. reply_with_refused rules caller (OffsetCommit r) a) same.numbers refl same.bindings (each (OffsetCommit r) same)
      (subst (AllByRecursion (SameAbout v w)) (sym (allowed_is_exact rw caller (OffsetCommit r))) same.granted)
      (ap (λ (l : List (Topic CommittedOffset)). replies.OffsetCommit (record { topics = l })) (put_same v w (commit_questions caller r.group) committed_code r.topics _ (each (OffsetCommit r) same))))

  stages : (r : TxnOffsetCommitRequest) → SameForReply v w caller (TxnOffsetCommit r) → Replied (TxnOffsetCommit r)
  stages r same = plainly (TxnOffsetCommit r)
      (walk_same (stage_questions caller (staging_of r)) r.topics (λ l. TxnOffsetCommit (record r { topics = l })) (λ rules a. reply_with_refused rules caller (TxnOffsetCommit r) a) same.numbers refl same.bindings (each (TxnOffsetCommit r) same)
      (subst (AllByRecursion (SameAbout v w)) (sym (allowed_is_exact rw caller (TxnOffsetCommit r))) same.granted)
      (ap (λ (l : List (Topic StagedOffset)). replies.TxnOffsetCommit (record { throttle = pos 0; topics = l })) (put_same v w (stage_questions caller (staging_of r)) staged_code r.topics _ (each (TxnOffsetCommit r) same))))

  -- ---- a request that is one part

  whole_same : (request : Request) (qs : List Question) → ((rules : Rules) (a : Reply) → reply_with_refused rules caller request a ≡ a) → wants_all request ≡ false → parts_of rw caller request ≡ qs ∷ [] → SameNumbers v w → (is_about_bindings request ≡ true → v.book ≡ w.book)
      → AllByRecursion (SameCode v w) (qs ∷ []) → AllByRecursion (SameAbout v w) (filter (is_granted rw) (qs ∷ []))
      → (with_refusals v caller request (rest_or_nothing request (part_refusal rv qs))).reply ≡ (with_refusals w caller request (rest_or_nothing request (part_refusal rw qs))).reply
  whole_same request qs put named parts numbers bindings all about =
      ap (λ (a : Allowed). (with_refusals v caller request a).reply) (rest_code request (part_refusal rv qs) ∙ ap (by_code request) all.0 ∙ sym (rest_code request (part_refusal rw qs))) ∙ by_refusal (part_refusal rw qs) refl where
        by_refusal : (o : Option Refusal) → part_refusal rw qs ≡ o → (with_refusals v caller request (rest_or_nothing request o)).reply ≡ (with_refusals w caller request (rest_or_nothing request o)).reply
        by_refusal (Some r) is = refl
        by_refusal None is =
            put rv _
            ∙ plain_same v w caller request numbers named bindings (subst (AllByRecursion (SameAbout v w)) (sym parts) (subst (λ (o : Option Refusal). AllByRecursion (SameAbout v w) (cond (is_none o) (qs ∷ []) [])) is about))
            ∙ sym (put rw _)

  -- ---- AddPartitionsToTxn

  module _ (r : AddPartitionsToTxnRequest) (same : SameForReply v w caller (AddPartitionsToTxn r)) where
    abbrev asks : List ℕ → List Question
    asks = add_questions caller r.transactional_id

    abbrev cut : AddPartitionsToTxnRequest
    cut = record r { topics = unrefused_topics (refused_by rw asks) r.topics }

    put_added : (l : List (Topic AddedPartition)) → reply_with_refused rv caller (AddPartitionsToTxn r) (add_reply l) ≡ reply_with_refused rw caller (AddPartitionsToTxn r) (add_reply l)
    put_added l = ap add_reply (put_same v w asks added_partition r.topics l (each (AddPartitionsToTxn r) same))

    put_either : (b : Bool) → reply_with_refused rv caller (AddPartitionsToTxn r) (cond b (cut_outcome (unrestricted_world w caller) caller r) (added_outcome (unrestricted_world w caller) r)).reply ≡ reply_with_refused rw caller (AddPartitionsToTxn r) (cond b (cut_outcome (unrestricted_world w caller) caller r) (added_outcome (unrestricted_world w caller) r)).reply
    put_either true = put_added _
    put_either false = put_added _

    by_refusals : (rs : List Refusal) → refusals_in rw (parts_of rw caller (AddPartitionsToTxn r)) ≡ rs
        → (with_refusals v caller (AddPartitionsToTxn r) (whole_or_cut (AddPartitionsToTxn r) cut rs)).reply ≡ (with_refusals w caller (AddPartitionsToTxn r) (whole_or_cut (AddPartitionsToTxn r) cut rs)).reply
    by_refusals [] is =
        let exact : IsExact rw caller (AddPartitionsToTxn r) (whole_or_cut (AddPartitionsToTxn r) cut []) = subst (λ (rs : List Refusal). IsExact rw caller (AddPartitionsToTxn r) (whole_or_cut (AddPartitionsToTxn r) cut rs)) is (allowed_is_exact rw caller (AddPartitionsToTxn r)) in
        ap (reply_with_refused rv caller (AddPartitionsToTxn r)) (plain_same v w caller (AddPartitionsToTxn r) same.numbers refl same.bindings (subst (AllByRecursion (SameAbout v w)) (sym exact) same.granted))
        ∙ put_either (is_cut caller r.transactional_id w.topics (rules_of (unrestricted_world w caller)) r.topics)
    by_refusals (x ∷ xs) is =
        let exact : IsExact rw caller (AddPartitionsToTxn r) (whole_or_cut (AddPartitionsToTxn r) cut (x ∷ xs)) = subst (λ (rs : List Refusal). IsExact rw caller (AddPartitionsToTxn r) (whole_or_cut (AddPartitionsToTxn r) cut rs)) is (allowed_is_exact rw caller (AddPartitionsToTxn r)) in
        ap (λ (l : List (Topic AddedPartition)). reply_with_refused rv caller (AddPartitionsToTxn r) (add_reply l)) (cuts_same v w caller r.transactional_id cut.topics (subst (AllByRecursion (SameAbout v w)) (sym exact) same.granted))
        ∙ put_added (map (plain_cut w.topics) cut.topics)

    adds : Replied (AddPartitionsToTxn r)
    adds = plainly (AddPartitionsToTxn r)
        (ap (λ (a : Allowed). (with_refusals v caller (AddPartitionsToTxn r) a).reply)
        (cut_code_by (AddPartitionsToTxn r) (record r { topics = unrefused_topics (refused_by rv asks) r.topics }) (refusals_in rv (parts_of rw caller (AddPartitionsToTxn r)))
        ∙ ap (λ (b : Bool). cond b (Cut (record r { topics = unrefused_topics (refused_by rv asks) r.topics })) (Rest (AddPartitionsToTxn r))) (any_same v w (parts_of rw caller (AddPartitionsToTxn r)) (each (AddPartitionsToTxn r) same))
        ∙ sym (cut_code_by (AddPartitionsToTxn r) (record r { topics = unrefused_topics (refused_by rv asks) r.topics }) (refusals_in rw (parts_of rw caller (AddPartitionsToTxn r)))))
        ∙ ap (λ (l : List (Topic ℤ)). (with_refusals v caller (AddPartitionsToTxn r) (whole_or_cut (AddPartitionsToTxn r) (record r { topics = l }) (refusals_in rw (parts_of rw caller (AddPartitionsToTxn r))))).reply) (granted_same v w asks r.topics (each (AddPartitionsToTxn r) same))
        ∙ by_refusals (refusals_in rw (parts_of rw caller (AddPartitionsToTxn r))) refl)

  -- ---- Metadata

  informs : (r : MetadataRequest) (topics : Option (List (List ℕ))) → SameForReply v w caller (Metadata (record r { topics = topics })) → Replied (Metadata (record r { topics = topics }))
  informs r (Some names) same =
      let named : Request = Metadata (record r { topics = Some names }) in
      let rest : Request = Metadata (record r { topics = Some (unrefused_names (refused_by rw (topic_part caller)) names) }) in
      plainly named
      (ap (λ (l : List (List ℕ)). reply_with_refused rv caller named (plain_outcome v caller (Metadata (record r { topics = Some l }))).reply) (names_same v w caller names (each named same))
      ∙ ap (reply_with_refused rv caller named) (plain_same v w caller rest same.numbers refl same.bindings (subst (AllByRecursion (SameAbout v w)) (sym (allowed_is_exact rw caller named)) same.granted))
      ∙ ap (λ (l : List TopicInfo). replies.Metadata (record { brokers = brokers_of w.node; controller = w.node.node_id; topics = l })) (infos_same v w caller names _ (each named same)))
  informs r None same =
      ap (λ (l : List TopicInfo). replies.Metadata (record { brokers = brokers_of v.node; controller = v.node.node_id; topics = l })) (infos_by_sizes rv caller v.node.node_id v.topics)
      ∙ ap (λ (sizes : List Sized). replies.Metadata (record { brokers = brokers_of v.node; controller = v.node.node_id; topics = infos_of v.node.node_id sizes })) (same.described refl)
      ∙ ap (λ (node : Node). replies.Metadata (record { brokers = brokers_of node; controller = node.node_id; topics = infos_of node.node_id (described_sizes rw caller w.topics) })) same.numbers.node
      ∙ sym (ap (λ (l : List TopicInfo). replies.Metadata (record { brokers = brokers_of w.node; controller = w.node.node_id; topics = l })) (infos_by_sizes rw caller w.node.node_id w.topics))

  -- ---- OffsetFetch

  module _ (r : OffsetFetchRequest) where
    abbrev group_qs : List Question
    group_qs = group_question caller r.group ∷ []

    module _ (ts : List (Topic ℤ)) (same : SameForReply v w caller (OffsetFetch (record r { topics = Some ts }))) where
      abbrev named : Request
      named = OffsetFetch (record r { topics = Some ts })

      abbrev make : List (Topic ℤ) → Request
      make l = OffsetFetch (record r { topics = Some l })

      put_fetched : (l : List (Topic ℤ)) (o : Option Refusal)
          → reply_with_refused rv caller named (offset_fetch_by o (unrestricted_world w caller) caller (record r { topics = Some l })).reply ≡ reply_with_refused rw caller named (offset_fetch_by o (unrestricted_world w caller) caller (record r { topics = Some l })).reply
      put_fetched l (Some x) = ap (fetch_reply _) (put_same v w (topic_part caller) fetched_code ts [] (each named same).1)
      put_fetched l None = ap (fetch_reply codes.None) (put_same v w (topic_part caller) fetched_code ts _ (each named same).1)

      by_group : (o : Option Refusal) → part_refusal rw group_qs ≡ o
          → (with_refusals v caller named (rest_or_nothing (make (unrefused_topics (refused_by rv (topic_part caller)) ts)) o)).reply ≡ (with_refusals w caller named (rest_or_nothing (make (unrefused_topics (refused_by rw (topic_part caller)) ts)) o)).reply
      by_group (Some x) is = refl
      by_group None is =
          let exact : IsExact rw caller named (rest_or_nothing (make (unrefused_topics (refused_by rw (topic_part caller)) ts)) None) = subst (λ (o : Option Refusal). IsExact rw caller named (rest_or_nothing (make (unrefused_topics (refused_by rw (topic_part caller)) ts)) o)) is (allowed_is_exact rw caller named) in
          let parts : AllByRecursion (SameAbout v w) (filter (is_granted rw) (parts_of rw caller named)) = subst (λ (o : Option Refusal). AllByRecursion (SameAbout v w) (cond (is_none o) (filter (is_granted rw) (parts_of rw caller named)) [])) is same.granted in
          walk_same (topic_part caller) ts make (λ rules a. reply_with_refused rules caller named a) same.numbers refl same.bindings (each named same).1
          (subst (AllByRecursion (SameAbout v w)) (sym exact) parts)
          (put_fetched (unrefused_topics (refused_by rw (topic_part caller)) ts) (part_refusal (rules_of (unrestricted_world w caller)) group_qs))

      tells_named : Replied named
      tells_named = plainly named
          (ap (λ (a : Allowed). (with_refusals v caller named a).reply)
          (rest_code (make (unrefused_topics (refused_by rv (topic_part caller)) ts)) (part_refusal rv group_qs) ∙ ap (by_code (make (unrefused_topics (refused_by rv (topic_part caller)) ts))) (each named same).0 ∙ sym (rest_code (make (unrefused_topics (refused_by rv (topic_part caller)) ts)) (part_refusal rw group_qs)))
          ∙ by_group (part_refusal rw group_qs) refl)

    module _ (same : SameForReply v w caller (OffsetFetch (record r { topics = None }))) where
      abbrev all : Request
      all = OffsetFetch (record r { topics = None })

      all_by : (o : Option Refusal) → part_refusal rw group_qs ≡ o → (offset_fetch_by o v caller (record r { topics = None })).reply ≡ (offset_fetch_by o w caller (record r { topics = None })).reply
      all_by (Some x) is = refl
      all_by None is =
          let group : AllByRecursion (SameAbout v w) (cond (is_granted rw group_qs) (group_qs ∷ []) []) = subst (λ (o : Option Refusal). AllByRecursion (SameAbout v w) (cond (is_none o) (cond (is_granted rw group_qs) (group_qs ∷ []) []) [])) is same.granted in
          let about : AllByRecursion (SameAbout v w) (group_qs ∷ []) = subst (λ (o : Option Refusal). AllByRecursion (SameAbout v w) (cond (is_none o) (group_qs ∷ []) [])) is group in
          ap (λ (o : Option Group). fetch_reply codes.None (listed_topics rv caller (unwrap_or o (fresh_group r.group)).offsets r.require_stable v.topics)) about.0.0
          ∙ ap (fetch_reply codes.None)
          (told_by_sizes rv caller (offsets_of w r.group) r.require_stable v.topics
          ∙ ap (λ (sizes : List Sized). filter_map (told_sized (offsets_of w r.group) r.require_stable) sizes) (same.described (ap (λ (o : Option Refusal). is_none o) is))
          ∙ sym (told_by_sizes rw caller (offsets_of w r.group) r.require_stable w.topics))

      tells_all : Replied all
      tells_all = null_code v caller (record r { topics = None }) (part_refusal rv group_qs) (part_refusal rw group_qs) (each all same).0 ∙ all_by (part_refusal rw group_qs) refl

    tells : (topics : Option (List (Topic ℤ))) → SameForReply v w caller (OffsetFetch (record r { topics = topics })) → Replied (OffsetFetch (record r { topics = topics }))
    tells (Some ts) same = tells_named ts same
    tells None same = tells_all same

  -- ---- each api

  whole_by : (request : Request) (qs : List Question) → ((rules : Rules) (a : Reply) → reply_with_refused rules caller request a ≡ a) → wants_all request ≡ false → parts_of rw caller request ≡ qs ∷ []
      → allowed_part rv caller request ≡ rest_or_nothing request (part_refusal rv qs) → allowed_part rw caller request ≡ rest_or_nothing request (part_refusal rw qs)
      → granted_parts rw caller request ≡ filter (is_granted rw) (parts_of rw caller request) → SameForReply v w caller request → Replied request
  whole_by request qs put named parts first second filtered same = plainly request
      (ap (λ a. (with_refusals v caller request a).reply) first
      ∙ whole_same request qs put named parts same.numbers same.bindings (subst (AllByRecursion (SameCode v w)) parts (each request same)) (subst (AllByRecursion (SameAbout v w)) (filtered ∙ ap (filter (is_granted rw)) parts) same.granted)
      ∙ sym (ap (λ a. (with_refusals w caller request a).reply) second))

  whole : (request : Request) (qs : List Question) → ((rules : Rules) (a : Reply) → reply_with_refused rules caller request a ≡ a) → wants_all request ≡ false → parts_of rw caller request ≡ qs ∷ []
      → ((rules : Rules) → allowed_part rules caller request ≡ rest_or_nothing request (part_refusal rules qs))
      → granted_parts rw caller request ≡ filter (is_granted rw) (parts_of rw caller request) → SameForReply v w caller request → Replied request
  whole request qs put named parts allow filtered same = whole_by request qs put named parts (allow rv) (allow rw) filtered same

  replied : (request : Request) → SameForReply v w caller request → Replied request
  replied (Produce r) same = produces r same
  replied (Fetch r) same = fetches r same
  replied (ListOffsets r) same = lists r same
  replied (Metadata r) same = informs r r.topics same
  replied (OffsetCommit r) same = commits r same
  replied (OffsetFetch r) same = tells r r.topics same
  replied (FindCoordinator r) same = whole (FindCoordinator r) (find_questions caller (kind_of r.key_type) r.key) (λ rules a. refl) refl refl (λ rules. refl) refl same
  replied (JoinGroup r) same = whole (JoinGroup r) (read_question caller r.group ∷ []) (λ rules a. refl) refl refl (λ rules. refl) refl same
  replied (Heartbeat r) same = whole (Heartbeat r) (read_question caller r.group ∷ []) (λ rules a. refl) refl refl (λ rules. refl) refl same
  replied (LeaveGroup r) same = whole (LeaveGroup r) (read_question caller r.group ∷ []) (λ rules a. refl) refl refl (λ rules. refl) refl same
  replied (SyncGroup r) same = whole (SyncGroup r) (read_question caller r.group ∷ []) (λ rules a. refl) refl refl (λ rules. refl) refl same
  replied (InitProducerId r) same =
      whole_by (InitProducerId r) (init_questions rw caller r.transactional_id) (λ rules a. refl) refl refl
      (ap (λ (parts : List (List Question)). rest_or_nothing (InitProducerId r) (part_refusal rv (first_part parts))) same.questions) refl refl same
  replied (AddPartitionsToTxn r) same = adds r same
  replied (AddOffsetsToTxn r) same = whole (AddOffsetsToTxn r) (add_offsets_questions caller r.transactional_id r.group) (λ rules a. refl) refl refl (λ rules. refl) refl same
  replied (EndTxn r) same = whole (EndTxn r) (end_questions caller r) (λ rules a. refl) refl refl (λ rules. refl) refl same
  replied (TxnOffsetCommit r) same = stages r same
  replied (SaslHandshake r) same = whole (SaslHandshake r) [] (λ rules a. refl) refl refl (λ rules. refl) refl same
  replied ApiVersions same = whole ApiVersions [] (λ rules a. refl) refl refl (λ rules. refl) refl same
  replied (SaslAuthenticate r) same = whole (SaslAuthenticate r) [] (λ rules a. refl) refl refl (λ rules. refl) refl same
  replied (DescribeAcls r) same = whole (DescribeAcls r) (describe_acls_questions caller) (λ rules a. refl) refl refl (λ rules. refl) refl same
  replied (CreateAcls r) same = whole (CreateAcls r) (alter_questions caller) (λ rules a. refl) refl refl (λ rules. refl) refl same
  replied (DeleteAcls r) same = whole (DeleteAcls r) (alter_questions caller) (λ rules a. refl) refl refl (λ rules. refl) refl same

  -- ---- refusals

  refused : (request : Request) → parts_of rv caller request ≡ parts_of rw caller request → AllByRecursion (SameRefusal v w) (parts_of rw caller request) → request_refusals rv caller request ≡ request_refusals rw caller request
  refused (OffsetFetch r) asks all =
      ap (λ (o : Option Refusal). refusal_or_rest o (refusals_in rv (offset_parts caller r.topics))) all.0
      ∙ ap (refusal_or_rest (part_refusal rw (group_question caller r.group ∷ []))) (refusals_same v w (offset_parts caller r.topics) all.1)
  refused (Produce r) asks all = refusals_same v w (parts_of rw caller (Produce r)) all
  refused (Fetch r) asks all = refusals_same v w (parts_of rw caller (Fetch r)) all
  refused (ListOffsets r) asks all = refusals_same v w (parts_of rw caller (ListOffsets r)) all
  refused (Metadata r) asks all = refusals_same v w (parts_of rw caller (Metadata r)) all
  refused (OffsetCommit r) asks all = refusals_same v w (parts_of rw caller (OffsetCommit r)) all
  refused (FindCoordinator r) asks all = refusals_same v w (parts_of rw caller (FindCoordinator r)) all
  refused (JoinGroup r) asks all = refusals_same v w (parts_of rw caller (JoinGroup r)) all
  refused (Heartbeat r) asks all = refusals_same v w (parts_of rw caller (Heartbeat r)) all
  refused (LeaveGroup r) asks all = refusals_same v w (parts_of rw caller (LeaveGroup r)) all
  refused (SyncGroup r) asks all = refusals_same v w (parts_of rw caller (SyncGroup r)) all
  refused (InitProducerId r) asks all = ap (refusals_in rv) asks ∙ refusals_same v w (parts_of rw caller (InitProducerId r)) all
  refused (AddPartitionsToTxn r) asks all = refusals_same v w (parts_of rw caller (AddPartitionsToTxn r)) all
  refused (AddOffsetsToTxn r) asks all = refusals_same v w (parts_of rw caller (AddOffsetsToTxn r)) all
  refused (EndTxn r) asks all = refusals_same v w (parts_of rw caller (EndTxn r)) all
  refused (TxnOffsetCommit r) asks all = refusals_same v w (parts_of rw caller (TxnOffsetCommit r)) all
  refused (SaslHandshake r) asks all = refusals_same v w (parts_of rw caller (SaslHandshake r)) all
  refused ApiVersions asks all = refusals_same v w (parts_of rw caller ApiVersions) all
  refused (SaslAuthenticate r) asks all = refusals_same v w (parts_of rw caller (SaslAuthenticate r)) all
  refused (DescribeAcls r) asks all = refusals_same v w (parts_of rw caller (DescribeAcls r)) all
  refused (CreateAcls r) asks all = refusals_same v w (parts_of rw caller (CreateAcls r)) all
  refused (DeleteAcls r) asks all = refusals_same v w (parts_of rw caller (DeleteAcls r)) all

pub replies_depend : RepliesDependOnGrantedParts reply_to
replies_depend v w caller client request same = replied v w caller client request same

pub same_grants : (v w : World) (qs : List Question) → SameVerdicts v w qs → SameGrants v w qs
same_grants v w [] same = tt
same_grants v w (q ∷ qs) same = (ap (λ (x : Verdict). is_yes x) same.0, same_grants v w qs same.1)

for_reply : (v w : World) (caller : Caller) (request : Request) → SameForParts v w caller request → SameForReply v w caller request
for_reply v w caller request same = record { numbers = same.numbers; questions = same.questions; grants = same_grants v w (questions_of (rules_of w) caller request) same.verdicts; granted = same.granted; described = same.described; bindings = same.bindings }

pub answers_depend : AnswersDependOnGrantedParts
answers_depend v w caller client request same = record {
  reply = replied v w caller client request (for_reply v w caller request same);
  refusals = refusals_are_of_parts v caller client request ∙ refused v w caller client request same.questions (each_part v w (parts_of (rules_of w) caller request) same.verdicts) ∙ sym (refusals_are_of_parts w caller client request);
}

-- the number of events is the place of the next one
pub receipts_depend : ReceiptsDependOnGrantedParts
receipts_depend a b caller client request ia ib up_a up_b same =
    let told = answers_depend a.world b.world caller client request same in
    let place : length a.trail ≡ length b.trail = sym (ia.bounded.events up_a) ∙ same.numbers.events ∙ ib.bounded.events up_b in
    record {
      receipt = λ i. record { place = place i; event = Ask caller client request; reply = told.reply i };
      entry = λ i. record { event = Ask caller client request; reply = told.reply i; refusals = told.refusals i };
    }
