-- What a request leaves that is told an error.
use Rattle.std.proofs.Common.{◌≡◌, ◌⊎◌, inl, inr, ℕ, zero, suc, ℤ, pos, Bool, true, false, cond, List, [], ◌∷◌, ◌++◌, map, Option, Some, None, Result, Ok, Err, refl, sym, ap, subst, ◌∙◌}
use Rattle.acl_binding.specs.declared.question.Caller.{Caller}
use Rattle.authorizer.specs.declared.answer.Refusal.{Refusal}
use Rattle.std.specs.List.{AllByRecursion}
use Rattle.std.specs.Ordering.{int_eq}
use Rattle.authorizer.specs.Asking.{Rules, part_refusal}
use Rattle.wire_types.specs.declared.topic.Topic.{Topic}
use Rattle.msg_data.specs.declared.produce.ProduceRequest.{ProduceRequest}
use Rattle.msg_data.specs.declared.produce.ProducedRecords.{ProducedRecords}
use Rattle.msg_data.specs.declared.produce.ProducedOffset.{ProducedOffset}
use Rattle.msg_data.specs.declared.produce.ProduceReply.{ProduceReply}
use Rattle.msg_group.specs.declared.offset_commit.CommittedOffset.{CommittedOffset}
use Rattle.msg_group.specs.declared.offset_commit.OffsetCommitRequest.{OffsetCommitRequest}
use Rattle.msg_group.specs.declared.offset_commit.OffsetToCommit.{OffsetToCommit}
use Rattle.msg_txn.specs.declared.add_partitions.AddedPartition.{AddedPartition}
use Rattle.msg_txn.specs.declared.add_partitions.AddPartitionsToTxnRequest.{AddPartitionsToTxnRequest}
use Rattle.msg_txn.specs.declared.txn_offset_commit.OffsetToStage.{OffsetToStage}
use Rattle.msg_txn.specs.declared.txn_offset_commit.StagedOffset.{StagedOffset}
use Rattle.msg_txn.specs.declared.txn_offset_commit.TxnOffsetCommitRequest.{TxnOffsetCommitRequest}
use Rattle.txn_coordinator.specs.declared.target.TopicPartition.{TopicPartition}
use Rattle.walk.specs.Headline.{element_at}
use Rattle.walk.specs.Rule.{PartRule, refusal_of}
use Rattle.walk.specs.Steps.{answer_by, world_by, part_world, parts_world, parts_answers, topics_world, topics_answers}
use Rattle.walk.specs.Walk.{plain_parts_world, plain_parts, plain_topics, world_after, answers}
use Rattle.walk.proofs.Weaving.{woven}
use Rattle.group_offsets.specs.declared.group.Group.{Group}
use Rattle.broker_world.specs.First.{non_negative}
use Rattle.broker_world.specs.Logs.{log_at}
use Rattle.data_handlers.specs.Produce.{producing_rule}
use Rattle.group_handlers.specs.OffsetCommit.{Committing, committing_of, offset_of, code_by, groups_by, committing_rule}
use Rattle.txn_handlers.specs.AddPartitions.{code_rule, is_cut, partitions_of, add_transition, cut_outcome, added_outcome}
use Rattle.txn_handlers.specs.TxnOffsetCommit.{staging_of, staging_refusal, stage_transition, staging_rule}
use Rattle.api_laws.proofs.DataAnswers.{produces_as_answered}
use Rattle.wire_types.specs.declared.error_code.ErrorCode.{ErrorCode}
use Rattle.wire_types.specs.declared.error_code.ErrorCode.TheVariants as codes
use Rattle.wire_types.specs.ErrorCode.{number_of}
use Rattle.msg_group.specs.declared.join_group.JoinGroupRequest.{JoinGroupRequest}
use Rattle.msg_txn.specs.declared.end_txn.EndTxnRequest.{EndTxnRequest}
use Rattle.msg_txn.specs.declared.init_producer_id.InitProducerIdRequest.{InitProducerIdRequest}
use Rattle.msg_admin.specs.declared.request.Request.{Request}
use Rattle.msg_admin.specs.declared.request.Request.TheVariants as requests
use Rattle.msg_admin.specs.declared.reply.Reply.{Reply}
use Rattle.msg_admin.specs.declared.reply.Reply.TheVariants as replies
use Rattle.record_batch.specs.declared.transaction_result.TransactionResult.{TransactionResult}
use Rattle.record_batch.specs.declared.transaction_result.TransactionResult.TheVariants.{Commit, Abort}
use Rattle.txn_coordinator.specs.declared.ending.EndForm.{EndForm}
use Rattle.txn_coordinator.specs.declared.ending.EndForm.TheVariants.{Plain, Fencing, Raising}
use Rattle.txn_coordinator.specs.declared.producer_id.ProducerIdAndEpoch.{ProducerIdAndEpoch}
use Rattle.txn_coordinator.specs.declared.transaction.TransactionState.{TransactionState}
use Rattle.txn_coordinator.specs.declared.transaction.TransactionState.TheVariants.{Empty, Ongoing, PrepareCommit, PrepareAbort, CompleteCommit, CompleteAbort}
use Rattle.txn_coordinator.specs.declared.transaction.Transaction.{Transaction}
use Rattle.txn_coordinator.specs.Transition.{Transition, Stays, Puts}
use Rattle.txn_coordinator.specs.Words.{is_empty}
use Rattle.txn_coordinator.specs.Coordinator.{CoordinatorValue, id_record, fresh_producer_id, apply_transition, transition_code, transition_answer}
use Rattle.txn_coordinator.specs.Preparing.{producer_refusal}
use Rattle.txn_coordinator.specs.Adding.{open_transaction, growth_transition, with_partitions, with_group, add_partitions}
use Rattle.txn_coordinator.specs.InitProducerId.{timeout_within, init_in, init_for, init}
use Rattle.txn_coordinator.specs.EndTxn.{other_epoch, end_ongoing, end_closed, end_in, is_again, end_again, end_by, end_found, end}
use Rattle.group_offsets.specs.declared.member.Joined.{Joined}
use Rattle.group_offsets.specs.GroupTransition.{GroupTransition, Stays as GroupStays, Puts as GroupPuts, answer_of}
use Rattle.group_offsets.specs.Groups.{groups_after as groups_turned, join, sync, beat, leave, commit}
use Rattle.broker_world.specs.World.{World, TopicValue, LogValue, rules_of}
use Rattle.broker_world.specs.Codes.{code_in}
use Rattle.broker_world.specs.Questions.{read_question}
use Rattle.broker_world.specs.Whole.{Served, whole_outcome_by}
use Rattle.group_handlers.specs.Members.{join_error, join_reply, served_join, sync_reply, served_sync, beat_reply, served_heartbeat, leave_reply, served_leave}
use Rattle.txn_handlers.specs.InitProducerId.{init_questions, init_error, coordinator_for, reply_for, served_init}
use Rattle.txn_handlers.specs.AddOffsets.{add_offsets_questions, add_offsets_reply, add_offsets_transition, served_add_offsets}
use Rattle.txn_handlers.specs.EndTxn.{form_of, ending_id, ending_id_and_epoch, ending_outcome, end_questions, end_error, end_transition, served_end}
use Rattle.api_dispatch.specs.Step.{request_outcome, outcome}
use Rattle.api_laws.specs.ToldErrors.{errors_itself, Place, TopicAt, PartitionAt, error_number, error_number_in, partition_error_at, error_at, partition_errors, all_errors}
use Rattle.api_laws.specs.Unchanged.{is_all_or_nothing, is_by_parts, IsError, ErrorsChangeNothing}
use Rattle.api_laws.proofs.AskedTable.{end_told}

-- refused, it changes nothing; and else what was served is as it was
whole_unchanged : (o : Option Refusal) (w : World) (refused : ErrorCode → Reply) (served : Served) → (errors_itself (whole_outcome_by o w refused served).reply ≡ pos 0 ∷ [] → ⊥) → ((errors_itself served.reply ≡ pos 0 ∷ [] → ⊥) → served.world ≡ w)
    → (whole_outcome_by o w refused served).world ≡ w
whole_unchanged None w refused served bad kept = kept bad
whole_unchanged (Some r) w refused served bad kept = refl

none_number : number_of codes.None ∷ [] ≡ pos 0 ∷ []
unfolding number_of
none_number = refl

-- ---- groups

member_unchanged : (w : World) (t : GroupTransition (Unit {0})) → (number_of (code_in (answer_of t)) ∷ [] ≡ pos 0 ∷ [] → ⊥) → record w { groups = groups_turned w.groups t } ≡ w
member_unchanged w (GroupStays code) bad = refl
member_unchanged w (GroupPuts answer g) bad = absurd (bad none_number)

sync_unchanged : (w : World) (t : GroupTransition (List ℕ)) → (number_of (sync_reply (answer_of t)).error ∷ [] ≡ pos 0 ∷ [] → ⊥) → record w { groups = groups_turned w.groups t } ≡ w
sync_unchanged w (GroupStays code) bad = refl
sync_unchanged w (GroupPuts answer g) bad = absurd (bad none_number)

join_unchanged : (w : World) (r : JoinGroupRequest) (t : GroupTransition Joined) → (number_of (join_reply (answer_of t) r).error ∷ [] ≡ pos 0 ∷ [] → ⊥) → record w { groups = groups_turned w.groups t } ≡ w
join_unchanged w r (GroupStays code) bad = refl
join_unchanged w r (GroupPuts answer g) bad = absurd (bad none_number)

-- ---- transactions

-- what is put is answered no error
abbrev PutsWell : Transition → Type 0
PutsWell (Stays code) = Unit {0}
PutsWell (Puts code t given owed) = code ≡ codes.None

transition_unchanged : (w : World) (t : Transition) → PutsWell t → (number_of (transition_code t) ∷ [] ≡ pos 0 ∷ [] → ⊥) → record w { coordinator = apply_transition w.coordinator t } ≡ w
transition_unchanged w (Stays code) well bad = refl
transition_unchanged w (Puts code t given owed) well bad = absurd (bad (ap (λ (c : ErrorCode). number_of c ∷ []) well ∙ none_number))

grown_well : (grow : Transaction → Transaction) (r : Result Transaction ErrorCode) → PutsWell (growth_transition grow r)
grown_well grow (Ok t) = refl
grown_well grow (Err code) = tt

ongoing_well : (form : EndForm) (t : Transaction) (next : ℤ) (o : TransactionResult) → PutsWell (end_ongoing form t next o)
ongoing_well Plain t next o = refl
ongoing_well Fencing t next o = refl
ongoing_well Raising t next o = refl

closed_well : (form : EndForm) (t : Transaction) (next : ℤ) (o : TransactionResult) (code : ErrorCode) → PutsWell (end_closed form t next o code)
closed_well Plain t next o code = tt
closed_well Fencing t next o code = tt
closed_well Raising t next Commit code = tt
closed_well Raising t next Abort code = refl

ended_well : (p : TransactionState) (form : EndForm) (t : Transaction) (next : ℤ) (o : TransactionResult) → PutsWell (end_in p form t next o)
ended_well Ongoing form t next o = ongoing_well form t next o
ended_well PrepareCommit form t next Commit = tt
ended_well PrepareCommit form t next Abort = tt
ended_well PrepareAbort form t next Commit = tt
ended_well PrepareAbort form t next Abort = tt
ended_well Empty form t next o = closed_well form t next o codes.InvalidTxnState
ended_well CompleteCommit form t next Commit = closed_well form t next Commit codes.None
ended_well CompleteCommit form t next Abort = closed_well form t next Abort codes.InvalidTxnState
ended_well CompleteAbort form t next Commit = closed_well form t next Commit codes.InvalidTxnState
ended_well CompleteAbort form t next Abort = closed_well form t next Abort codes.None

end_well : (c : CoordinatorValue) (form : EndForm) (id : List ℕ) (pair : ProducerIdAndEpoch) (o : TransactionResult) → PutsWell (end c form id pair o)
end_well c form id pair o = by_name (is_empty id) where
  by_refusal : (x : Option ErrorCode) (t : Transaction) → PutsWell (end_by x form t (fresh_producer_id c) o)
  by_refusal (Some code) t = tt
  by_refusal None t = ended_well t.state form t (fresh_producer_id c) o

  by_again : (b : Bool) (t : Transaction) → PutsWell (cond b (Stays (end_again t.state o)) (end_by (producer_refusal (other_epoch form) t pair) form t (fresh_producer_id c) o))
  by_again true t = tt
  by_again false t = by_refusal (producer_refusal (other_epoch form) t pair) t

  by_found : (found : Option Transaction) → PutsWell (end_found found form (fresh_producer_id c) pair o)
  by_found None = tt
  by_found (Some t) = by_again (is_again form t pair) t

  by_name : (b : Bool) → PutsWell (cond b (Stays codes.InvalidRequest) (end_found (id_record c.transactions id) form (fresh_producer_id c) pair o))
  by_name true = tt
  by_name false = by_found (id_record c.transactions id)

-- ---- InitProducerId

abbrev PutsOrWaits : Transition → Type 0
PutsOrWaits (Stays code) = Unit {0}
PutsOrWaits (Puts code t given owed) = (code ≡ codes.None) ⊎ (code ≡ codes.ConcurrentTransactions)

inited_so : (p : TransactionState) (t : Transaction) (next : ℤ) (n : ℕ) → PutsOrWaits (init_in p t next n)
inited_so Empty t next n = inl refl
inited_so CompleteCommit t next n = inl refl
inited_so CompleteAbort t next n = inl refl
inited_so Ongoing t next n = inr refl
inited_so PrepareCommit t next n = tt
inited_so PrepareAbort t next n = tt

init_so : (c : CoordinatorValue) (id : List ℕ) (asked greatest : ℤ) → PutsOrWaits (init c id asked greatest)
init_so c id asked greatest = by_name (is_empty id) where
  by_found : (o : Option ℕ) (found : Option Transaction) → PutsOrWaits (init_for o found id (fresh_producer_id c))
  by_found None found = tt
  by_found (Some n) None = inl refl
  by_found (Some n) (Some t) = inited_so t.state t (fresh_producer_id c) n

  by_name : (b : Bool) → PutsOrWaits (cond b (Stays codes.InvalidRequest) (init_for (timeout_within asked greatest) (id_record c.transactions id) id (fresh_producer_id c)))
  by_name true = tt
  by_name false = by_found (timeout_within asked greatest) (id_record c.transactions id)

concurrent_number : number_of codes.ConcurrentTransactions ∷ [] ≡ pos 51 ∷ []
unfolding number_of
concurrent_number = refl

wait_unchanged : (w : World) (t : Transition) → PutsOrWaits t → (number_of (transition_code t) ∷ [] ≡ pos 0 ∷ [] → ⊥) → (number_of (transition_code t) ∷ [] ≡ pos 51 ∷ [] → ⊥) → record w { coordinator = apply_transition w.coordinator t } ≡ w
wait_unchanged w (Stays code) so bad worse = refl
wait_unchanged w (Puts code t given owed) (inl none) bad worse = absurd (bad (ap (λ (c : ErrorCode). number_of c ∷ []) none ∙ none_number))
wait_unchanged w (Puts code t given owed) (inr wait) bad worse = absurd (worse (ap (λ (c : ErrorCode). number_of c ∷ []) wait ∙ concurrent_number))

init_unchanged : (w : World) (id : Option (List ℕ)) (asked : ℤ) → (number_of (reply_for id w.coordinator w.node.max_txn_timeout asked).error ∷ [] ≡ pos 0 ∷ [] → ⊥) → (number_of (reply_for id w.coordinator w.node.max_txn_timeout asked).error ∷ [] ≡ pos 51 ∷ [] → ⊥)
    → record w { coordinator = coordinator_for id w.coordinator w.node.max_txn_timeout asked } ≡ w
init_unchanged w None asked bad worse = absurd (bad none_number)
init_unchanged w (Some id) asked bad worse = wait_unchanged w (init w.coordinator id asked w.node.max_txn_timeout) (init_so w.coordinator id asked w.node.max_txn_timeout) bad worse

init_whole : (o : Option Refusal) (w : World) (r : InitProducerIdRequest) → (errors_itself (whole_outcome_by o w (λ code. replies.InitProducerId (init_error code)) (served_init w r)).reply ≡ pos 0 ∷ [] → ⊥)
    → (errors_itself (whole_outcome_by o w (λ code. replies.InitProducerId (init_error code)) (served_init w r)).reply ≡ pos 51 ∷ [] → ⊥) → (whole_outcome_by o w (λ code. replies.InitProducerId (init_error code)) (served_init w r)).world ≡ w
init_whole None w r bad worse = init_unchanged w r.transactional_id r.timeout bad worse
init_whole (Some refusal) w r bad worse = refl

-- ---- each of them

module _ (w : World) (caller : Caller) where
  end_unchanged : (r : EndTxnRequest) → (errors_itself (served_end w r).reply ≡ pos 0 ∷ [] → ⊥) → (served_end w r).world ≡ w
  end_unchanged r bad =
      transition_unchanged w (end_transition w.coordinator r) (end_well w.coordinator (form_of r) (ending_id r) (ending_id_and_epoch r) (ending_outcome r))
      (λ none. bad (ap (λ (c : ErrorCode). number_of c ∷ []) (end_told r (transition_answer w.coordinator (ending_id r) (end_transition w.coordinator r))) ∙ none))

  unchanged : (request : Request) → is_all_or_nothing request ≡ true → (errors_itself (request_outcome w caller request).reply ≡ pos 0 ∷ [] → ⊥) → (request_outcome w caller request).world ≡ w
  unchanged (requests.JoinGroup r) one bad =
      whole_unchanged (part_refusal (rules_of w) (read_question caller r.group ∷ [])) w (λ code. replies.JoinGroup (join_error code r)) (served_join w r) bad (join_unchanged w r (join w.groups r w.events w.moment))
  unchanged (requests.Heartbeat r) one bad =
      whole_unchanged (part_refusal (rules_of w) (read_question caller r.group ∷ [])) w (λ code. replies.Heartbeat (beat_reply code)) (served_heartbeat w r) bad (member_unchanged w (beat w.groups r w.moment))
  unchanged (requests.LeaveGroup r) one bad =
      whole_unchanged (part_refusal (rules_of w) (read_question caller r.group ∷ [])) w (λ code. replies.LeaveGroup (leave_reply code)) (served_leave w r) bad (member_unchanged w (leave w.groups r))
  unchanged (requests.SyncGroup r) one bad =
      whole_unchanged (part_refusal (rules_of w) (read_question caller r.group ∷ [])) w (λ code. replies.SyncGroup (sync_reply (Err code))) (served_sync w r) bad (sync_unchanged w (sync w.groups r w.moment))
  unchanged (requests.AddOffsetsToTxn r) one bad =
      whole_unchanged (part_refusal (rules_of w) (add_offsets_questions caller r.transactional_id r.group)) w (λ code. replies.AddOffsetsToTxn (add_offsets_reply code)) (served_add_offsets w r) bad
      (transition_unchanged w (add_offsets_transition w.coordinator w.moment r) (grown_well (with_group r.group) (open_transaction w.coordinator r.transactional_id (record { producer = r.producer; epoch = r.epoch }) w.moment)))
  unchanged (requests.EndTxn r) one bad = whole_unchanged (part_refusal (rules_of w) (end_questions caller r)) w (λ code. replies.EndTxn (end_error r code)) (served_end w r) bad (end_unchanged r)
  unchanged (requests.Produce r) one bad = absurd (let clash : false ≡ true = one in cc)
  unchanged (requests.Fetch r) one bad = absurd (let clash : false ≡ true = one in cc)
  unchanged (requests.ListOffsets r) one bad = absurd (let clash : false ≡ true = one in cc)
  unchanged (requests.Metadata r) one bad = absurd (let clash : false ≡ true = one in cc)
  unchanged (requests.OffsetCommit r) one bad = absurd (let clash : false ≡ true = one in cc)
  unchanged (requests.OffsetFetch r) one bad = absurd (let clash : false ≡ true = one in cc)
  unchanged (requests.FindCoordinator r) one bad = absurd (let clash : false ≡ true = one in cc)
  unchanged (requests.SaslHandshake r) one bad = absurd (let clash : false ≡ true = one in cc)
  unchanged requests.ApiVersions one bad = absurd (let clash : false ≡ true = one in cc)
  unchanged (requests.InitProducerId r) one bad = absurd (let clash : false ≡ true = one in cc)
  unchanged (requests.AddPartitionsToTxn r) one bad = absurd (let clash : false ≡ true = one in cc)
  unchanged (requests.TxnOffsetCommit r) one bad = absurd (let clash : false ≡ true = one in cc)
  unchanged (requests.DescribeAcls r) one bad = absurd (let clash : false ≡ true = one in cc)
  unchanged (requests.CreateAcls r) one bad = absurd (let clash : false ≡ true = one in cc)
  unchanged (requests.DeleteAcls r) one bad = absurd (let clash : false ≡ true = one in cc)
  unchanged (requests.SaslAuthenticate r) one bad = absurd (let clash : false ≡ true = one in cc)

-- ---- part by part

zero_number : number_of codes.None ≡ pos 0
unfolding number_of
zero_number = refl

all_front : (xs ys : List ℤ) → AllByRecursion IsError (xs ++ ys) → AllByRecursion IsError xs
all_front [] ys all = tt
all_front (x ∷ xs) ys all = (all.0, all_front xs ys all.1)

all_back : (xs ys : List ℤ) → AllByRecursion IsError (xs ++ ys) → AllByRecursion IsError ys
all_back [] ys all = all
all_back (x ∷ xs) ys all = all_back xs ys all.1

module _ (P A W : Type 0) (api : PartRule P A W) (error : A → ErrorCode) (rules : Rules) (still : (v : W) (name : List ℕ) (p : P) → IsError (number_of (error (api.plain v name p))) → api.after v name p ≡ v) where
  abbrev numbers : List A → List ℤ
  numbers ps = map (λ (a : A). number_of (error a)) ps

  part_still : (o : Option Refusal) (v : W) (name : List ℕ) (p : P) → IsError (number_of (error (answer_by api o v name p))) → world_by api o v name p ≡ v
  part_still None v name p bad = still v name p bad
  part_still (Some r) v name p bad = refl

  parts_still : (v : W) (name : List ℕ) (ps : List P) → AllByRecursion IsError (numbers (parts_answers api rules v name ps)) → parts_world api rules v name ps ≡ v
  parts_still v name [] all = refl
  parts_still v name (p ∷ ps) all = parts_still (part_world api rules v name p) name ps all.1 ∙ part_still (refusal_of api rules name p) v name p all.0

  topics_still : (v : W) (ts : List (Topic P)) → AllByRecursion IsError (partition_errors error (topics_answers api rules v ts)) → topics_world api rules v ts ≡ v
  topics_still v [] all = refl
  topics_still v (t ∷ ts) all =
      let next : W = parts_world api rules v t.name t.partitions in
      let here = numbers (parts_answers api rules v t.name t.partitions) in
      let rest = partition_errors error (topics_answers api rules next ts) in
      topics_still next ts (all_back here rest all) ∙ parts_still v t.name t.partitions (all_front here rest all)

  walk_still : (v : W) (ts : List (Topic P)) → AllByRecursion IsError (partition_errors error (answers api rules v ts)) → world_after api rules v ts ≡ v
  walk_still v ts all =
      sym (woven api rules v ts).world ∙ topics_still v ts (subst (λ (l : List (Topic A)). AllByRecursion IsError (partition_errors error l)) (sym (woven api rules v ts).answers) all)

transition_still : (gs : List Group) (t : GroupTransition (Unit {0})) → IsError (number_of (code_in (answer_of t))) → groups_turned gs t ≡ gs
transition_still gs (GroupStays code) bad = refl
transition_still gs (GroupPuts answer g) bad = absurd (bad zero_number)

commit_still : (c : Committing) (gs : List Group) (name : List ℕ) (p : OffsetToCommit) (log : Option LogValue) → IsError (number_of (code_by c gs name p log)) → groups_by c gs name p log ≡ gs
commit_still c gs name p None bad = refl
commit_still c gs name p (Some log) bad = transition_still gs (commit gs c.group c.generation c.member (offset_of name p)) bad

sent_or_not : (b : Bool) (a : ProduceReply) → AllByRecursion IsError (all_errors (cond b (replies.SilentProduce a) (replies.Produce a))) → AllByRecursion IsError (partition_errors (λ (p : ProducedOffset). p.error) a.topics)
sent_or_not true a all = all
sent_or_not false a all = all

module _ (w : World) (caller : Caller) where
  produce_still : (r : ProduceRequest) → AllByRecursion IsError (all_errors (request_outcome w caller (requests.Produce r)).reply) → (request_outcome w caller (requests.Produce r)).world ≡ w
  produce_still r all =
      ap (λ (topics : List TopicValue). record w { topics = topics })
      (walk_still ProducedRecords ProducedOffset (List TopicValue) (producing_rule w caller r) (λ (p : ProducedOffset). p.error) (rules_of w)
      (λ topics name p bad. (produces_as_answered.refuses (non_negative w.node.max_batch) w.coordinator r.transactional_id r.acks topics name p (λ is. bad (ap number_of is ∙ zero_number))).same)
      w.topics r.topics (sent_or_not (int_eq r.acks (pos 0)) (record { topics = answers (producing_rule w caller r) (rules_of w) w.topics r.topics; throttle = pos 0 }) all))

  commits_still : (r : OffsetCommitRequest) → AllByRecursion IsError (all_errors (request_outcome w caller (requests.OffsetCommit r)).reply) → (request_outcome w caller (requests.OffsetCommit r)).world ≡ w
  commits_still r all =
      ap (λ (gs : List Group). record w { groups = gs })
      (walk_still OffsetToCommit CommittedOffset (List Group) (committing_rule w caller r) (λ (p : CommittedOffset). p.error) (rules_of w) (λ gs name p bad. commit_still (committing_of r) gs name p (log_at w.topics name p.index) bad) w.groups r.topics all)

  stages_still : (r : TxnOffsetCommitRequest) → AllByRecursion IsError (all_errors (request_outcome w caller (requests.TxnOffsetCommit r)).reply) → (request_outcome w caller (requests.TxnOffsetCommit r)).world ≡ w
  stages_still r all =
      ap (λ (gs : List Group). record w { groups = gs })
      (walk_still OffsetToStage StagedOffset (List Group) (staging_rule w caller r) (λ (p : StagedOffset). p.error) (rules_of w)
      (λ gs name p bad. transition_still gs (stage_transition (staging_refusal w.coordinator (staging_of r)) w.topics (staging_of r) gs name p) bad) w.groups r.topics all)

  by_parts : (request : Request) → is_by_parts request ≡ true → AllByRecursion IsError (all_errors (request_outcome w caller request).reply) → (request_outcome w caller request).world ≡ w
  by_parts (requests.Produce r) one all = produce_still r all
  by_parts (requests.OffsetCommit r) one all = commits_still r all
  by_parts (requests.TxnOffsetCommit r) one all = stages_still r all
  by_parts (requests.Fetch r) one all = absurd (let clash : false ≡ true = one in cc)
  by_parts (requests.ListOffsets r) one all = absurd (let clash : false ≡ true = one in cc)
  by_parts (requests.Metadata r) one all = absurd (let clash : false ≡ true = one in cc)
  by_parts (requests.OffsetFetch r) one all = absurd (let clash : false ≡ true = one in cc)
  by_parts (requests.FindCoordinator r) one all = absurd (let clash : false ≡ true = one in cc)
  by_parts (requests.JoinGroup r) one all = absurd (let clash : false ≡ true = one in cc)
  by_parts (requests.Heartbeat r) one all = absurd (let clash : false ≡ true = one in cc)
  by_parts (requests.LeaveGroup r) one all = absurd (let clash : false ≡ true = one in cc)
  by_parts (requests.SyncGroup r) one all = absurd (let clash : false ≡ true = one in cc)
  by_parts (requests.SaslHandshake r) one all = absurd (let clash : false ≡ true = one in cc)
  by_parts requests.ApiVersions one all = absurd (let clash : false ≡ true = one in cc)
  by_parts (requests.InitProducerId r) one all = absurd (let clash : false ≡ true = one in cc)
  by_parts (requests.AddPartitionsToTxn r) one all = absurd (let clash : false ≡ true = one in cc)
  by_parts (requests.AddOffsetsToTxn r) one all = absurd (let clash : false ≡ true = one in cc)
  by_parts (requests.EndTxn r) one all = absurd (let clash : false ≡ true = one in cc)
  by_parts (requests.DescribeAcls r) one all = absurd (let clash : false ≡ true = one in cc)
  by_parts (requests.CreateAcls r) one all = absurd (let clash : false ≡ true = one in cc)
  by_parts (requests.DeleteAcls r) one all = absurd (let clash : false ≡ true = one in cc)
  by_parts (requests.SaslAuthenticate r) one all = absurd (let clash : false ≡ true = one in cc)

-- ---- AddPartitionsToTxn

same_number : (a b : ℤ) → Some a ≡ Some b → a ≡ b
same_number a b h = cc

-- all are told one code
one_code : (code : ErrorCode) (name : List ℕ) (v : Unit {0}) (ps : List ℤ) (j : ℕ) (error : ℤ) → error_number (λ (p : AddedPartition). p.error) (element_at (plain_parts (code_rule code) v name ps) j) ≡ Some error → number_of code ≡ error
one_code code name v [] j error h = absurd (let clash : None ≡ Some error = h in cc)
one_code code name v (p ∷ ps) zero error h = same_number (number_of code) error h
one_code code name v (p ∷ ps) (suc j) error h = one_code code name v ps j error h

one_code_in : (code : ErrorCode) (v : Unit {0}) (ts : List (Topic ℤ)) (i j : ℕ) (error : ℤ) → error_number_in (λ (p : AddedPartition). p.error) (element_at (plain_topics (code_rule code) v ts) i) j ≡ Some error → number_of code ≡ error
one_code_in code v [] i j error h = absurd (let clash : None ≡ Some error = h in cc)
one_code_in code v (t ∷ ts) zero j error h = one_code code t.name v t.partitions j error h
one_code_in code v (t ∷ ts) (suc i) j error h = one_code_in code (plain_parts_world (code_rule code) v t.name t.partitions) ts i j error h

one_code_at : (code : ErrorCode) (ts : List (Topic ℤ)) (place : Place) (error : ℤ) → partition_error_at (λ (p : AddedPartition). p.error) (plain_topics (code_rule code) tt ts) place ≡ Some error → number_of code ≡ error
one_code_at code ts (TopicAt i) error h = absurd (let clash : None ≡ Some error = h in cc)
one_code_at code ts (PartitionAt i j) error h = one_code_in code tt ts i j error h

add_well : (c : CoordinatorValue) (id : List ℕ) (pair : ProducerIdAndEpoch) (moment : ℕ) (ps : List TopicPartition) → PutsWell (add_partitions c id pair moment ps)
add_well c id pair moment [] = tt
add_well c id pair moment (p ∷ ps) = grown_well (with_partitions (p ∷ ps)) (open_transaction c id pair moment)

head_of : (a b : ℤ) → a ∷ [] ≡ b ∷ [] → a ≡ b
head_of a b h = cc

adds_still : (w : World) (caller : Caller) (r : AddPartitionsToTxnRequest) (place : Place) (error : ℤ) (b : Bool) → error_at (cond b (cut_outcome w caller r) (added_outcome w r)).reply place ≡ Some error → IsError error → (cond b (cut_outcome w caller r) (added_outcome w r)).world ≡ w
adds_still w caller r place error true is bad = refl
adds_still w caller r place error false is bad =
    transition_unchanged w (add_transition w.coordinator w.moment r) (add_well w.coordinator r.transactional_id (record { producer = r.producer; epoch = r.epoch }) w.moment (partitions_of r.topics))
    (λ zeroes. bad (sym (one_code_at (transition_code (add_transition w.coordinator w.moment r)) r.topics place error is) ∙ head_of (number_of (transition_code (add_transition w.coordinator w.moment r))) (pos 0) zeroes))

pub errors_change_nothing : ErrorsChangeNothing outcome
errors_change_nothing = record {
  whole = λ w caller client request one bad. unchanged w caller request one bad;
  init = λ w caller client r bad worse. init_whole (part_refusal (rules_of w) (init_questions (rules_of w) caller r.transactional_id)) w r bad worse;
  parts = λ w caller client request one all. by_parts w caller request one all;
  adds = λ w caller client r place error is bad. adds_still w caller r place error (is_cut caller r.transactional_id w.topics (rules_of w) r.topics) is bad;
}
