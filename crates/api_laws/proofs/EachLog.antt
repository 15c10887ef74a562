-- What holds of each log that events reach: it holds of an empty one, and stays by a batch more that was sent, or a marker.
use Rattle.std.proofs.Common.{◌≡◌, ℕ, zero, suc, ℤ, pos, negsuc, ◌≤◌, Bool, true, false, cond, eqb, List, [], ◌∷◌, ◌++◌, length, Option, Some, None, Result, Ok, Err, refl, sym, ap, subst, ◌∙◌}
use Rattle.std.specs.Prelude.{slice_get, slice_set}
use Rattle.std.specs.List.{AllByRecursion}
use Rattle.std.specs.Option.{option_and_then}
use Rattle.std.specs.Str.{bytes_eq}
use Rattle.acl_binding.specs.declared.question.Caller.{Caller}
use Rattle.authorizer.specs.declared.answer.Refusal.{Refusal}
use Rattle.authorizer.specs.Asking.{Rules, part_refusal}
use Rattle.wire_types.specs.declared.error_code.ErrorCode.{ErrorCode}
use Rattle.wire_types.specs.declared.error_code.ErrorCode.TheVariants as codes
use Rattle.wire_types.specs.declared.topic.Topic.{Topic}
use Rattle.settings.specs.declared.settings.Settings.{Settings}
use Rattle.settings.specs.declared.settings.TopicSetting.{TopicSetting}
use Rattle.record_batch.specs.declared.fault.BatchFault.{BatchFault}
use Rattle.record_batch.specs.BatchHeader.{batch_header}
use Rattle.record_batch.specs.Batch.{BatchData, IsBatch}
use Rattle.record_batch.specs.Faults.{first_fault, IsData}
use Rattle.record_batch.proofs.Lawful.{one_batch, faultless_is_batch}
use Rattle.producer_state.specs.declared.judgment.Judgment.{Judgment}
use Rattle.producer_state.specs.declared.judgment.Judgment.TheVariants.{Next, Repeat, Refused}
use Rattle.producer_state.specs.Sequences.{judgment_of as judged_by_log}
use Rattle.partition_log.specs.Log.{at_end}
use Rattle.msg_data.specs.declared.produce.ProducedRecords.{ProducedRecords}
use Rattle.msg_admin.specs.declared.request.Request.TheVariants.{Produce, Fetch, ListOffsets, Metadata, OffsetCommit, OffsetFetch, FindCoordinator, JoinGroup, Heartbeat, LeaveGroup, SyncGroup, SaslHandshake, ApiVersions, InitProducerId, AddPartitionsToTxn, AddOffsetsToTxn, EndTxn, TxnOffsetCommit, DescribeAcls, CreateAcls, DeleteAcls, SaslAuthenticate}
use Rattle.msg_admin.specs.declared.reply.Reply.{Reply}
use Rattle.audit_trail.specs.declared.event.Event.{Event}
use Rattle.audit_trail.specs.declared.event.Event.TheVariants.{Ask, Mark, Tick}
use Rattle.walk.specs.Steps.{world_by, part_world, parts_world, topics_world}
use Rattle.walk.proofs.Weaving.{woven}
use Rattle.txn_coordinator.specs.declared.marker.PendingMarker.{PendingMarker}
use Rattle.txn_coordinator.specs.declared.target.Target.{Target}
use Rattle.txn_coordinator.specs.declared.target.Target.TheVariants.{Partition, Group}
use Rattle.txn_coordinator.specs.Coordinator.{CoordinatorValue}
use Rattle.txn_coordinator.specs.Warrants.{next_warrant}
use Rattle.broker_world.specs.declared.node.Node.{Node}
use Rattle.broker_world.specs.World.{World, TopicValue, LogValue, rules_of, find_topic}
use Rattle.broker_world.specs.Whole.{Served, whole_outcome_by}
use Rattle.broker_world.specs.First.{non_negative, empty_logs, first_topics, first_world}
use Rattle.broker_world.specs.Logs.{log_in, log_of, log_at, logs_with, with_log, log_by, log_after, topics_with_batch_by}
use Rattle.broker_world.specs.Markers.{marker_batch, log_with_marker, topics_with_marker_by}
use Rattle.broker_world.specs.Questions.{read_question}
use Rattle.data_handlers.specs.Sent.{batch_or_fault_by, batch_or_fault}
use Rattle.data_handlers.specs.SentLaws.{sent_batch}
use Rattle.data_handlers.specs.Judged.{partition_at, are_acks, producer_code, batch_or_error_by, batch_or_error, batch_in, batch_to_append, topics_produced}
use Rattle.data_handlers.specs.Produce.{produce_questions, produce_rule, producing_rule}
use Rattle.acl_handlers.specs.DescribeAcls.{describe_acls_questions}
use Rattle.acl_handlers.specs.CreateAcls.{alter_questions}
use Rattle.acl_handlers.proofs.BookBounds.{whole_topics}
use Rattle.group_handlers.specs.FindCoordinator.{kind_of, find_questions}
use Rattle.txn_handlers.specs.AddOffsets.{add_offsets_questions}
use Rattle.txn_handlers.specs.EndTxn.{end_questions}
use Rattle.txn_handlers.specs.InitProducerId.{init_questions}
use Rattle.txn_handlers.specs.Marks.{topics_with_marker_at, mark_by}
use Rattle.txn_handlers.proofs.Adds.{add_keeps, mark_keeps}
use Rattle.api_dispatch.specs.Step.{outcome, step, world_after_events}
use Rattle.api_dispatch.proofs.Wholes.{offsets_keep}

-- ---- what was judged good is a small batch of data

-- what the check of what producers send lets pass
pub record IsSent (most : ℕ) (b : BatchData) : Type 0 where
  pub batch : IsBatch b
  pub data_alone : IsData b
  pub small : length b.bytes ≤ most

same_ok : {E : Type 0} (x b : BatchData) (r : Result BatchData E) → r ≡ Ok x → r ≡ Ok b → x ≡ b
same_ok x b r p q = cc

faultless_by : (most : ℕ) (bytes : List ℕ) (b : BatchData) (f : Option BatchFault) → first_fault most bytes ≡ f → batch_or_fault_by f bytes (batch_header.reading bytes) ≡ Ok b → first_fault most bytes ≡ None
faultless_by most bytes b None e is = e
faultless_by most bytes b (Some fault) e is = absurd (let clash : Err fault ≡ Ok b = is in cc)

sent_is_sent : (most : ℕ) (bytes : List ℕ) (b : BatchData) → batch_or_fault most bytes ≡ Ok b → IsSent most b
sent_is_sent most bytes b is =
    let some = (faultless_is_batch most bytes).0 (faultless_by most bytes b (first_fault most bytes) refl is) in
    let mine = sent_batch most bytes b is in
    let same : some.0 ≡ b = one_batch some.0 b some.2 mine.0 (some.1 ∙ sym mine.1) in
    subst (IsSent most) same (record { batch = some.2; data_alone = some.3; small = subst (λ (l : List ℕ). length l ≤ most) (sym some.1) some.4 })

passed_same : (x b : BatchData) (o : Option ErrorCode) → batch_or_error_by o x ≡ Ok b → x ≡ b
passed_same x b None is = same_ok x b (Ok x) refl is
passed_same x b (Some code) is = absurd (let clash : Err code ≡ Ok b = is in cc)

passed_sent : (most : ℕ) (c : CoordinatorValue) (id : Option (List ℕ)) (target : Target) (bytes : List ℕ) (b : BatchData) (r : Result BatchData BatchFault) → batch_or_fault most bytes ≡ r → batch_or_error c id target r ≡ Ok b → IsSent most b
passed_sent most c id target bytes b (Err fault) e is = absurd cc
passed_sent most c id target bytes b (Ok x) e is = sent_is_sent most bytes b (e ∙ ap (λ (y : BatchData). Ok y) (passed_same x b (producer_code c id target x.header) is))

batch_sent : (most : ℕ) (c : CoordinatorValue) (id : Option (List ℕ)) (target : Target) (records : Option (List ℕ)) (b : BatchData) → batch_in most c id target records ≡ Ok b → IsSent most b
batch_sent most c id target None b is = absurd cc
batch_sent most c id target (Some bytes) b is = by_length (eqb (length bytes) 0) is where
  by_length : (t : Bool) → cond t (Err codes.InvalidRecord) (batch_or_error c id target (batch_or_fault most bytes)) ≡ Ok b → IsSent most b
  by_length true h = absurd cc
  by_length false h = passed_sent most c id target bytes b (batch_or_fault most bytes) refl h

pub judged_sent : (most : ℕ) (c : CoordinatorValue) (id : Option (List ℕ)) (acks : ℤ) (target : Target) (records : Option (List ℕ)) (b : BatchData) → batch_to_append most c id acks target records ≡ Ok b → IsSent most b
judged_sent most c id acks target records b is = by_acks (are_acks acks) is where
  by_acks : (t : Bool) → cond t (batch_in most c id target records) (Err codes.InvalidRequiredAcks) ≡ Ok b → IsSent most b
  by_acks true h = batch_sent most c id target records b h
  by_acks false h = absurd cc

-- ---- what stays of a log

pub record Stays (most : ℕ) (P : LogValue → Type 0) : Type 0 where
  pub empty : P []
  pub next : (log : LogValue) (b : BatchData) → P log → IsSent most b → judged_by_log log b ≡ Next → P (log ++ at_end log b ∷ [])
  pub marked : (log : LogValue) (m : PendingMarker) (moment : ℕ) → P log → P (log ++ at_end log (marker_batch m moment) ∷ [])

-- of each log of each topic
abbrev Each : (LogValue → Type 0) → List TopicValue → Type 0
Each P topics = AllByRecursion (λ (t : TopicValue). AllByRecursion P t.partitions) topics

module _ (P : LogValue → Type 0) where
  -- ---- one of them

  in_at : (logs : List LogValue) (n : ℕ) (log : LogValue) → AllByRecursion P logs → slice_get logs n ≡ Some log → P log
  in_at [] n log all h = absurd (let clash : None ≡ Some log = h in cc)
  in_at (x ∷ xs) zero log all h = subst P (let same : x ≡ log = cc in same) all.0
  in_at (x ∷ xs) (suc n) log all h = in_at xs n log all.1 h

  in_index : (logs : List LogValue) (index : ℤ) (log : LogValue) → AllByRecursion P logs → log_in index logs ≡ Some log → P log
  in_index logs (pos n) log all h = in_at logs n log all h
  in_index logs (negsuc n) log all h = absurd (let clash : None ≡ Some log = h in cc)

  each_at : (topics : List TopicValue) (name : List ℕ) (index : ℤ) (log : LogValue) → Each P topics → log_at topics name index ≡ Some log → P log
  each_at [] name index log all h = absurd (let clash : None ≡ Some log = h in cc)
  each_at (t ∷ ts) name index log all h = by_test (bytes_eq t.name name) (each_at ts name index log all.1) h where
    by_test : (b : Bool) → (log_at ts name index ≡ Some log → P log) → option_and_then (log_of index) (cond b (Some t) (find_topic ts name)) ≡ Some log → P log
    by_test true rest there = in_index t.partitions index log all.0 there
    by_test false rest there = rest there

  -- ---- one of them changed

  in_set : (logs : List LogValue) (n : ℕ) (log : LogValue) → AllByRecursion P logs → P log → AllByRecursion P (slice_set logs n log)
  in_set [] n log all is = tt
  in_set (x ∷ xs) zero log all is = (is, all.1)
  in_set (x ∷ xs) (suc n) log all is = (all.0, in_set xs n log all.1 is)

  in_with : (logs : List LogValue) (index : ℤ) (log : LogValue) → AllByRecursion P logs → P log → AllByRecursion P (logs_with logs index log)
  in_with logs (pos n) log all is = in_set logs n log all is
  in_with logs (negsuc n) log all is = all

  each_with : (topics : List TopicValue) (name : List ℕ) (index : ℤ) (log : LogValue) → Each P topics → P log → Each P (with_log topics name index log)
  each_with [] name index log all is = tt
  each_with (t ∷ ts) name index log all is = by_test (bytes_eq t.name name) (each_with ts name index log all.1 is) where
    by_test : (b : Bool) → Each P (with_log ts name index log) → Each P (cond b (record { name = t.name; partitions = logs_with t.partitions index log } ∷ ts) (t ∷ with_log ts name index log))
    by_test true rest = (in_with t.partitions index log all.0 is, all.1)
    by_test false rest = (all.0, rest)

  -- ---- the first ones are empty

  none_in : (n : ℕ) → P [] → AllByRecursion P (empty_logs n)
  none_in zero is = tt
  none_in (suc n) is = (is, none_in n is)

  none_of : (topics : List TopicSetting) → P [] → Each P (first_topics topics)
  none_of [] is = tt
  none_of (t ∷ ts) is = (none_in (non_negative t.partitions) is, none_of ts is)

-- ---- the limits of the node stay

whole_node : (o : Option Refusal) (w : World) (refused : ErrorCode → Reply) (served : Served) → served.world.node ≡ w.node → (whole_outcome_by o w refused served).world.node ≡ w.node
whole_node None w refused served same = same
whole_node (Some r) w refused served same = refl

node_kept : (w : World) (e : Event) → (outcome w e).world.node ≡ w.node
node_kept w (Ask caller client (Produce r)) = refl
node_kept w (Ask caller client (Fetch r)) = refl
node_kept w (Ask caller client (ListOffsets r)) = refl
node_kept w (Ask caller client (Metadata r)) = refl
node_kept w (Ask caller client (OffsetCommit r)) = refl
node_kept w (Ask caller client (OffsetFetch r)) = ap (λ (v : World). v.node) (offsets_keep w caller r)
node_kept w (Ask caller client (JoinGroup r)) = whole_node (part_refusal (rules_of w) (read_question caller r.group ∷ [])) w _ _ refl
node_kept w (Ask caller client (Heartbeat r)) = whole_node (part_refusal (rules_of w) (read_question caller r.group ∷ [])) w _ _ refl
node_kept w (Ask caller client (LeaveGroup r)) = whole_node (part_refusal (rules_of w) (read_question caller r.group ∷ [])) w _ _ refl
node_kept w (Ask caller client (SyncGroup r)) = whole_node (part_refusal (rules_of w) (read_question caller r.group ∷ [])) w _ _ refl
node_kept w (Ask caller client (FindCoordinator r)) = whole_node (part_refusal (rules_of w) (find_questions caller (kind_of r.key_type) r.key)) w _ _ refl
node_kept w (Ask caller client (InitProducerId r)) = whole_node (part_refusal (rules_of w) (init_questions (rules_of w) caller r.transactional_id)) w _ _ refl
node_kept w (Ask caller client (AddPartitionsToTxn r)) = add_keeps (λ v. v.node) (λ v c. refl) w caller r
node_kept w (Ask caller client (AddOffsetsToTxn r)) = whole_node (part_refusal (rules_of w) (add_offsets_questions caller r.transactional_id r.group)) w _ _ refl
node_kept w (Ask caller client (EndTxn r)) = whole_node (part_refusal (rules_of w) (end_questions caller r)) w _ _ refl
node_kept w (Ask caller client (TxnOffsetCommit r)) = refl
node_kept w (Ask caller client (SaslHandshake r)) = refl
node_kept w (Ask caller client ApiVersions) = refl
node_kept w (Ask caller client (SaslAuthenticate r)) = refl
node_kept w (Ask caller client (DescribeAcls r)) = whole_node (part_refusal (rules_of w) (describe_acls_questions caller)) w _ _ refl
node_kept w (Ask caller client (CreateAcls r)) = whole_node (part_refusal (rules_of w) (alter_questions caller)) w _ _ refl
node_kept w (Ask caller client (DeleteAcls r)) = whole_node (part_refusal (rules_of w) (alter_questions caller)) w _ _ refl
node_kept w Mark = mark_keeps (λ v. v.node) (λ v topics groups c. refl) w
node_kept w (Tick told) = refl

-- ---- one event more

module _ (most : ℕ) (P : LogValue → Type 0) (stays : Stays most P) where
  goes_on : (log : LogValue) (b : BatchData) (j : Judgment) → P log → IsSent most b → judged_by_log log b ≡ j → P (log_by j log b)
  goes_on log b Next is good e = stays.next log b is good e
  goes_on log b (Repeat offset) is good e = is
  goes_on log b (Refused code) is good e = is

  appended_each : (topics : List TopicValue) (name : List ℕ) (index : ℤ) (b : BatchData) (o : Option LogValue) → Each P topics → IsSent most b → log_at topics name index ≡ o → Each P (topics_with_batch_by topics name index b o)
  appended_each topics name index b None all good there = all
  appended_each topics name index b (Some log) all good there =
      each_with P topics name index (log_after log b) all (goes_on log b (judged_by_log log b) (each_at P topics name index log all there) good refl)

  produced_each : (batch : Result BatchData ErrorCode) (topics : List TopicValue) (name : List ℕ) (index : ℤ) → Each P topics → ((b : BatchData) → batch ≡ Ok b → IsSent most b) → Each P (topics_produced batch topics name index)
  produced_each (Err code) topics name index all good = all
  produced_each (Ok b) topics name index all good = appended_each topics name index b (log_at topics name index) all (good b refl) refl

  marked_each : (topics : List TopicValue) (name : List ℕ) (index : ℤ) (m : PendingMarker) (moment : ℕ) (o : Option LogValue) → Each P topics → log_at topics name index ≡ o → Each P (topics_with_marker_by topics name index (marker_batch m moment) o)
  marked_each topics name index m moment None all there = all
  marked_each topics name index m moment (Some log) all there =
      each_with P topics name index (log_with_marker log (marker_batch m moment)) all (stays.marked log m moment (each_at P topics name index log all there))

  part_each : (rules : Rules) (caller : Caller) (c : CoordinatorValue) (id : Option (List ℕ)) (acks : ℤ) (topics : List TopicValue) (n : List ℕ) (p : ProducedRecords) → Each P topics → Each P (part_world (produce_rule caller most c id acks) rules topics n p)
  part_each rules caller c id acks topics n p all = by_refusal (part_refusal rules (produce_questions caller id n)) where
    by_refusal : (r : Option Refusal) → Each P (world_by (produce_rule caller most c id acks) r topics n p)
    by_refusal (Some r) = all
    by_refusal None =
        produced_each (batch_to_append most c id acks (partition_at n p.index) p.records) topics n p.index all (λ b is. judged_sent most c id acks (partition_at n p.index) p.records b is)

  parts_each : (rules : Rules) (caller : Caller) (c : CoordinatorValue) (id : Option (List ℕ)) (acks : ℤ) (topics : List TopicValue) (n : List ℕ) (ps : List ProducedRecords) → Each P topics → Each P (parts_world (produce_rule caller most c id acks) rules topics n ps)
  parts_each rules caller c id acks topics n [] all = all
  parts_each rules caller c id acks topics n (p ∷ ps) all =
      parts_each rules caller c id acks (part_world (produce_rule caller most c id acks) rules topics n p) n ps (part_each rules caller c id acks topics n p all)

  topics_each : (rules : Rules) (caller : Caller) (c : CoordinatorValue) (id : Option (List ℕ)) (acks : ℤ) (topics : List TopicValue) (ts : List (Topic ProducedRecords)) → Each P topics → Each P (topics_world (produce_rule caller most c id acks) rules topics ts)
  topics_each rules caller c id acks topics [] all = all
  topics_each rules caller c id acks topics (t ∷ ts) all =
      topics_each rules caller c id acks (parts_world (produce_rule caller most c id acks) rules topics t.name t.partitions) ts (parts_each rules caller c id acks topics t.name t.partitions all)

  -- the greatest size is the node's
  outcome_each : (w : World) (e : Event) → non_negative w.node.max_batch ≡ most → Each P w.topics → Each P (outcome w e).world.topics
  outcome_each w (Ask caller client (Produce r)) limit all =
      subst (Each P) (ap (λ (n : ℕ). topics_world (produce_rule caller n w.coordinator r.transactional_id r.acks) (rules_of w) w.topics r.topics) (sym limit) ∙ (woven (producing_rule w caller r) (rules_of w) w.topics r.topics).world)
      (topics_each (rules_of w) caller w.coordinator r.transactional_id r.acks w.topics r.topics all)
  outcome_each w (Ask caller client (Fetch r)) limit all = all
  outcome_each w (Ask caller client (ListOffsets r)) limit all = all
  outcome_each w (Ask caller client (Metadata r)) limit all = all
  outcome_each w (Ask caller client (OffsetCommit r)) limit all = all
  outcome_each w (Ask caller client (OffsetFetch r)) limit all = subst (Each P) (sym (ap (λ (v : World). v.topics) (offsets_keep w caller r))) all
  outcome_each w (Ask caller client (JoinGroup r)) limit all = subst (Each P) (sym (whole_topics (part_refusal (rules_of w) (read_question caller r.group ∷ [])) w _ _ refl)) all
  outcome_each w (Ask caller client (Heartbeat r)) limit all = subst (Each P) (sym (whole_topics (part_refusal (rules_of w) (read_question caller r.group ∷ [])) w _ _ refl)) all
  outcome_each w (Ask caller client (LeaveGroup r)) limit all = subst (Each P) (sym (whole_topics (part_refusal (rules_of w) (read_question caller r.group ∷ [])) w _ _ refl)) all
  outcome_each w (Ask caller client (SyncGroup r)) limit all = subst (Each P) (sym (whole_topics (part_refusal (rules_of w) (read_question caller r.group ∷ [])) w _ _ refl)) all
  outcome_each w (Ask caller client (FindCoordinator r)) limit all = subst (Each P) (sym (whole_topics (part_refusal (rules_of w) (find_questions caller (kind_of r.key_type) r.key)) w _ _ refl)) all
  outcome_each w (Ask caller client (InitProducerId r)) limit all = subst (Each P) (sym (whole_topics (part_refusal (rules_of w) (init_questions (rules_of w) caller r.transactional_id)) w _ _ refl)) all
  outcome_each w (Ask caller client (AddPartitionsToTxn r)) limit all = subst (Each P) (sym (add_keeps (λ v. v.topics) (λ v c. refl) w caller r)) all
  outcome_each w (Ask caller client (AddOffsetsToTxn r)) limit all = subst (Each P) (sym (whole_topics (part_refusal (rules_of w) (add_offsets_questions caller r.transactional_id r.group)) w _ _ refl)) all
  outcome_each w (Ask caller client (EndTxn r)) limit all = subst (Each P) (sym (whole_topics (part_refusal (rules_of w) (end_questions caller r)) w _ _ refl)) all
  outcome_each w (Ask caller client (TxnOffsetCommit r)) limit all = all
  outcome_each w (Ask caller client (SaslHandshake r)) limit all = all
  outcome_each w (Ask caller client ApiVersions) limit all = all
  outcome_each w (Ask caller client (SaslAuthenticate r)) limit all = all
  outcome_each w (Ask caller client (DescribeAcls r)) limit all = subst (Each P) (sym (whole_topics (part_refusal (rules_of w) (describe_acls_questions caller)) w _ _ refl)) all
  outcome_each w (Ask caller client (CreateAcls r)) limit all = subst (Each P) (sym (whole_topics (part_refusal (rules_of w) (alter_questions caller)) w _ _ refl)) all
  outcome_each w (Ask caller client (DeleteAcls r)) limit all = subst (Each P) (sym (whole_topics (part_refusal (rules_of w) (alter_questions caller)) w _ _ refl)) all
  outcome_each w Mark limit all = by_front (next_warrant w.coordinator) where
    by_target : (m : PendingMarker) (t : Target) → Each P (topics_with_marker_at w.topics t (marker_batch m w.moment))
    by_target m (Partition p) = marked_each w.topics p.topic p.index m w.moment (log_at w.topics p.topic p.index) all refl
    by_target m (Group g) = all

    by_front : (o : Option PendingMarker) → Each P (mark_by w o).world.topics
    by_front None = all
    by_front (Some m) = by_target m m.target
  outcome_each w (Tick told) limit all = all

  reached_each : (w : World) (es : List Event) → non_negative w.node.max_batch ≡ most → Each P w.topics → Each P (world_after_events w es).topics
  reached_each w [] limit all = all
  reached_each w (e ∷ es) limit all = reached_each (step w e) es (ap (λ (n : Node). non_negative n.max_batch) (node_kept w e) ∙ limit) (outcome_each w e limit all)

pub each_log : (s : Settings) (P : LogValue → Type 0) → Stays (non_negative s.max_batch) P → (es : List Event) (name : List ℕ) (index : ℤ) (log : LogValue) → log_at (world_after_events (first_world s) es).topics name index ≡ Some log → P log
each_log s P stays es name index log there =
    each_at P (world_after_events (first_world s) es).topics name index log (reached_each (non_negative s.max_batch) P stays (first_world s) es refl (none_of P s.topics stays.empty)) there
