-- The answers to Produce, Fetch and ListOffsets depend on what the questions of their parts were granted.
use Rattle.std.proofs.Common.{◌≡◌, ℕ, ℤ, pos, length, eqb, ◌⊎◌, inl, inr, Bool, true, false, cond, List, [], ◌∷◌, Option, Some, None, Result, Ok, Err, refl, sym, ap, subst, ◌∙◌}
use Rattle.std.specs.Prelude.{int_lt, map, is_some}
use Rattle.std.specs.Option.{option_map, option_and_then}
use Rattle.std.specs.Str.{bytes_eq}
use Rattle.std.proofs.lemmas.Slice.Eq.{bytes_eq-Decides}
use Rattle.acl_binding.specs.declared.question.Caller.{Caller}
use Rattle.acl_binding.specs.declared.question.Question.{Question}
use Rattle.acl_binding.specs.declared.question.Verdict.{Verdict}
use Rattle.acl_binding.specs.declared.question.Verdict.TheVariants.{Yes, Denied, Nothing}
use Rattle.acl_binding.specs.declared.words.Kind.TheVariants as kinds
use Rattle.acl_binding.specs.declared.words.Operation.TheVariants as operations
use Rattle.acl_binding.specs.Verdict.{question_of}
use Rattle.authorizer.specs.declared.answer.Refusal.{Refusal}
use Rattle.authorizer.specs.declared.answer.DenyReason.TheVariants as why
use Rattle.authorizer.specs.Policy.{verdict}
use Rattle.authorizer.specs.Asking.{Rules, refusal_by, first_of, part_refusal}
use Rattle.wire_types.specs.declared.error_code.ErrorCode.{ErrorCode}
use Rattle.wire_types.specs.declared.error_code.ErrorCode.TheVariants as codes
use Rattle.wire_types.specs.declared.topic.Topic.{Topic}
use Rattle.record_batch.specs.declared.header.BatchHeader.{BatchHeader}
use Rattle.record_batch.specs.declared.fault.BatchFault.{BatchFault}
use Rattle.record_batch.specs.BatchHeader.{is_transactional}
use Rattle.record_batch.specs.Batch.{BatchData}
use Rattle.msg_data.specs.declared.isolation.Isolation.{Isolation}
use Rattle.msg_data.specs.declared.produce.ProducedRecords.{ProducedRecords}
use Rattle.msg_data.specs.declared.fetch.FetchPartition.{FetchPartition}
use Rattle.msg_admin.specs.declared.reply.Reply.TheVariants as replies
use Rattle.walk.specs.Walk.{answers, refusals}
use Rattle.walk.specs.Woven.{has_any}
use Rattle.walk.specs.Alike.{AllParts, AllTopics, AreAlike}
use Rattle.walk.specs.Steps.{world_by, part_world, parts_world, topics_world}
use Rattle.walk.proofs.Alikeness.{answer_alike}
use Rattle.walk.proofs.Weaving.{woven}
use Rattle.data_handlers.specs.declared.fetch_budget.FetchBudget.{FetchBudget}
use Rattle.broker_world.specs.World.{World, TopicValue, LogValue, rules_of, find_topic}
use Rattle.broker_world.specs.declared.node.Node.{Node}
use Rattle.broker_world.specs.First.{non_negative}
use Rattle.broker_world.specs.Logs.{log_after, log_of, log_at, logs_with, with_log, topics_with_batch_by, topics_with_batch}
use Rattle.txn_coordinator.specs.declared.producer_id.ProducerIdAndEpoch.{ProducerIdAndEpoch}
use Rattle.txn_coordinator.specs.declared.producer_id.ProducerIdOwner.{ProducerIdOwner}
use Rattle.txn_coordinator.specs.declared.target.Target.{Target}
use Rattle.txn_coordinator.specs.declared.transaction.Transaction.{Transaction}
use Rattle.txn_coordinator.specs.Coordinator.{CoordinatorValue, id_record, owner, given_by}
use Rattle.txn_coordinator.specs.Holding.{holding_code_of}
use Rattle.data_handlers.specs.Judged.{partition_at, id_and_epoch_of, held_code, given_code, producer_code, batch_or_error_by, batch_or_error, batch_in, are_acks, batch_to_append, topics_produced}
use Rattle.broker_world.specs.Codes.{code_unless_none}
use Rattle.data_handlers.specs.Sent.{batch_or_fault}
use Rattle.data_handlers.specs.Produce.{produce_questions, produce_answer, produce_answer_by, produce_rule, producing_rule, produce_reply, produce_outcome}
use Rattle.data_handlers.specs.Fetch.{served_by, served_at, fetched_partition, budget_after, fetch_rule, whole_budget, fetch_outcome}
use Rattle.data_handlers.specs.ListOffsets.{listed_offset_by, list_rule, list_offsets_outcome}
use Rattle.api_laws.proofs.Recorded.{same_owner}
use Rattle.api_laws.specs.Tenants.{SameGranted, SameOn}
use Rattle.api_laws.specs.DataTenants.{FetchDependsOnGrants, ListOffsetsDependsOnGrants, ProduceDependsOnGrants, ProduceKeepsTheRest}

-- ---- a question that refuses nothing is granted

pub yes_of : (x : Verdict) (q : Question) (rest : Option Refusal) → first_of (refusal_by x q) rest ≡ None → x ≡ Yes
yes_of Yes q rest h = refl
yes_of (Denied n) q rest h = absurd (let clash : Some (record { question = q; why = why.Denied n }) ≡ None = h in cc)
yes_of Nothing q rest h = absurd (let clash : Some (record { question = q; why = why.Nothing }) ≡ None = h in cc)

pub rest_of : (x : Verdict) (q : Question) (rest : Option Refusal) → first_of (refusal_by x q) rest ≡ None → rest ≡ None
rest_of Yes q rest h = h
rest_of (Denied n) q rest h = absurd (let clash : Some (record { question = q; why = why.Denied n }) ≡ None = h in cc)
rest_of Nothing q rest h = absurd (let clash : Some (record { question = q; why = why.Nothing }) ≡ None = h in cc)

-- the worlds agree on the topic of a granted question
pub same_topic : (v w : World) (q : Question) → SameGranted v w (q ∷ []) → part_refusal (rules_of w) (q ∷ []) ≡ None → SameOn v w q.kind q.name
same_topic v w q same none = same.0 (yes_of (verdict w.book w.supers q) q None none)

pub same_log : (us vs : List TopicValue) (name : List ℕ) (index : ℤ) → find_topic us name ≡ find_topic vs name → log_at us name index ≡ log_at vs name index
same_log us vs name index same = ap (option_and_then (log_of index)) same

-- ---- Fetch

same_served : (level : Isolation) (us vs : List TopicValue) (a b : FetchBudget) (name : List ℕ) (p : FetchPartition) → find_topic us name ≡ find_topic vs name → a ≡ b → served_at level us a name p ≡ served_at level vs b name p
same_served level us vs a b name p same budget = ap (served_by level a p) (same_log us vs name p.index same) ∙ ap (λ (r : FetchBudget). served_at level vs r name p) budget

fetch_alike : (v w : World) (caller : Caller) (level : Isolation) → AreAlike (fetch_rule caller level v.topics) (fetch_rule caller level w.topics) (rules_of w) (λ name p. SameGranted v w ((fetch_rule caller level w.topics).questions name p)) (λ a b. a ≡ b)
fetch_alike v w caller level = record {
  questions = λ name p. refl;
  refused = λ code name p. refl;
  plain = λ a b name p is budget none. ap (fetched_partition level p) (same_served level v.topics w.topics a b name p (same_topic v w (question_of caller operations.Read kinds.Topic name) is none) budget);
  after = λ a b name p is budget none.
      ap (λ (r : FetchBudget). budget_after r (served_at level v.topics a name p)) budget
      ∙ ap (budget_after b) (same_served level v.topics w.topics a b name p (same_topic v w (question_of caller operations.Read kinds.Topic name) is none) budget);
}

pub fetch_depends : FetchDependsOnGrants fetch_outcome
fetch_depends v w caller r base same =
    let alike = answer_alike (fetch_rule caller r.isolation v.topics) (fetch_rule caller r.isolation w.topics) (rules_of w) (λ name p. SameGranted v w ((fetch_rule caller r.isolation w.topics).questions name p)) (λ a b. a ≡ b) (fetch_alike v w caller r.isolation) (whole_budget r) (whole_budget r) r.topics same refl in
    let told = ap (λ (rules : Rules). answers (fetch_rule caller r.isolation v.topics) rules (whole_budget r) r.topics) base.rules ∙ alike.answers in
    record {
      reply = ap (λ topics. replies.Fetch (record { throttle = pos 0; topics = topics })) told;
      refusals = ap (λ (rules : Rules). refusals (fetch_rule caller r.isolation v.topics) rules r.topics) base.rules ∙ alike.refusals;
    }

-- ---- ListOffsets

list_alike : (v w : World) (caller : Caller) (level : Isolation) → AreAlike (list_rule caller level v.topics) (list_rule caller level w.topics) (rules_of w) (λ name p. SameGranted v w ((list_rule caller level w.topics).questions name p)) (λ a b. a ≡ b)
list_alike v w caller level = record {
  questions = λ name p. refl;
  refused = λ code name p. refl;
  plain = λ a b name p is world none. ap (listed_offset_by level p) (same_log v.topics w.topics name p.index (same_topic v w (question_of caller operations.Describe kinds.Topic name) is none));
  after = λ a b name p is world none. world;
}

pub list_offsets_depends : ListOffsetsDependsOnGrants list_offsets_outcome
list_offsets_depends v w caller r base same =
    let alike = answer_alike (list_rule caller r.isolation v.topics) (list_rule caller r.isolation w.topics) (rules_of w) (λ name p. SameGranted v w ((list_rule caller r.isolation w.topics).questions name p)) (λ a b. a ≡ b) (list_alike v w caller r.isolation) tt tt r.topics same refl in
    let told = ap (λ (rules : Rules). answers (list_rule caller r.isolation v.topics) rules tt r.topics) base.rules ∙ alike.answers in
    record {
      reply = ap (λ topics. replies.ListOffsets (record { throttle = pos 0; topics = topics })) told;
      refusals = ap (λ (rules : Rules). refusals (list_rule caller r.isolation v.topics) rules r.topics) base.rules ∙ alike.refusals;
    }

-- ---- Produce: a topic among topics of which one was appended to

pub find_same : (topics : List TopicValue) (name : List ℕ) (index : ℤ) (log : LogValue) → find_topic (with_log topics name index log) name ≡ option_map (λ (t : TopicValue). record { name = t.name; partitions = logs_with t.partitions index log }) (find_topic topics name)
find_same [] name index log = refl
find_same (t ∷ ts) name index log = by_test (bytes_eq t.name name) refl (find_same ts name index log) where
  by_test : (b : Bool) → bytes_eq t.name name ≡ b → find_topic (with_log ts name index log) name ≡ option_map (λ (t : TopicValue). record { name = t.name; partitions = logs_with t.partitions index log }) (find_topic ts name)
      → find_topic (cond b (record { name = t.name; partitions = logs_with t.partitions index log } ∷ ts) (t ∷ with_log ts name index log)) name ≡ option_map (λ (t : TopicValue). record { name = t.name; partitions = logs_with t.partitions index log }) (cond b (Some t) (find_topic ts name))
  by_test true e rest = ap (λ x. cond x (Some (record { name = t.name; partitions = logs_with t.partitions index log })) (find_topic ts name)) e
  by_test false e rest = ap (λ x. cond x (Some t) (find_topic (with_log ts name index log) name)) e ∙ rest

pub find_other : (topics : List TopicValue) (name other : List ℕ) (index : ℤ) (log : LogValue) → bytes_eq name other ≡ false → find_topic (with_log topics name index log) other ≡ find_topic topics other
find_other [] name other index log differ = refl
find_other (t ∷ ts) name other index log differ = by_test (bytes_eq t.name name) refl (find_other ts name other index log differ) where
  by_test : (b : Bool) → bytes_eq t.name name ≡ b → find_topic (with_log ts name index log) other ≡ find_topic ts other
      → find_topic (cond b (record { name = t.name; partitions = logs_with t.partitions index log } ∷ ts) (t ∷ with_log ts name index log)) other ≡ find_topic (t ∷ ts) other
  by_test true e rest =
      let no : bytes_eq t.name other ≡ false = ap (λ n. bytes_eq n other) ((bytes_eq-Decides t.name name).0 e) ∙ differ in
      ap (λ x. cond x (Some (record { name = t.name; partitions = logs_with t.partitions index log })) (find_topic ts other)) no ∙ sym (ap (λ x. cond x (Some t) (find_topic ts other)) no)
  by_test false e rest = ap (λ f. cond (bytes_eq t.name other) (Some t) f) rest

-- where two lists agree on the topic that is appended to, and on another, they do so afterwards
find_appended : (us vs : List TopicValue) (name other : List ℕ) (index : ℤ) (b : BatchData) → find_topic us name ≡ find_topic vs name → find_topic us other ≡ find_topic vs other
    → find_topic (topics_with_batch us name index b) other ≡ find_topic (topics_with_batch vs name index b) other
find_appended us vs name other index b here there =
    by_log (log_at us name index) ∙ ap (λ o. find_topic (topics_with_batch_by vs name index b o) other) (same_log us vs name index here) where
      by_name : (x : Bool) → bytes_eq name other ≡ x → (log : LogValue) → find_topic (with_log us name index log) other ≡ find_topic (with_log vs name index log) other
      by_name true e log =
          let same : name ≡ other = (bytes_eq-Decides name other).0 e in
          subst (λ n. find_topic (with_log us name index log) n ≡ find_topic (with_log vs name index log) n) same
          (find_same us name index log ∙ ap (option_map (λ (t : TopicValue). record { name = t.name; partitions = logs_with t.partitions index log })) here ∙ sym (find_same vs name index log))
      by_name false e log = find_other us name other index log e ∙ there ∙ sym (find_other vs name other index log e)

      by_log : (o : Option LogValue) → find_topic (topics_with_batch_by us name index b o) other ≡ find_topic (topics_with_batch_by vs name index b o) other
      by_log None = there
      by_log (Some log) = by_name (bytes_eq name other) refl (log_after log b)

-- ---- the topics that a request names

Named : List ℕ → List (Topic ProducedRecords) → Type 0
Named name [] = ⊥
Named name (t ∷ ts) = ((t.name ≡ name) × (has_any t.partitions ≡ true)) ⊎ Named name ts

named_parts : (whole : List (Topic ProducedRecords)) (name : List ℕ) (ps : List ProducedRecords) → Named name whole → AllParts (λ n p. Named n whole) name ps
unfolding Named
named_parts whole name [] is = tt
named_parts whole name (p ∷ ps) is = (is, named_parts whole name ps is)

named_topics : (whole ts : List (Topic ProducedRecords)) → ((name : List ℕ) → Named name ts → Named name whole) → AllTopics (λ n p. Named n whole) ts
unfolding Named
named_topics whole [] within = tt
named_topics whole (t ∷ ts) within = (by_parts t.partitions (λ some. within t.name (inl (refl, some))), named_topics whole ts (λ name is. within name (inr is))) where
  by_parts : (ps : List ProducedRecords) → (has_any ps ≡ true → Named t.name whole) → AllParts (λ n p. Named n whole) t.name ps
  by_parts [] named = tt
  by_parts (p ∷ ps) named = named_parts whole t.name (p ∷ ps) (named refl)

granted_topic : (v w : World) (caller : Caller) (id : Option (List ℕ)) (name : List ℕ) → SameGranted v w (produce_questions caller id name) → part_refusal (rules_of w) (produce_questions caller id name) ≡ None → find_topic v.topics name ≡ find_topic w.topics name
granted_topic v w caller None name same none = same_topic v w (question_of caller operations.Write kinds.Topic name) same none
granted_topic v w caller (Some id) name same none =
    let first = question_of caller operations.Write kinds.TransactionalId id in
    let last = question_of caller operations.Write kinds.Topic name in
    same_topic v w last same.1 (rest_of (verdict w.book w.supers first) first (part_refusal (rules_of w) (last ∷ [])) none)

-- the worlds agree on the transactional id that is given, if it may be written
AgreeOnId : CoordinatorValue → CoordinatorValue → Option (List ℕ) → Type 0
AgreeOnId a b None = Unit {0}
AgreeOnId a b (Some id) = id_record a.transactions id ≡ id_record b.transactions id

granted_id : (v w : World) (caller : Caller) (id : Option (List ℕ)) (name : List ℕ) → SameGranted v w (produce_questions caller id name) → part_refusal (rules_of w) (produce_questions caller id name) ≡ None → AgreeOnId v.coordinator w.coordinator id
unfolding AgreeOnId
granted_id v w caller None name same none = tt
granted_id v w caller (Some id) name same none =
    let first = question_of caller operations.Write kinds.TransactionalId id in
    let last = question_of caller operations.Write kinds.Topic name in
    same.0 (yes_of (verdict w.book w.supers first) first (part_refusal (rules_of w) (last ∷ [])) none)

-- what is granted of a request is the same in both
module _ (v w : World) (caller : Caller) (id : Option (List ℕ)) where
  abbrev AgreeNamed : (ts : List (Topic ProducedRecords)) → Type 0
  AgreeNamed ts = (name : List ℕ) → Named name ts → part_refusal (rules_of w) (produce_questions caller id name) ≡ None → (find_topic v.topics name ≡ find_topic w.topics name) × AgreeOnId v.coordinator w.coordinator id

  agree_first : (ts : List (Topic ProducedRecords)) → AllTopics (λ name p. SameGranted v w (produce_questions caller id name)) ts → AgreeNamed ts
  unfolding Named
  agree_first [] same name is none = absurd is
  agree_first (t ∷ ts) same name (inr is) none = agree_first ts same.1 name is none
  agree_first (t ∷ ts) same name (inl is) none = by_parts t.partitions is.1 same.0 where
    by_parts : (ps : List ProducedRecords) → has_any ps ≡ true → AllParts (λ name p. SameGranted v w (produce_questions caller id name)) t.name ps → (find_topic v.topics name ≡ find_topic w.topics name) × AgreeOnId v.coordinator w.coordinator id
    by_parts [] some all = absurd (let clash : false ≡ true = some in cc)
    by_parts (p ∷ ps) some all =
        let here = subst (λ n. SameGranted v w (produce_questions caller id n)) is.0 all.0 in
        (granted_topic v w caller id name here none, granted_id v w caller id name here none)

same_produced : (batch : Result BatchData ErrorCode) (us vs : List TopicValue) (name : List ℕ) (p : ProducedRecords) → find_topic us name ≡ find_topic vs name → produce_answer batch us name p ≡ produce_answer batch vs name p
same_produced batch us vs name p same = ap (produce_answer_by batch p) (same_log us vs name p.index same)

find_after : (batch : Result BatchData ErrorCode) (us vs : List TopicValue) (name other : List ℕ) (index : ℤ) → find_topic us name ≡ find_topic vs name → find_topic us other ≡ find_topic vs other
    → find_topic (topics_produced batch us name index) other ≡ find_topic (topics_produced batch vs name index) other
find_after (Err code) us vs name other index here there = there
find_after (Ok b) us vs name other index here there = find_appended us vs name other index b here there

-- a batch is judged the same by coordinators that agree on its id and on the producer ids given out
same_held : (a b : CoordinatorValue) (id : Option (List ℕ)) (pair : ProducerIdAndEpoch) (target : Target) → AgreeOnId a b id → held_code a id pair target ≡ held_code b id pair target
unfolding AgreeOnId
same_held a b None pair target agree = refl
same_held a b (Some id) pair target agree = ap (λ (o : Option Transaction). code_unless_none (holding_code_of o pair target)) agree

same_code : (a b : CoordinatorValue) (id : Option (List ℕ)) (target : Target) (h : BatchHeader) → map is_some a.given ≡ map is_some b.given → AgreeOnId a b id → producer_code a id target h ≡ producer_code b id target h
same_code a b id target h given agree =
    ap (λ (o : Option ErrorCode). cond (is_transactional h) o (cond (int_lt h.producer_id (pos 0)) None (given_code (given_by (owner a h.producer_id))))) (same_held a b id (id_and_epoch_of h) target agree)
    ∙ ap (λ (g : ProducerIdOwner). cond (is_transactional h) (held_code b id (id_and_epoch_of h) target) (cond (int_lt h.producer_id (pos 0)) None (given_code g))) (same_owner a b h.producer_id given)

same_passed : (a b : CoordinatorValue) (id : Option (List ℕ)) (target : Target) (r : Result BatchData BatchFault) → map is_some a.given ≡ map is_some b.given → AgreeOnId a b id → batch_or_error a id target r ≡ batch_or_error b id target r
same_passed a b id target (Err fault) given agree = refl
same_passed a b id target (Ok x) given agree = ap (λ (o : Option ErrorCode). batch_or_error_by o x) (same_code a b id target x.header given agree)

same_batch : (most : ℕ) (a b : CoordinatorValue) (id : Option (List ℕ)) (target : Target) (records : Option (List ℕ)) → map is_some a.given ≡ map is_some b.given → AgreeOnId a b id → batch_in most a id target records ≡ batch_in most b id target records
same_batch most a b id target None given agree = refl
same_batch most a b id target (Some records) given agree = ap (λ r. cond (eqb (length records) 0) (Err codes.InvalidRecord) r) (same_passed a b id target (batch_or_fault most records) given agree)

same_judged : (most : ℕ) (a b : CoordinatorValue) (id : Option (List ℕ)) (acks : ℤ) (target : Target) (records : Option (List ℕ)) → map is_some a.given ≡ map is_some b.given → AgreeOnId a b id → batch_to_append most a id acks target records ≡ batch_to_append most b id acks target records
same_judged most a b id acks target records given agree = ap (λ r. cond (are_acks acks) r (Err codes.InvalidRequiredAcks)) (same_batch most a b id target records given agree)

-- the same worlds of topics, and the same grants, are answered alike by coordinators that agree where it is granted
abbrev AgreeBoth : Rules → Caller → Option (List ℕ) → CoordinatorValue → CoordinatorValue → List (Topic ProducedRecords) → List TopicValue → List TopicValue → Type 0
AgreeBoth rules caller id a b ts us vs = (name : List ℕ) → Named name ts → part_refusal rules (produce_questions caller id name) ≡ None → (find_topic us name ≡ find_topic vs name) × AgreeOnId a b id

produce_alike : (rules : Rules) (caller : Caller) (most : ℕ) (a b : CoordinatorValue) (id : Option (List ℕ)) (acks : ℤ) (ts : List (Topic ProducedRecords)) → map is_some a.given ≡ map is_some b.given
    → AreAlike (produce_rule caller most a id acks) (produce_rule caller most b id acks) rules (λ name p. Named name ts) (AgreeBoth rules caller id a b ts)
produce_alike rules caller most a b id acks ts given = record {
  questions = λ name p. refl;
  refused = λ code name p. refl;
  plain = λ us vs name p is agree none.
      let both = agree name is none in
      same_produced (batch_to_append most a id acks (partition_at name p.index) p.records) us vs name p both.0
      ∙ ap (λ r. produce_answer r vs name p) (same_judged most a b id acks (partition_at name p.index) p.records given both.1);
  after = λ us vs name p is agree none other named granted.
      let both = agree name is none in
      let batch = batch_to_append most a id acks (partition_at name p.index) p.records in
      let same : batch ≡ batch_to_append most b id acks (partition_at name p.index) p.records = same_judged most a b id acks (partition_at name p.index) p.records given both.1 in
      (find_after batch us vs name other p.index both.0 (agree other named granted).0 ∙ ap (λ r. find_topic (topics_produced r vs name p.index) other) same, (agree other named granted).1);
}

pub produce_depends : ProduceDependsOnGrants produce_outcome
produce_depends v w caller r base same =
    let alike = answer_alike (produce_rule caller (non_negative w.node.max_batch) v.coordinator r.transactional_id r.acks) (producing_rule w caller r) (rules_of w) (λ name p. Named name r.topics) (AgreeBoth (rules_of w) caller r.transactional_id v.coordinator w.coordinator r.topics)
    (produce_alike (rules_of w) caller (non_negative w.node.max_batch) v.coordinator w.coordinator r.transactional_id r.acks r.topics base.given) v.topics w.topics r.topics
    (named_topics r.topics r.topics (λ name is. is)) (agree_first v w caller r.transactional_id r.topics same) in
    let told = ap (λ (rules : Rules). answers (producing_rule v caller r) rules v.topics r.topics) base.rules
    ∙ ap (λ (n : Node). answers (produce_rule caller (non_negative n.max_batch) v.coordinator r.transactional_id r.acks) (rules_of w) v.topics r.topics) base.node ∙ alike.answers in
    record {
      reply = ap (produce_reply r.acks) told;
      refusals = ap (λ (rules : Rules). refusals (producing_rule v caller r) rules r.topics) base.rules
          ∙ ap (λ (n : Node). refusals (produce_rule caller (non_negative n.max_batch) v.coordinator r.transactional_id r.acks) (rules_of w) r.topics) base.node ∙ alike.refusals;
    }

-- ---- Produce: a topic that isn't granted

kept_append : (topics : List TopicValue) (name other : List ℕ) (index : ℤ) (b : BatchData) (o : Option LogValue) → bytes_eq name other ≡ false → find_topic (topics_with_batch_by topics name index b o) other ≡ find_topic topics other
kept_append topics name other index b None differ = refl
kept_append topics name other index b (Some log) differ = find_other topics name other index (log_after log b) differ

kept_batch : (topics : List TopicValue) (name other : List ℕ) (index : ℤ) (batch : Result BatchData ErrorCode) → (name ≡ other → ⊥) → find_topic (topics_produced batch topics name index) other ≡ find_topic topics other
kept_batch topics name other index (Err code) differ = refl
kept_batch topics name other index (Ok b) differ = kept_append topics name other index b (log_at topics name index) (by_test (bytes_eq name other) refl) where
  by_test : (x : Bool) → bytes_eq name other ≡ x → bytes_eq name other ≡ false
  by_test true e = absurd (differ ((bytes_eq-Decides name other).0 e))
  by_test false e = e

kept_part : (rules : Rules) (caller : Caller) (most : ℕ) (c : CoordinatorValue) (id : Option (List ℕ)) (acks : ℤ) (other : List ℕ) → (part_refusal rules (produce_questions caller id other) ≡ None → ⊥) → (topics : List TopicValue) (name : List ℕ) (p : ProducedRecords)
    → find_topic (part_world (produce_rule caller most c id acks) rules topics name p) other ≡ find_topic topics other
kept_part rules caller most c id acks other refused topics name p = by_refusal (part_refusal rules (produce_questions caller id name)) refl where
  by_refusal : (r : Option Refusal) → part_refusal rules (produce_questions caller id name) ≡ r → find_topic (world_by (produce_rule caller most c id acks) r topics name p) other ≡ find_topic topics other
  by_refusal (Some r) e = refl
  by_refusal None e = kept_batch topics name other p.index (batch_to_append most c id acks (partition_at name p.index) p.records) (λ same. refused (subst (λ n. part_refusal rules (produce_questions caller id n) ≡ None) same e))

kept_parts : (rules : Rules) (caller : Caller) (most : ℕ) (c : CoordinatorValue) (id : Option (List ℕ)) (acks : ℤ) (other : List ℕ) → (part_refusal rules (produce_questions caller id other) ≡ None → ⊥) → (topics : List TopicValue) (name : List ℕ) (ps : List ProducedRecords)
    → find_topic (parts_world (produce_rule caller most c id acks) rules topics name ps) other ≡ find_topic topics other
kept_parts rules caller most c id acks other refused topics name [] = refl
kept_parts rules caller most c id acks other refused topics name (p ∷ ps) =
    kept_parts rules caller most c id acks other refused (part_world (produce_rule caller most c id acks) rules topics name p) name ps ∙ kept_part rules caller most c id acks other refused topics name p

kept_topics : (rules : Rules) (caller : Caller) (most : ℕ) (c : CoordinatorValue) (id : Option (List ℕ)) (acks : ℤ) (other : List ℕ) → (part_refusal rules (produce_questions caller id other) ≡ None → ⊥) → (topics : List TopicValue) (ts : List (Topic ProducedRecords))
    → find_topic (topics_world (produce_rule caller most c id acks) rules topics ts) other ≡ find_topic topics other
kept_topics rules caller most c id acks other refused topics [] = refl
kept_topics rules caller most c id acks other refused topics (t ∷ ts) =
    kept_topics rules caller most c id acks other refused (parts_world (produce_rule caller most c id acks) rules topics t.name t.partitions) ts ∙ kept_parts rules caller most c id acks other refused topics t.name t.partitions

pub produce_keeps : ProduceKeepsTheRest produce_outcome
produce_keeps w caller r name refused =
    ap (λ (topics : List TopicValue). find_topic topics name) (sym (woven (producing_rule w caller r) (rules_of w) w.topics r.topics).world)
    ∙ kept_topics (rules_of w) caller (non_negative w.node.max_batch) w.coordinator r.transactional_id r.acks name refused w.topics r.topics
