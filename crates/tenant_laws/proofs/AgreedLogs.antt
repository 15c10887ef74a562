-- Worlds that agree on what a Produce is granted go on agreeing on each topic.
use Rattle.std.proofs.Common.{◌≡◌, ℕ, ℤ, pos, length, eqb, Bool, true, false, cond, List, [], ◌∷◌, Option, Some, None, Result, Ok, Err, refl, sym, ap, subst, ◌∙◌}
use Rattle.std.specs.Prelude.{int_lt, map, is_some}
use Rattle.std.specs.Option.{option_map}
use Rattle.std.specs.Str.{bytes_eq}
use Rattle.std.proofs.lemmas.Slice.Eq.{bytes_eq-Decides}
use Rattle.acl_binding.specs.declared.question.Caller.{Caller}
use Rattle.acl_binding.specs.declared.words.Kind.TheVariants as kinds
use Rattle.acl_binding.specs.declared.words.Operation.TheVariants as operations
use Rattle.acl_binding.specs.Verdict.{question_of}
use Rattle.authorizer.specs.Policy.{verdict}
use Rattle.authorizer.specs.Asking.{Rules, part_refusal}
use Rattle.wire_types.specs.declared.error_code.ErrorCode.{ErrorCode}
use Rattle.wire_types.specs.declared.error_code.ErrorCode.TheVariants as codes
use Rattle.record_batch.specs.declared.header.BatchHeader.{BatchHeader}
use Rattle.record_batch.specs.declared.fault.BatchFault.{BatchFault}
use Rattle.record_batch.specs.BatchHeader.{is_transactional}
use Rattle.record_batch.specs.Batch.{BatchData}
use Rattle.msg_data.specs.declared.produce.ProduceRequest.{ProduceRequest}
use Rattle.msg_data.specs.declared.produce.ProducedRecords.{ProducedRecords}
use Rattle.walk.specs.Walk.{world_after}
use Rattle.walk.specs.Alike.{AllTopics}
use Rattle.txn_coordinator.specs.declared.producer_id.ProducerIdAndEpoch.{ProducerIdAndEpoch}
use Rattle.txn_coordinator.specs.declared.producer_id.ProducerIdOwner.{ProducerIdOwner}
use Rattle.txn_coordinator.specs.declared.target.Target.{Target}
use Rattle.txn_coordinator.specs.declared.transaction.Transaction.{Transaction}
use Rattle.txn_coordinator.specs.Coordinator.{CoordinatorValue, id_record, owner, given_by}
use Rattle.txn_coordinator.specs.Holding.{holding_code_of}
use Rattle.broker_world.specs.declared.node.Node.{Node}
use Rattle.broker_world.specs.World.{World, TopicValue, LogValue, rules_of, find_topic}
use Rattle.broker_world.specs.First.{non_negative}
use Rattle.broker_world.specs.Logs.{log_at, log_after, logs_with, topics_with_batch_by}
use Rattle.data_handlers.specs.Judged.{partition_at, id_and_epoch_of, held_code, given_code, producer_code, batch_or_error_by, batch_or_error, batch_in, are_acks, batch_to_append, topics_produced}
use Rattle.broker_world.specs.Codes.{code_unless_none}
use Rattle.data_handlers.specs.Sent.{batch_or_fault}
use Rattle.data_handlers.specs.Produce.{produce_questions, producing_rule, produce_outcome}
use Rattle.api_laws.proofs.Recorded.{same_owner}
use Rattle.api_laws.specs.Tenants.{SameBase, SameGranted}
use Rattle.api_laws.proofs.DataGrants.{yes_of, same_log, find_same}
use Rattle.tenant_laws.proofs.Agreeing.{Goes, walk_goes, AgreeAfter, by_topics}
use Rattle.tenant_laws.proofs.Parts.{more_topics}
use Rattle.tenant_laws.proofs.Walked.{other_topic}

-- ---- a batch is judged the same

module _ (c d : CoordinatorValue) (given : map is_some c.given ≡ map is_some d.given) where
  -- they agree on the transactional id, if there is one
  abbrev pub SameRecord : Option (List ℕ) → Type 0
  SameRecord None = Unit {0}
  SameRecord (Some id) = id_record c.transactions id ≡ id_record d.transactions id

  same_held : (id : Option (List ℕ)) (pair : ProducerIdAndEpoch) (target : Target) → SameRecord id → held_code c id pair target ≡ held_code d id pair target
  same_held None pair target agree = refl
  same_held (Some id) pair target agree = ap (λ (o : Option Transaction). code_unless_none (holding_code_of o pair target)) agree

  same_code : (id : Option (List ℕ)) (target : Target) (h : BatchHeader) → SameRecord id → producer_code c id target h ≡ producer_code d id target h
  same_code id target h agree =
      ap (λ (o : Option ErrorCode). cond (is_transactional h) o (cond (int_lt h.producer_id (pos 0)) None (given_code (given_by (owner c h.producer_id))))) (same_held id (id_and_epoch_of h) target agree)
      ∙ ap (λ (g : ProducerIdOwner). cond (is_transactional h) (held_code d id (id_and_epoch_of h) target) (cond (int_lt h.producer_id (pos 0)) None (given_code g))) (same_owner c d h.producer_id given)

  same_passed : (id : Option (List ℕ)) (target : Target) (r : Result BatchData BatchFault) → SameRecord id → batch_or_error c id target r ≡ batch_or_error d id target r
  same_passed id target (Err fault) agree = refl
  same_passed id target (Ok b) agree = ap (λ (o : Option ErrorCode). batch_or_error_by o b) (same_code id target b.header agree)

  same_batch : (most : ℕ) (id : Option (List ℕ)) (target : Target) (records : Option (List ℕ)) → SameRecord id → batch_in most c id target records ≡ batch_in most d id target records
  same_batch most id target None agree = refl
  same_batch most id target (Some records) agree = ap (λ r. cond (eqb (length records) 0) (Err codes.InvalidRecord) r) (same_passed id target (batch_or_fault most records) agree)

  same_judged : (most : ℕ) (id : Option (List ℕ)) (acks : ℤ) (target : Target) (records : Option (List ℕ)) → SameRecord id → batch_to_append most c id acks target records ≡ batch_to_append most d id acks target records
  same_judged most id acks target records agree = ap (λ r. cond (are_acks acks) r (Err codes.InvalidRequiredAcks)) (same_batch most id target records agree)

-- ---- a topic after a batch

own_topic : (us vs : List TopicValue) (name : List ℕ) (index : ℤ) (b : BatchData) → find_topic us name ≡ find_topic vs name → find_topic (topics_produced (Ok b) us name index) name ≡ find_topic (topics_produced (Ok b) vs name index) name
own_topic us vs name index b same = ap (λ (o : Option LogValue). find_topic (topics_with_batch_by us name index b o) name) (same_log us vs name index same) ∙ by_log (log_at vs name index) where
  by_log : (o : Option LogValue) → find_topic (topics_with_batch_by us name index b o) name ≡ find_topic (topics_with_batch_by vs name index b o) name
  by_log None = same
  by_log (Some log) =
      find_same us name index (log_after log b)
      ∙ ap (option_map (λ (t : TopicValue). record { name = t.name; partitions = logs_with t.partitions index (log_after log b) })) same ∙ sym (find_same vs name index (log_after log b))

topic_after : (batch : Result BatchData ErrorCode) (us vs : List TopicValue) (name other : List ℕ) (index : ℤ) → find_topic us other ≡ find_topic vs other → find_topic (topics_produced batch us name index) other ≡ find_topic (topics_produced batch vs name index) other
topic_after (Err code) us vs name other index same = same
topic_after (Ok b) us vs name other index same = by_name (bytes_eq name other) refl where
  by_name : (x : Bool) → bytes_eq name other ≡ x → find_topic (topics_produced (Ok b) us name index) other ≡ find_topic (topics_produced (Ok b) vs name index) other
  by_name true e =
      let is : name ≡ other = (bytes_eq-Decides name other).0 e in
      subst (λ (n : List ℕ). find_topic (topics_produced (Ok b) us n index) other ≡ find_topic (topics_produced (Ok b) vs n index) other) (sym is) (own_topic us vs other index b same)
  by_name false e = other_topic (Ok b) us name other index e ∙ same ∙ sym (other_topic (Ok b) vs name other index e)

-- ---- the request

module _ (v w : World) (caller : Caller) (r : ProduceRequest) (base : SameBase v w) where
  granted_record : (id : Option (List ℕ)) (name : List ℕ) → SameGranted v w (produce_questions caller id name) → part_refusal (rules_of w) (produce_questions caller id name) ≡ None → SameRecord v.coordinator w.coordinator base.given id
  granted_record None name same none = tt
  granted_record (Some id) name same none =
      let first = question_of caller operations.Write kinds.TransactionalId id in
      same.0 (yes_of (verdict w.book w.supers first) first (part_refusal (rules_of w) (question_of caller operations.Write kinds.Topic name ∷ [])) none)

  abbrev AgreeOnTopic : List ℕ → List TopicValue → List TopicValue → Type 0
  AgreeOnTopic other us vs = find_topic us other ≡ find_topic vs other

  partition_goes : (other name : List ℕ) (p : ProducedRecords) → SameGranted v w (produce_questions caller r.transactional_id name) → Goes (producing_rule v caller r) (producing_rule w caller r) (rules_of w) (AgreeOnTopic other) name p
  partition_goes other name p same none us vs agree =
      let target = partition_at name p.index in
      let one : batch_to_append (non_negative v.node.max_batch) v.coordinator r.transactional_id r.acks target p.records ≡ batch_to_append (non_negative w.node.max_batch) v.coordinator r.transactional_id r.acks target p.records = ap (λ (n : Node). batch_to_append (non_negative n.max_batch) v.coordinator r.transactional_id r.acks target p.records) base.node in
      let two = same_judged v.coordinator w.coordinator base.given (non_negative w.node.max_batch) r.transactional_id r.acks target p.records (granted_record r.transactional_id name same none) in
      ap (λ (batch : Result BatchData ErrorCode). find_topic (topics_produced batch us name p.index) other) (one ∙ two)
      ∙ topic_after (batch_to_append (non_negative w.node.max_batch) w.coordinator r.transactional_id r.acks target p.records) us vs name other p.index agree

  topic_goes : (other : List ℕ) → AllTopics (λ name p. SameGranted v w (produce_questions caller r.transactional_id name)) r.topics → find_topic v.topics other ≡ find_topic w.topics other
      → find_topic (produce_outcome v caller r).world.topics other ≡ find_topic (produce_outcome w caller r).world.topics other
  topic_goes other all agree =
      ap (λ (rules : Rules). find_topic (world_after (producing_rule v caller r) rules v.topics r.topics) other) base.rules
      ∙ walk_goes (producing_rule v caller r) (producing_rule w caller r) (rules_of w) (AgreeOnTopic other) (λ name p. refl) r.topics
      (more_topics (λ name p. SameGranted v w (produce_questions caller r.transactional_id name)) (Goes (producing_rule v caller r) (producing_rule w caller r) (rules_of w) (AgreeOnTopic other)) (partition_goes other) r.topics all) v.topics w.topics agree

  pub produce_agrees : AllTopics (λ name p. SameGranted v w (produce_questions caller r.transactional_id name)) r.topics → AgreeAfter v w (produce_outcome v caller r).world (produce_outcome w caller r).world
  produce_agrees all = by_topics v w base (produce_outcome v caller r).world.topics (produce_outcome w caller r).world.topics (λ name agree. topic_goes name all agree)
