-- What was acknowledged stays.
use Rattle.std.proofs.Common.{◌≡◌, inl, inr, ℕ, zero, suc, ℤ, pos, Bool, true, false, not, cond, List, [], ◌∷◌, ◌++◌, append_assoc, Option, Some, None, Result, Ok, Err, refl, sym, ap, subst, ◌∙◌}
use Rattle.std.specs.Prelude.{int_lt, drop, slice_range}
use Rattle.std.specs.Ordering.{int_eq}
use Rattle.std.proofs.lemmas.Bool.{and_parts}
use Rattle.acl_binding.specs.declared.question.Caller.{Caller}
use Rattle.acl_binding.specs.declared.words.Kind.{Kind}
use Rattle.acl_binding.specs.declared.words.Kind.TheVariants as kinds
use Rattle.authorizer.specs.declared.answer.Refusal.{Refusal}
use Rattle.authorizer.specs.Asking.{Rules}
use Rattle.wire_types.specs.declared.error_code.ErrorCode.{ErrorCode}
use Rattle.wire_types.specs.declared.error_code.ErrorCode.TheVariants as codes
use Rattle.wire_types.specs.declared.topic.Topic.{Topic}
use Rattle.wire_types.specs.ErrorCode.{number_of}
use Rattle.record_batch.specs.Batch.{BatchData, IsBatch}
use Rattle.record_batch.proofs.Lawful.{offset_alone_changes}
use Rattle.record_batch.proofs.Moved.{eight_bytes}
use Rattle.wire_types.specs.Schema.{int32, int64}
use Rattle.std.proofs.lemmas.List.{take_at}
use Rattle.producer_state.specs.declared.judgment.Judgment.{Judgment}
use Rattle.producer_state.specs.declared.judgment.Judgment.TheVariants.{Next, Repeat, Refused}
use Rattle.producer_state.specs.Sequences.{last_sequence, last_of, is_of_producer, is_written_by, Sequence, sequence, repeat, first_judgment, judgment_by_repeat, judgment_in, judgment_of as judged_by_log}
use Rattle.producer_state.proofs.Numbers.{lt_is_not, same_is}
use Rattle.partition_log.specs.Log.{end_of, at_end}
use Rattle.msg_data.specs.declared.produce.ProduceRequest.{ProduceRequest}
use Rattle.msg_data.specs.declared.produce.ProducedRecords.{ProducedRecords}
use Rattle.msg_data.specs.declared.produce.ProducedOffset.{ProducedOffset}
use Rattle.msg_admin.specs.declared.request.Request.TheVariants.{Produce}
use Rattle.msg_admin.specs.declared.reply.Reply.TheVariants as replies
use Rattle.audit_trail.specs.declared.event.Event.{Event}
use Rattle.audit_trail.specs.declared.event.Event.TheVariants.{Ask}
use Rattle.walk.specs.Codes.{permission_code}
use Rattle.walk.specs.Rule.{PartRule, refusal_of}
use Rattle.walk.specs.Walk.{answers}
use Rattle.walk.specs.Steps.{answer_by, world_by, part_world, parts_world, parts_answers, topics_world, topics_answers}
use Rattle.walk.specs.Headline.{element_at}
use Rattle.walk.proofs.Weaving.{woven}
use Rattle.broker_world.specs.World.{World, TopicValue, LogValue, rules_of}
use Rattle.broker_world.specs.First.{non_negative}
use Rattle.broker_world.specs.Logs.{log_at, offset_by}
use Rattle.data_handlers.specs.BudgetLaws.{judged_batch}
use Rattle.data_handlers.specs.Judged.{partition_at, batch_to_append}
use Rattle.data_handlers.specs.Produce.{produced_to, produce_answer_by, producing_rule, produce_reply}
use Rattle.api_dispatch.specs.Step.{outcome, step, world_after_events}
use Rattle.read_laws.specs.Fetches.{at_place}
use Rattle.api_laws.proofs.DataAnswers.{judged_called, produces_as_answered}
use Rattle.api_laws.proofs.Lists.{kept_at}
use Rattle.api_laws.proofs.Latest.{own_is, found_late}
use Rattle.broker_laws.proofs.LogsGrow.{Grow, step_grows, reached_grows}
use Rattle.durability_laws.specs.Steps.{world_later}
use Rattle.durability_laws.specs.Acknowledged.{StandsAt, HasDuplicateSent, IsStored, topics_acknowledged, KeepsWhatIsAcknowledged, KeepsWhatStands}

-- ---- later worlds

-- the broker's step leads where its events do
pub later_is : (w : World) (es : List Event) → world_later outcome w es ≡ world_after_events w es
later_is w [] = refl
later_is w (e ∷ es) = later_is (step w e) es

-- ---- what stands in a log that grew

pub stands_longer : (w v : World) (name : List ℕ) (index offset : ℤ) (b : BatchData) → Grow w.topics v.topics → StandsAt w name index offset b → StandsAt v name index offset b
stands_longer w v name index offset b grow is =
    let longer = grow (record { topic = name; index = index }) (is.before ++ b ∷ is.after) is.log in
    record { before = is.before; after = is.after ++ longer.more; log = longer.log ∙ ap (λ (l : LogValue). Some l) (append_assoc is.before (b ∷ is.after) longer.more); at = is.at }

pub keeps_what_stands : KeepsWhatStands outcome
keeps_what_stands w name index offset b later is = subst (λ (v : World). StandsAt v name index offset b) (sym (later_is w later)) (stands_longer w (world_after_events w later) name index offset b (reached_grows w later) is)

stored_longer : (w v : World) (name : List ℕ) (index offset : ℤ) (records : Option (List ℕ)) → Grow w.topics v.topics → IsStored w name index offset records → IsStored v name index offset records
stored_longer w v name index offset records grow is = record { batch = is.batch; stands = stands_longer w v name index offset is.batch grow is.stands; sent = is.sent; is_sent = is.is_sent; stored = is.stored }

-- ---- how a batch is judged

-- what repeats is one of the last five, and no refusal is called no error
abbrev IsRight : LogValue → BatchData → Judgment → Type 0
IsRight log b Next = Unit {0}
IsRight log b (Repeat offset) = (old : BatchData) × (repeat log b ≡ Some old) × (old.header.base_offset ≡ offset) × (is_of_producer b ≡ true)
IsRight log b (Refused code) = code ≡ codes.None → ⊥

judged_right : (log : LogValue) (b : BatchData) → IsRight log b (judged_by_log log b)
judged_right log b = by_producer (is_of_producer b) refl where
  out_of_order : codes.OutOfOrderSequenceNumber ≡ codes.None → ⊥
  out_of_order h = cc

  fenced : codes.InvalidProducerEpoch ≡ codes.None → ⊥
  fenced h = cc

  by_test : (t : Bool) → IsRight log b (cond t Next (Refused codes.OutOfOrderSequenceNumber))
  by_test true = tt
  by_test false = out_of_order

  by_repeat : (expected : ℤ) (o : Option BatchData) → is_of_producer b ≡ true → repeat log b ≡ o → IsRight log b (judgment_by_repeat expected b o)
  by_repeat expected None own e = by_test (int_eq b.header.base_sequence expected)
  by_repeat expected (Some old) own e = (old, e, refl, own)

  by_newer : (s : Sequence) (t : Bool) → is_of_producer b ≡ true → IsRight log b (cond t (first_judgment b) (judgment_by_repeat s.expected b (repeat log b)))
  by_newer s true own = by_test (int_eq b.header.base_sequence (pos 0))
  by_newer s false own = by_repeat s.expected (repeat log b) own refl

  by_older : (s : Sequence) (t : Bool) → is_of_producer b ≡ true → IsRight log b (cond t (Refused codes.InvalidProducerEpoch) (cond (int_lt s.epoch b.header.producer_epoch) (first_judgment b) (judgment_by_repeat s.expected b (repeat log b))))
  by_older s true own = fenced
  by_older s false own = by_newer s (int_lt s.epoch b.header.producer_epoch) own

  by_sequence : (s : Option Sequence) → is_of_producer b ≡ true → IsRight log b (judgment_in s b (repeat log b))
  by_sequence None own = by_test (int_eq b.header.base_sequence (pos 0))
  by_sequence (Some s) own = by_older s (int_lt b.header.producer_epoch s.epoch) own

  by_producer : (t : Bool) → is_of_producer b ≡ t → IsRight log b (cond t (judgment_in (sequence log b.header.producer_id) b (repeat log b)) Next)
  by_producer true own = by_sequence (sequence log b.header.producer_id) own
  by_producer false own = tt

not_low : (z : ℤ) (t : Bool) → int_lt z (pos 0) ≡ t → not t ≡ true → int_lt z (pos 0) ≡ false
not_low z true e h = absurd (let clash : false ≡ true = h in cc)
not_low z false e h = e

-- the batch of the log whose duplicate was sent
record IsDuplicated (log : LogValue) (b old : BatchData) : Type 0 where
  before : LogValue
  after : LogValue
  parts : log ≡ before ++ old ∷ after
  producer : old.header.producer_id ≡ b.header.producer_id
  epoch : old.header.producer_epoch ≡ b.header.producer_epoch
  first : old.header.base_sequence ≡ b.header.base_sequence
  last : last_of old ≡ last_of b

duplicated : (log : LogValue) (b old : BatchData) → repeat log b ≡ Some old → IsDuplicated log b old
duplicated log b old found =
    let late = found_late log b old found in
    let k = kept_at (is_written_by b.header.producer_id b.header.producer_epoch) log late.earlier late.later old late.own in
    let own = own_is b.header.producer_id b.header.producer_epoch old k.4 in
    let numbers = and_parts (int_eq old.header.base_sequence b.header.base_sequence) (int_eq (last_of old) (last_of b)) late.same in
    record { before = k.0; after = k.1; parts = k.2; producer = own.producer; epoch = own.same_epoch; first = same_is old.header.base_sequence b.header.base_sequence numbers.0; last = same_is (last_of old) (last_of b) numbers.1 }

duplicate_sent : (log : LogValue) (b old : BatchData) → IsBatch b → is_of_producer b ≡ true → IsDuplicated log b old → HasDuplicateSent b.bytes old
unfolding last_sequence
duplicate_sent log b old is own d = record {
  duplicate = b;
  is_batch = is;
  bytes = refl;
  of_producer = lt_is_not b.header.producer_id (pos 0) (not_low b.header.producer_id (int_lt b.header.producer_id (pos 0)) refl own);
  producer = d.producer;
  epoch = d.epoch;
  first = d.first;
  last = d.last;
}

-- ---- a part of a Produce

zero_alone : (code : ErrorCode) → number_of code ≡ pos 0 → code ≡ codes.None
unfolding number_of
zero_alone codes.None h = refl
zero_alone code h = absurd cc

refused_told : (k : Kind) → number_of (permission_code k) ≡ pos 0 → ⊥
unfolding number_of
refused_told kinds.Topic h = cc
refused_told kinds.Group h = cc
refused_told kinds.Cluster h = cc
refused_told kinds.TransactionalId h = cc

-- ---- a Produce

module _ (w : World) (caller : Caller) (r : ProduceRequest) where
  abbrev api : PartRule ProducedRecords ProducedOffset (List TopicValue)
  api = producing_rule w caller r

  abbrev rules : Rules
  rules = rules_of w

  abbrev with_topics : List TopicValue → World
  with_topics topics = record w { topics = topics }

  -- what stands after a part stands after the whole request
  walk_grows : (topics : List TopicValue) (ts : List (Topic ProducedRecords)) → Grow topics (topics_world api rules topics ts)
  walk_grows topics ts = subst (Grow topics) (sym (woven api rules topics ts).world) (step_grows (with_topics topics) (Ask caller None (Produce (record r { topics = ts }))))

  joined : (us vs ws : List TopicValue) → Grow us vs → Grow vs ws → Grow us ws
  joined us vs ws first second p log there =
      let a = first p log there in
      let b = second p (log ++ a.more) a.log in
      record { more = a.more ++ b.more; log = b.log ∙ ap (λ (l : LogValue). Some l) (append_assoc log a.more b.more) }

  -- the part has its turn in such topics, and the request goes on from there
  record HasTurn (final : List TopicValue) (name : List ℕ) (p : ProducedRecords) (told : Option ProducedOffset) : Type 0 where
    topics : List TopicValue
    answer : told ≡ Some (answer_by api (refusal_of api rules name p) topics name p)
    grows : Grow (part_world api rules topics name p) final

  part_turn : (topics : List TopicValue) (name : List ℕ) (ps : List ProducedRecords) (j : ℕ) (p : ProducedRecords) → element_at ps j ≡ Some p → HasTurn (parts_world api rules topics name ps) name p (element_at (parts_answers api rules topics name ps) j)
  part_turn topics name [] j p h = absurd (let clash : None ≡ Some p = h in cc)
  part_turn topics name (x ∷ xs) zero p h =
      subst (λ (y : ProducedRecords). HasTurn (parts_world api rules topics name (x ∷ xs)) name y (element_at (parts_answers api rules topics name (x ∷ xs)) 0)) (let same : x ≡ p = cc in same)
      (record { topics = topics; answer = refl; grows = walk_grows (part_world api rules topics name x) (record { name = name; partitions = xs } ∷ []) })
  part_turn topics name (x ∷ xs) (suc j) p h = part_turn (part_world api rules topics name x) name xs j p h

  topic_turn : (topics : List TopicValue) (ts : List (Topic ProducedRecords)) (i j : ℕ) (t : Topic ProducedRecords) (p : ProducedRecords) → element_at ts i ≡ Some t → element_at t.partitions j ≡ Some p
      → HasTurn (topics_world api rules topics ts) t.name p (at_place (topics_answers api rules topics ts) i j)
  topic_turn topics [] i j t p h k = absurd (let clash : None ≡ Some t = h in cc)
  topic_turn topics (x ∷ xs) zero j t p h k =
      let same : x ≡ t = cc in
      let turn = part_turn topics x.name x.partitions j p (ap (λ (y : Topic ProducedRecords). element_at y.partitions j) same ∙ k) in
      subst (λ (name : List ℕ). HasTurn (topics_world api rules topics (x ∷ xs)) name p (at_place (topics_answers api rules topics (x ∷ xs)) 0 j)) (ap (λ (y : Topic ProducedRecords). y.name) same)
      (record {
        topics = turn.topics;
        answer = turn.answer;
        grows = joined (part_world api rules turn.topics x.name p) (parts_world api rules topics x.name x.partitions) (topics_world api rules topics (x ∷ xs)) turn.grows (walk_grows (parts_world api rules topics x.name x.partitions) xs);
      })
  topic_turn topics (x ∷ xs) (suc i) j t p h k = topic_turn (parts_world api rules topics x.name x.partitions) xs i j t p h k

  -- ---- a part that is told no error

  abbrev Stored : List TopicValue → List ℕ → ProducedRecords → ProducedOffset → Type 0
  Stored topics name p answer = IsStored (with_topics topics) name p.index answer.base_offset p.records

  abbrev judged : List ℕ → ProducedRecords → Result BatchData ErrorCode
  judged name p = batch_to_append (non_negative w.node.max_batch) w.coordinator r.transactional_id r.acks (partition_at name p.index) p.records

  next_stored : (topics : List TopicValue) (name : List ℕ) (p : ProducedRecords) (log : LogValue) (b : BatchData) → log_at topics name p.index ≡ Some log → judged name p ≡ Ok b → judged_by_log log b ≡ Next
      → Stored (api.after topics name p) name p (api.plain topics name p)
  next_stored topics name p log b there is next =
      let a = (produces_as_answered.next (non_negative w.node.max_batch) w.coordinator r.transactional_id r.acks topics name p log b there is next).1 in
      let bytes = offset_alone_changes a.batch a.is_batch (end_of a.log) in
      record {
        batch = at_end a.log a.batch;
        stands = record { before = a.log; after = []; log = a.goes_on; at = sym a.offset };
        sent = a.batch.bytes;
        is_sent = a.sent;
        stored = inl (record { base_offset = take_at (int64.written (end_of a.log)) (slice_range a.batch.bytes 8 12 ++ (int32.written (pos 0) ++ drop 16 a.batch.bytes)) 8 (eight_bytes (end_of a.log)); as_long = bytes.0; length_bytes = bytes.1; rest = bytes.2 });
      }

  repeat_stored : (topics : List TopicValue) (name : List ℕ) (p : ProducedRecords) (log : LogValue) (b old : BatchData) (offset : ℤ) → log_at topics name p.index ≡ Some log → judged name p ≡ Ok b → judged_by_log log b ≡ Repeat offset
      → repeat log b ≡ Some old → old.header.base_offset ≡ offset → is_of_producer b ≡ true → Stored (api.after topics name p) name p (api.plain topics name p)
  repeat_stored topics name p log b old offset there is again found at own =
      let a = produces_as_answered.repeat (non_negative w.node.max_batch) w.coordinator r.transactional_id r.acks topics name p log b offset there is again in
      let good = judged_batch (non_negative w.node.max_batch) w.coordinator r.transactional_id r.acks (partition_at name p.index) p.records b is in
      let d = duplicated log b old found in
      subst (λ (l : List TopicValue). Stored l name p (api.plain topics name p)) (sym a.same)
      (record {
        batch = old;
        stands = record { before = d.before; after = d.after; log = there ∙ ap (λ (l : LogValue). Some l) d.parts; at = at ∙ sym a.at };
        sent = b.bytes;
        is_sent = good.sent;
        stored = inr (duplicate_sent log b old good.batch own d);
      })

  by_judgment : (topics : List TopicValue) (name : List ℕ) (p : ProducedRecords) (log : LogValue) (b : BatchData) (j : Judgment) → log_at topics name p.index ≡ Some log → judged name p ≡ Ok b → judged_by_log log b ≡ j → IsRight log b j
      → (produce_answer_by (Ok b) p (Some log)).error ≡ codes.None → Stored (api.after topics name p) name p (api.plain topics name p)
  by_judgment topics name p log b Next there is e right none = next_stored topics name p log b there is e
  by_judgment topics name p log b (Repeat offset) there is e right none = repeat_stored topics name p log b right.0 offset there is e right.1 right.2 right.3
  by_judgment topics name p log b (Refused code) there is e right none = absurd (right (sym (ap (λ (j : Judgment). (produced_to p (offset_by j log)).error) e) ∙ none))

  by_result : (topics : List TopicValue) (name : List ℕ) (p : ProducedRecords) (x : Result BatchData ErrorCode) (o : Option LogValue) → judged name p ≡ x → log_at topics name p.index ≡ o → (produce_answer_by x p o).error ≡ codes.None
      → Stored (api.after topics name p) name p (api.plain topics name p)
  by_result topics name p (Err code) None is there none = absurd (let clash : codes.UnknownTopicOrPartition ≡ codes.None = none in cc)
  by_result topics name p (Err code) (Some log) is there none = absurd (judged_called (non_negative w.node.max_batch) w.coordinator r.transactional_id r.acks (partition_at name p.index) p.records (is ∙ ap Err none))
  by_result topics name p (Ok b) None is there none = absurd (let clash : codes.UnknownTopicOrPartition ≡ codes.None = none in cc)
  by_result topics name p (Ok b) (Some log) is there none = by_judgment topics name p log b (judged_by_log log b) there is refl (judged_right log b) none

  by_refusal : (topics : List TopicValue) (name : List ℕ) (p : ProducedRecords) (o : Option Refusal) → number_of (answer_by api o topics name p).error ≡ pos 0 → Stored (world_by api o topics name p) name p (answer_by api o topics name p)
  by_refusal topics name p (Some refusal) code = absurd (refused_told refusal.question.kind code)
  by_refusal topics name p None code = by_result topics name p (judged name p) (log_at topics name p.index) refl refl (zero_alone (api.plain topics name p).error code)

  -- ---- the reply

  same_answer : (x y : ProducedOffset) → Some x ≡ Some y → x ≡ y
  same_answer x y h = cc

  told_topics : (i j : ℕ) (answer : ProducedOffset) (topics : List (Topic ProducedOffset)) (t : Bool) → at_place (topics_acknowledged (cond t (replies.SilentProduce (record { topics = topics; throttle = pos 0 })) (replies.Produce (record { topics = topics; throttle = pos 0 })))) i j ≡ Some answer → at_place topics i j ≡ Some answer
  told_topics i j answer topics true h = absurd (let clash : None ≡ Some answer = h in cc)
  told_topics i j answer topics false h = h

  acknowledged : (i j : ℕ) (t : Topic ProducedRecords) (p : ProducedRecords) (answer : ProducedOffset) → element_at r.topics i ≡ Some t → element_at t.partitions j ≡ Some p
      → at_place (topics_acknowledged (produce_reply r.acks (answers api rules w.topics r.topics))) i j ≡ Some answer → number_of answer.error ≡ pos 0
      → IsStored (with_topics (topics_world api rules w.topics r.topics)) t.name p.index answer.base_offset p.records
  acknowledged i j t p answer h k told code =
      let turn = topic_turn w.topics r.topics i j t p h k in
      let here = told_topics i j answer (answers api rules w.topics r.topics) (int_eq r.acks (pos 0)) told in
      let same : answer_by api (refusal_of api rules t.name p) turn.topics t.name p ≡ answer = same_answer (answer_by api (refusal_of api rules t.name p) turn.topics t.name p) answer
      (sym turn.answer ∙ ap (λ (l : List (Topic ProducedOffset)). at_place l i j) (woven api rules w.topics r.topics).answers ∙ here) in
      stored_longer (with_topics (part_world api rules turn.topics t.name p)) (with_topics (topics_world api rules w.topics r.topics)) t.name p.index answer.base_offset p.records turn.grows
      (subst (λ (a : ProducedOffset). Stored (part_world api rules turn.topics t.name p) t.name p a) same
      (by_refusal turn.topics t.name p (refusal_of api rules t.name p) (ap (λ (a : ProducedOffset). number_of a.error) same ∙ code)))

pub keeps_what_is_acknowledged : KeepsWhatIsAcknowledged outcome
keeps_what_is_acknowledged w caller client r i j t p answer later h k told code =
    let e = Ask caller client (Produce r) in
    let stored = acknowledged w caller r i j t p answer h k told code in
    let now : IsStored (step w e) t.name p.index answer.base_offset p.records =
    stored_longer (record w { topics = topics_world (producing_rule w caller r) (rules_of w) w.topics r.topics }) (step w e) t.name p.index answer.base_offset p.records
    (subst (Grow (topics_world (producing_rule w caller r) (rules_of w) w.topics r.topics)) (woven (producing_rule w caller r) (rules_of w) w.topics r.topics).world (reached_grows (record w { topics = topics_world (producing_rule w caller r) (rules_of w) w.topics r.topics }) [])) stored
    in
    subst (λ (v : World). IsStored v t.name p.index answer.base_offset p.records) (sym (later_is (step w e) later))
    (stored_longer (step w e) (world_after_events (step w e) later) t.name p.index answer.base_offset p.records (reached_grows (step w e) later) now)
