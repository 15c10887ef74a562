-- A Produce takes in what is proper and next wherever it stands in a request.
use Rattle.std.proofs.Common.{◌≡◌, ℕ, ℤ, pos, Bool, cond, List, [], ◌∷◌, ◌++◌, length, Option, Some, None, refl, sym, ap, ◌∙◌}
use Rattle.std.specs.Prelude.{slice_get}
use Rattle.acl_binding.specs.declared.words.Kind.TheVariants as kinds
use Rattle.acl_binding.specs.declared.words.Operation.TheVariants.{Write}
use Rattle.acl_binding.specs.declared.question.Caller.{Caller}
use Rattle.acl_binding.specs.declared.question.Verdict.{Verdict}
use Rattle.acl_binding.specs.declared.question.Verdict.TheVariants.{Yes}
use Rattle.acl_binding.specs.Verdict.{question_of}
use Rattle.authorizer.specs.declared.answer.Refusal.{Refusal}
use Rattle.authorizer.specs.Policy.{verdict}
use Rattle.authorizer.specs.Asking.{Rules, refusal_by, first_of, part_refusal}
use Rattle.wire_types.specs.declared.topic.Topic.{Topic}
use Rattle.record_batch.specs.Batch.{BatchData}
use Rattle.msg_data.specs.declared.produce.ProduceRequest.{ProduceRequest}
use Rattle.msg_data.specs.declared.produce.ProducedRecords.{ProducedRecords}
use Rattle.msg_data.specs.declared.produce.ProducedOffset.{ProducedOffset}
use Rattle.msg_admin.specs.declared.reply.Reply.TheVariants as replies
use Rattle.walk.specs.Alike.{AllParts, AllTopics}
use Rattle.walk.specs.Rule.{PartRule}
use Rattle.walk.specs.Walk.{answers}
use Rattle.walk.specs.Steps.{answer_by, world_by, part_world, parts_world, parts_answers, topics_world, topics_answers}
use Rattle.walk.proofs.Weaving.{woven}
use Rattle.broker_world.specs.World.{World, TopicValue, LogValue, rules_of}
use Rattle.broker_world.specs.Logs.{log_at}
use Rattle.data_handlers.specs.Produce.{produce_questions, producing_rule, produce_reply, produce_outcome}
use Rattle.api_laws.specs.DataTenants.{IsAnother}
use Rattle.api_laws.specs.Acceptance.{IsProper, IsNextOf, IsTakenIn, HasPart, IsTold, IsServed, AcceptsWhatItOught}
use Rattle.api_laws.proofs.DataPartitions.{produce_keeps_partitions}
use Rattle.api_laws.proofs.Acceptance.{taken}
use Rattle.api_laws.proofs.Latest.{differ_by}

-- ---- a walk over the parts before a place, and then over the others

module _ {P A W : Type 0} (api : PartRule P A W) (rules : Rules) where
  parts_split : (w : W) (name : List ℕ) (ps qs : List P) → parts_world api rules w name (ps ++ qs) ≡ parts_world api rules (parts_world api rules w name ps) name qs
  parts_split w name [] qs = refl
  parts_split w name (p ∷ ps) qs = parts_split (part_world api rules w name p) name ps qs

  topics_split : (w : W) (ts us : List (Topic P)) → topics_world api rules w (ts ++ us) ≡ topics_world api rules (topics_world api rules w ts) us
  topics_split w [] us = refl
  topics_split w (t ∷ ts) us = topics_split (parts_world api rules w t.name t.partitions) ts us

  answer_at : (w : W) (name : List ℕ) (ps qs : List P) (p : P) → slice_get (parts_answers api rules w name (ps ++ p ∷ qs)) (length ps) ≡ Some (answer_by api (part_refusal rules (api.questions name p)) (parts_world api rules w name ps) name p)
  answer_at w name [] qs p = refl
  answer_at w name (x ∷ ps) qs p = answer_at (part_world api rules w name x) name ps qs p

  topic_at : (w : W) (ts us : List (Topic P)) (t : Topic P) → slice_get (topics_answers api rules w (ts ++ t ∷ us)) (length ts) ≡ Some (record { name = t.name; partitions = parts_answers api rules (topics_world api rules w ts) t.name t.partitions })
  topic_at w [] us t = refl
  topic_at w (x ∷ ts) us t = topic_at (parts_world api rules w x.name x.partitions) ts us t

module _ {P : Type 0} (Is : List ℕ → P → Type 0) where
  parts_apart : (name : List ℕ) (ps qs : List P) → AllParts Is name (ps ++ qs) → AllParts Is name ps × AllParts Is name qs
  parts_apart name [] qs all = (tt, all)
  parts_apart name (p ∷ ps) qs all = let rest = parts_apart name ps qs all.1 in ((all.0, rest.0), rest.1)

  topics_apart : (ts us : List (Topic P)) → AllTopics Is (ts ++ us) → AllTopics Is ts × AllTopics Is us
  topics_apart [] us all = (tt, all)
  topics_apart (t ∷ ts) us all = let rest = topics_apart ts us all.1 in ((all.0, rest.0), rest.1)

  -- each part is so that is so in another way
  parts_weaker : (Are : List ℕ → P → Type 0) → ((name : List ℕ) (p : P) → Is name p → Are name p) → (name : List ℕ) (ps : List P) → AllParts Is name ps → AllParts Are name ps
  parts_weaker Are f name [] all = tt
  parts_weaker Are f name (p ∷ ps) all = (f name p all.0, parts_weaker Are f name ps all.1)

  topics_weaker : (Are : List ℕ → P → Type 0) → ((name : List ℕ) (p : P) → Is name p → Are name p) → (ts : List (Topic P)) → AllTopics Is ts → AllTopics Are ts
  topics_weaker Are f [] all = tt
  topics_weaker Are f (t ∷ ts) all = (parts_weaker Are f t.name t.partitions all.0, topics_weaker Are f ts all.1)

-- ---- a Produce

-- the questions of a part are granted where its topic may be written, and the transactional id, if one is named
questions_granted : (rules : Rules) (caller : Caller) (id : Option (List ℕ)) (name : List ℕ) → verdict rules.book rules.supers (question_of caller Write kinds.Topic name) ≡ Yes
    → ((x : List ℕ) → id ≡ Some x → verdict rules.book rules.supers (question_of caller Write kinds.TransactionalId x) ≡ Yes) → part_refusal rules (produce_questions caller id name) ≡ None
questions_granted rules caller None name topic ids = ap (λ (v : Verdict). first_of (refusal_by v (question_of caller Write kinds.Topic name)) None) topic
questions_granted rules caller (Some x) name topic ids =
    ap (λ (v : Verdict). first_of (refusal_by v (question_of caller Write kinds.TransactionalId x)) (part_refusal rules (question_of caller Write kinds.Topic name ∷ []))) (ids x refl)
    ∙ ap (λ (v : Verdict). first_of (refusal_by v (question_of caller Write kinds.Topic name)) None) topic

silent_reply : (acks : ℤ) (topics : List (Topic ProducedOffset)) → acks ≡ pos 0 → produce_reply acks topics ≡ replies.SilentProduce (record { topics = topics; throttle = pos 0 })
silent_reply acks topics is = ap (λ (z : ℤ). produce_reply z topics) is

told_reply : (acks : ℤ) (topics : List (Topic ProducedOffset)) → (acks ≡ pos 0 → ⊥) → produce_reply acks topics ≡ replies.Produce (record { topics = topics; throttle = pos 0 })
told_reply acks topics other = ap (λ (t : Bool). cond t (replies.SilentProduce (record { topics = topics; throttle = pos 0 })) (replies.Produce (record { topics = topics; throttle = pos 0 }))) (differ_by acks (pos 0) other)

module _ (w : World) (caller : Caller) (r : ProduceRequest) (name : List ℕ) (index : ℤ) where
  abbrev api : PartRule ProducedRecords ProducedOffset (List TopicValue)
  api = producing_rule w caller r

  abbrev Another : List ℕ → ProducedRecords → Type 0
  Another = IsAnother (rules_of w) caller r.transactional_id name index

  -- parts for other partitions leave this one's log
  topics_kept : (topics : List TopicValue) (ts : List (Topic ProducedRecords)) → AllTopics Another ts → log_at (topics_world api (rules_of w) topics ts) name index ≡ log_at topics name index
  topics_kept topics ts others =
      ap (λ (l : List TopicValue). log_at l name index) (woven api (rules_of w) topics ts).world
      ∙ produce_keeps_partitions (record w { topics = topics }) caller (record r { topics = ts }) name index others

  parts_kept : (topics : List TopicValue) (n : List ℕ) (ps : List ProducedRecords) → AllParts Another n ps → log_at (parts_world api (rules_of w) topics n ps) name index ≡ log_at topics name index
  parts_kept topics n ps others = topics_kept topics (record { name = n; partitions = ps } ∷ []) (others, tt)

later_there : (before after : List TopicValue) (name : List ℕ) (index : ℤ) (log : LogValue) (b : BatchData) (answer : ProducedOffset) → log_at after name index ≡ log_at before name index → IsTakenIn before name index log b answer → IsTakenIn after name index log b answer
later_there before after name index log b answer kept is = record {
  same_index = is.same_index;
  error = is.error;
  append_time = is.append_time;
  offset = is.offset;
  placed = is.placed;
  goes_on = kept ∙ is.goes_on;
  stands = is.stands;
  no_marker = is.no_marker;
  records = is.records;
  as_long = is.as_long;
  length_bytes = is.length_bytes;
  rest = is.rest;
}

module _ (w : World) (caller : Caller) (r : ProduceRequest) (name : List ℕ) (p : ProducedRecords) (part : HasPart w caller r name p) where
  abbrev rule : PartRule ProducedRecords ProducedOffset (List TopicValue)
  rule = producing_rule w caller r

  abbrev mine : Topic ProducedRecords
  mine = record { name = name; partitions = part.parts ++ p ∷ part.rest }

  -- what the parts before its topic leave, and those before it
  abbrev at_topic : List TopicValue
  at_topic = topics_world rule (rules_of w) w.topics part.before

  abbrev pub at_part : List TopicValue
  at_part = parts_world rule (rules_of w) at_topic name part.parts

  -- and what it leaves
  abbrev pub served : List TopicValue
  served = rule.after at_part name p

  -- what it is answered
  abbrev pub answer_to : ProducedOffset
  answer_to = rule.plain at_part name p

  abbrev Elsewhere : List ℕ → ProducedRecords → Type 0
  Elsewhere = IsAnother (rules_of w) caller r.transactional_id name p.index

  others : AllTopics Elsewhere (part.before ++ record { name = name; partitions = part.parts ++ part.rest } ∷ part.after)
  others = topics_weaker (λ (n : List ℕ) (q : ProducedRecords). n ≡ name → q.index ≡ p.index → ⊥) Elsewhere (λ n q apart granted. apart) (part.before ++ record { name = name; partitions = part.parts ++ part.rest } ∷ part.after) part.others

  granted : part_refusal (rules_of w) (produce_questions caller r.transactional_id name) ≡ None
  granted = questions_granted (rules_of w) caller r.transactional_id name part.topic_granted part.id_granted

  outer : AllTopics Elsewhere part.before × AllTopics Elsewhere (record { name = name; partitions = part.parts ++ part.rest } ∷ part.after)
  outer = topics_apart Elsewhere part.before (record { name = name; partitions = part.parts ++ part.rest } ∷ part.after) others

  inner : AllParts Elsewhere name part.parts × AllParts Elsewhere name part.rest
  inner = parts_apart Elsewhere name part.parts part.rest outer.1.0

  pub kept_before : log_at at_part name p.index ≡ log_at w.topics name p.index
  kept_before = parts_kept w caller r name p.index at_topic name part.parts inner.0 ∙ topics_kept w caller r name p.index w.topics part.before outer.0

  whole : (produce_outcome w caller r).world.topics ≡ topics_world rule (rules_of w) (parts_world rule (rules_of w) served name part.rest) part.after
  whole =
      sym (woven rule (rules_of w) w.topics r.topics).world
      ∙ ap (λ (ts : List (Topic ProducedRecords)). topics_world rule (rules_of w) w.topics ts) part.asks
      ∙ topics_split rule (rules_of w) w.topics part.before (mine ∷ part.after)
      ∙ ap (λ (l : List TopicValue). topics_world rule (rules_of w) l part.after) (parts_split rule (rules_of w) at_topic name part.parts (p ∷ part.rest)
      ∙ ap (λ (o : Option Refusal). parts_world rule (rules_of w) (world_by rule o at_part name p) name part.rest) granted)

  pub kept_after : log_at (produce_outcome w caller r).world.topics name p.index ≡ log_at served name p.index
  kept_after =
      ap (λ (l : List TopicValue). log_at l name p.index) whole
      ∙ topics_kept w caller r name p.index (parts_world rule (rules_of w) served name part.rest) part.after outer.1.1
      ∙ parts_kept w caller r name p.index served name part.rest inner.1

  abbrev answered : List (Topic ProducedOffset)
  answered = answers rule (rules_of w) w.topics r.topics

  abbrev own_answers : Topic ProducedOffset
  own_answers = record { name = name; partitions = parts_answers rule (rules_of w) at_topic name (part.parts ++ p ∷ part.rest) }

  own_there : slice_get answered (length part.before) ≡ Some own_answers
  own_there =
      ap (λ (l : List (Topic ProducedOffset)). slice_get l (length part.before)) (sym (woven rule (rules_of w) w.topics r.topics).answers ∙ ap (λ (ts : List (Topic ProducedRecords)). topics_answers rule (rules_of w) w.topics ts) part.asks)
      ∙ topic_at rule (rules_of w) w.topics part.before part.after mine

  answer_there : slice_get own_answers.partitions (length part.parts) ≡ Some answer_to
  answer_there = answer_at rule (rules_of w) at_topic name part.parts part.rest p ∙ ap (λ (o : Option Refusal). Some (answer_by rule o at_part name p)) granted

  pub is_told : IsTold produce_outcome w caller r (length part.before) (length part.parts) name answer_to
  is_told = record {
    topics = answered;
    silent = λ is. silent_reply r.acks answered is;
    told = λ other. told_reply r.acks answered other;
    topic = own_answers;
    topic_there = own_there;
    named = refl;
    answer_there = answer_there;
  }

  is_served : (log : LogValue) (b : BatchData) → IsProper w.node.max_batch w.coordinator r.transactional_id r.acks name p b → log_at w.topics name p.index ≡ Some log → IsNextOf log b → IsServed produce_outcome w caller r (length part.before) (length part.parts) name p log b
  is_served log b proper there next = record {
    answer = answer_to;
    told = is_told;
    taken = later_there served (produce_outcome w caller r).world.topics name p.index log b answer_to kept_after
        (taken w.node.max_batch w.coordinator r.transactional_id r.acks at_part name p log b proper (kept_before ∙ there) next);
  }

pub accepts_what_it_ought : AcceptsWhatItOught produce_outcome
accepts_what_it_ought = record {
  part = λ most c id acks topics name p log b proper there next. taken (pos most) c id acks topics name p log b proper there next;
  request = λ w caller r name p log b part proper there next. is_served w caller r name p part log b proper there next;
}
