-- Each topic's answer stands at its place.
use Rattle.std.proofs.Common.{◌≡◌, ℕ, List, [], ◌∷◌, ◌++◌, length, map, Option, Some, None, cond, refl, ap, ◌∙◌}
use Rattle.std.specs.Prelude.{is_none, slice_get}
use Rattle.std.specs.List.{filter_map, cons_option, flat_map}
use Rattle.std.specs.Option.{option_map}
use Rattle.std.proofs.lemmas.List.{length-map}
use Rattle.std.proofs.lemmas.Option.{slice_get-map}
use Rattle.acl_binding.specs.declared.question.Caller.{Caller}
use Rattle.acl_binding.specs.declared.question.Question.{Question}
use Rattle.acl_binding.specs.declared.question.Verdict.{Verdict}
use Rattle.acl_binding.specs.declared.question.Verdict.TheVariants.{Yes, Denied, Nothing}
use Rattle.acl_binding.specs.declared.words.Kind.TheVariants as kinds
use Rattle.acl_binding.specs.declared.words.Operation.TheVariants as operations
use Rattle.acl_binding.specs.Verdict.{question_of}
use Rattle.authorizer.specs.declared.answer.Refusal.{Refusal}
use Rattle.authorizer.specs.Policy.{verdict}
use Rattle.authorizer.specs.Asking.{Rules, refusal_by, first_of}
use Rattle.broker_world.specs.World.{World, rules_of, topic_names}
use Rattle.walk.specs.Codes.{refusal_code}
use Rattle.walk.specs.Weave.{weave}
use Rattle.msg_data.specs.declared.metadata.TopicInfo.{TopicInfo}
use Rattle.data_handlers.specs.Metadata.{topic_error, plain_topic, plain_topics, describable, refused_topics, topic_refusals, metadata_topics, answer_by, topic_answer}
use Rattle.broker_world.specs.Questions.{topic_refusal}
use Rattle.api_laws.specs.Headline.{AnsweredBy, AnswersEachTopic, refusals_of_one, RefusesEachTopic, is_yes, may_describe, NullTellsDescribable}

-- the woven answers are the answers one by one
pub one_by_one : (w : World) (caller : Caller) (names : List (List ℕ)) → metadata_topics w caller (Some names) ≡ map (topic_answer w caller) names
one_by_one w caller [] = refl
one_by_one w caller (name ∷ names) = by_refusal (one_by_one w caller names) (topic_refusal (rules_of w) caller name) where
  by_refusal : metadata_topics w caller (Some names) ≡ map (topic_answer w caller) names → (r : Option Refusal)
      → weave (option_map (λ x. topic_error (refusal_code x) name) r ∷ refused_topics (rules_of w) caller (Some names)) (plain_topics w (cond (is_none r) (name ∷ describable (rules_of w) caller names) (describable (rules_of w) caller names))) ≡ answer_by r name (plain_topic w name) ∷ map (topic_answer w caller) names
  by_refusal rest (Some x) = ap (λ l. topic_error (refusal_code x) name ∷ l) rest
  by_refusal rest None = ap (λ l. plain_topic w name ∷ l) rest

at_place : (w : World) (caller : Caller) (names : List (List ℕ)) (i : ℕ) (name : List ℕ) → slice_get names i ≡ Some name
    → AnsweredBy (topic_refusal (rules_of w) caller name) (plain_topic w name) name (slice_get (metadata_topics w caller (Some names)) i)
at_place w caller names i name here = by_verdict (verdict w.book w.supers (question_of caller operations.Describe kinds.Topic name)) placed where
  placed : slice_get (metadata_topics w caller (Some names)) i ≡ Some (topic_answer w caller name)
  placed = ap (λ l. slice_get l i) (one_by_one w caller names) ∙ slice_get-map (topic_answer w caller) names i ∙ ap (option_map (topic_answer w caller)) here

  by_verdict : (x : Verdict) → slice_get (metadata_topics w caller (Some names)) i ≡ Some (answer_by (first_of (refusal_by x (question_of caller operations.Describe kinds.Topic name)) None) name (plain_topic w name))
      → AnsweredBy (first_of (refusal_by x (question_of caller operations.Describe kinds.Topic name)) None) (plain_topic w name) name (slice_get (metadata_topics w caller (Some names)) i)
  by_verdict Yes h = h
  by_verdict (Denied n) h = h
  by_verdict Nothing h = h

pub answers_each_topic : AnswersEachTopic metadata_topics
answers_each_topic = record {
  places = at_place;
  number = λ w caller names. ap length (one_by_one w caller names) ∙ length-map names (topic_answer w caller);
}

by_the_verdict : (x : Verdict) (q : Question) → first_of (refusal_by x q) None ≡ refusal_by x q
by_the_verdict Yes q = refl
by_the_verdict (Denied n) q = refl
by_the_verdict Nothing q = refl

in_order : (rules : Rules) (caller : Caller) (names more : List (List ℕ)) → filter_map (topic_refusal rules caller) (names ++ more) ≡ filter_map (topic_refusal rules caller) names ++ filter_map (topic_refusal rules caller) more
in_order rules caller [] more = refl
in_order rules caller (name ∷ names) more = by_refusal (topic_refusal rules caller name) (in_order rules caller names more) where
  by_refusal : (r : Option Refusal) → filter_map (topic_refusal rules caller) (names ++ more) ≡ filter_map (topic_refusal rules caller) names ++ filter_map (topic_refusal rules caller) more
      → cons_option r (filter_map (topic_refusal rules caller) (names ++ more)) ≡ cons_option r (filter_map (topic_refusal rules caller) names) ++ filter_map (topic_refusal rules caller) more
  by_refusal None rest = rest
  by_refusal (Some x) rest = ap (λ l. x ∷ l) rest

alone_kept : (r : Option Refusal) → cons_option r [] ≡ refusals_of_one r
alone_kept None = refl
alone_kept (Some r) = refl

pub refuses_each_topic : RefusesEachTopic topic_refusals
refuses_each_topic = record {
  verdict = λ rules caller name. by_the_verdict (verdict rules.book rules.supers (question_of caller operations.Describe kinds.Topic name)) (question_of caller operations.Describe kinds.Topic name);
  one = λ rules caller name. alone_kept (topic_refusal rules caller name);
  order = in_order;
  listed = λ rules caller. refl;
}

-- ---- a null list

abbrev alone : World → Caller → List ℕ → List TopicInfo
alone w caller name = cond (may_describe w caller name) (metadata_topics w caller (Some (name ∷ []))) []

described : (w : World) (caller : Caller) (names : List (List ℕ)) → plain_topics w (describable (rules_of w) caller names) ≡ flat_map (alone w caller) names
described w caller [] = refl
described w caller (name ∷ names) = by_verdict (verdict w.book w.supers q) (described w caller names) where
  q : Question
  q = question_of caller operations.Describe kinds.Topic name

  by_verdict : (x : Verdict) → plain_topics w (describable (rules_of w) caller names) ≡ flat_map (alone w caller) names
      → plain_topics w (cond (is_none (first_of (refusal_by x q) None)) (name ∷ describable (rules_of w) caller names) (describable (rules_of w) caller names))
      ≡ cond (is_yes x) (weave (option_map (λ r. topic_error (refusal_code r) name) (first_of (refusal_by x q) None) ∷ []) (plain_topics w (cond (is_none (first_of (refusal_by x q) None)) (name ∷ []) []))) [] ++ flat_map (alone w caller) names
  by_verdict Yes rest = ap (λ l. plain_topic w name ∷ l) rest
  by_verdict (Denied n) rest = rest
  by_verdict Nothing rest = rest

pub null_tells_describable : NullTellsDescribable metadata_topics
null_tells_describable w caller = described w caller (topic_names w.topics)
