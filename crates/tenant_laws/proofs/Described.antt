-- Worlds that agree on the topics that may be described agree on their names, and on each of them.
use Rattle.std.proofs.Common.{◌≡◌, ℕ, Bool, true, false, cond, List, [], ◌∷◌, Option, Some, None, refl, sym, ap, ◌∙◌}
use Rattle.std.specs.Prelude.{is_none}
use Rattle.std.specs.Str.{bytes_eq}
use Rattle.std.proofs.lemmas.Slice.Eq.{bytes_eq-Decides}
use Rattle.acl_binding.specs.declared.question.Caller.{Caller}
use Rattle.authorizer.specs.declared.answer.Refusal.{Refusal}
use Rattle.authorizer.specs.Asking.{Rules}
use Rattle.broker_world.specs.World.{World, TopicValue, rules_of, find_topic, topic_names}
use Rattle.broker_world.specs.Questions.{topic_refusal}
use Rattle.data_handlers.specs.Metadata.{describable}
use Rattle.api_laws.specs.Tenants.{SameTopics, SameListed}
use Rattle.api_laws.specs.GroupLaws.{described_slots}

slot_names : (rules : Rules) (caller : Caller) (topics : List TopicValue) → describable rules caller (topic_names topics) ≡ topic_names (described_slots rules caller topics)
slot_names rules caller [] = refl
slot_names rules caller (t ∷ ts) = by_test (is_none (topic_refusal rules caller t.name)) (slot_names rules caller ts) where
  by_test : (b : Bool) → describable rules caller (topic_names ts) ≡ topic_names (described_slots rules caller ts)
      → cond b (t.name ∷ describable rules caller (topic_names ts)) (describable rules caller (topic_names ts)) ≡ topic_names (cond b (t ∷ described_slots rules caller ts) (described_slots rules caller ts))
  by_test true rest = ap (λ (names : List (List ℕ)). t.name ∷ names) rest
  by_test false rest = rest

-- a topic that may be described is found among those
found_among : (rules : Rules) (caller : Caller) (topics : List TopicValue) (name : List ℕ) → topic_refusal rules caller name ≡ None → find_topic topics name ≡ find_topic (described_slots rules caller topics) name
found_among rules caller [] name none = refl
found_among rules caller (t ∷ ts) name none = by_name (bytes_eq t.name name) refl (found_among rules caller ts name none) where
  slots : List TopicValue
  slots = described_slots rules caller ts

  by_test : (b : Bool) → bytes_eq t.name name ≡ false → find_topic slots name ≡ find_topic (cond b (t ∷ slots) slots) name
  by_test true differ = sym (ap (λ (x : Bool). cond x (Some t) (find_topic slots name)) differ)
  by_test false differ = refl

  by_name : (b : Bool) → bytes_eq t.name name ≡ b → find_topic ts name ≡ find_topic slots name → cond b (Some t) (find_topic ts name) ≡ find_topic (cond (is_none (topic_refusal rules caller t.name)) (t ∷ slots) slots) name
  by_name true same rest =
      let here : topic_refusal rules caller t.name ≡ None = ap (topic_refusal rules caller) ((bytes_eq-Decides t.name name).0 same) ∙ none in
      sym (ap (λ (o : Option Refusal). find_topic (cond (is_none o) (t ∷ slots) slots) name) here ∙ ap (λ (x : Bool). cond x (Some t) (find_topic slots name)) same)
  by_name false differ rest = rest ∙ by_test (is_none (topic_refusal rules caller t.name)) differ

module _ (v w : World) (caller : Caller) (rules : rules_of v ≡ rules_of w) (same : described_slots (rules_of v) caller v.topics ≡ described_slots (rules_of w) caller w.topics) where
  same_topic : (name : List ℕ) → topic_refusal (rules_of w) caller name ≡ None → find_topic v.topics name ≡ find_topic w.topics name
  same_topic name none =
      let there : topic_refusal (rules_of v) caller name ≡ None = ap (λ (r : Rules). topic_refusal r caller name) rules ∙ none in
      found_among (rules_of v) caller v.topics name there ∙ ap (λ (ts : List TopicValue). find_topic ts name) same ∙ sym (found_among (rules_of w) caller w.topics name none)

  same_topics : (names : List (List ℕ)) → SameTopics v w (describable (rules_of w) caller names)
  same_topics [] = tt
  same_topics (name ∷ names) = by_refusal (topic_refusal (rules_of w) caller name) refl (same_topics names) where
    by_refusal : (o : Option Refusal) → topic_refusal (rules_of w) caller name ≡ o → SameTopics v w (describable (rules_of w) caller names) → SameTopics v w (cond (is_none o) (name ∷ describable (rules_of w) caller names) (describable (rules_of w) caller names))
    by_refusal None none rest = (same_topic name none, rest)
    by_refusal (Some r) is rest = rest

  pub same_listed : SameListed v w caller
  same_listed = record {
    names = slot_names (rules_of v) caller v.topics ∙ ap topic_names same ∙ sym (slot_names (rules_of w) caller w.topics);
    topics = same_topics (topic_names w.topics);
  }
