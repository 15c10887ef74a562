-- Topic by topic: what is answered for one comes first, and then what the rest gives.
use Rattle.std.proofs.Common.{◌≡◌, ℕ, ◌+◌, List, ◌∷◌, ◌++◌, map, drop, Option, Some, None, cond, refl, ap, ◌∙◌}
use Rattle.std.specs.Prelude.{slice_get, is_none}
use Rattle.std.specs.Option.{option_to_list}
use Rattle.acl_binding.specs.declared.question.Caller.{Caller}
use Rattle.authorizer.specs.declared.answer.Refusal.{Refusal}
use Rattle.authorizer.specs.Asking.{Rules, part_paid}
use Rattle.authorizer.specs.Tally.{count_after, count_after_parts}
use Rattle.broker_world.specs.World.{World, rules_of}
use Rattle.broker_world.specs.Questions.{topic_part, topic_refusal}
use Rattle.broker_world.proofs.Parts.{drop_get}
use Rattle.data_handlers.specs.Metadata.{plain_topic, plain_topics, describable, if_granted, described_topic}

-- the first topic's answer, if it may be described, and then those of the rest
described_cons : (w : World) (caller : Caller) (name : List ℕ) (names : List (List ℕ)) → plain_topics w (describable (rules_of w) caller (name ∷ names)) ≡ option_to_list (described_topic w caller name) ++ plain_topics w (describable (rules_of w) caller names)
described_cons w caller name names = by_refusal (topic_refusal (rules_of w) caller name) where
  by_refusal : (r : Option Refusal) → plain_topics w (cond (is_none r) (name ∷ describable (rules_of w) caller names) (describable (rules_of w) caller names)) ≡ option_to_list (if_granted r (plain_topic w name)) ++ plain_topics w (describable (rules_of w) caller names)
  by_refusal (Some x) = refl
  by_refusal None = refl

pub described_at : (w : World) (caller : Caller) (names : List (List ℕ)) (i : ℕ) (name : List ℕ) → slice_get names i ≡ Some name → plain_topics w (describable (rules_of w) caller (drop i names)) ≡ option_to_list (described_topic w caller name) ++ plain_topics w (describable (rules_of w) caller (drop (i + 1) names))
described_at w caller names i name h = ap (λ l. plain_topics w (describable (rules_of w) caller l)) (drop_get names i name h) ∙ described_cons w caller name (drop (i + 1) names)

-- what is spent for the topic at a place, and then for the rest
pub counted_at : (rules : Rules) (caller : Caller) (n : ℕ) (names : List (List ℕ)) (i : ℕ) (name : List ℕ) → slice_get names i ≡ Some name
    → count_after_parts rules n (map (topic_part caller) (drop i names)) ≡ count_after_parts rules (count_after n (part_paid rules (topic_part caller name))) (map (topic_part caller) (drop (i + 1) names))
counted_at rules caller n names i name h = ap (λ l. count_after_parts rules n (map (topic_part caller) l)) (drop_get names i name h)
