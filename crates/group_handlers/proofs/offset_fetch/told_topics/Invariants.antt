use Rattle.std.proofs.Common.{◌≡◌, ◌++◌, drop, map}
use Rattle.authorizer.specs.Asking.{policy_rules}
use Rattle.authorizer.specs.Tally.{count_after_parts}
use Rattle.broker_world.specs.World.{TopicValue}
use Rattle.broker_world.specs.Questions.{topic_part}
use Rattle.group_handlers.specs.OffsetFetch.{listed_topics}
use Rattle.group_handlers.proofs.offset_fetch.told_topics.Given as goal

-- what is told and spent so far, and then what is left
abbrev pub invariant-loop-slot : goal.invariant-loop-slot
invariant-loop-slot l = record {
  told : l.topics ++ listed_topics (policy_rules l.policy) l.caller l.offsets l.stable (drop l.slot-index l.slots) ≡ listed_topics (policy_rules l.policy) l.caller l.offsets l.stable l.slots;
  spent : count_after_parts (policy_rules l.policy) l.spent (map (λ (t : TopicValue). topic_part l.caller t.name) (drop l.slot-index l.slots)) ≡ count_after_parts (policy_rules l.policy) l.fn.spent (map (λ (t : TopicValue). topic_part l.caller t.name) l.slots);
}
