use Rattle.std.proofs.Common.{◌≡◌, ◌++◌, drop, map}
use Rattle.authorizer.specs.Tally.{count_after_parts}
use Rattle.broker_world.specs.World.{rules_of, topic_names}
use Rattle.broker_world.specs.Questions.{topic_part}
use Rattle.data_handlers.specs.Metadata.{plain_topics, describable}
use Rattle.data_handlers.proofs.metadata.described_topics.Given as goal

-- what is answered and spent so far, and then what is left
abbrev pub invariant-loop-place : goal.invariant-loop-place
invariant-loop-place l = record {
  topics : l.topics ++ plain_topics l.state (describable (rules_of l.state) l.caller (drop l.place (topic_names l.state.topics))) ≡ plain_topics l.state (describable (rules_of l.state) l.caller (topic_names l.state.topics));
  spent : count_after_parts (rules_of l.state) l.spent (map (topic_part l.caller) (drop l.place (topic_names l.state.topics))) ≡ count_after_parts (rules_of l.state) 0 (map (topic_part l.caller) (topic_names l.state.topics));
}
