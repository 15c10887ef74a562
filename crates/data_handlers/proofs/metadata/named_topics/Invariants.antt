use Rattle.std.proofs.Common.{◌≡◌, ◌++◌, drop, Some}
use Rattle.authorizer.specs.Tally.{count_after_parts}
use Rattle.broker_world.specs.World.{rules_of}
use Rattle.data_handlers.specs.Metadata.{metadata_topics, metadata_parts, topic_refusals}
use Rattle.data_handlers.proofs.metadata.named_topics.Given as goal

-- what is answered so far, and then what is left
abbrev pub invariant-loop-name : goal.invariant-loop-name
invariant-loop-name l = record {
  topics : l.topics ++ metadata_topics l.state l.caller (Some (drop l.name-index l.names)) ≡ metadata_topics l.state l.caller (Some l.names);
  refusals : l.refusals ++ topic_refusals (rules_of l.state) l.caller (Some (drop l.name-index l.names)) ≡ topic_refusals (rules_of l.state) l.caller (Some l.names);
  spent : count_after_parts (rules_of l.state) l.spent (metadata_parts l.state l.caller (Some (drop l.name-index l.names))) ≡ count_after_parts (rules_of l.state) 0 (metadata_parts l.state l.caller (Some l.names));
}
