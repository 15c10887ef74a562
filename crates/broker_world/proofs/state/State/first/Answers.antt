use Rattle.std.proofs.Common.{ap, ◌∙◌}
use Rattle.std.specs.List.{list_all}
use Rattle.acl_binding.specs.Creatable.{is_creatable}
use Rattle.settings.specs.Fault.{is_topic_within, are_distinct}
use Rattle.broker_world.proofs.InRange.{faultless, topics_in_range}
use Rattle.broker_world.proofs.state.State.first.Goals as goal

pub first-requires-2-clause-within : goal.first-requires-2-clause-within
first-requires-2-clause-within c = ap (list_all is_topic_within) c.as_slice-2.ensures ∙ topics_in_range c.args.settings.now (faultless c.args.settings.now c.requires).in_range

pub first-requires-2-clause-distinct : goal.first-requires-2-clause-distinct
first-requires-2-clause-distinct c = ap are_distinct c.as_slice-2.ensures ∙ (faultless c.args.settings.now c.requires).distinct
