use Rattle.std.proofs.Common.{sym, ◌∙◌}
use Rattle.broker_world.specs.World.{rules_of, topic_names}
use Rattle.broker_world.proofs.Parts.{some_more}
use Rattle.data_handlers.proofs.Topics.{described_at, counted_at}
use Rattle.data_handlers.proofs.metadata.described_topics.Goals as goal

pub loop-place-preserved : goal.loop-place-preserved
loop-place-preserved c =
    let w = c.args.state.now in
    let names = topic_names w.topics in
    let at = c.loop-place.place in
    let name = c.name.result.now in
    let found = rw c.topics-names.ensures at c.name.ensures in
    record {
      topics = rw (c.in_ok-push_some.ensures.ok, c.in_ok-part.ensures.answer) (some_more c.loop-place.topics _ _ _ _ (described_at w c.args.caller.now names at name found) c.loop-place.invariant.topics);
      spent = rw (c.counted-untold.ensures.spent, c.in_ok-part.ensures.spent) (sym (counted_at (rules_of w) c.args.caller.now c.loop-place.spent names at name found) ∙ c.loop-place.invariant.spent);
    }
