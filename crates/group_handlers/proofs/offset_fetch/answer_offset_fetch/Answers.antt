use Rattle.std.proofs.Common.{◌≡◌, [], ◌∷◌, None, rules}
use Rattle.authorizer.specs.Asking.{part_refusal}
use Rattle.broker_world.specs.World.{rules_of}
use Rattle.group_handlers.specs.OffsetFetch.{group_question, offsets_of}
use Rattle.group_handlers.proofs.ReadOnly.{world_read, parts_refused}
use Rattle.group_handlers.proofs.offset_fetch.answer_offset_fetch.Goals as goal

pub returns-in-Ok : goal.returns-in-Ok
returns-in-Ok c =
    let yes : part_refusal (rules_of c.args.state.now) (group_question c.args.caller.now c.args.request.now.group ∷ []) ≡ None = search rules in
    let same : c.fetch-spent.result.1.now ≡ offsets_of c.args.state.now c.args.request.now.group = search rules in
    record {
      world = world_read c.fetched_offsets.result c.args.state.now c.args.caller.now c.args.request.now;
      reply = search rules;
      refusals = parts_refused c.fetched_offsets.result c.args.state.now c.args.caller.now c.args.request.now c.fetch-spent.result.1.now yes same c.fetched_offsets.ensures.refusals;
      paid = search rules;
      spent = search rules;
    }
