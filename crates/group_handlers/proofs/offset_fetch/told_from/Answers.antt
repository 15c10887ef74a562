use Rattle.std.proofs.Common.{List, ◌++◌, ◌+◌, ◌-◌, pos, ap, ◌∙◌, arith}
use Rattle.msg_group.specs.declared.offset_fetch.FetchedOffset.{FetchedOffset}
use Rattle.group_handlers.specs.OffsetFetch.{listed_offset_at, listed_offsets_from}
use Rattle.broker_world.proofs.Parts.{some_more}
use Rattle.group_handlers.proofs.Told.{told_more}
use Rattle.group_handlers.proofs.offset_fetch.told_from.Goals as goal

pub loop-index-preserved : goal.loop-index-preserved
loop-index-preserved c =
    let es = c.args.offsets.now in
    let name = c.args.name.now in
    let at = c.loop-index.index in
    let rest = listed_offsets_from es c.args.stable name (at + 1) (c.args.count - (at + 1)) in
    ap (λ (told : List FetchedOffset). told ++ rest) c.in_ok-push_told.ensures
    ∙ some_more c.loop-index.told (listed_offset_at es c.args.stable name (pos at)) _ rest _ (told_more es c.args.stable name c.args.count at (omega (arith, c.loop-index-test.true))) c.loop-index.invariant
