use Rattle.std.proofs.Common.{◌<◌, ◌≤◌, arith}
use Rattle.wire_types.specs.VarintLaws.{put_more}
use Rattle.wire_types.proofs.varints.+write_varint_within.Goals as goal

pub returns-in-Ok-clause-ok : goal.returns-in-Ok-clause-ok
returns-in-Ok-clause-ok t c =
    let some : 0 < c.args.more = omega arith in
    let large : 128 ≤ c.args.number = omega arith in
    put_more c.args.out.now.items c.push-2.new.self.items c.write_varint_within.new.out.items c.args.more c.args.number some large c.in_ok-push-2.ensures.items c.in-Ok.ensures.ok
