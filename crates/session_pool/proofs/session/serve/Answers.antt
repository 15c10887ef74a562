use Rattle.std.proofs.Common.{◌≡◌, ◌+◌, ◌-◌, suc, arith}
use Rattle.frame_streams.specs.Readers.{frames_left}
use Rattle.session_pool.specs.Asks.{setting_of}
use Rattle.session_pool.proofs.Sessions.{at_start, session_more, session_ends, session_full}
use Rattle.session_pool.proofs.session.serve.Goals as goal

pub loop-frame-init : goal.loop-frame-init
loop-frame-init g c =
    record {
      risen = omega (arith, c.new.ensures.len);
      session = at_start (setting_of c.args.context.now.login g.D.Desk.may_stop) c.args.context.now.limits.frames c.args.context.now.limits.frame (c.args.context.now.limits.frames - 0)
          (frames_left g.Rd.Read.remaining c.args.reader.now) (g.Wr.Write.contents c.args.writer.now) c.new.result.items (omega arith) c.new.ensures.items;
    }

pub returns-in-Err-clause-session : goal.returns-in-Err-clause-session
returns-in-Err-clause-session g c =
    let m = c.args.context.now.limits.frames - c.loop-frame.frame in
    let n = c.args.context.now.limits.frames - (c.loop-frame.frame + 1) in
    let one : m ≡ suc n = omega arith in
    session_ends (setting_of c.args.context.now.login g.D.Desk.may_stop) c.args.context.now.limits.frames c.args.context.now.limits.frame m n
    (frames_left g.Rd.Read.remaining c.args.reader.now) (g.Wr.Write.contents c.args.writer.now) c.loop-frame.state
    (frames_left g.Rd.Read.remaining c.loop-frame.reader) (frames_left g.Rd.Read.remaining c.turn-come.new.reader) (g.Wr.Write.contents c.loop-frame.writer) (g.Wr.Write.contents c.turn-come.new.writer)
    c.loop-frame.progress.receipts.items c.turn-come.result.0.receipts.items c.turn-come.result.1 c.in-Err.why one c.in-Err.is c.loop-frame.invariant.session c.turn-come.ensures.turns

pub loop-frame-preserved : goal.loop-frame-preserved
loop-frame-preserved g c =
    let m = c.args.context.now.limits.frames - c.loop-frame.frame in
    let n = c.args.context.now.limits.frames - (c.loop-frame.frame + 1) in
    let one : m ≡ suc n = omega arith in
    record {
      risen = omega (arith, c.loop-frame.invariant.risen, c.turn-come.ensures.risen);
      session = session_more (setting_of c.args.context.now.login g.D.Desk.may_stop) c.args.context.now.limits.frames c.args.context.now.limits.frame m n
          (frames_left g.Rd.Read.remaining c.args.reader.now) (g.Wr.Write.contents c.args.writer.now) c.loop-frame.state c.in-Ok.next
          (frames_left g.Rd.Read.remaining c.loop-frame.reader) (frames_left g.Rd.Read.remaining c.turn-come.new.reader) (g.Wr.Write.contents c.loop-frame.writer) (g.Wr.Write.contents c.turn-come.new.writer)
          c.loop-frame.progress.receipts.items c.turn-come.result.0.receipts.items c.turn-come.result.1 one c.in-Ok.is c.loop-frame.invariant.session c.turn-come.ensures.turns;
    }

pub returns-clause-session : goal.returns-clause-session
returns-clause-session g c =
    let m = c.args.context.now.limits.frames - c.loop-frame.frame in
    let none : m ≡ 0 = omega arith in
    session_full (setting_of c.args.context.now.login g.D.Desk.may_stop) c.args.context.now.limits.frames c.args.context.now.limits.frame m
    (frames_left g.Rd.Read.remaining c.args.reader.now) (g.Wr.Write.contents c.args.writer.now) c.loop-frame.state (frames_left g.Rd.Read.remaining c.loop-frame.reader) (g.Wr.Write.contents c.loop-frame.writer)
    c.loop-frame.progress.receipts.items none c.loop-frame.invariant.session
