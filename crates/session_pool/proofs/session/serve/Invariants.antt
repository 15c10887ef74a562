use Rattle.std.proofs.Common.{◌≡◌, ◌+◌, ◌-◌, vec_len}
use Rattle.frame_streams.specs.Readers.{frames_left}
use Rattle.frame_streams.specs.Reads.{Took}
use Rattle.session_pool.specs.Asks.{setting_of}
use Rattle.session_pool.proofs.Sessions.{SoFar}
use Rattle.session_pool.proofs.session.serve.Given as goal

abbrev pub invariant-loop-frame : goal.invariant-loop-frame
invariant-loop-frame g l =
    record {
      risen : (g.D.Desk.view l.progress.seat).count ≡ (g.D.Desk.view l.fn.seat).count + vec_len l.progress.receipts;
      session : Took (frames_left g.Rd.Read.remaining l.initial.reader) (frames_left g.Rd.Read.remaining l.reader)
          (SoFar (setting_of l.context.login g.D.Desk.may_stop) l.context.limits.frames l.context.limits.frame (g.Wr.Write.contents l.initial.writer) (g.Wr.Write.contents l.writer)
          (l.context.limits.frames - l.frame) l.state l.progress.receipts.items);
    }
