use Rattle.std.proofs.Common.{◌≡◌, ℕ, ◌+◌, ◌≤◌, List, [], length}
use Rattle.std.specs.Io.KnownBytes.{Appends}
use Rattle.request_handlers.specs.Core.{events_of}
use Rattle.commands.specs.Lines.{lines_of}
use Rattle.commands.specs.Replay.{script_answer, with_text_before, IsUp}
use Rattle.commands.proofs.run.run_script.Given as goal

abbrev pub invariant-loop-rest : goal.invariant-loop-rest
invariant-loop-rest g l =
    (done : List ℕ)
    × (script_answer l.initial.core.settings [] 1 (lines_of l.initial.rest) ≡ with_text_before done (script_answer l.initial.core.settings (events_of l.core.trail) l.number (lines_of l.rest)))
    × IsUp l.initial.core.settings l.core
    × Appends (g.W.Write.contents l.initial.writer) (g.W.Write.contents l.writer) done
    × (l.number + length l.rest ≤ 1 + length l.initial.rest)

abbrev pub decreases-loop-rest : goal.decreases-loop-rest
decreases-loop-rest g l = length l.rest
