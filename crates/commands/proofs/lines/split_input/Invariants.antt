use Rattle.std.proofs.Common.{◌≡◌, ℕ, List, ◌++◌, length}
use Rattle.commands.specs.Lines.{lines_of, settings_part, script_part}
use Rattle.commands.proofs.lines.split_input.Given as goal

abbrev pub invariant-loop-line : goal.invariant-loop-line
invariant-loop-line l =
    (front : List ℕ) × (l.input ≡ front ++ l.rest)
    × (settings_part (lines_of l.input) ≡ front ++ settings_part (lines_of l.rest))
    × (script_part (lines_of l.input) ≡ script_part (lines_of l.rest))

abbrev pub decreases-loop-line : goal.decreases-loop-line
decreases-loop-line l = length l.rest
