use Rattle.std.proofs.Common.{◌≡◌, ◌-◌, ◌≤◌, vec_len, length}
use Rattle.std.specs.Io.KnownBytes.{Consumes}
use Rattle.byte_streams.specs.declared.device.TheConstants.{INPUT_LIMIT, PIECE}
use Rattle.byte_streams.proofs.device.read_input.Given as goal

abbrev pub invariant-loop-input : goal.invariant-loop-input
invariant-loop-input g l = (vec_len l.input ≤ INPUT_LIMIT) × (length l.piece ≡ PIECE)
    × Consumes (g.R.Read.remaining l.initial.reader) (g.R.Read.remaining l.reader) l.input.items

abbrev pub decreases-loop-input : goal.decreases-loop-input
decreases-loop-input g l = INPUT_LIMIT - vec_len l.input
