use Rattle.std.proofs.Common.{length}
use Rattle.wire_types.proofs.pieces.Unread.+of.Given as goal

abbrev pub decreases-of : goal.decreases-of
decreases-of l = length l.pieces.now
