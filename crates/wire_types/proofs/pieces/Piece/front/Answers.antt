use Rattle.wire_types.proofs.Runs.{own_first}
use Rattle.wire_types.proofs.pieces.Piece.front.Goals as goal

pub returns-in-Some : goal.returns-in-Some
returns-in-Some c = own_first _ _ _ _ c.in-Some.is c.self.invariant c.self.view_is
