use Rattle.std.proofs.Common.{◌≡◌, ◌++◌, drop}
use Rattle.std.specs.Io.{StartsWith}
use Rattle.std.specs.List.{concat}
use Rattle.wire_types.proofs.pieces.Pieces.push_to.Given as goal

-- what was put so far, and then the pieces that are left
abbrev pub invariant-loop-piece : goal.invariant-loop-piece
invariant-loop-piece l = record {
  text : l.out.items ++ concat (drop l.piece-index l.piece-items) ≡ l.fn.out.items ++ l.fn.self;
  begun : StartsWith l.out.items l.fn.out.items;
}
