-- What holds in each sound world holds in each that moves reach.
use Rattle.std.proofs.Common.{List, [], ◌∷◌, ◌++◌, ◌≡◌, refl, ◌+◌, arith}
use Rattle.txn_laws.specs.Small.{World, first_world, Move, world_after_move, world_after_moves, count_of_marks}
use Rattle.txn_laws.specs.Laws.{InSound, InReached, SoundLaw}
use Rattle.txn_laws.proofs.Moves.{first_sound, move_sound, moves_sound}

pub sound_law : SoundLaw
sound_law = record { first = first_sound; next = move_sound }

-- moves after moves
pub moved_append : (w : World) (xs ys : List Move) → world_after_moves w (xs ++ ys) ≡ world_after_moves (world_after_moves w xs) ys
moved_append w [] ys = refl
moved_append w (m ∷ ms) ys = moved_append (world_after_move w m) ms ys

pub marks_append : (xs ys : List Move) → count_of_marks (xs ++ ys) ≡ count_of_marks xs + count_of_marks ys
marks_append [] ys = omega arith
marks_append (m ∷ ms) ys = let rest = marks_append ms ys in omega arith

pub reached : (Law : World → Type 0) → InSound Law → InReached Law
reached Law law moves = law _ (moves_sound first_world moves first_sound)
