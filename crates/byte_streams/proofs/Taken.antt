-- How much is taken of an input until it ends, a read fails, or it is above its limit.
use Rattle.std.proofs.Common.{◌≡◌, ℕ, ◌≤◌, List, ◌++◌, length, take, Option, arith}
use Rattle.std.proofs.KnownBytes.{Consumes-trans, Consumes-kept}
use Rattle.std.proofs.lemmas.List.{length-append, length-take}
use Rattle.std.specs.Io.KnownBytes.{Consumes, Keeps}
use Rattle.byte_streams.specs.Device.{TakesWithin}

pub taken_more : (old mid new : Option (List ℕ)) (input piece : List ℕ) (n : ℕ) → Consumes old mid input → Consumes mid new (take n piece) → length input ≤ 1073741824 → length piece ≡ 16384 → TakesWithin old new
taken_more old mid new input piece n before then input_short piece_short =
    (input ++ take n piece, Consumes-trans old mid new input (take n piece) before then, omega (arith, input_short, piece_short, length-append input (take n piece), length-take n piece))

pub taken_kept : (old mid new : Option (List ℕ)) (input : List ℕ) → Consumes old mid input → Keeps mid new → length input ≤ 1073741824 → TakesWithin old new
taken_kept old mid new input before kept short = (input, Consumes-kept old mid new input before kept, omega (arith, short))
