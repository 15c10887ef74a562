-- A grammar of one number that is told beforehand.
use Rattle.std.specs.Prelude.{ℤ}
use Rattle.wire_types.specs.Grammar.{Grammar}
use Rattle.record_batch.specs.CombinatorLaws.{fixed_at, fixed_number-sound, fixed_number-complete}

-- this number and no other
abbrev pub fixed_number : Grammar ℤ → ℤ → Grammar (Unit {0})
fixed_number g z = record {
  Spells = λ text s. g.Spells text z;
  reading = fixed_at g.reading z;
  written = λ s. g.written z;
  put = λ old s. g.put old z;
  fits = λ s. g.fits z;
  left = λ s. g.left z;
  InType = λ s. g.InType z;
  puts = λ old s. g.puts old z;
  lefts = λ s. g.lefts z;
  sound = fixed_number-sound g z;
  complete = fixed_number-complete g z;
  canonical = λ s. g.canonical z;
  shortest = λ text s. g.shortest text z;
  some_bytes = λ text s. g.some_bytes text z;
}
