-- The grammar of values that are told by numbers out of a table: a number that is not in the table
-- is out of range.
use Rattle.std.specs.Prelude.{◌≡◌, Option, Some}
use Rattle.wire_types.specs.Grammar.{Grammar}
use Rattle.wire_types.specs.CodedLaws.{coded_at, coded_value-sound, coded_value-complete}

abbrev pub coded_value : {A S : Type 0} (code : S → A) (named : A → Option S)
    → ((s : S) → named (code s) ≡ Some s) → ((a : A) (s : S) → named a ≡ Some s → code s ≡ a)
    → Grammar A → Grammar S
coded_value code named told tells g = record {
  Spells = λ text s. g.Spells text (code s);
  reading = coded_at named g.reading;
  written = λ s. g.written (code s);
  put = λ old s. g.put old (code s);
  fits = λ s. g.fits (code s);
  left = λ s. g.left (code s);
  InType = λ s. g.InType (code s);
  puts = λ old s. g.puts old (code s);
  lefts = λ s. g.lefts (code s);
  sound = coded_value-sound code named g tells;
  complete = coded_value-complete code named g told;
  canonical = λ s. g.canonical (code s);
  shortest = λ text s. g.shortest text (code s);
  some_bytes = λ text s. g.some_bytes text (code s);
}
