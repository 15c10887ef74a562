-- How the grammars of structs, lists and messages are made of those of their parts.
use Rattle.std.specs.Prelude.{◌≡◌, ℕ, List, [], ◌++◌, length, Bool, true, ◌&&◌, Option, Some, IfSome, IsSomeAnd, refl}
use Rattle.std.proofs.Common.{ap, sym, Ok}
use Rattle.std.proofs.lemmas.List.{append-nil}
use Rattle.std.specs.Str.{IsUtf8}
use Rattle.std.specs.List.{AllByRecursion}
use Rattle.wire_types.specs.Reading.{front_at, utf8_at, items_at, required_at, after_count_at, after_null_count_at}
use Rattle.wire_types.specs.Grammar.{Grammar, Content, Body, AreBoth, AreMany, IsAfter, IsNullAfter}
use Rattle.wire_types.specs.Spelling.{many_written, many_fit, many_left, after_count_written, after_count_fits, after_null_count_written, after_null_count_put, after_null_count_fits, after_null_count_left, left_after, then_left}
use Rattle.wire_types.specs.CountLaws.{required_count-sound, required_count-complete}
use Rattle.wire_types.specs.AfterLaws.{front-sound, front-complete, utf8-sound, utf8-complete, items-sound, items-complete, items-lefts, after_count-sound, after_count-complete, after_count-puts, after_count-lefts, after_count-canonical, after_count-shortest, after_count-some, after_null_count-sound, after_null_count-complete, after_null_count-puts, after_null_count-lefts, NullInType, after_null_count-canonical, after_null_count-shortest, after_null_count-some}
use Rattle.wire_types.specs.BudgetLaws.{left_of_parts}
use Rattle.wire_types.specs.ListLaws.{both_at, via_at, both-puts, both-sound, both-complete, both-canonical, both-shortest, both-some, via-sound, via-complete, many-canonical, many-shortest, part_written, part_put, part_fits, part_left, part-lefts, part-puts, arm-sound, arm-complete, part-canonical, part-shortest, part-some, skip-sound, skip-complete, IsLeast, value-sound, value-complete, value-fits, value-short, raw-shortest}

-- ---- parts one after the other

-- one after the other
infixr 7 ◌⨟◌
abbrev pub ◌⨟◌ : {A B : Type 0} → Grammar A → Grammar B → Grammar (A × B)
f ⨟ g = record {
  Spells = AreBoth f.Spells g.Spells;
  reading = both_at f.reading g.reading;
  written = λ x. f.written x.0 ++ g.written x.1;
  put = λ old x. g.put (f.put old x.0) x.1;
  fits = λ x. f.fits x.0 && g.fits x.1;
  left = λ x budget. then_left (f.left x.0 budget) (g.left x.1);
  InType = λ x. f.InType x.0 × g.InType x.1;
  puts = both-puts f g;
  lefts =
      λ x budget. left_of_parts (f.fits x.0) (g.fits x.1) (f.written x.0) (g.written x.1) budget
      (f.left x.0 budget) (g.left x.1) (f.lefts x.0 budget) (g.lefts x.1);
  sound = both-sound f g;
  complete = both-complete f g;
  canonical = both-canonical f g;
  shortest = both-shortest f g;
  some_bytes = both-some f g;
}

-- a struct, whose parts are spelled one after the other
abbrev pub struct : {A S : Type 0} (make : A → S) (parts : S → A) → ((x : A) → parts (make x) ≡ x)
    → ((s : S) → make (parts s) ≡ s) → Grammar A → Grammar S
struct make parts parts_make make_parts g = record {
  Spells = λ text s. g.Spells text (parts s);
  reading = via_at make g.reading;
  written = λ s. g.written (parts s);
  put = λ old s. g.put old (parts s);
  fits = λ s. g.fits (parts s);
  left = λ s. g.left (parts s);
  InType = λ s. g.InType (parts s);
  puts = λ old s. g.puts old (parts s);
  lefts = λ s. g.lefts (parts s);
  sound = via-sound make parts g parts_make;
  complete = via-complete make parts g make_parts;
  canonical = λ s. g.canonical (parts s);
  shortest = λ text s. g.shortest text (parts s);
  some_bytes = λ text s. g.some_bytes text (parts s);
}

-- a variant of an enum: no bytes spell another variant
abbrev pub variant : {A S : Type 0} (make : A → S) (part : S → Option A)
    → ((x : A) → part (make x) ≡ Some x) → ((s : S) (x : A) → part s ≡ Some x → make x ≡ s)
    → Grammar A → Grammar S
variant make part part_make make_part g = record {
  Spells = λ text s. IsSomeAnd (part s) (g.Spells text);
  reading = via_at make g.reading;
  written = λ s. part_written g.written (part s);
  put = λ old s. part_put g.put old (part s);
  fits = λ s. part_fits g.fits (part s);
  left = λ s. part_left g.left (part s);
  InType = λ s. IfSome (part s) g.InType;
  puts = λ old s. part-puts g old (part s);
  lefts = λ s. part-lefts g (part s);
  sound = arm-sound make part g part_make;
  complete = arm-complete make part g make_part;
  canonical = λ s. part-canonical g (part s);
  shortest = λ text s. part-shortest g text (part s);
  some_bytes = λ text s. part-some g text (part s);
}

-- ---- what stands after a count

-- where null is not allowed
abbrev pub required_count : Grammar (Option ℕ) → Grammar ℕ
required_count c = record {
  Spells = λ text n. c.Spells text (Some n);
  reading = required_at c.reading;
  written = λ n. c.written (Some n);
  put = λ old n. c.put old (Some n);
  fits = λ n. c.fits (Some n);
  left = λ n. c.left (Some n);
  InType = λ n. c.InType (Some n);
  puts = λ old n. c.puts old (Some n);
  lefts = λ n. c.lefts (Some n);
  sound = required_count-sound c;
  complete = required_count-complete c;
  canonical = λ n. c.canonical (Some n);
  shortest = λ text n. c.shortest text (Some n);
  some_bytes = λ text n. c.some_bytes text (Some n);
}

-- so many bytes
abbrev pub raw : Content (List ℕ)
raw = record {
  count = length;
  Spells = λ text t. text ≡ t;
  reading = front_at;
  written = λ t. t;
  fits = λ _. true;
  left = λ t. left_after true (length t);
  InType = λ _. Unit {0};
  lefts = λ t budget. refl;
  sound = front-sound;
  complete = front-complete;
  canonical = λ t _ _. refl;
  shortest = λ text t _ is. (tt, refl, raw-shortest text t is);
}

-- so many bytes of UTF-8
abbrev pub utf8 : Content (List ℕ)
utf8 = record {
  count = length;
  Spells = λ text t. (text ≡ t) × IsUtf8 t;
  reading = utf8_at;
  written = λ t. t;
  fits = λ _. true;
  left = λ t. left_after true (length t);
  InType = IsUtf8;
  lefts = λ t budget. refl;
  sound = utf8-sound;
  complete = utf8-complete;
  canonical = λ t types _. (refl, types);
  shortest = λ text t _ is. (is.1, refl, raw-shortest text t is.0);
}

-- so many items
abbrev pub items : {A : Type 0} → Grammar A → Content (List A)
items g = record {
  count = length;
  Spells = AreMany g.Spells;
  reading = items_at g.reading;
  written = many_written g.written;
  fits = many_fit g.fits;
  left = many_left g.left;
  InType = AllByRecursion g.InType;
  lefts = items-lefts g;
  sound = items-sound g;
  complete = items-complete g;
  canonical = many-canonical g;
  shortest = many-shortest g;
}

abbrev pub after_count : {A : Type 0} → Grammar ℕ → Content A → Grammar A
after_count c k = record {
  Spells = IsAfter k.count c.Spells k.Spells;
  reading = after_count_at c.reading k.reading;
  written = after_count_written k.count c.written k.written;
  put = λ old x. c.put old (k.count x) ++ k.written x;
  fits = after_count_fits k.count c.fits k.fits;
  left = λ x budget. then_left (c.left (k.count x) budget) (k.left x);
  InType = λ x. c.InType (k.count x) × k.InType x;
  puts = after_count-puts c k;
  lefts = after_count-lefts c k;
  sound = after_count-sound c k;
  complete = after_count-complete c k;
  canonical = after_count-canonical c k;
  shortest = after_count-shortest c k;
  some_bytes = after_count-some c k;
}

abbrev pub after_null_count : {A : Type 0} → Grammar (Option ℕ) → Content A → Grammar (Option A)
after_null_count c k = record {
  Spells = IsNullAfter k.count c.Spells k.Spells;
  reading = after_null_count_at c.reading k.reading;
  written = after_null_count_written k.count c.written k.written;
  put = after_null_count_put k.count c.put k.written;
  fits = after_null_count_fits k.count c.fits k.fits;
  left = after_null_count_left k.count c.left k.left;
  InType = NullInType k.count c.InType k.InType;
  puts = after_null_count-puts c k;
  lefts = after_null_count-lefts c k;
  sound = after_null_count-sound c k;
  complete = after_null_count-complete c k;
  canonical = after_null_count-canonical c k;
  shortest = after_null_count-shortest c k;
  some_bytes = after_null_count-some c k;
}

-- ---- what is skipped

-- whatever this grammar spells, as one value; the shortest, of so many bytes, is written
abbrev pub skipped_value : {A : Type 0} (g : Grammar A) (least : A) (size : ℕ)
    → IsLeast g least size → Grammar (Unit {0})
skipped_value {A} g least size is = record {
  Spells = λ text s. (x : A) × g.Spells text x;
  reading = via_at (λ (x : A). tt) g.reading;
  written = λ s. g.written least;
  put = λ old s. old ++ g.written least;
  fits = λ s. true;
  left = λ s. left_after true size;
  InType = λ s. Unit {0};
  puts = λ old s. refl;
  lefts = λ s budget. ap (λ (n : ℕ). left_after true n budget) (sym is.sized);
  sound = skip-sound g;
  complete = skip-complete g;
  canonical = λ s _ _. (least, g.canonical least is.in_type is.fits);
  shortest = λ text s _ h. (tt, refl, is.shortest text h.0 h.1);
  some_bytes = λ text s h. g.some_bytes text h.0 h.1;
}

-- ---- bodies of messages

-- what is spelled by some bytes
abbrev pub body_of : {A : Type 0} → Grammar A → Body A
body_of g = record {
  Spells = g.Spells;
  reading = g.reading;
  written = g.written;
  put = g.put;
  fits = g.fits;
  left = g.left;
  InType = g.InType;
  puts = g.puts;
  lefts = g.lefts;
  sound = g.sound;
  complete = g.complete;
  canonical = g.canonical;
  shortest = g.shortest;
}

-- one value, spelled by no bytes
abbrev pub empty_body : {S : Type 0} (value : S) (is : S → Bool) → is value ≡ true
    → ((s : S) → is s ≡ true → s ≡ value) → Body S
empty_body value is holds only = record {
  Spells = λ text s. (text ≡ []) × (s ≡ value);
  reading = λ text. Ok (value, text);
  written = λ s. [];
  put = λ old s. old;
  fits = is;
  left = λ s budget. left_after (is s) 0 budget;
  InType = λ s. Unit {0};
  puts = λ old s. sym (append-nil old);
  lefts = λ s budget. refl;
  sound = value-sound value;
  complete = value-complete value;
  canonical = λ s _ fits. (refl, only s fits);
  shortest = λ text s _ h. (tt, value-fits value is holds s h.1, value-short text);
}
