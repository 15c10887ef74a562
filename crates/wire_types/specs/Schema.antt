-- The grammars of the primitives, under the names that the Kafka protocol guide gives them
-- ("Protocol Primitive Types").
use Rattle.std.specs.Prelude.{◌≡◌, ◌<◌, if◌then◌else◌, ℕ, ℤ, List, [], ◌++◌, length, Bool, true, ◌^◌, Option, None, refl}
use Rattle.std.specs.Int.{Width, w8, w16, w32, w64, byte_len, to_be_bytes}
use Rattle.std.specs.Int.RustNames.{FitsSigned}
use Rattle.std.proofs.Common.{ap, lit<, arith}
use Rattle.wire_types.specs.Reading.{nat_at, int_at, bool_at, varint_at, varint_limit, null_count_at, compact_null_count_at}
use Rattle.wire_types.specs.Grammar.{Grammar, IsNat, IsInt, IsBool, IsVarint, IsNullCount, IsCompactNullCount}
use Rattle.wire_types.specs.NumberLaws.{IsWide, wide8, wide16, wide32, wide64, nat-sound, nat-complete, nat-canonical, nat-shortest, nat-some, nat-lefts, int-sound, int-complete, int-canonical, int-shortest, int-some, int-lefts, bool-sound, bool-complete, bool-canonical, bool-shortest, bool-some, bool-lefts}
use Rattle.wire_types.specs.Spelling.{int_written, bool_written, varint_written, count_number, null_count_fits, compact_null_count_written, compact_null_count_fits, many_written, many_fit, after_count_written, after_count_fits, left_after}
use Rattle.wire_types.specs.VarintLaws.{varint-sound, varint-complete, varint-canonical, varint-shortest, varint-some}
use Rattle.wire_types.specs.CountLaws.{TellsCounts, null_count-sound, null_count-complete, null_count-puts, null_count-canonical, null_count-shortest, null_count-some, null_count-lefts, compact_count-sound, compact_count-complete, compact_count-canonical, compact_count-shortest, compact_count-some}
use Rattle.wire_types.specs.Zigzag.{unzigzag, zigzag, zigzag-unzigzag, unzigzag-zigzag}
use Rattle.wire_types.specs.ListLaws.{IsLeast}
use Rattle.wire_types.specs.Combinators.{◌⨟◌, struct, required_count, raw, utf8, items, after_count, after_null_count, skipped_value}

-- an unsigned number, big-endian
abbrev pub uint32 : Grammar ℕ
uint32 = record {
  Spells = IsNat w32;
  reading = nat_at w32;
  written = to_be_bytes w32;
  put = λ old n. old ++ to_be_bytes w32 n;
  fits = λ _. true;
  left = λ _. left_after true 4;
  InType = λ n. n < 2 ^ 32;
  puts = λ old n. refl;
  lefts = nat-lefts;
  sound = nat-sound w32;
  complete = nat-complete w32;
  canonical = λ n h _. nat-canonical n h;
  shortest = nat-shortest;
  some_bytes = nat-some w32 wide32;
}

abbrev pub int_grammar : (w : Width) → IsWide w → Grammar ℤ
int_grammar w wide = record {
  Spells = IsInt w;
  reading = int_at w;
  written = int_written w;
  put = λ old x. old ++ int_written w x;
  fits = λ _. true;
  left = λ _. left_after true (byte_len w);
  InType = FitsSigned w;
  puts = λ old x. refl;
  lefts = int-lefts w wide;
  sound = int-sound w;
  complete = int-complete w;
  canonical = λ z h _. int-canonical w wide z h;
  shortest = int-shortest w wide;
  some_bytes = int-some w wide;
}

abbrev pub int8 : Grammar ℤ
int8 = int_grammar w8 wide8

abbrev pub int16 : Grammar ℤ
int16 = int_grammar w16 wide16

abbrev pub int32 : Grammar ℤ
int32 = int_grammar w32 wide32

abbrev pub int64 : Grammar ℤ
int64 = int_grammar w64 wide64

abbrev pub boolean : Grammar Bool
boolean = record {
  Spells = IsBool;
  reading = bool_at;
  written = bool_written;
  put = λ old x. old ++ bool_written x;
  fits = λ _. true;
  left = λ _. left_after true 1;
  InType = λ _. Unit {0};
  puts = λ old x. refl;
  lefts = bool-lefts;
  sound = bool-sound;
  complete = bool-complete;
  canonical = λ b _ _. bool-canonical b;
  shortest = bool-shortest;
  some_bytes = bool-some;
}

-- ---- numbers of variable length

abbrev pub base128 : ℕ → ℕ → Grammar ℕ
base128 k top = record {
  Spells = IsVarint k top;
  reading = varint_at k top;
  written = varint_written k;
  put = λ old n. old ++ varint_written k n;
  fits = λ _. true;
  left = λ n. left_after true (length (varint_written k n));
  InType = λ n. n < varint_limit k top;
  puts = λ old n. refl;
  lefts = λ n budget. refl;
  sound = varint-sound k top;
  complete = varint-complete k top;
  canonical = λ n h _. varint-canonical k top n h;
  shortest = varint-shortest k top;
  some_bytes = varint-some k top;
}

-- in 32 bits: up to five bytes, the fifth at most 15
abbrev pub uvarint : Grammar ℕ
uvarint = base128 4 15

-- in 64 bits: up to ten bytes, the tenth at most 1
abbrev pub uvarlong : Grammar ℕ
uvarlong = base128 9 1

-- the same of zigzag forms
abbrev pub varint : Grammar ℤ
varint = struct unzigzag zigzag zigzag-unzigzag unzigzag-zigzag uvarint

abbrev pub varlong : Grammar ℤ
varlong = struct unzigzag zigzag zigzag-unzigzag unzigzag-zigzag uvarlong

-- ---- counts

-- told by a signed number, -1 being null
abbrev pub null_count : (g : Grammar ℤ) (limit : ℕ) → TellsCounts g limit → Grammar (Option ℕ)
null_count g limit counts = record {
  Spells = IsNullCount g.Spells;
  reading = null_count_at g.reading;
  written = λ o. g.written (count_number o);
  put = λ old o. g.put old (count_number o);
  fits = null_count_fits limit;
  left = λ o budget. if null_count_fits limit o then g.left (count_number o) budget else None;
  InType = λ _. Unit {0};
  puts = null_count-puts g;
  lefts = null_count-lefts g limit counts;
  sound = null_count-sound g;
  complete = null_count-complete g;
  canonical = λ o _. null_count-canonical g limit counts o;
  shortest = null_count-shortest g limit counts;
  some_bytes = null_count-some g;
}

pub int16_tells : TellsCounts int16 (2 ^ 15)
int16_tells =
    record {
      below = λ n lt. record { sfits = lt };
      inside = λ n fits. fits.sfits;
      null = record { sfits = lit< tt };
      fits = λ z. refl;
    }

pub int32_tells : TellsCounts int32 (2 ^ 31)
int32_tells =
    record {
      below = λ n lt. record { sfits = lt };
      inside = λ n fits. fits.sfits;
      null = record { sfits = lit< tt };
      fits = λ z. refl;
    }

pub varint_tells : TellsCounts varint (2 ^ 31)
unfolding varint_limit
varint_tells =
    record {
      below = λ n lt. omega (arith, lt);
      inside = λ n fits. omega (arith, fits);
      null = lit< tt;
      fits = λ z. refl;
    }

-- in two bytes
abbrev pub null_count16 : Grammar (Option ℕ)
null_count16 = null_count int16 (2 ^ 15) int16_tells

-- in four bytes
abbrev pub null_count32 : Grammar (Option ℕ)
null_count32 = null_count int32 (2 ^ 31) int32_tells

-- in a signed number of variable length
abbrev pub varint_null_count : Grammar (Option ℕ)
varint_null_count = null_count varint (2 ^ 31) varint_tells

-- one more than the count in a number of variable length, and 0 for null
abbrev pub compact_null_count : Grammar (Option ℕ)
compact_null_count = record {
  Spells = IsCompactNullCount;
  reading = compact_null_count_at;
  written = compact_null_count_written;
  put = λ old o. old ++ compact_null_count_written o;
  fits = compact_null_count_fits;
  left = λ o. left_after (compact_null_count_fits o) (length (compact_null_count_written o));
  InType = λ _. Unit {0};
  puts = λ old o. refl;
  lefts = λ o budget. refl;
  sound = compact_count-sound;
  complete = compact_count-complete;
  canonical = λ o _. compact_count-canonical o;
  shortest = compact_count-shortest;
  some_bytes = compact_count-some;
}

abbrev pub count16 : Grammar ℕ
count16 = required_count null_count16

abbrev pub count32 : Grammar ℕ
count32 = required_count null_count32

abbrev pub varint_count : Grammar ℕ
varint_count = required_count varint_null_count

abbrev pub compact_count : Grammar ℕ
compact_count = required_count compact_null_count

-- ---- texts, bytes and arrays

abbrev pub string : Grammar (List ℕ)
string = after_count count16 utf8

abbrev pub nullable_string : Grammar (Option (List ℕ))
nullable_string = after_null_count null_count16 utf8

abbrev pub bytes : Grammar (List ℕ)
bytes = after_count count32 raw

abbrev pub nullable_bytes : Grammar (Option (List ℕ))
nullable_bytes = after_null_count null_count32 raw

abbrev pub array : {A : Type 0} → Grammar A → Grammar (List A)
array g = after_count count32 (items g)

abbrev pub nullable_array : {A : Type 0} → Grammar A → Grammar (Option (List A))
nullable_array g = after_null_count null_count32 (items g)

abbrev pub compact_string : Grammar (List ℕ)
compact_string = after_count compact_count utf8

abbrev pub compact_nullable_string : Grammar (Option (List ℕ))
compact_nullable_string = after_null_count compact_null_count utf8

abbrev pub compact_bytes : Grammar (List ℕ)
compact_bytes = after_count compact_count raw

abbrev pub compact_nullable_bytes : Grammar (Option (List ℕ))
compact_nullable_bytes = after_null_count compact_null_count raw

abbrev pub varint_bytes : Grammar (List ℕ)
varint_bytes = after_count varint_count raw

abbrev pub varint_nullable_bytes : Grammar (Option (List ℕ))
varint_nullable_bytes = after_null_count varint_null_count raw

abbrev pub varint_array : {A : Type 0} → Grammar A → Grammar (List A)
varint_array g = after_count varint_count (items g)

abbrev pub compact_array : {A : Type 0} → Grammar A → Grammar (List A)
compact_array g = after_count compact_count (items g)

abbrev pub compact_nullable_array : {A : Type 0} → Grammar A → Grammar (Option (List A))
compact_nullable_array g = after_null_count compact_null_count (items g)

-- ---- tagged sections

-- a tag, and so many bytes
abbrev pub field : Grammar (ℕ × List ℕ)
field = uvarint ⨟ after_count uvarint raw

abbrev pub fields : Grammar (List (ℕ × List ℕ))
fields = after_count uvarint (items field)

pub no_fields : IsLeast fields [] 1
unfolding varint_limit varint_written after_count_written after_count_fits many_written many_fit
no_fields = record {
  in_type = (lit< tt, tt);
  fits = refl;
  sized = refl;
  shortest = λ text x h. fields.some_bytes text x h;
}

-- a tagged section, whose fields are skipped
abbrev pub tags : Grammar (Unit {0})
tags = skipped_value fields [] 1 no_fields

-- a struct after which a tagged section stands
abbrev pub tagged_struct : {A S : Type 0} (make : A → S) (parts : S → A)
    → ((x : A) → parts (make x) ≡ x) → ((s : S) → make (parts s) ≡ s) → Grammar A → Grammar S
tagged_struct {A} make parts parts_make make_parts g =
    struct (λ (x : A × Unit {0}). make x.0) (λ s. (parts s, tt))
    (λ x. ap (λ (y : A). (y, tt)) (parts_make x.0)) make_parts (g ⨟ tags)
