-- A value fits exactly where its texts are short, as long as fewer than 2 ^ 31 bytes are written for it.
use Rattle.std.proofs.Common.{◌≡◌, ℕ, ℤ, pos, ◌+◌, ◌<◌, ◌≤◌, ◌^◌, Bool, true, false, cond, List, [], ◌∷◌, ◌++◌, length, Option, Some, None, refl, sym, ap, ◌∙◌, arith}
use Rattle.std.specs.Int.{Width, w8, w16, w32, w64, cast_unsigned}
use Rattle.std.specs.List.{list_all, flat_map}
use Rattle.std.proofs.lemmas.Bool.{lt-ltb, ltb-true, le-leb, leb-true}
use Rattle.std.proofs.lemmas.List.{length-append}
use Rattle.std.proofs.lemmas.List.Folds.{list_all-append}
use Rattle.std.proofs.lemmas.List.Concat.{flat_map-cons}
use Rattle.wire_types.specs.Grammar.{Grammar, Content}
use Rattle.wire_types.specs.Spelling.{int_written, bool_written, varint_written, after_count_written, after_count_fits, after_null_count_written, after_null_count_fits, null_count_fits, compact_null_count_written, compact_null_count_fits, many_fit, many_written}
use Rattle.wire_types.specs.ListLaws.{and_parts}
use Rattle.wire_types.specs.NumberLaws.{IsWide, wide8, wide16, wide32, wide64}
use Rattle.wire_types.specs.Combinators.{◌⨟◌, struct, raw, utf8, items, after_count}
use Rattle.wire_types.specs.Schema.{int_grammar, int8, int16, int32, int64, boolean, compact_null_count, count32, compact_count, string, nullable_string, bytes, array, compact_string, compact_nullable_string, compact_array, tags, tagged_struct, no_fields}
use Rattle.wire_types.specs.ErrorCode.{error_code, number_of, code_of, code_of-number_of, number_of-code_of}
use Rattle.wire_types.specs.Topic.{topic_of, flexible_topic_of}
use Rattle.wire_types.specs.Strings.{is_short, text_of, name_of, no_strings}
use Rattle.wire_types.specs.Coded.{coded_value}

pub record TellsStrings {A : Type 0} (g : Grammar A) (strings : A → List (List ℕ)) : Type 0 where
  pub short : (x : A) → g.fits x ≡ true → list_all is_short (strings x) ≡ true
  pub fits : (x : A) → list_all is_short (strings x) ≡ true → length (g.written x) < 2 ^ 31 → g.fits x ≡ true
  pub some : (x : A) → 0 < length (g.written x)

-- ---- primitives

int_some : (w : Width) → IsWide w → (z : ℤ) → 0 < length (int_written w z)
unfolding int_written
int_some w wide z = omega (arith, wide.len (cast_unsigned w z), wide.some)

pub int_strings : (w : Width) (wide : IsWide w) → TellsStrings (int_grammar w wide) no_strings
int_strings w wide = record { short = λ x e. refl; fits = λ x short lt. refl; some = int_some w wide }

pub int8_strings : TellsStrings int8 no_strings
int8_strings = int_strings w8 wide8

pub int16_strings : TellsStrings int16 no_strings
int16_strings = int_strings w16 wide16

pub int32_strings : TellsStrings int32 no_strings
int32_strings = int_strings w32 wide32

pub int64_strings : TellsStrings int64 no_strings
int64_strings = int_strings w64 wide64

bool_some : (b : Bool) → 0 < length (bool_written b)
unfolding bool_written
bool_some true = omega arith
bool_some false = omega arith

pub bool_strings : TellsStrings boolean no_strings
bool_strings = record { short = λ x e. refl; fits = λ x short lt. refl; some = bool_some }

-- ---- parts

pub both_strings : {A B : Type 0} {f : Grammar A} {g : Grammar B} {s : A → List (List ℕ)} {t : B → List (List ℕ)} → TellsStrings f s → TellsStrings g t → TellsStrings (f ⨟ g) (λ x. s x.0 ++ t x.1)
both_strings {f = f} {g = g} {s = s} {t = t} p q = record {
  short = λ x e.
      let both = and_parts (f.fits x.0) (g.fits x.1) e in
      list_all-append is_short (s x.0) (t x.1) ∙ rw (p.short x.0 both.0, q.short x.1 both.1) refl;
  fits = λ x short lt.
      let both = and_parts (list_all is_short (s x.0)) (list_all is_short (t x.1)) (sym (list_all-append is_short (s x.0) (t x.1)) ∙ short) in
      let len = length-append (f.written x.0) (g.written x.1) in
      rw (p.fits x.0 both.0 (omega (arith, lt, len)), q.fits x.1 both.1 (omega (arith, lt, len))) refl;
  some = λ x. omega (arith, p.some x.0, length-append (f.written x.0) (g.written x.1));
}

-- no text in the rest
pub front_strings : {A B : Type 0} {f : Grammar A} {g : Grammar B} {s : A → List (List ℕ)} → TellsStrings f s → TellsStrings g no_strings → TellsStrings (f ⨟ g) (λ x. s x.0)
front_strings {f = f} {g = g} p q = record {
  short = λ x e. p.short x.0 (and_parts (f.fits x.0) (g.fits x.1) e).0;
  fits = λ x short lt.
      let len = length-append (f.written x.0) (g.written x.1) in
      rw (p.fits x.0 short (omega (arith, lt, len)), q.fits x.1 refl (omega (arith, lt, len))) refl;
  some = λ x. omega (arith, p.some x.0, length-append (f.written x.0) (g.written x.1));
}

pub struct_strings : {A S : Type 0} (make : A → S) (parts : S → A) (parts_make : (x : A) → parts (make x) ≡ x) (make_parts : (s : S) → make (parts s) ≡ s) (g : Grammar A) (s : A → List (List ℕ))
    → TellsStrings g s → TellsStrings (struct make parts parts_make make_parts g) (λ x. s (parts x))
struct_strings make parts parts_make make_parts g s p = record { short = λ x. p.short (parts x); fits = λ x. p.fits (parts x); some = λ x. p.some (parts x) }

pub coded_strings : {A S : Type 0} (code : S → A) (named : A → Option S) (told : (s : S) → named (code s) ≡ Some s) (tells : (a : A) (s : S) → named a ≡ Some s → code s ≡ a) (g : Grammar A)
    → TellsStrings g no_strings → TellsStrings (coded_value code named told tells g) no_strings
coded_strings code named told tells g p = record { short = λ x. p.short (code x); fits = λ x. p.fits (code x); some = λ x. p.some (code x) }

pub error_code_strings : TellsStrings error_code no_strings
error_code_strings = coded_strings number_of code_of code_of-number_of number_of-code_of int16 int16_strings

-- ---- texts

short_fits : (t : List ℕ) → is_short t ≡ true → null_count_fits (2 ^ 15) (Some (length t)) ≡ true
unfolding null_count_fits
short_fits t short = lt-ltb _ _ (omega (arith, leb-true _ _ short))

fits_short : (t : List ℕ) → null_count_fits (2 ^ 15) (Some (length t)) ≡ true → is_short t ≡ true
unfolding null_count_fits
fits_short t fits = le-leb _ _ (omega (arith, ltb-true _ _ fits))

one_short : (t : List ℕ) → is_short t ≡ true → list_all is_short (t ∷ []) ≡ true
one_short t short = rw short refl

one_is : (t : List ℕ) → list_all is_short (t ∷ []) ≡ true → is_short t ≡ true
one_is t all = (and_parts (is_short t) true all).0

string_some : (t : List ℕ) → 0 < length (string.written t)
unfolding after_count_written int_written
string_some t = omega arith

pub string_strings : TellsStrings string (λ t. t ∷ [])
unfolding after_count_fits
string_strings = record {
  short = λ t e. one_short t (fits_short t (and_parts (null_count_fits (2 ^ 15) (Some (length t))) true e).0);
  fits = λ t all lt. rw (short_fits t (one_is t all)) refl;
  some = string_some;
}

nullable_short : (o : Option (List ℕ)) → nullable_string.fits o ≡ true → list_all is_short (text_of o) ≡ true
unfolding after_null_count_fits
nullable_short None e = refl
nullable_short (Some t) e = one_short t (fits_short t (and_parts (null_count_fits (2 ^ 15) (Some (length t))) true e).0)

nullable_fits : (o : Option (List ℕ)) → list_all is_short (text_of o) ≡ true → nullable_string.fits o ≡ true
unfolding after_null_count_fits null_count_fits
nullable_fits None all = refl
nullable_fits (Some t) all = rw (short_fits t (one_is t all)) refl

nullable_some : (o : Option (List ℕ)) → 0 < length (nullable_string.written o)
unfolding after_null_count_written int_written
nullable_some None = omega arith
nullable_some (Some t) = omega arith

pub nullable_strings : TellsStrings nullable_string text_of
nullable_strings = record { short = nullable_short; fits = λ o all lt. nullable_fits o all; some = nullable_some }

-- ---- lists

many_short : {A : Type 0} (g : Grammar A) (s : A → List (List ℕ)) → TellsStrings g s → (xs : List A) → many_fit g.fits xs ≡ true → list_all is_short (flat_map s xs) ≡ true
unfolding many_fit
many_short g s p [] e = refl
many_short g s p (x ∷ xs) e =
    let both = and_parts (g.fits x) (many_fit g.fits xs) e in
    ap (list_all is_short) (flat_map-cons s x xs) ∙ list_all-append is_short (s x) (flat_map s xs) ∙ rw (p.short x both.0, many_short g s p xs both.1) refl

many_fits : {A : Type 0} (g : Grammar A) (s : A → List (List ℕ)) → TellsStrings g s → (xs : List A) → list_all is_short (flat_map s xs) ≡ true
    → length (many_written g.written xs) < 2 ^ 31 → many_fit g.fits xs ≡ true
unfolding many_fit many_written
many_fits g s p [] all lt = refl
many_fits g s p (x ∷ xs) all lt =
    let parts : list_all is_short (s x ++ flat_map s xs) ≡ true = sym (ap (list_all is_short) (flat_map-cons s x xs)) ∙ all in
    let both = and_parts (list_all is_short (s x)) (list_all is_short (flat_map s xs)) (sym (list_all-append is_short (s x) (flat_map s xs)) ∙ parts) in
    let len = length-append (g.written x) (many_written g.written xs) in
    rw (p.fits x both.0 (omega (arith, lt, len)), many_fits g s p xs both.1 (omega (arith, lt, len))) refl

-- each item takes a byte at least
many_some : {A : Type 0} (g : Grammar A) (s : A → List (List ℕ)) → TellsStrings g s → (xs : List A) → length xs ≤ length (many_written g.written xs)
unfolding many_written
many_some g s p [] = omega arith
many_some g s p (x ∷ xs) = omega (arith, p.some x, many_some g s p xs, length-append (g.written x) (many_written g.written xs))

count_len : (n : ℕ) → length (int32.written (pos n)) ≡ 4
unfolding int_written
count_len n = refl

array_len : {A : Type 0} (g : Grammar A) (xs : List A) → length ((array g).written xs) ≡ 4 + length (many_written g.written xs)
unfolding after_count_written
array_len g xs = length-append (int32.written (pos (length xs))) (many_written g.written xs) ∙ ap (λ (n : ℕ). n + length (many_written g.written xs)) (count_len (length xs))

count_fits : (n : ℕ) → n < 2 ^ 31 → null_count_fits (2 ^ 31) (Some n) ≡ true
unfolding null_count_fits
count_fits n lt = lt-ltb _ _ lt

pub array_strings : {A : Type 0} {g : Grammar A} {s : A → List (List ℕ)} → TellsStrings g s → TellsStrings (array g) (flat_map s)
unfolding after_count_fits
array_strings {g = g} {s = s} p = record {
  short = λ xs e. many_short g s p xs (and_parts (null_count_fits (2 ^ 31) (Some (length xs))) (many_fit g.fits xs) e).1;
  fits = λ xs all lt.
      let len = array_len g xs in
      let counted = count_fits (length xs) (omega (arith, lt, len, many_some g s p xs)) in
      rw (counted, many_fits g s p xs all (omega (arith, lt, len))) refl;
  some = λ xs. omega (arith, array_len g xs);
}

none_in : {A : Type 0} (xs : List A) → flat_map no_strings xs ≡ []
none_in [] = refl
none_in (x ∷ xs) = flat_map-cons no_strings x xs ∙ none_in xs

-- items without texts
pub plain_array : {A : Type 0} {g : Grammar A} → TellsStrings g no_strings → TellsStrings (array g) no_strings
plain_array p =
    let q = array_strings p in
    record { short = λ xs e. refl; fits = λ xs all. q.fits xs (ap (list_all is_short) (none_in xs)); some = q.some }

pub topic_strings : {P : Type 0} {g : Grammar P} → TellsStrings g no_strings → TellsStrings (topic_of g) name_of
topic_strings p = struct_strings _ _ _ _ _ _ (front_strings string_strings (plain_array p))

-- ---- what stands after other counts

-- a content whose count and fitting follow from its length
abbrev pub IsCounted : {A : Type 0} → Content A → Type 0
IsCounted {A} k = (x : A) → length (k.written x) < 2 ^ 31 → (k.count x < 2 ^ 31) × (k.fits x ≡ true)

after_strings : {A : Type 0} (c : Grammar ℕ) (k : Content A) → ((n : ℕ) → n < 2 ^ 31 → c.fits n ≡ true) → ((n : ℕ) → 0 < length (c.written n)) → IsCounted k → TellsStrings (after_count c k) no_strings
unfolding after_count_fits after_count_written
after_strings c k fit some counted = record {
  short = λ x e. refl;
  fits = λ x short lt.
      let p = counted x (omega (arith, lt, length-append (c.written (k.count x)) (k.written x))) in
      rw (fit (k.count x) p.0, p.1) refl;
  some = λ x. omega (arith, some (k.count x), length-append (c.written (k.count x)) (k.written x));
}

raw_counted : IsCounted raw
raw_counted t lt = (lt, refl)

utf8_counted : IsCounted utf8
utf8_counted t lt = (lt, refl)

items_counted : {A : Type 0} {g : Grammar A} → TellsStrings g no_strings → IsCounted (items g)
items_counted {g = g} p xs lt = (omega (arith, lt, many_some g no_strings p xs), many_fits g no_strings p xs (ap (list_all is_short) (none_in xs)) lt)

count_some : (n : ℕ) → 0 < length (count32.written n)
count_some n = omega (arith, count_len n)

pub bytes_strings : TellsStrings bytes no_strings
bytes_strings = after_strings count32 raw count_fits count_some raw_counted

-- ---- compact forms

digit_some : (b : Bool) (x y : ℕ) (rest : List ℕ) → 0 < length (cond b (x ∷ []) (y ∷ rest))
digit_some true x y rest = omega arith
digit_some false x y rest = omega arith

compact_fits : (n : ℕ) → n < 2 ^ 31 → compact_count.fits n ≡ true
unfolding compact_null_count_fits
compact_fits n lt = lt-ltb _ _ (omega (arith, lt))

compact_some : (o : Option ℕ) → 0 < length (compact_null_count.written o)
unfolding compact_null_count_written varint_written
compact_some None = omega arith
compact_some (Some n) = digit_some _ _ _ _

pub compact_string_strings : TellsStrings compact_string no_strings
compact_string_strings = after_strings compact_count utf8 compact_fits (λ n. compact_some (Some n)) utf8_counted

pub compact_array_strings : {A : Type 0} {g : Grammar A} → TellsStrings g no_strings → TellsStrings (compact_array g) no_strings
compact_array_strings {g = g} p = after_strings compact_count (items g) compact_fits (λ n. compact_some (Some n)) (items_counted p)

compact_null_fits : (o : Option (List ℕ)) → length (compact_nullable_string.written o) < 2 ^ 31 → compact_nullable_string.fits o ≡ true
unfolding after_null_count_fits after_null_count_written compact_null_count_fits
compact_null_fits None lt = refl
compact_null_fits (Some t) lt = rw (lt-ltb (length t + 1) (2 ^ 32) (omega (arith, lt, length-append (compact_null_count.written (Some (length t))) t))) refl

compact_null_some : (o : Option (List ℕ)) → 0 < length (compact_nullable_string.written o)
unfolding after_null_count_written
compact_null_some None = compact_some None
compact_null_some (Some t) = omega (arith, compact_some (Some (length t)), length-append (compact_null_count.written (Some (length t))) t)

pub compact_nullable_strings : TellsStrings compact_nullable_string no_strings
compact_nullable_strings = record { short = λ o e. refl; fits = λ o short. compact_null_fits o; some = compact_null_some }

tags_some : (s : Unit {0}) → 0 < length (tags.written s)
tags_some s = omega (arith, no_fields.sized)

tags_strings : TellsStrings tags no_strings
tags_strings = record { short = λ s e. refl; fits = λ s short lt. refl; some = tags_some }

pub tagged_strings : {A S : Type 0} (make : A → S) (parts : S → A) (parts_make : (x : A) → parts (make x) ≡ x) (make_parts : (s : S) → make (parts s) ≡ s) (g : Grammar A)
    → TellsStrings g no_strings → TellsStrings (tagged_struct make parts parts_make make_parts g) no_strings
tagged_strings make parts parts_make make_parts g p =
    struct_strings _ _ _ _ _ _ (both_strings p tags_strings)

pub flexible_topic_strings : {P : Type 0} {g : Grammar P} → TellsStrings g no_strings → TellsStrings (flexible_topic_of g) no_strings
unfolding flexible_topic_of
flexible_topic_strings p = tagged_strings _ _ _ _ _ (both_strings compact_string_strings (compact_array_strings p))
