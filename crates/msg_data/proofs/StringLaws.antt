-- A value fits exactly where its texts are short, as long as fewer than 2 ^ 31 bytes are written for it.
use Rattle.std.proofs.Common.{◌≡◌, ℕ, ℤ, pos, ◌+◌, ◌<◌, ◌≤◌, ◌^◌, Bool, true, false, List, [], ◌∷◌, ◌++◌, length, Option, Some, None, refl, sym, ap, ◌∙◌, arith}
use Rattle.std.specs.Int.{Width, cast_unsigned}
use Rattle.std.specs.List.{list_all, flat_map}
use Rattle.std.proofs.lemmas.Bool.{lt-ltb, ltb-true, le-leb, leb-true}
use Rattle.std.proofs.lemmas.List.{length-append}
use Rattle.std.proofs.lemmas.List.Folds.{list_all-append}
use Rattle.std.proofs.lemmas.List.Concat.{flat_map-cons}
use Rattle.wire_types.specs.Grammar.{Grammar}
use Rattle.wire_types.specs.Spelling.{int_written, bool_written, after_count_written, after_count_fits, after_null_count_written, after_null_count_fits, null_count_fits, many_fit, many_written}
use Rattle.wire_types.specs.ListLaws.{and_parts}
use Rattle.wire_types.specs.NumberLaws.{IsWide}
use Rattle.wire_types.specs.Combinators.{◌⨟◌, struct}
use Rattle.wire_types.specs.Schema.{int_grammar, int32, boolean, string, nullable_string, bytes, array, nullable_array}
use Rattle.msg_data.specs.Strings.{is_short, text_of}
use Rattle.wire_types.specs.Coded.{coded_value}

pub record TellsStrings {A : Type 0} (g : Grammar A) (strings : A → List (List ℕ)) : Type 0 where
  pub short : (x : A) → g.fits x ≡ true → list_all is_short (strings x) ≡ true
  pub fits : (x : A) → list_all is_short (strings x) ≡ true → length (g.written x) < 2 ^ 31 → g.fits x ≡ true
  pub some : (x : A) → 0 < length (g.written x)

-- no text at all
abbrev pub no_strings : {A : Type 0} → A → List (List ℕ)
no_strings x = []

-- ---- primitives

int_some : (w : Width) → IsWide w → (z : ℤ) → 0 < length (int_written w z)
unfolding int_written
int_some w wide z = omega (arith, wide.len (cast_unsigned w z), wide.some)

pub int_strings : (w : Width) (wide : IsWide w) → TellsStrings (int_grammar w wide) no_strings
int_strings w wide = record { short = λ x e. refl; fits = λ x short lt. refl; some = int_some w wide }

bool_some : (b : Bool) → 0 < length (bool_written b)
unfolding bool_written
bool_some true = omega arith
bool_some false = omega arith

pub bool_strings : TellsStrings boolean no_strings
bool_strings = record { short = λ x e. refl; fits = λ x short lt. refl; some = bool_some }

-- ---- parts

pub both_strings : {A B : Type 0} {f : Grammar A} {g : Grammar B} {s : A → List (List ℕ)} {t : B → List (List ℕ)} → TellsStrings f s → TellsStrings g t → TellsStrings (f ⨟ g) (λ x. s x.0 ++ t x.1)
both_strings {f = f} {g = g} {s = s} {t = t} p q = record {
  short = λ x e.
      let both = and_parts (f.fits x.0) (g.fits x.1) e in
      list_all-append is_short (s x.0) (t x.1) ∙ rw (p.short x.0 both.0, q.short x.1 both.1) refl;
  fits = λ x short lt.
      let both = and_parts (list_all is_short (s x.0)) (list_all is_short (t x.1)) (sym (list_all-append is_short (s x.0) (t x.1)) ∙ short) in
      let len = length-append (f.written x.0) (g.written x.1) in
      rw (p.fits x.0 both.0 (omega (arith, lt, len)), q.fits x.1 both.1 (omega (arith, lt, len))) refl;
  some = λ x. omega (arith, p.some x.0, length-append (f.written x.0) (g.written x.1));
}

-- no text in the rest
pub front_strings : {A B : Type 0} {f : Grammar A} {g : Grammar B} {s : A → List (List ℕ)} → TellsStrings f s → TellsStrings g no_strings → TellsStrings (f ⨟ g) (λ x. s x.0)
front_strings {f = f} {g = g} p q = record {
  short = λ x e. p.short x.0 (and_parts (f.fits x.0) (g.fits x.1) e).0;
  fits = λ x short lt.
      let len = length-append (f.written x.0) (g.written x.1) in
      rw (p.fits x.0 short (omega (arith, lt, len)), q.fits x.1 refl (omega (arith, lt, len))) refl;
  some = λ x. omega (arith, p.some x.0, length-append (f.written x.0) (g.written x.1));
}

pub struct_strings : {A S : Type 0} (make : A → S) (parts : S → A) (parts_make : (x : A) → parts (make x) ≡ x) (make_parts : (s : S) → make (parts s) ≡ s) (g : Grammar A) (s : A → List (List ℕ))
    → TellsStrings g s → TellsStrings (struct make parts parts_make make_parts g) (λ x. s (parts x))
struct_strings make parts parts_make make_parts g s p = record { short = λ x. p.short (parts x); fits = λ x. p.fits (parts x); some = λ x. p.some (parts x) }

pub coded_strings : {A S : Type 0} (code : S → A) (named : A → Option S) (told : (s : S) → named (code s) ≡ Some s) (tells : (a : A) (s : S) → named a ≡ Some s → code s ≡ a) (g : Grammar A)
    → TellsStrings g no_strings → TellsStrings (coded_value code named told tells g) no_strings
coded_strings code named told tells g p = record { short = λ x. p.short (code x); fits = λ x. p.fits (code x); some = λ x. p.some (code x) }

-- ---- texts

short_fits : (t : List ℕ) → is_short t ≡ true → null_count_fits (2 ^ 15) (Some (length t)) ≡ true
unfolding null_count_fits
short_fits t short = lt-ltb _ _ (omega (arith, leb-true _ _ short))

fits_short : (t : List ℕ) → null_count_fits (2 ^ 15) (Some (length t)) ≡ true → is_short t ≡ true
unfolding null_count_fits
fits_short t fits = le-leb _ _ (omega (arith, ltb-true _ _ fits))

one_short : (t : List ℕ) → is_short t ≡ true → list_all is_short (t ∷ []) ≡ true
one_short t short = rw short refl

one_is : (t : List ℕ) → list_all is_short (t ∷ []) ≡ true → is_short t ≡ true
one_is t all = (and_parts (is_short t) true all).0

string_some : (t : List ℕ) → 0 < length (string.written t)
unfolding after_count_written int_written
string_some t = omega arith

pub string_strings : TellsStrings string (λ t. t ∷ [])
unfolding after_count_fits
string_strings = record {
  short = λ t e. one_short t (fits_short t (and_parts (null_count_fits (2 ^ 15) (Some (length t))) true e).0);
  fits = λ t all lt. rw (short_fits t (one_is t all)) refl;
  some = string_some;
}

nullable_short : (o : Option (List ℕ)) → nullable_string.fits o ≡ true → list_all is_short (text_of o) ≡ true
unfolding after_null_count_fits
nullable_short None e = refl
nullable_short (Some t) e = one_short t (fits_short t (and_parts (null_count_fits (2 ^ 15) (Some (length t))) true e).0)

nullable_fits : (o : Option (List ℕ)) → list_all is_short (text_of o) ≡ true → nullable_string.fits o ≡ true
unfolding after_null_count_fits null_count_fits
nullable_fits None all = refl
nullable_fits (Some t) all = rw (short_fits t (one_is t all)) refl

nullable_some : (o : Option (List ℕ)) → 0 < length (nullable_string.written o)
unfolding after_null_count_written int_written
nullable_some None = omega arith
nullable_some (Some t) = omega arith

pub nullable_strings : TellsStrings nullable_string text_of
nullable_strings = record { short = nullable_short; fits = λ o all lt. nullable_fits o all; some = nullable_some }

-- ---- lists

many_short : {A : Type 0} (g : Grammar A) (s : A → List (List ℕ)) → TellsStrings g s → (xs : List A) → many_fit g.fits xs ≡ true → list_all is_short (flat_map s xs) ≡ true
unfolding many_fit
many_short g s p [] e = refl
many_short g s p (x ∷ xs) e =
    let both = and_parts (g.fits x) (many_fit g.fits xs) e in
    ap (list_all is_short) (flat_map-cons s x xs) ∙ list_all-append is_short (s x) (flat_map s xs) ∙ rw (p.short x both.0, many_short g s p xs both.1) refl

many_fits : {A : Type 0} (g : Grammar A) (s : A → List (List ℕ)) → TellsStrings g s → (xs : List A) → list_all is_short (flat_map s xs) ≡ true
    → length (many_written g.written xs) < 2 ^ 31 → many_fit g.fits xs ≡ true
unfolding many_fit many_written
many_fits g s p [] all lt = refl
many_fits g s p (x ∷ xs) all lt =
    let parts : list_all is_short (s x ++ flat_map s xs) ≡ true = sym (ap (list_all is_short) (flat_map-cons s x xs)) ∙ all in
    let both = and_parts (list_all is_short (s x)) (list_all is_short (flat_map s xs)) (sym (list_all-append is_short (s x) (flat_map s xs)) ∙ parts) in
    let len = length-append (g.written x) (many_written g.written xs) in
    rw (p.fits x both.0 (omega (arith, lt, len)), many_fits g s p xs both.1 (omega (arith, lt, len))) refl

-- each item takes a byte at least
many_some : {A : Type 0} (g : Grammar A) (s : A → List (List ℕ)) → TellsStrings g s → (xs : List A) → length xs ≤ length (many_written g.written xs)
unfolding many_written
many_some g s p [] = omega arith
many_some g s p (x ∷ xs) = omega (arith, p.some x, many_some g s p xs, length-append (g.written x) (many_written g.written xs))

count_len : (n : ℕ) → length (int32.written (pos n)) ≡ 4
unfolding int_written
count_len n = refl

array_len : {A : Type 0} (g : Grammar A) (xs : List A) → length ((array g).written xs) ≡ 4 + length (many_written g.written xs)
unfolding after_count_written
array_len g xs = length-append (int32.written (pos (length xs))) (many_written g.written xs) ∙ ap (λ (n : ℕ). n + length (many_written g.written xs)) (count_len (length xs))

count_fits : (n : ℕ) → n < 2 ^ 31 → null_count_fits (2 ^ 31) (Some n) ≡ true
unfolding null_count_fits
count_fits n lt = lt-ltb _ _ lt

pub array_strings : {A : Type 0} {g : Grammar A} {s : A → List (List ℕ)} → TellsStrings g s → TellsStrings (array g) (flat_map s)
unfolding after_count_fits
array_strings {g = g} {s = s} p = record {
  short = λ xs e. many_short g s p xs (and_parts (null_count_fits (2 ^ 31) (Some (length xs))) (many_fit g.fits xs) e).1;
  fits = λ xs all lt.
      let len = array_len g xs in
      let counted = count_fits (length xs) (omega (arith, lt, len, many_some g s p xs)) in
      rw (counted, many_fits g s p xs all (omega (arith, lt, len))) refl;
  some = λ xs. omega (arith, array_len g xs);
}

none_in : {A : Type 0} (xs : List A) → flat_map no_strings xs ≡ []
none_in [] = refl
none_in (x ∷ xs) = flat_map-cons no_strings x xs ∙ none_in xs

-- items without texts
pub plain_array : {A : Type 0} {g : Grammar A} → TellsStrings g no_strings → TellsStrings (array g) no_strings
plain_array p =
    let q = array_strings p in
    record { short = λ xs e. refl; fits = λ xs all. q.fits xs (ap (list_all is_short) (none_in xs)); some = q.some }

-- ---- bytes, and items that may be null

bytes_len : (t : List ℕ) → length (bytes.written t) ≡ 4 + length t
unfolding after_count_written
bytes_len t = length-append (int32.written (pos (length t))) t ∙ ap (λ (n : ℕ). n + length t) (count_len (length t))

pub bytes_strings : TellsStrings bytes no_strings
unfolding after_count_fits
bytes_strings = record {
  short = λ t e. refl;
  fits = λ t all lt. let counted = count_fits (length t) (omega (arith, lt, bytes_len t)) in rw counted refl;
  some = λ t. omega (arith, bytes_len t);
}

nullable_fit : {A : Type 0} (g : Grammar A) → TellsStrings (array g) no_strings → (o : Option (List A)) → length ((nullable_array g).written o) < 2 ^ 31 → (nullable_array g).fits o ≡ true
unfolding after_null_count_written after_null_count_fits null_count_fits after_count_written after_count_fits
nullable_fit g p None lt = refl
nullable_fit g p (Some xs) lt = p.fits xs refl lt

nullable_len : {A : Type 0} (g : Grammar A) → TellsStrings (array g) no_strings → (o : Option (List A)) → 0 < length ((nullable_array g).written o)
unfolding after_null_count_written after_count_written int_written
nullable_len g p None = omega arith
nullable_len g p (Some xs) = p.some xs

-- items without texts that may be null
pub plain_nullable_array : {A : Type 0} {g : Grammar A} → TellsStrings g no_strings → TellsStrings (nullable_array g) no_strings
plain_nullable_array {g = g} p =
    let q = plain_array p in
    record { short = λ o e. refl; fits = λ o all lt. nullable_fit g q o lt; some = nullable_len g q }
