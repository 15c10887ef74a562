-- What `parse` reads where no sign stands first.
use Rattle.std.proofs.Common.{◌≡◌, ◌≢◌, ℕ, ◌<◌, ◌^◌, true, ◌&&◌, nat_lt, List, [], ◌∷◌, ◌++◌, length, Some, None, Result, Ok, Err, refl, sym, ap, subst, ◌∙◌, arith}
use Rattle.std.specs.Prelude.{slice_index}
use Rattle.std.specs.Result.{OkIff}
use Rattle.std.specs.Char.{encode_utf8}
use Rattle.std.specs.Str.{all_ascii_digits}
use Rattle.std.specs.Str.Parse.{digits_value, ParsesUnsigned}
use Rattle.std.proofs.lemmas.Bool.{and_parts, cond-false, false_from_ne_true, lt-ltb, ltb-true}
use Rattle.std.proofs.lemmas.Str.Parse.{numerals_by_value, tells_all_ascii_digits, parse_plain}
use Rattle.commands.specs.Order.{number_of}

-- the conditions of `number_of`, one by one
abbrev IsNumber : List ℕ → Type 0
IsNumber bs = (all_ascii_digits bs ≡ true) × (0 < length bs) × (digits_value 10 bs < 2 ^ 64)

number_some : (bs : List ℕ) → IsNumber bs → number_of bs ≡ Some (digits_value 10 bs)
number_some bs (digits, some, fits) = rw (lt-ltb 0 (length bs) some, digits, lt-ltb (digits_value 10 bs) (2 ^ 64) fits) refl

number_none : (bs : List ℕ) → ¬ (IsNumber bs) → number_of bs ≡ None
number_none bs none = cond-false _ _ _ (false_from_ne_true _ (λ all.
    let outer = and_parts (nat_lt 0 (length bs) && all_ascii_digits bs) _ all in
    let inner = and_parts (nat_lt 0 (length bs)) _ outer.0 in
    none (inner.1, ltb-true 0 _ inner.0, ltb-true (digits_value 10 bs) (2 ^ 64) outer.1)))

no_plus : (bs : List ℕ) → ((rest : List ℕ) → bs ≢ encode_utf8 43 ++ rest) → slice_index bs 0 ≢ 43
unfolding encode_utf8
no_plus [] none at = omega (arith, at)
no_plus (b ∷ bs) none at = none bs (ap (λ x. x ∷ bs) at)

parsed_plain : {E : Type 0} (bs : List ℕ) (r : Result ℕ E) → ((rest : List ℕ) → bs ≢ encode_utf8 43 ++ rest) → ParsesUnsigned 64 10 bs r → OkIff r (IsNumber bs) (digits_value 10 bs)
parsed_plain bs r none parsed = parse_plain (numerals_by_value _ tells_all_ascii_digits) 64 bs r parsed (no_plus bs none)

-- where no plus stands first, what was read is the number
pub number_read : {E : Type 0} (bs : List ℕ) (r : Result ℕ E) (n : ℕ) → ((rest : List ℕ) → bs ≢ encode_utf8 43 ++ rest) → ParsesUnsigned 64 10 bs r → r ≡ Ok n → Some n ≡ number_of bs
number_read bs r n none parsed is =
    let h = subst (λ x. OkIff x (IsNumber bs) (digits_value 10 bs)) is (parsed_plain bs r none parsed) in
    sym (number_some bs h.0 ∙ ap Some (sym h.1))

-- and where nothing was read there is none
pub number_unread : {E : Type 0} (bs : List ℕ) (r : Result ℕ E) (e : E) → ((rest : List ℕ) → bs ≢ encode_utf8 43 ++ rest) → ParsesUnsigned 64 10 bs r → r ≡ Err e → None ≡ number_of bs
number_unread bs r e none parsed is = sym (number_none bs (subst (λ x. OkIff x (IsNumber bs) (digits_value 10 bs)) is (parsed_plain bs r none parsed)))
