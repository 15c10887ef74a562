-- A number of variable length by its first byte, and those after it.
use Rattle.std.proofs.Common.{◌≡◌, ℕ, zero, suc, ◌+◌, ◌-◌, ◌*◌, ◌<◌, ◌≤◌, List, [], ◌∷◌, Ok, Err, true, false, ltb, refl, ap, ◌∙◌, arith}
use Rattle.std.proofs.lemmas.Bool.{le-ltb, lt-ltb}
use Rattle.wire_types.specs.declared.fault.Malformed.{Malformed}
use Rattle.wire_types.specs.Reading.{Found, ◌>>=◌, byte_at, varint_at, varint_limit}
use Rattle.wire_types.specs.NumberLaws.{ok_is}
use Rattle.wire_types.specs.VarintLaws.{limit_pos}

limit_less : (k top : ℕ) → 0 < k → varint_limit k top ≡ 128 * varint_limit (k - 1) top
unfolding varint_limit
limit_less zero top some = absurd (omega arith)
limit_less (suc k) top some = let same : suc k - 1 ≡ k = omega arith in rw same refl

pub limit_twice_less : (k top : ℕ) → 2 ≤ k → (varint_limit k top ≡ 128 * (128 * varint_limit (k - 2) top)) × (0 < varint_limit (k - 2) top)
limit_twice_less k top some =
    let same : k - 1 - 1 ≡ k - 2 = omega arith in
    (limit_less k top (omega arith) ∙ ap (λ (n : ℕ). 128 * n) (limit_less (k - 1) top (omega arith) ∙ ap (λ (j : ℕ). 128 * varint_limit j top) same), limit_pos (k - 2) top)

pub no_byte : (k top : ℕ) (bytes : List ℕ) (e : Malformed) → byte_at bytes ≡ Err e → varint_at k top bytes ≡ Err e
unfolding varint_at
no_byte zero top [] e fails = cc
no_byte (suc k) top [] e fails = cc
no_byte zero top (b ∷ rest) e fails = absurd cc
no_byte (suc k) top (b ∷ rest) e fails = absurd cc

pub last_byte : (k top : ℕ) (bytes : List ℕ) (b : ℕ) (rest : List ℕ) → 0 < k → byte_at bytes ≡ Ok (b, rest) → b < 128 → varint_at k top bytes ≡ Ok (b, rest)
unfolding varint_at
last_byte zero top bytes b rest some is small = absurd (omega arith)
last_byte (suc k) top [] b rest some is small = absurd cc
last_byte (suc k) top (c ∷ more) b rest some is small =
    let same : c ≡ b = ap (λ (x : ℕ × List ℕ). x.0) (ok_is (c, more) (b, rest) is) in
    let t : ltb c 128 ≡ true = lt-ltb _ _ (rw same small) in
    rw t is

-- the seven bits of a byte that isn't the last, below those of the others
abbrev and_low : ℕ → ℕ × List ℕ → Found ℕ
and_low b high = Ok ((b - 128) + 128 * high.0, high.1)

not_last_byte : (k top : ℕ) (bytes : List ℕ) (b : ℕ) (rest : List ℕ) → 0 < k → byte_at bytes ≡ Ok (b, rest) → 128 ≤ b → varint_at k top bytes ≡ (varint_at (k - 1) top rest >>= and_low b)
unfolding varint_at
not_last_byte zero top bytes b rest some is large = absurd (omega arith)
not_last_byte (suc k) top [] b rest some is large = absurd cc
not_last_byte (suc k) top (c ∷ more) b rest some is large =
    let same : c ≡ b = ap (λ (x : ℕ × List ℕ). x.0) (ok_is (c, more) (b, rest) is) in
    let tail : more ≡ rest = ap (λ (x : ℕ × List ℕ). x.1) (ok_is (c, more) (b, rest) is) in
    let less : suc k - 1 ≡ k = omega arith in
    let f : ltb c 128 ≡ false = le-ltb _ _ (rw same large) in
    rw (f, less, same, tail) refl

pub second_missing : (k top : ℕ) (bytes : List ℕ) (a : ℕ) (rest : List ℕ) (e : Malformed) → 2 ≤ k → byte_at bytes ≡ Ok (a, rest) → 128 ≤ a → byte_at rest ≡ Err e → varint_at k top bytes ≡ Err e
second_missing k top bytes a rest e some first large fails = rw (not_last_byte k top bytes a rest (omega arith) first large, no_byte (k - 1) top rest e fails) refl

pub second_last : (k top : ℕ) (bytes : List ℕ) (a : ℕ) (rest : List ℕ) (b : ℕ) (after : List ℕ) → 2 ≤ k → byte_at bytes ≡ Ok (a, rest) → 128 ≤ a → byte_at rest ≡ Ok (b, after) → b < 128 → varint_at k top bytes ≡ Ok ((a - 128) + 128 * b, after)
second_last k top bytes a rest b after some first large second small = rw (not_last_byte k top bytes a rest (omega arith) first large, last_byte (k - 1) top rest b after (omega arith) second small) refl

second_not_last : (k top : ℕ) (bytes : List ℕ) (a : ℕ) (rest : List ℕ) (b : ℕ) (after : List ℕ) → 2 ≤ k → byte_at bytes ≡ Ok (a, rest) → 128 ≤ a → byte_at rest ≡ Ok (b, after) → 128 ≤ b → varint_at k top bytes ≡ ((varint_at (k - 2) top after >>= and_low b) >>= and_low a)
second_not_last k top bytes a rest b after some first large second large_too =
    let less : k - 1 - 1 ≡ k - 2 = omega arith in
    rw (not_last_byte k top bytes a rest (omega arith) first large, not_last_byte (k - 1) top rest b after (omega arith) second large_too, less) refl

pub others_missing : (k top : ℕ) (bytes : List ℕ) (a : ℕ) (rest : List ℕ) (b : ℕ) (after : List ℕ) (e : Malformed) → 2 ≤ k → byte_at bytes ≡ Ok (a, rest) → 128 ≤ a → byte_at rest ≡ Ok (b, after) → 128 ≤ b → varint_at (k - 2) top after ≡ Err e → varint_at k top bytes ≡ Err e
others_missing k top bytes a rest b after e some first large second large_too fails = rw (second_not_last k top bytes a rest b after some first large second large_too, fails) refl

pub others_last : (k top : ℕ) (bytes : List ℕ) (a : ℕ) (rest : List ℕ) (b : ℕ) (after : List ℕ) (high : ℕ) (end : List ℕ) → 2 ≤ k → byte_at bytes ≡ Ok (a, rest) → 128 ≤ a → byte_at rest ≡ Ok (b, after) → 128 ≤ b → varint_at (k - 2) top after ≡ Ok (high, end) → varint_at k top bytes ≡ Ok ((a - 128) + 128 * ((b - 128) + 128 * high), end)
others_last k top bytes a rest b after high end some first large second large_too is = rw (second_not_last k top bytes a rest b after some first large second large_too, is) refl

-- what is left to the tactics
pub ruleset first_bytes = (no_byte, last_byte, limit_twice_less)
