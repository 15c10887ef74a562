-- Reading from left to right: a value and the bytes after it, or the first fault that is met.
use Rattle.std.specs.Prelude.{◌≡◌, ◌+◌, ◌-◌, ◌*◌, ℕ, zero, suc, ℤ, pos, negsuc, List, [], ◌∷◌, length, take, drop, Bool, not, nat_lt, ◌==◌, if◌then◌else◌, Option, Some, None, Result, Ok, Err}
use Rattle.std.specs.Int.{Width, byte_len, from_be_bytes, cast_signed}
use Rattle.std.specs.Str.{is_utf8}
use Rattle.wire_types.specs.declared.fault.Malformed.{Malformed}
use Rattle.wire_types.specs.declared.fault.Malformed.TheVariants.{Short, Range, Utf8, Rest}
use Rattle.wire_types.specs.declared.fault.ReadFault.{ReadFault}
use Rattle.wire_types.specs.declared.fault.ReadFault.TheVariants as faults

-- What a reader finds at the front of the bytes.
abbrev pub Found : Type 0 → Type 0
Found A = Result (A × List ℕ) Malformed

infixl 10 ◌>>=◌
abbrev pub ◌>>=◌ : {A B : Type 0} → Result A Malformed → (A → Result B Malformed)
    → Result B Malformed
(Ok x) >>= f = f x
(Err e) >>= f = Err e

-- The call answered what stands at the front, and left the cursor after it.
abbrev pub Takes : {A : Type 0} → Found A → Result A Malformed → List ℕ → Type 0
Takes found (Ok x) new = found ≡ Ok (x, new)
Takes found (Err e) new = found ≡ Err e

-- The same, but that memory may run out.
abbrev pub Reads : {A : Type 0} → Found A → Result A ReadFault → List ℕ → Type 0
Reads found (Ok x) new = found ≡ Ok (x, new)
Reads found (Err faults.NoMemory) new = Unit {0}
Reads found (Err (faults.Malformed e)) new = found ≡ Err e

-- what is found is skipped
abbrev pub skipped_if_found : {A : Type 0} → Found A → Found (Unit {0})
skipped_if_found found = found >>= λ x. Ok (tt, x.1)

-- the next byte
abbrev pub byte_at : List ℕ → Found ℕ
byte_at [] = Err Short
byte_at (b ∷ rest) = Ok (b, rest)

-- ---- numbers, big-endian

unfoldable pub nat_at : Width → List ℕ → Found ℕ
nat_at w bytes =
    if nat_lt (length bytes) (byte_len w) then Err Short
    else Ok (from_be_bytes w (take (byte_len w) bytes), drop (byte_len w) bytes)

unfoldable pub int_at : Width → List ℕ → Found ℤ
int_at w bytes = nat_at w bytes >>= λ n. Ok (cast_signed w n.0, n.1)

-- a byte, and anything but 0 is true
unfoldable pub bool_at : List ℕ → Found Bool
bool_at [] = Err Short
bool_at (b ∷ rest) = Ok (not (b == 0), rest)

-- ---- texts

-- the next n bytes
unfoldable pub front_at : ℕ → List ℕ → Found (List ℕ)
front_at n bytes = if nat_lt (length bytes) n then Err Short else Ok (take n bytes, drop n bytes)

-- the next n bytes, which are UTF-8
unfoldable pub utf8_at : ℕ → List ℕ → Found (List ℕ)
utf8_at n bytes = front_at n bytes >>= λ t. if is_utf8 t.0 then Ok t else Err Utf8

-- ---- lists

-- so many values one after the other
unfoldable pub many_at : {A : Type 0} → (List ℕ → Found A) → ℕ → List ℕ → Found (List A)
many_at one zero bytes = Ok ([], bytes)
many_at one (suc n) bytes = one bytes >>= λ x. many_at one n x.1 >>= λ xs. Ok (x.0 ∷ xs.0, xs.1)

-- the same, of no more values than there are bytes left
unfoldable pub items_at : {A : Type 0} → (List ℕ → Found A) → ℕ → List ℕ → Found (List A)
items_at one n bytes = if nat_lt (length bytes) n then Err Short else many_at one n bytes

-- ---- what stands after its count

unfoldable pub after_count_at : {A : Type 0} → (List ℕ → Found ℕ) → (ℕ → List ℕ → Found A) → List ℕ
    → Found A
after_count_at count content bytes = count bytes >>= λ n. content n.0 n.1

unfoldable pub null_or : {A : Type 0} → (ℕ → List ℕ → Found A) → Option ℕ → List ℕ
    → Found (Option A)
null_or content None bytes = Ok (None, bytes)
null_or content (Some n) bytes = content n bytes >>= λ x. Ok (Some x.0, x.1)

unfoldable pub after_null_count_at : {A : Type 0} → (List ℕ → Found (Option ℕ))
    → (ℕ → List ℕ → Found A) → List ℕ → Found (Option A)
after_null_count_at count content bytes = count bytes >>= λ n. null_or content n.0 n.1

-- ---- numbers of variable length

-- Seven bits a byte, the low ones first. At most k bytes may follow the first, and the last of them
-- all is at most top.
unfoldable pub varint_at : ℕ → ℕ → List ℕ → Found ℕ
varint_at k top [] = Err Short
varint_at zero top (b ∷ rest) = if nat_lt top b then Err Range else Ok (b, rest)
varint_at (suc k) top (b ∷ rest) =
    if nat_lt b 128 then Ok (b, rest)
    else (varint_at k top rest >>= λ h. Ok ((b - 128) + 128 * h.0, h.1))

-- what is below the numbers that such bytes can tell
unfoldable pub varint_limit : ℕ → ℕ → ℕ
varint_limit zero top = top + 1
varint_limit (suc k) top = 128 * varint_limit k top

-- ---- counts

-- the count -1 is null
unfoldable pub null_or_count : ℤ → List ℕ → Found (Option ℕ)
null_or_count (pos n) bytes = Ok (Some n, bytes)
null_or_count (negsuc zero) bytes = Ok (None, bytes)
null_or_count (negsuc (suc n)) bytes = Err Range

unfoldable pub null_count_at : (List ℕ → Found ℤ) → List ℕ → Found (Option ℕ)
null_count_at number bytes = number bytes >>= λ z. null_or_count z.0 z.1

-- one more than the count, and 0 for null
unfoldable pub one_less : ℕ → List ℕ → Found (Option ℕ)
one_less zero bytes = Ok (None, bytes)
one_less (suc n) bytes = Ok (Some n, bytes)

unfoldable pub compact_null_count_at : List ℕ → Found (Option ℕ)
compact_null_count_at bytes = varint_at 4 15 bytes >>= λ n. one_less n.0 n.1

-- where null is not allowed
unfoldable pub not_null : Option ℕ → List ℕ → Found ℕ
not_null None bytes = Err Range
not_null (Some n) bytes = Ok (n, bytes)

unfoldable pub required_at : (List ℕ → Found (Option ℕ)) → List ℕ → Found ℕ
required_at count bytes = count bytes >>= λ n. not_null n.0 n.1

-- a count of no more than there are bytes left after it
unfoldable pub counted_at : (List ℕ → Found ℕ) → List ℕ → Found ℕ
counted_at count bytes = count bytes >>= λ n. if nat_lt (length n.1) n.0 then Err Short else Ok n

-- so many values and no more bytes
unfoldable pub all_at : {A : Type 0} → (List ℕ → Found A) → ℕ → List ℕ → Found (List A)
all_at one n bytes = many_at one n bytes >>= λ xs. if length xs.1 == 0 then Ok xs else Err Rest
