-- What holds between bytes and values, for whatever has a grammar.
use Rattle.std.specs.Prelude.{◌≡◌, ◌≤◌, ◌^◌, ℕ, List, ◌++◌, length, true, ◌&&◌, nat_lt, Option, Some, None, if◌then◌else◌, Ok}
use Rattle.wire_types.specs.Grammar.{Grammar, IsBytes}

-- what is found at the front of bytes is spelled there, by just the bytes that are taken
abbrev pub FoundIsSpelled : {A : Type 0} → Grammar A → Type 0
FoundIsSpelled {A} g =
    (bytes : List ℕ) (x : A) (rest : List ℕ) → g.reading bytes ≡ Ok (x, rest)
    → (text : List ℕ) × (bytes ≡ text ++ rest) × g.Spells text x

-- what is spelled at the front of bytes is found there
abbrev pub SpelledIsFound : {A : Type 0} → Grammar A → Type 0
SpelledIsFound {A} g =
    (text rest : List ℕ) (x : A) → g.Spells text x → g.reading (text ++ rest) ≡ Ok (x, rest)

-- bytes spell one value at most
abbrev pub OneValue : {A : Type 0} → Grammar A → Type 0
OneValue {A} g = (text : List ℕ) (x y : A) → g.Spells text x → g.Spells text y → x ≡ y

-- what is written spells the value
abbrev pub WrittenIsSpelled : {A : Type 0} → Grammar A → Type 0
WrittenIsSpelled {A} g = (x : A) → g.InType x → g.fits x ≡ true → g.Spells (g.written x) x

-- what bytes spell can be written, in no more bytes
abbrev pub SpelledFits : {A : Type 0} → Grammar A → Type 0
SpelledFits {A} g =
    (text : List ℕ) (x : A) → IsBytes text → g.Spells text x
    → g.InType x × (g.fits x ≡ true) × (length (g.written x) ≤ length text)

-- the number of bytes that are written for a value that fits, where a 64-bit number can tell it
abbrev pub size_of : {A : Type 0} → Grammar A → A → Option ℕ
size_of g x =
    if g.fits x && nat_lt (length (g.written x)) (2 ^ 64) then Some (length (g.written x)) else None
