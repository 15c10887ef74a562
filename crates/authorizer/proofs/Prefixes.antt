-- A text's beginnings, character by character.
use Rattle.std.proofs.Common.{◌≡◌, ℕ, ◌+◌, ◌-◌, ◌<◌, ◌≤◌, List, [], ◌∷◌, ◌++◌, length, take, drop, get_or, Bool, true, false, ◌&&◌, ◌||◌, refl, sym, ap, ◌∙◌, arith, length-append, length-drop, append_assoc, suc, ⊎_elim}
use Rattle.std.specs.Prelude.{nat_lt}
use Rattle.std.specs.Str.{bytes_eq, chars, IsUtf8, IsCharBoundary, encode_utf8_all}
use Rattle.std.specs.Char.{len_utf8, encode_utf8}
use Rattle.std.proofs.lemmas.List.{take-append-drop, get_or-take, drop-append-le, length-take, length-take-le}
use Rattle.std.proofs.lemmas.Str.{IsUtf8-drop, encode_same, length-encode, len_utf8_bounds, chars-nil, drop_past_char, chars_past_char, length-le-encodes, encodes-chars, IsCharBoundary-past_char}
use Rattle.std.proofs.lemmas.Bool.{cases_lt}
use Rattle.std.proofs.lemmas.Slice.Eq.{bytes_eq-Decides}
use Rattle.std.proofs.lemmas.Bool.Decides.{Decides-ltb}

-- a beginning of a text that is cut between characters at k may be cut there too
own_boundary : (name own : List ℕ) (k : ℕ) → IsCharBoundary name k → own ≡ take (length own) name → k < length own → IsCharBoundary own k
own_boundary name own k boundary is long =
    let same : get_or own k 0 ≡ get_or name k 0 = ap (λ (l : List ℕ). get_or l k 0) is ∙ get_or-take (length own) name k 0 long in
    let within : length own ≤ length name = omega (arith, ap length is, length-take (length own) name) in
    (omega arith, λ _ high. let low : 128 ≤ get_or name k 0 = omega arith in let lead : 192 ≤ get_or name k 0 = boundary.1 (omega arith) low in omega arith)

-- what is left of the whole text begins with what is left of its beginning
left_of_own : (name own : List ℕ) (k : ℕ) → own ≡ take (length own) name → k < length own → drop k name ≡ drop k own ++ drop (length own) name
left_of_own name own k is long =
    sym (ap (drop k) (take-append-drop (length own) name)) ∙ ap (λ (l : List ℕ). drop k (l ++ drop (length own) name)) (sym is)
    ∙ drop-append-le k own (drop (length own) name) (omega arith)

first_fits : (ds tail rest text : List ℕ) (c : ℕ) → encode_utf8_all ds ≡ text → 0 < length text → text ++ tail ≡ encode_utf8 c ++ rest → len_utf8 c ≤ length text
first_fits [] tail rest text c is some next = absurd (let none : 0 ≡ length text = ap length is in omega arith)
first_fits (d ∷ ds) tail rest text c is some next =
    let split : (encode_utf8 d ++ encode_utf8_all ds) ++ tail ≡ encode_utf8 c ++ rest = ap (λ (l : List ℕ). l ++ tail) is ∙ next in
    let same = encode_same d c (encode_utf8_all ds ++ tail) rest (sym (append_assoc (encode_utf8 d) (encode_utf8_all ds) tail) ∙ split) in
    let long : length (encode_utf8 d) + length (encode_utf8_all ds) ≡ length text = sym (length-append (encode_utf8 d) (encode_utf8_all ds)) ∙ ap length is in
    let width : length (encode_utf8 d) ≡ len_utf8 c = length-encode d ∙ ap len_utf8 same.0 in
    omega arith

pub long_enough : (name own rest : List ℕ) (k c : ℕ) → IsUtf8 own → IsCharBoundary name k → drop k name ≡ encode_utf8 c ++ rest → own ≡ take (length own) name → k < length own → k + len_utf8 c ≤ length own
long_enough name own rest k c text boundary next is long =
    let left = IsUtf8-drop own k text (own_boundary name own k boundary is long) in
    let size : length (drop k own) ≡ length own - k = length-drop k own in
    let fits : len_utf8 c ≤ length (drop k own) = first_fits left.0 (drop (length own) name) rest (drop k own) c left.1.1 (omega arith) (sym (left_of_own name own k is long) ∙ next) in
    omega arith

within_name : (name rest : List ℕ) (k c : ℕ) → k ≤ length name → drop k name ≡ encode_utf8 c ++ rest → k + len_utf8 c ≤ length name
within_name name rest k c le next =
    let size : length name - k ≡ len_utf8 c + length rest = sym (length-drop k name) ∙ ap length next ∙ length-append (encode_utf8 c) rest ∙ ap (λ (n : ℕ). n + length rest) (length-encode c) in
    let one = len_utf8_bounds c in
    omega arith

eq_false : (a b : List ℕ) → (a ≡ b → ⊥) → bytes_eq a b ≡ false
eq_false a b apart = by (bytes_eq a b) refl where
  by : (r : Bool) → bytes_eq a b ≡ r → r ≡ false
  by true e = absurd (apart ((bytes_eq-Decides a b).0 e))
  by false e = refl

not_lt : (a b : ℕ) → nat_lt a b ≡ false → b ≤ a
not_lt a b h = ⊎_elim (λ (e : a < b). absurd (let clash : true ≡ false = sym ((Decides-ltb a b).1 e) ∙ h in cc)) (λ (e : b ≤ a). e) (cases_lt a b)

lt_false : (a b : ℕ) → b ≤ a → nat_lt a b ≡ false
lt_false a b h = by (nat_lt a b) refl where
  by : (r : Bool) → nat_lt a b ≡ r → r ≡ false
  by true e = absurd (let lt : a < b = (Decides-ltb a b).0 e in omega arith)
  by false e = refl

or_true : (a : Bool) → (a || true) ≡ true
or_true true = refl
or_true false = refl

-- the test of one length, where the text is a beginning
starts_step : (name own : List ℕ) (k m : ℕ) → k < m → m ≤ length name → own ≡ take (length own) name → (k < length own → m ≤ length own) →
    (lt more : Bool) → nat_lt k (length own) ≡ lt → nat_lt m (length own) ≡ more → (bytes_eq own (take m name) || more) ≡ lt
starts_step name own k m less fits is reach true true h g = or_true (bytes_eq own (take m name))
starts_step name own k m less fits is reach true false h g =
    let long : m ≤ length own = reach ((Decides-ltb k (length own)).0 h) in
    let short : length own ≤ m = by (nat_lt m (length own)) refl g in
    let same : length own ≡ m = omega arith in
    ap (λ (b : Bool). b || false) ((bytes_eq-Decides own (take m name)).1 (is ∙ ap (λ (n : ℕ). take n name) same)) where
      by : (r : Bool) → nat_lt m (length own) ≡ r → r ≡ false → length own ≤ m
      by true e f = absurd (let clash : true ≡ false = f in cc)
      by false e f = not_lt m (length own) e
starts_step name own k m less fits is reach false true h g =
    absurd (let a : m < length own = (Decides-ltb m (length own)).0 g in let b : length own ≤ k = not_lt k (length own) h in omega arith)
starts_step name own k m less fits is reach false false h g =
    let short : length own ≤ k = not_lt k (length own) h in
    let size : length (take m name) ≡ m = length-take-le m name fits in
    ap (λ (b : Bool). b || false) (eq_false own (take m name) (λ e. let same : length own ≡ length (take m name) = ap length e in omega arith))

-- a beginning longer than k bytes is the one with one character more, or a longer one
pub longer_step : (name own rest : List ℕ) (k c : ℕ) → IsUtf8 own → IsCharBoundary name k → drop k name ≡ encode_utf8 c ++ rest →
    (bytes_eq own (take (k + len_utf8 c) name) || (bytes_eq own (take (length own) name) && nat_lt (k + len_utf8 c) (length own))) ≡ (bytes_eq own (take (length own) name) && nat_lt k (length own))
longer_step name own rest k c text boundary next = by (within_name name rest k c boundary.0 next) (len_utf8_bounds c).0 (bytes_eq own (take (length own) name)) refl where
  by : k + len_utf8 c ≤ length name → 1 ≤ len_utf8 c → (b : Bool) → bytes_eq own (take (length own) name) ≡ b → (bytes_eq own (take (k + len_utf8 c) name) || (b && nat_lt (k + len_utf8 c) (length own))) ≡ (b && nat_lt k (length own))
  by fits wide true e =
      let is : own ≡ take (length own) name = (bytes_eq-Decides own (take (length own) name)).0 e in
      starts_step name own k (k + len_utf8 c) (omega arith) fits is (long_enough name own rest k c text boundary next is) (nat_lt k (length own)) (nat_lt (k + len_utf8 c) (length own)) refl refl
  by fits wide false e =
      ap (λ (b : Bool). b || false) (eq_false own (take (k + len_utf8 c) name) (λ is.
      let size : length (take (k + len_utf8 c) name) ≡ k + len_utf8 c = length-take-le (k + len_utf8 c) name fits in
      let same : k + len_utf8 c ≡ length own = sym size ∙ sym (ap length is) in
      let clash : bytes_eq own (take (length own) name) ≡ true = (bytes_eq-Decides own (take (length own) name)).1 (is ∙ ap (λ (n : ℕ). take n name) same) in
      let absurdity : true ≡ false = sym clash ∙ e in cc))

-- ---- one character more

pub past : (name rest : List ℕ) (k c : ℕ) → IsUtf8 name → IsCharBoundary name k → drop k name ≡ encode_utf8 c ++ rest → IsCharBoundary name (k + len_utf8 c)
past name rest k c text boundary next = IsCharBoundary-past_char name rest k c boundary.0 (IsUtf8-drop name k text boundary) next

pub rest_past : (name rest : List ℕ) (k c : ℕ) → drop k name ≡ encode_utf8 c ++ rest → rest ≡ drop (k + len_utf8 c) name
rest_past name rest k c next = sym (drop_past_char name rest k c next)

pub counted : (name rest : List ℕ) (k c : ℕ) → IsUtf8 name → IsCharBoundary name k → drop k name ≡ encode_utf8 c ++ rest → length (chars (drop k name)) ≡ length (chars (drop (k + len_utf8 c) name)) + 1
counted name rest k c text boundary next =
    let here : length (chars (drop k name)) ≡ suc (length (chars rest)) = ap length (chars_past_char (drop k name) rest c (IsUtf8-drop name k text boundary) next) in
    let there : length (chars rest) ≡ length (chars (drop (k + len_utf8 c) name)) = ap (λ (l : List ℕ). length (chars l)) (rest_past name rest k c next) in
    omega arith

-- a text has no more characters than bytes
pub few_chars : (bs : List ℕ) → IsUtf8 bs → length (chars bs) ≤ length bs
few_chars bs text = let le = length-le-encodes (chars bs) in let same : length (encode_utf8_all (chars bs)) ≡ length bs = ap length (encodes-chars bs text) in omega arith

pub nothing_left : (bs : List ℕ) → length bs ≡ 0 → length (chars bs) ≡ 0
nothing_left [] h = ap length chars-nil
nothing_left (b ∷ bs) h = absurd (omega arith)

pub not_longer : (a b : Bool) (name own : List ℕ) (k : ℕ) → length name ≤ k → (a && (b && (bytes_eq own (take (length own) name) && nat_lt k (length own)))) ≡ false
not_longer false b name own k le = refl
not_longer true false name own k le = refl
not_longer true true name own k le = by (bytes_eq own (take (length own) name)) refl where
  by : (t : Bool) → bytes_eq own (take (length own) name) ≡ t → (t && nat_lt k (length own)) ≡ false
  by true e =
      let is : length own ≡ length (take (length own) name) = ap length ((bytes_eq-Decides own (take (length own) name)).0 e) in
      let size = length-take (length own) name in
      lt_false k (length own) (omega arith)
  by false e = refl
