-- Which words are flags, and are refused: those of a command whose flags are `--help` and, at the top, `--version`.
use Rattle.std.proofs.Common.{◌≡◌, ◌∙◌, ◌⊎◌, ℕ, Bool, cond, true, false, refl, ap, ap₂, subst, sym, inl, inr, List, [], ◌∷◌, length, Option, Some, None}
use Rattle.std.specs.Prelude.{◌==◌, ◌&&◌, not, is_some, drop, encode_utf8, find, slice_get, option_and_then}
use Rattle.std.specs.Option.{option_map_or}
use Rattle.std.specs.Str.{bytes_eq, chars}
use Rattle.std.proofs.lemmas.Bool.{cases_Bool, eqb-true}
use Rattle.clap.specs.Lexer.{long_of, long_of_rest, name_and_value, short_of, short_of_rest, strip_byte}
use Rattle.clap.specs.Walk.{Held, Names, Row, Rule, Step, Text, Walk, after_flag, after_step, arg_by_index, arg_by_long, arg_by_short, bundle_met, bundle_step, has_long, has_short, idle, long_or_other, nothing_held, plain, settled, short_or_plain, subcommand_met, subcommand_or_other, to_positional, trailing, value, walk_from, walked}
use Rattle.clap.specs.Simple.{Shape, filled, help_rule, version_rule, with_index}
use Rattle.clap.specs.Kinds.{Kinds, or_else}
use Rattle.clap.specs.Faults.{bundle_fault, bundle_step_fault, flag_word_fault, flags_fault, long_fault, other_fault, settle_fault, short_fault, step_fault, stray_fault, turn_fault}
use Rattle.clap.specs.declared.error.kind.ErrorKind.{ErrorKind}
use Rattle.clap.specs.declared.error.kind.ErrorKind.TheVariants as kind
use Rattle.clap.proofs.OnLiterals.{clap_on_literals}
use Rattle.arguments.specs.Job.{is_any, is_flag}

-- ---- lists of kinds

pub not_empty : (k : ErrorKind) (ks : Kinds) → k ∷ ks ≡ [] → ⊥
not_empty k ks e = cc

pub first_empty : (a b : Kinds) → or_else a b ≡ [] → a ≡ []
first_empty [] b e = refl
first_empty (k ∷ ks) b e = e

pub second_empty : (a b : Kinds) → or_else a b ≡ [] → b ≡ []
second_empty [] b e = e
second_empty (k ∷ ks) b e = absurd (not_empty k ks e)

-- ---- where a walk stands

abbrev pub dashes : Text
dashes = 45 ∷ 45 ∷ []

abbrev pub start : Walk
start = walk_from nothing_held

-- no flag of a bundle is passed over
abbrev pub holding : List Row → Option (Text × List Text) → Held
holding rows pending = record { rows = rows; pending = pending; skip = 0 }

-- no option waits for a value
abbrev pub standing : Held → ℕ → Walk
standing h position = record { held = h; waiting = idle; position = position; is_trailing = false; stopped = None }

-- ---- a flag that every command refuses, or answers by its help or its version

abbrev pub NoLong : List Rule → Bool → Held → Type 0
NoLong c again h = (name : Text) (v : Option Text) → long_fault c again (arg_by_long c name) v h ≡ [] → ⊥

abbrev pub NoShort : List Rule → Bool → Held → Type 0
NoShort c again h = (x : ℕ) (rest : Text) (next : Held → Kinds) → short_fault c again (arg_by_short c x) rest h next ≡ [] → ⊥

abbrev pub help : Rule
help = with_index 1 (filled help_rule)

abbrev pub version : Rule
version = with_index 1 (filled version_rule)

module _ (c : List Rule) (again : Bool) (h : Held) where
  pub help_asked : (v : Option Text) → long_fault c again (Some help) v h ≡ [] → ⊥
  help_asked None e = not_empty kind.DisplayHelp [] (second_empty (settle_fault c again h) (kind.DisplayHelp ∷ []) e)
  help_asked (Some t) e = not_empty kind.TooManyValues [] e

  pub version_asked : (v : Option Text) → long_fault c again (Some version) v h ≡ [] → ⊥
  version_asked None e = not_empty kind.DisplayVersion [] (second_empty (settle_fault c again h) (kind.DisplayVersion ∷ []) e)
  version_asked (Some t) e = not_empty kind.TooManyValues [] e

  pub unknown_long : (v : Option Text) → long_fault c again None v h ≡ [] → ⊥
  unknown_long v e = not_empty kind.UnknownArgument [] e

  pub short_help_asked : (rest : Text) (next : Held → Kinds) → short_fault c again (Some help) rest h next ≡ [] → ⊥
  short_help_asked rest next e =
      let asked = or_else (settle_fault c again h) (kind.DisplayHelp ∷ []) in
      let after : Held = record { rows = (settled c h).rows; pending = None; skip = h.skip } in
      not_empty kind.DisplayHelp [] (second_empty (settle_fault c again h) (kind.DisplayHelp ∷ []) (first_empty asked (next after) e))

  pub short_version_asked : (rest : Text) (next : Held → Kinds) → short_fault c again (Some version) rest h next ≡ [] → ⊥
  short_version_asked rest next e =
      let asked = or_else (settle_fault c again h) (kind.DisplayVersion ∷ []) in
      let after : Held = record { rows = (settled c h).rows; pending = None; skip = h.skip } in
      not_empty kind.DisplayVersion [] (second_empty (settle_fault c again h) (kind.DisplayVersion ∷ []) (first_empty asked (next after) e))

  pub unknown_short : (rest : Text) (next : Held → Kinds) → short_fault c again None rest h next ≡ [] → ⊥
  unknown_short rest next e = not_empty kind.UnknownArgument [] e

pub one_of_one : (p : Rule → Bool) (a : Rule) → (find p (a ∷ []) ≡ Some a) ⊎ (find p (a ∷ []) ≡ None)
one_of_one p a = go (p a)
  where
    go : (b : Bool) → (cond b (Some a) None ≡ Some a) ⊎ (cond b (Some a) None ≡ None)
    go true = inl refl
    go false = inr refl

pub one_of_two : (p : Rule → Bool) (a b : Rule) → (find p (a ∷ b ∷ []) ≡ Some a) ⊎ ((find p (a ∷ b ∷ []) ≡ Some b) ⊎ (find p (a ∷ b ∷ []) ≡ None))
one_of_two p a b = go (p a) (p b)
  where
    go : (x y : Bool) → (cond x (Some a) (cond y (Some b) None) ≡ Some a) ⊎ ((cond x (Some a) (cond y (Some b) None) ≡ Some b) ⊎ (cond x (Some a) (cond y (Some b) None) ≡ None))
    go true y = inl refl
    go false true = inr (inl refl)
    go false false = inr (inr refl)

-- ---- what a word is

is_empty_text : (cs : List ℕ) → is_any cs ≡ false → cs ≡ []
is_empty_text [] e = refl
is_empty_text (x ∷ xs) e =
    let bad : true ≡ false = e in
    cc

dash_has_chars : (rest : List ℕ) → is_any (chars (45 ∷ rest)) ≡ true
unfolding clap_on_literals
dash_has_chars [] = refl
dash_has_chars (x ∷ xs) = refl

no_long : (x : ℕ) (xs : Text) → (x == 45) ≡ false → long_of (45 ∷ x ∷ xs) ≡ None
no_long x xs other = ap (λ (b : Bool). option_and_then long_of_rest (cond b (Some xs) None)) other

some_short : (x : ℕ) (xs : Text) → (x == 45) ≡ false → short_of (45 ∷ x ∷ xs) ≡ Some (x ∷ xs)
some_short x xs other = ap (λ (b : Bool). cond b None (Some (x ∷ xs))) other

module _ (c : List Rule) (again : Bool) (rows : List Row) (pending : Option (Text × List Text)) (long : NoLong c again (holding rows pending)) (short : NoShort c again (holding rows pending)) where
  bundle_refused : (x : ℕ) (xs cs : List ℕ) → is_any cs ≡ true → bundle_step_fault c again (slice_get cs 0) (x ∷ xs) 0 (holding rows pending) (flags_fault c again (length xs)) ≡ [] → ⊥
  bundle_refused x xs [] some e =
      let bad : false ≡ true = some in
      cc
  bundle_refused x xs (y ∷ ys) some e =
      let rest = drop (length (encode_utf8 y)) (x ∷ xs) in
      short y rest (flags_fault c again (length xs) rest 0) e

  short_refused : (x : ℕ) (xs : Text) → is_any (chars (x ∷ xs)) ≡ true → (x == 45) ≡ false → flag_word_fault c again (long_of (45 ∷ x ∷ xs)) (45 ∷ x ∷ xs) (holding rows pending) ≡ [] → ⊥
  unfolding clap_on_literals
  short_refused x xs some other e =
      let h = holding rows pending in
      let word = 45 ∷ x ∷ xs in
      let e2 : option_map_or (λ flags. bundle_fault c again flags h) (short_of word) [] ≡ [] = subst (λ (l : Option (Text × Option Text)). flag_word_fault c again l word h ≡ []) (no_long x xs other) e in
      let e3 : bundle_fault c again (x ∷ xs) h ≡ [] = subst (λ (s : Option Text). option_map_or (λ flags. bundle_fault c again flags h) s [] ≡ []) (some_short x xs other) e2 in
      bundle_refused x xs (chars (x ∷ xs)) some e3

  long_refused : (xs : Text) → bytes_eq (45 ∷ 45 ∷ xs) dashes ≡ false → flag_word_fault c again (long_of (45 ∷ 45 ∷ xs)) (45 ∷ 45 ∷ xs) (holding rows pending) ≡ [] → ⊥
  long_refused [] other e =
      let bad : true ≡ false = other in
      cc
  long_refused (x ∷ xs) other e = long (name_and_value (x ∷ xs)).0 (name_and_value (x ∷ xs)).1 e

  dash_refused : (rest : Text) → is_any (chars rest) ≡ true → bytes_eq (45 ∷ rest) dashes ≡ false → flag_word_fault c again (long_of (45 ∷ rest)) (45 ∷ rest) (holding rows pending) ≡ [] → ⊥
  unfolding clap_on_literals
  dash_refused [] some other e =
      let bad : false ≡ true = some in
      cc
  dash_refused (x ∷ xs) some other e =
      elim (cases_Bool (x == 45)) [
        | inl is ↦
            let same : x ≡ 45 = eqb-true x 45 is in
            long_refused xs (subst (λ (y : ℕ). bytes_eq (45 ∷ y ∷ xs) dashes ≡ false) same other)
            (subst (λ (y : ℕ). flag_word_fault c again (long_of (45 ∷ y ∷ xs)) (45 ∷ y ∷ xs) (holding rows pending) ≡ []) same e)
        | inr free ↦ short_refused x xs some free e
      ]

  pub flag_refused : (word : Text) → is_flag word ≡ true → bytes_eq word dashes ≡ false → flag_word_fault c again (long_of word) word (holding rows pending) ≡ [] → ⊥
  flag_refused [] flag other e =
      let bad : false ≡ true = flag in
      cc
  flag_refused (first ∷ rest) flag other e =
      elim (cases_Bool (first == 45)) [
        | inl is ↦
            let same : first ≡ 45 = eqb-true first 45 is in
            elim (cases_Bool (is_any (chars rest))) [
              | inr none ↦
                  let bad : false ≡ true = sym (ap₂ (λ (a b : Bool). a && b) is none) ∙ flag in
                  cc
              | inl some ↦
                  dash_refused rest some (subst (λ (y : ℕ). bytes_eq (y ∷ rest) dashes ≡ false) same other)
                  (subst (λ (y : ℕ). flag_word_fault c again (long_of (y ∷ rest)) (y ∷ rest) (holding rows pending) ≡ []) same e)
            ]
        | inr free ↦
            let bad : false ≡ true = sym (ap (λ (a : Bool). a && is_any (chars rest)) free) ∙ flag in
            cc
      ]

-- ---- a word that is no flag

module _ (c : List Rule) (again : Bool) (rows : List Row) (pending : Option (Text × List Text)) where
  abbrev IsPlain : Text → Type 0
  IsPlain word = (long_or_other c idle word (long_of word) (holding rows pending) ≡ (holding rows pending, value)) × (flag_word_fault c again (long_of word) word (holding rows pending) ≡ [])

  neither : (word : Text) → long_of word ≡ None → short_of word ≡ None → IsPlain word
  neither word long short =
      let h = holding rows pending in (
        subst (λ (l : Option (Text × Option Text)). long_or_other c idle word l h ≡ (h, value)) (sym long) (ap (λ (s : Option Text). short_or_plain c idle word s h) short),
        subst (λ (l : Option (Text × Option Text)). flag_word_fault c again l word h ≡ []) (sym long) (ap (λ (s : Option Text). option_map_or (λ flags. bundle_fault c again flags h) s []) short),
      )

  no_chars : (x : ℕ) (xs : Text) → chars (x ∷ xs) ≡ [] → (x == 45) ≡ false → IsPlain (45 ∷ x ∷ xs)
  unfolding clap_on_literals
  no_chars x xs none other =
      let h = holding rows pending in
      let word = 45 ∷ x ∷ xs in
      let met : short_or_plain c idle word (Some (x ∷ xs)) h ≡ (h, value) = ap (λ (cs : List ℕ). after_flag c idle word (bundle_step c (slice_get cs 0) (x ∷ xs) 0 plain h (bundle_met c (length xs))).0 (bundle_step c (slice_get cs 0) (x ∷ xs) 0 plain h (bundle_met c (length xs))).1) none in
      let fault : bundle_fault c again (x ∷ xs) h ≡ [] = ap (λ (cs : List ℕ). bundle_step_fault c again (slice_get cs 0) (x ∷ xs) 0 h (flags_fault c again (length xs))) none in (
        subst (λ (l : Option (Text × Option Text)). long_or_other c idle word l h ≡ (h, value)) (sym (no_long x xs other)) (ap (λ (s : Option Text). short_or_plain c idle word s h) (some_short x xs other) ∙ met),
        subst (λ (l : Option (Text × Option Text)). flag_word_fault c again l word h ≡ []) (sym (no_long x xs other)) (ap (λ (s : Option Text). option_map_or (λ flags. bundle_fault c again flags h) s []) (some_short x xs other) ∙ fault),
      )

  dash_plain : (rest : Text) → is_any (chars rest) ≡ false → IsPlain (45 ∷ rest)
  dash_plain [] none = neither (45 ∷ []) refl refl
  dash_plain (x ∷ xs) none =
      elim (cases_Bool (x == 45)) [
        | inl is ↦
            let same : x ≡ 45 = eqb-true x 45 is in
            let bad : false ≡ true = sym none ∙ subst (λ (y : ℕ). is_any (chars (y ∷ xs)) ≡ true) (sym same) (dash_has_chars xs) in
            cc
        | inr free ↦ no_chars x xs (is_empty_text (chars (x ∷ xs)) none) free
      ]

  pub is_plain : (word : Text) → is_flag word ≡ false → IsPlain word
  is_plain [] free = neither [] refl refl
  is_plain (first ∷ rest) free =
      elim (cases_Bool (first == 45)) [
        | inl is ↦
            let same : first ≡ 45 = eqb-true first 45 is in
            elim (cases_Bool (is_any (chars rest))) [
              | inr none ↦ subst (λ (y : ℕ). IsPlain (y ∷ rest)) (sym same) (dash_plain rest none)
              | inl some ↦
                  let bad : true ≡ false = sym (ap₂ (λ (a b : Bool). a && b) is some) ∙ free in
                  cc
            ]
        | inr other ↦
            neither (first ∷ rest) (ap (λ (b : Bool). option_and_then long_of_rest (option_and_then (strip_byte 45) (cond b (Some rest) None))) other)
            (ap (λ (b : Bool). option_and_then short_of_rest (cond b (Some rest) None)) other)
      ]

-- ---- one turn of a walk

abbrev turn_by : Shape → ℕ → Kinds → Held × Step → Kinds
turn_by s position fault met = or_else fault (step_fault s position met.0 met.1)

module _ (s : Shape) (names : Names) (rows : List Row) (pending : Option (Text × List Text)) (position : ℕ) (word : Text) (none : subcommand_met names idle word ≡ None) (other : bytes_eq word dashes ≡ false) where
  turn_is : turn_fault s names (standing (holding rows pending) position) word
      ≡ turn_by s position (flag_word_fault s.rules s.args_override_self (long_of word) word (holding rows pending)) (long_or_other s.rules idle word (long_of word) (holding rows pending))
  turn_is =
      let h = holding rows pending in
      ap (λ (met : Option Text). turn_by s position (other_fault s met word h) (subcommand_or_other s.rules met idle position word h)) none
      ∙ ap (λ (b : Bool). turn_by s position (cond b [] (flag_word_fault s.rules s.args_override_self (long_of word) word h)) (cond b (h, trailing position) (long_or_other s.rules idle word (long_of word) h))) other

  walk_is : walked s.rules names (standing (holding rows pending) position) word
      ≡ after_step s.rules word (standing (holding rows pending) position) (long_or_other s.rules idle word (long_of word) (holding rows pending)).0 (long_or_other s.rules idle word (long_of word) (holding rows pending)).1
  unfolding clap_on_literals
  walk_is =
      let h = holding rows pending in
      let w = standing h position in
      ap (λ (met : Option Text). after_step s.rules word w (subcommand_or_other s.rules met idle position word h).0 (subcommand_or_other s.rules met idle position word h).1) none
      ∙ ap (λ (b : Bool). after_step s.rules word w (cond b (h, trailing position) (long_or_other s.rules idle word (long_of word) h)).0 (cond b (h, trailing position) (long_or_other s.rules idle word (long_of word) h)).1) other

  pub flag_turn : NoLong s.rules s.args_override_self (holding rows pending) → NoShort s.rules s.args_override_self (holding rows pending) → is_flag word ≡ true
      → turn_fault s names (standing (holding rows pending) position) word ≡ [] → ⊥
  flag_turn long short flag e =
      let met = long_or_other s.rules idle word (long_of word) (holding rows pending) in
      flag_refused s.rules s.args_override_self rows pending long short word flag other
      (first_empty (flag_word_fault s.rules s.args_override_self (long_of word) word (holding rows pending)) (step_fault s position met.0 met.1) (sym turn_is ∙ e))

  pub plain_turn : is_flag word ≡ false → turn_fault s names (standing (holding rows pending) position) word ≡ step_fault s position (holding rows pending) value
  plain_turn free =
      let it = is_plain s.rules s.args_override_self rows pending word free in
      turn_is ∙ ap₂ (turn_by s position) it.1 it.0

  pub plain_walk : is_flag word ≡ false → walked s.rules names (standing (holding rows pending) position) word ≡ to_positional s.rules (arg_by_index s.rules position) word (standing (holding rows pending) position) (holding rows pending)
  plain_walk free =
      let it = is_plain s.rules s.args_override_self rows pending word free in
      walk_is ∙ ap (λ (met : Held × Step). after_step s.rules word (standing (holding rows pending) position) met.0 met.1) it.0

-- ---- the top command

-- no positional takes the word
pub stray_refused : (s : Shape) → stray_fault s ≡ [] → ⊥
stray_refused s e = go s.is_leaf e
  where
    go : (b : Bool) → cond b (kind.UnknownArgument ∷ []) (kind.UnknownArgument ∷ kind.InvalidSubcommand ∷ []) ≡ [] → ⊥
    go true e = not_empty kind.UnknownArgument [] e
    go false e = not_empty kind.UnknownArgument (kind.InvalidSubcommand ∷ []) e

abbrev pub flagged : Shape → Shape
flagged s = record s { rules = help ∷ version ∷ [] }

top_long : (again : Bool) (h : Held) → NoLong (help ∷ version ∷ []) again h
top_long again h name v e =
    let c = help ∷ version ∷ [] in
    elim (one_of_two (λ a. not (is_some a.index) && has_long a name) help version) [
      | inl is ↦ help_asked c again h v (subst (λ (found : Option Rule). long_fault c again found v h ≡ []) is e)
      | inr rest ↦ elim rest [
        | inl is ↦ version_asked c again h v (subst (λ (found : Option Rule). long_fault c again found v h ≡ []) is e)
        | inr is ↦ unknown_long c again h v (subst (λ (found : Option Rule). long_fault c again found v h ≡ []) is e)
      ]
    ]

top_short : (again : Bool) (h : Held) → NoShort (help ∷ version ∷ []) again h
top_short again h x rest next e =
    let c = help ∷ version ∷ [] in
    elim (one_of_two (λ a. not (is_some a.index) && has_short a x) help version) [
      | inl is ↦ short_help_asked c again h rest next (subst (λ (found : Option Rule). short_fault c again found rest h next ≡ []) is e)
      | inr more ↦ elim more [
        | inl is ↦ short_version_asked c again h rest next (subst (λ (found : Option Rule). short_fault c again found rest h next ≡ []) is e)
        | inr is ↦ unknown_short c again h rest next (subst (λ (found : Option Rule). short_fault c again found rest h next ≡ []) is e)
      ]
    ]

-- a word that names no subcommand
pub word_refused : (s : Shape) (word : Text) (names : Names) → subcommand_met names idle word ≡ None → bytes_eq word dashes ≡ false → turn_fault (flagged s) names start word ≡ [] → ⊥
word_refused s word names none other e =
    elim (cases_Bool (is_flag word)) [
      | inl flag ↦ flag_turn (flagged s) names [] None 1 word none other (top_long s.args_override_self nothing_held) (top_short s.args_override_self nothing_held) flag e
      | inr free ↦ stray_refused s (sym (plain_turn (flagged s) names [] None 1 word none other free) ∙ e)
    ]

-- `--`, which ends the options
pub after_dashes : (s : Shape) (names : Names) (word : Text) → turn_fault (flagged s) names (record start { is_trailing = true }) word ≡ [] → ⊥
after_dashes s names word e = stray_refused s e
