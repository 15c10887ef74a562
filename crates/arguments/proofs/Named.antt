-- Which words a command takes that reads a file, and which file they name.
use Rattle.std.proofs.Common.{◌≡◌, ◌∙◌, ◌⊎◌, Bool, cond, true, false, refl, sym, ap, ap₂, subst, inl, inr, List, [], ◌∷◌, codes, Option, Some, None}
use Rattle.std.specs.Prelude.{◌&&◌, not, is_some}
use Rattle.std.specs.List.{fold}
use Rattle.std.specs.Str.{bytes_eq}
use Rattle.std.proofs.lemmas.Bool.{cases_Bool}
use Rattle.std.proofs.lemmas.Option.{none-some}
use Rattle.std.proofs.lemmas.Slice.Eq.{bytes_eq-Decides}
use Rattle.clap.specs.Walk.{Held, Rule, Text, Walk, finished, first_of, has_long, has_short, nothing_held, rows_after, settled, walked}
use Rattle.clap.specs.Simple.{Shape, built_leaf}
use Rattle.clap.specs.Kinds.{Kinds, or_else}
use Rattle.clap.specs.Faults.{check_fault, defaults_fault, level_fault, long_fault, settle_fault, short_fault, turn_fault, walk_fault}
use Rattle.clap.specs.declared.error.kind.ErrorKind.TheVariants as kind
use Rattle.clap.proofs.OnLiterals.{clap_on_literals}
use Rattle.arguments.specs.CommandLine.{reading_shape}
use Rattle.arguments.specs.Job.{ends_options, file_named, is_flag}
use Rattle.arguments.proofs.Refused.{NoLong, NoShort, dashes, first_empty, flag_turn, help, help_asked, holding, not_empty, one_of_one, plain_turn, plain_walk, short_help_asked, standing, start, unknown_long, unknown_short}

abbrev pub leaf : Text → Shape
leaf name = built_leaf (reading_shape name)

-- what is refused of the words after the command's name, and the file that is found in them
abbrev pub leaf_fault : Text → List Text → Kinds
leaf_fault name words = level_fault (leaf name) [] nothing_held words false []

abbrev pub leaf_file : Text → List Text → Option Text
leaf_file name words = first_of (codes "file") (rows_after (leaf name).rules [] words)

-- the words are taken, and name the file that is found; or they are refused, and name none
abbrev pub Decided : Text → List Text → Type 0
Decided name words = ((leaf_fault name words ≡ []) × (file_named words ≡ Some (leaf_file name words))) ⊎ ((leaf_fault name words ≡ [] → ⊥) × (file_named words ≡ None))

-- the same after a first word, at which this was refused, and after which the walk stands so
abbrev fault_from : Text → Kinds → Walk → List Text → Kinds
fault_from name first w rest =
    let s = leaf name in
    let end = (fold (walked s.rules []) w rest).held in
    or_else (or_else first (walk_fault s [] w rest))
    (or_else (settle_fault s.rules s.args_override_self end)
    (or_else (defaults_fault (settled s.rules end).rows s.rules)
    (check_fault s (finished s.rules end) false)))

abbrev file_from : Text → Walk → List Text → Option Text
file_from name w rest = first_of (codes "file") (finished (leaf name).rules (fold (walked (leaf name).rules []) w rest).held)

leaf_long : (name : Text) (h : Held) → NoLong (leaf name).rules (leaf name).args_override_self h
leaf_long name h long v e =
    let c = (leaf name).rules in
    elim (one_of_one (λ a. not (is_some a.index) && has_long a long) help) [
      | inl is ↦ help_asked c false h v (subst (λ (found : Option Rule). long_fault c false found v h ≡ []) is e)
      | inr is ↦ unknown_long c false h v (subst (λ (found : Option Rule). long_fault c false found v h ≡ []) is e)
    ]

leaf_short : (name : Text) (h : Held) → NoShort (leaf name).rules (leaf name).args_override_self h
leaf_short name h x rest next e =
    let c = (leaf name).rules in
    elim (one_of_one (λ a. not (is_some a.index) && has_short a x) help) [
      | inl is ↦ short_help_asked c false h rest next (subst (λ (found : Option Rule). short_fault c false found rest h next ≡ []) is e)
      | inr is ↦ unknown_short c false h rest next (subst (λ (found : Option Rule). short_fault c false found rest h next ≡ []) is e)
    ]

-- a first word that is no flag is the file
abbrev one : Text → Walk
one word = standing (holding [] (Some (codes "file", word ∷ []))) 2

module _ (name word : Text) (other : bytes_eq word dashes ≡ false) (free : is_flag word ≡ false) where
  first_passes : turn_fault (leaf name) [] start word ≡ []
  first_passes = plain_turn (leaf name) [] [] None 1 word refl other free

  first_walk : walked (leaf name).rules [] start word ≡ one word
  unfolding clap_on_literals
  first_walk = plain_walk (leaf name) [] [] None 1 word refl other free

-- and each word after it is refused, but `--`
second_refused : (name word last : Text) (rest : List Text) → bytes_eq last dashes ≡ false → fault_from name [] (one word) (last ∷ rest) ≡ [] → ⊥
unfolding clap_on_literals
second_refused name word last rest other e =
    let s = leaf name in
    let w = walked s.rules [] (one word) last in
    let end = (fold (walked s.rules []) w rest).held in
    let later = or_else (settle_fault s.rules s.args_override_self end) (or_else (defaults_fault (settled s.rules end).rows s.rules) (check_fault s (finished s.rules end) false)) in
    let words : or_else (turn_fault s [] (one word) last) (walk_fault s [] w rest) ≡ [] = first_empty (or_else (turn_fault s [] (one word) last) (walk_fault s [] w rest)) later e in
    let turn : turn_fault s [] (one word) last ≡ [] = first_empty (turn_fault s [] (one word) last) (walk_fault s [] w rest) words in
    let pending = Some (codes "file", word ∷ []) in
    elim (cases_Bool (is_flag last)) [
      | inl flag ↦ flag_turn s [] [] pending 2 last refl other (leaf_long name (holding [] pending)) (leaf_short name (holding [] pending)) flag turn
      | inr free ↦ not_empty kind.UnknownArgument [] (sym (plain_turn s [] [] pending 2 last refl other free) ∙ turn)
    ]

-- ---- a first word that is `--`

ended : (name : Text) (rest : List Text) → Decided name (dashes ∷ rest)
unfolding clap_on_literals
ended name [] = inl (refl, refl)
ended name (last ∷ []) = inl (refl, refl)
ended name (last ∷ more ∷ rest) = inr ((λ e. not_empty kind.UnknownArgument [] e), refl)

-- ---- a flag

module _ (name word : Text) (other : bytes_eq word dashes ≡ false) (flag : is_flag word ≡ true) where
  flag_names_none : (rest : List Text) → file_named (word ∷ rest) ≡ None
  flag_names_none [] = ap₂ (λ (a b : Bool). cond a (Some None) (cond b None (Some (Some word)))) other flag
  flag_names_none (last ∷ []) = ap₂ (λ (a b : Bool). cond a (Some (Some last)) (cond b None (cond (ends_options last) (Some (Some word)) None))) other flag
  flag_names_none (last ∷ more ∷ rest) = refl

  flag_refuses : (rest : List Text) → leaf_fault name (word ∷ rest) ≡ [] → ⊥
  unfolding clap_on_literals
  flag_refuses rest e =
      let s = leaf name in
      let w = walked s.rules [] start word in
      let end = (fold (walked s.rules []) w rest).held in
      let later = or_else (settle_fault s.rules s.args_override_self end) (or_else (defaults_fault (settled s.rules end).rows s.rules) (check_fault s (finished s.rules end) false)) in
      let words : or_else (turn_fault s [] start word) (walk_fault s [] w rest) ≡ [] = first_empty (or_else (turn_fault s [] start word) (walk_fault s [] w rest)) later e in
      flag_turn s [] [] None 1 word refl other (leaf_long name nothing_held) (leaf_short name nothing_held) flag
      (first_empty (turn_fault s [] start word) (walk_fault s [] w rest) words)

-- ---- a word that is no flag

module _ (name word : Text) (other : bytes_eq word dashes ≡ false) (free : is_flag word ≡ false) where
  fault_is : (rest : List Text) → leaf_fault name (word ∷ rest) ≡ fault_from name [] (one word) rest
  unfolding clap_on_literals
  fault_is rest = ap₂ (λ (first : Kinds) (w : Walk). fault_from name first w rest) (first_passes name word other free) (first_walk name word other free)

  file_is : (rest : List Text) → leaf_file name (word ∷ rest) ≡ file_from name (one word) rest
  unfolding clap_on_literals
  file_is rest = ap (λ (w : Walk). file_from name w rest) (first_walk name word other free)

  alone : Decided name (word ∷ [])
  unfolding clap_on_literals
  alone = inl (fault_is [], ap₂ (λ (a b : Bool). cond a (Some None) (cond b None (Some (Some word)))) other free ∙ ap (λ (f : Option Text). Some f) (sym (file_is [])))

  then_dashes : Decided name (word ∷ dashes ∷ [])
  unfolding clap_on_literals
  then_dashes = inl (
    fault_is (dashes ∷ []),
    ap₂ (λ (a b : Bool). cond a (Some (Some dashes)) (cond b None (Some (Some word)))) other free ∙ ap (λ (f : Option Text). Some f) (sym (file_is (dashes ∷ []))),
  )

  then_more : (last : Text) (rest : List Text) → bytes_eq last dashes ≡ false → leaf_fault name (word ∷ last ∷ rest) ≡ [] → ⊥
  then_more last rest another e = second_refused name word last rest another (sym (fault_is (last ∷ rest)) ∙ e)

  dashes_then_more : (more : Text) (rest : List Text) → leaf_fault name (word ∷ dashes ∷ more ∷ rest) ≡ [] → ⊥
  unfolding clap_on_literals
  dashes_then_more more rest e = not_empty kind.UnknownArgument [] (sym (fault_is (dashes ∷ more ∷ rest)) ∙ e)

  named : (rest : List Text) → Decided name (word ∷ rest)
  named [] = alone
  named (last ∷ []) =
      elim (cases_Bool (bytes_eq last dashes)) [
        | inl same ↦ subst (λ (l : Text). Decided name (word ∷ l ∷ [])) (sym ((bytes_eq-Decides last dashes).0 same)) then_dashes
        | inr another ↦ inr (
          then_more last [] another,
          ap₂ (λ (a b : Bool). cond a (Some (Some last)) (cond b None (cond (ends_options last) (Some (Some word)) None))) other free
              ∙ ap (λ (c : Bool). cond c (Some (Some word)) None) another,
        )
      ]
  named (last ∷ more ∷ rest) =
      elim (cases_Bool (bytes_eq last dashes)) [
        | inl same ↦ subst (λ (l : Text). Decided name (word ∷ l ∷ more ∷ rest)) (sym ((bytes_eq-Decides last dashes).0 same)) (inr (dashes_then_more more rest, refl))
        | inr another ↦ inr (then_more last (more ∷ rest) another, refl)
      ]

pub decided : (name : Text) (words : List Text) → Decided name words
unfolding clap_on_literals
decided name [] = inl (refl, refl)
decided name (word ∷ rest) =
    elim (cases_Bool (bytes_eq word dashes)) [
      | inl same ↦ subst (λ (w : Text). Decided name (w ∷ rest)) (sym ((bytes_eq-Decides word dashes).0 same)) (ended name rest)
      | inr other ↦ elim (cases_Bool (is_flag word)) [
        | inl flag ↦ inr (flag_refuses name word other flag rest, flag_names_none name word other flag rest)
        | inr free ↦ named name word other free rest
      ]
    ]

-- words that are taken name the file that is found, and words that name one are taken
pub taken_names : (name : Text) (words : List Text) → leaf_fault name words ≡ [] → file_named words ≡ Some (leaf_file name words)
taken_names name words e =
    elim (decided name words) [
      | inl it ↦ it.1
      | inr it ↦ absurd (it.0 e)
    ]

pub named_taken : (name : Text) (words : List Text) (file : Option Text) → file_named words ≡ Some file → leaf_fault name words ≡ []
named_taken name words file e =
    elim (decided name words) [
      | inl it ↦ it.0
      | inr it ↦ absurd (none-some file (sym it.1 ∙ e))
    ]
