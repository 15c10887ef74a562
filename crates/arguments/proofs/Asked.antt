-- Which words a parse of the command line takes, and what they ask for.
use Rattle.std.proofs.Common.{◌≡◌, ◌∙◌, ◌⊎◌, ◌++◌, Bool, cond, true, false, refl, sym, ap, subst, inl, inr, List, [], ◌∷◌, drop, codes, Option, Some, None, append-nil, append_assoc}
use Rattle.std.specs.Prelude.{find, option_map, is_some, Box}
use Rattle.std.specs.List.{fold}
use Rattle.std.specs.Option.{option_map_or}
use Rattle.std.specs.Str.{bytes_eq}
use Rattle.std.proofs.lemmas.Bool.{cases_Bool}
use Rattle.std.proofs.lemmas.Option.{none-some}
use Rattle.std.proofs.lemmas.Slice.Eq.{bytes_eq-Decides}
use Rattle.clap.specs.Walk.{Names, Row, Rule, Text, Walk, answers_to, finished, first_of, nothing_held, settled, stop_after, walk, walked}
use Rattle.clap.specs.Matches.{subcommand_name_of}
use Rattle.clap.specs.Values.{kind_of}
use Rattle.clap.specs.declared.error.Error.{Error}
use Rattle.clap.specs.Simple.{App, HasMatchesOf, Shape, built, entered, is_simple, names_of, subcommand_of, subcommand_rows, subcommand_rows_of}
use Rattle.clap.specs.Kinds.{HasKind, Kinds, or_else}
use Rattle.clap.specs.Faults.{built_fault, check_fault, defaults_fault, entered_fault, fault_of, is_simple_and_free, level_fault, settle_fault, turn_fault, walk_fault}
use Rattle.clap.specs.declared.error.kind.ErrorKind.TheVariants as kind
use Rattle.clap.specs.declared.parser.matches.ArgMatches.{ArgMatches}
use Rattle.clap.specs.declared.parser.matches.ArgMatches.TheViews.{out-ArgMatches, out-SubCommand}
use Rattle.clap.specs.declared.parser.matches.SubCommand.{SubCommand}
use Rattle.std.specs.Box.{box_value}
use Rattle.clap.proofs.OnLiterals.{clap_on_literals}
use Rattle.arguments.specs.CommandLine.{command_line}
use Rattle.arguments.specs.Asked.{AsksNothing, Gives, IsAsked, begin_with}
use Rattle.arguments.specs.Serving.{IsServedBy, NoneServes}
use Rattle.arguments.specs.Job.{file_asked, file_named, file_of}
use Rattle.arguments.specs.declared.job.Job.TheVariants.{Replay, Check, Serve, Show}
use Rattle.arguments.specs.declared.serving.Serving.{Serving}
use Rattle.arguments.proofs.Named.{leaf_fault, leaf_file, named_taken, taken_names}
use Rattle.arguments.proofs.Refused.{after_dashes, dashes, first_empty, not_empty, second_empty, start, word_refused}

abbrev replay : Text
replay = codes "replay"

abbrev check : Text
check = codes "check"

abbrev serve : Text
serve = codes "serve"

abbrev show : Text
show = codes "show"

-- ---- one level of a parse

-- what may fail after a level's words and what they enter
abbrev later : Shape → Names → List Text → Bool → Kinds
later s names words has =
    let end = (walk s.rules names nothing_held words).held in
    or_else (settle_fault s.rules s.args_override_self end)
    (or_else (defaults_fault (settled s.rules end).rows s.rules)
    (check_fault s (finished s.rules end) has))

module _ (s : Shape) (names : Names) (words : List Text) (has : Bool) (below : Kinds) (e : level_fault s names nothing_held words has below ≡ []) where
  words_pass : walk_fault s names start words ≡ []
  words_pass = first_empty (walk_fault s names start words) (or_else below (later s names words has)) e

  below_passes : below ≡ []
  below_passes = first_empty below (later s names words has) (second_empty (walk_fault s names start words) (or_else below (later s names words has)) e)

-- once a subcommand is met, all further words are its own
stopped_walk : (c : List Rule) (names : Names) (w : Walk) (name : Text) (before words : List Text) → (fold (walked c names) (record w { stopped = Some (name, before) }) words).stopped ≡ Some (name, before ++ words)
unfolding clap_on_literals
stopped_walk c names w name before [] = ap (λ (l : List Text). Some (name, l)) (sym (append-nil before))
stopped_walk c names w name before (x ∷ xs) =
    stopped_walk c names w name (before ++ x ∷ []) xs ∙ ap (λ (l : List Text). Some (name, l)) (append_assoc before (x ∷ []) xs)

-- ---- what may follow the program's own name

abbrev names : Names
names = (replay, []) ∷ (check, []) ∷ (serve, []) ∷ (show, []) ∷ (codes "help", []) ∷ []

abbrev fault_at : List Text → Kinds
fault_at words = built_fault (built command_line) nothing_held words

-- a subcommand that reads a file takes what its leaf takes
module _ (rest : List Text) where
  after_replay : fault_at (replay ∷ rest) ≡ [] → leaf_fault replay rest ≡ []
  unfolding command_line clap_on_literals
  after_replay e =
      let a : App = built command_line in
      let stop : Option (Text × List Text) = (walk a.top.rules names nothing_held (replay ∷ rest)).stopped in
      let met : stop ≡ Some (replay, rest) = stopped_walk a.top.rules names start replay [] rest in
      let below : entered_fault a stop ≡ [] = below_passes a.top names (replay ∷ rest) (is_some (entered a stop)) (entered_fault a stop) e in
      subst (λ (o : Option (Text × List Text)). entered_fault a o ≡ []) met below

  after_check : fault_at (check ∷ rest) ≡ [] → leaf_fault check rest ≡ []
  unfolding command_line clap_on_literals
  after_check e =
      let a : App = built command_line in
      let stop : Option (Text × List Text) = (walk a.top.rules names nothing_held (check ∷ rest)).stopped in
      let met : stop ≡ Some (check, rest) = stopped_walk a.top.rules names start check [] rest in
      let below : entered_fault a stop ≡ [] = below_passes a.top names (check ∷ rest) (is_some (entered a stop)) (entered_fault a stop) e in
      subst (λ (o : Option (Text × List Text)). entered_fault a o ≡ []) met below

  help_refused : fault_at (codes "help" ∷ rest) ≡ [] → ⊥
  unfolding command_line clap_on_literals
  help_refused e = not_empty kind.DisplayHelp (kind.InvalidSubcommand ∷ []) e

abbrev top : Shape
top = (built command_line).top

nothing_refused : fault_at [] ≡ [] → ⊥
unfolding command_line clap_on_literals
nothing_refused e = not_empty kind.DisplayHelpOnMissingArgumentOrSubcommand [] e

dashes_refused : (rest : List Text) → fault_at (dashes ∷ rest) ≡ [] → ⊥
unfolding command_line clap_on_literals
dashes_refused [] e = not_empty kind.DisplayHelpOnMissingArgumentOrSubcommand [] e
dashes_refused (word ∷ rest) e =
    let a : App = built command_line in
    let words : List Text = dashes ∷ word ∷ rest in
    let stop : Option (Text × List Text) = (walk a.top.rules names nothing_held words).stopped in
    let ended : Walk = record start { is_trailing = true } in
    let pass : walk_fault top names ended (word ∷ rest) ≡ [] = words_pass a.top names words (is_some (entered a stop)) (entered_fault a stop) e in
    after_dashes top names word (first_empty (turn_fault top names ended word) (walk_fault top names (walked top.rules names ended word) rest) pass)

passed_over : (word name : Text) (rest : Names) → bytes_eq word name ≡ false → find (answers_to word) ((name, []) ∷ rest) ≡ find (answers_to word) rest
passed_over word name rest other = go (bytes_eq name word) refl
  where
    go : (b : Bool) → bytes_eq name word ≡ b → find (answers_to word) ((name, []) ∷ rest) ≡ find (answers_to word) rest
    go true is =
        let same : bytes_eq word name ≡ true = (bytes_eq-Decides word name).1 (sym ((bytes_eq-Decides name word).0 is)) in
        let bad : true ≡ false = sym same ∙ other in
        cc
    go false is = rw is refl

other_refused : (word : Text) (rest : List Text) → bytes_eq word replay ≡ false → bytes_eq word check ≡ false → bytes_eq word serve ≡ false → bytes_eq word show ≡ false → bytes_eq word (codes "help") ≡ false → bytes_eq word dashes ≡ false → fault_at (word ∷ rest) ≡ [] → ⊥
unfolding command_line clap_on_literals
other_refused word rest no_replay no_check no_serve no_show no_help no_dashes e =
    let a : App = built command_line in
    let words : List Text = word ∷ rest in
    let stop : Option (Text × List Text) = (walk a.top.rules names nothing_held words).stopped in
    let pass : walk_fault top names start words ≡ [] = words_pass a.top names words (is_some (entered a stop)) (entered_fault a stop) e in
    let none : find (answers_to word) names ≡ None = passed_over word replay ((check, []) ∷ (serve, []) ∷ (show, []) ∷ (codes "help", []) ∷ []) no_replay ∙ (passed_over word check ((serve, []) ∷ (show, []) ∷ (codes "help", []) ∷ []) no_check ∙ (passed_over word serve ((show, []) ∷ (codes "help", []) ∷ []) no_serve ∙ (passed_over word show ((codes "help", []) ∷ []) no_show ∙ passed_over word (codes "help") [] no_help))) in
    word_refused top word names (ap (option_map (λ (p : Text × List Text). p.0)) none) no_dashes
    (first_empty (turn_fault top names start word) (walk_fault top names (walked top.rules names start word) rest) pass)

-- ---- the words that are taken

abbrev IsName : Text → Type 0
IsName name = (name ≡ replay) ⊎ ((name ≡ check) ⊎ ((name ≡ serve) ⊎ (name ≡ show)))

abbrev Taken : List Text → Type 0
Taken words = (name : Text) × ((rest : List Text) × (IsName name × (words ≡ name ∷ rest)))

abbrev starting : List Text → Text → Type 0
starting rest word = fault_at (word ∷ rest) ≡ []

taken_words : (words : List Text) → fault_at words ≡ [] → Taken words
taken_words [] e = absurd (nothing_refused e)
taken_words (word ∷ rest) e =
    elim (cases_Bool (bytes_eq word replay)) [
      | inl same ↦ (word, (rest, (inl ((bytes_eq-Decides word replay).0 same), refl)))
      | inr no_replay ↦ elim (cases_Bool (bytes_eq word check)) [
        | inl same ↦ (word, (rest, (inr (inl ((bytes_eq-Decides word check).0 same)), refl)))
        | inr no_check ↦ elim (cases_Bool (bytes_eq word serve)) [
          | inl same ↦ (word, (rest, (inr (inr (inl ((bytes_eq-Decides word serve).0 same))), refl)))
          | inr no_serve ↦ elim (cases_Bool (bytes_eq word show)) [
            | inl same ↦ (word, (rest, (inr (inr (inr ((bytes_eq-Decides word show).0 same))), refl)))
            | inr no_show ↦ elim (cases_Bool (bytes_eq word (codes "help"))) [
              | inl same ↦ absurd (help_refused rest (subst (starting rest) ((bytes_eq-Decides word (codes "help")).0 same) e))
              | inr no_help ↦ elim (cases_Bool (bytes_eq word dashes)) [
                | inl same ↦ absurd (dashes_refused rest (subst (starting rest) ((bytes_eq-Decides word dashes).0 same) e))
                | inr no_dashes ↦ absurd (other_refused word rest no_replay no_check no_serve no_show no_help no_dashes e)
              ]
            ]
          ]
        ]
      ]
    ]

-- ---- the subcommand that is entered

within : {C : Type 0} (x y : C) → Some x ≡ Some y → x ≡ y
within x y same = cc

-- the subcommand that these words enter
abbrev entered_at : List Text → Option (Text × List Row)
entered_at words = entered (built command_line) (stop_after (built command_line).top.rules (names_of (built command_line)) words)

abbrev entered_name_of : List Text → Option Text
entered_name_of words = option_map (λ p. p.0) (entered_at words)

-- it is entered by its name, whatever follows
module _ (rest : List Text) where
  enters_replay : entered_at (replay ∷ rest) ≡ entered (built command_line) (Some (replay, rest))
  unfolding command_line clap_on_literals
  enters_replay = ap (λ (s : Option (Text × List Text)). entered (built command_line) s) (stopped_walk (built command_line).top.rules names start replay [] rest)

  enters_check : entered_at (check ∷ rest) ≡ entered (built command_line) (Some (check, rest))
  unfolding command_line clap_on_literals
  enters_check = ap (λ (s : Option (Text × List Text)). entered (built command_line) s) (stopped_walk (built command_line).top.rules names start check [] rest)

  enters_serve : entered_name_of (serve ∷ rest) ≡ Some serve
  unfolding command_line clap_on_literals
  enters_serve = ap (λ (s : Option (Text × List Text)). option_map (λ p. p.0) (entered (built command_line) s)) (stopped_walk (built command_line).top.rules names start serve [] rest)

  enters_show : entered_name_of (show ∷ rest) ≡ Some show
  unfolding command_line clap_on_literals
  enters_show = ap (λ (s : Option (Text × List Text)). option_map (λ p. p.0) (entered (built command_line) s)) (stopped_walk (built command_line).top.rules names start show [] rest)

  replay_named : entered_name_of (replay ∷ rest) ≡ Some replay
  unfolding command_line clap_on_literals
  replay_named = ap (option_map (λ p. p.0)) enters_replay

  check_named : entered_name_of (check ∷ rest) ≡ Some check
  unfolding command_line clap_on_literals
  check_named = ap (option_map (λ p. p.0)) enters_check

  entered_named : (name : Text) → IsName name → entered_name_of (name ∷ rest) ≡ Some name
  entered_named name (inl is) = subst (λ (n : Text). entered_name_of (n ∷ rest) ≡ Some n) (sym is) replay_named
  entered_named name (inr (inl is)) = subst (λ (n : Text). entered_name_of (n ∷ rest) ≡ Some n) (sym is) check_named
  entered_named name (inr (inr (inl is))) = subst (λ (n : Text). entered_name_of (n ∷ rest) ≡ Some n) (sym is) enters_serve
  entered_named name (inr (inr (inr is))) = subst (λ (n : Text). entered_name_of (n ∷ rest) ≡ Some n) (sym is) enters_show

  -- and the rows of one that reads a file have its file
  replay_file : (options : List Row) → entered_at (replay ∷ rest) ≡ Some (replay, options) → leaf_file replay rest ≡ first_of (codes "file") options
  unfolding command_line clap_on_literals
  replay_file options e = ap (λ (o : Option (Text × List Row)). option_map_or (λ p. first_of (codes "file") p.1) o None) (sym enters_replay ∙ e)

  check_file : (options : List Row) → entered_at (check ∷ rest) ≡ Some (check, options) → leaf_file check rest ≡ first_of (codes "file") options
  unfolding command_line clap_on_literals
  check_file options e = ap (λ (o : Option (Text × List Row)). option_map_or (λ p. first_of (codes "file") p.1) o None) (sym enters_check ∙ e)

-- words that are taken and enter a subcommand begin with its name
begun : (name : Text) (words : List Text) → fault_at words ≡ [] → entered_name_of words ≡ Some name → (rest : List Text) × (words ≡ name ∷ rest)
begun name words e found =
    let it = taken_words words e in
    let named : Some it.0 ≡ Some name = sym (entered_named it.1.0 it.0 it.1.1.0) ∙ (sym (ap entered_name_of it.1.1.1) ∙ found) in
    (it.1.0, it.1.1.1 ∙ ap (λ (n : Text). n ∷ it.1.0) (within it.0 name named))

begins_with : (name : Text) (words rest : List Text) → words ≡ name ∷ rest → begin_with name words ≡ true
begins_with name words rest is = ap (begin_with name) is ∙ (bytes_eq-Decides name name).1 refl

-- ---- a job that reads a file

asks_after : (name : Text) (words rest : List Text) → words ≡ name ∷ rest → file_asked name words ≡ file_named rest
asks_after name words rest is = ap (file_asked name) is ∙ ap (λ (b : Bool). cond b (file_named rest) None) ((bytes_eq-Decides name name).1 refl)

-- the words ask for this job, and so they begin with its name
asked_begins : (name : Text) (words : List Text) (file : Option Text) → file_asked name words ≡ Some file → (rest : List Text) × ((words ≡ name ∷ rest) × (file_named rest ≡ Some file))
asked_begins name [] file e = absurd (none-some file e)
asked_begins name (word ∷ rest) file e =
    elim (cases_Bool (bytes_eq word name)) [
      | inl same ↦ (rest, (ap (λ (w : Text). w ∷ rest) ((bytes_eq-Decides word name).0 same), sym (ap (λ (b : Bool). cond b (file_named rest) None) same) ∙ e))
      | inr other ↦ absurd (none-some file (sym (ap (λ (b : Bool). cond b (file_named rest) None) other) ∙ e))
    ]

abbrev above : Text → List Text → Kinds → Kinds
above name rest below = level_fault top names nothing_held (name ∷ rest) true below

replay_passes : (rest : List Text) (file : Option Text) → file_named rest ≡ Some file → fault_at (replay ∷ rest) ≡ []
unfolding command_line clap_on_literals
replay_passes [] file e = ap (above replay []) (named_taken replay [] file e)
replay_passes (word ∷ []) file e = ap (above replay (word ∷ [])) (named_taken replay (word ∷ []) file e)
replay_passes (word ∷ last ∷ []) file e = ap (above replay (word ∷ last ∷ [])) (named_taken replay (word ∷ last ∷ []) file e)
replay_passes (word ∷ last ∷ more ∷ rest) file e = absurd (none-some file e)

check_passes : (rest : List Text) (file : Option Text) → file_named rest ≡ Some file → fault_at (check ∷ rest) ≡ []
unfolding command_line clap_on_literals
check_passes [] file e = ap (above check []) (named_taken check [] file e)
check_passes (word ∷ []) file e = ap (above check (word ∷ [])) (named_taken check (word ∷ []) file e)
check_passes (word ∷ last ∷ []) file e = ap (above check (word ∷ last ∷ [])) (named_taken check (word ∷ last ∷ []) file e)
check_passes (word ∷ last ∷ more ∷ rest) file e = absurd (none-some file e)

-- a job of this name reads a file: what the words ask of it is what a parse makes of them
pub record Reads (name : Text) : Type 0 where
  pub passes : (rest : List Text) (file : Option Text) → file_named rest ≡ Some file → fault_at (name ∷ rest) ≡ []
  pub names : (rest : List Text) → fault_at (name ∷ rest) ≡ [] → file_named rest ≡ Some (leaf_file name rest)
  pub found : (rest : List Text) (options : List Row) → entered_at (name ∷ rest) ≡ Some (name, options) → leaf_file name rest ≡ first_of (codes "file") options
  pub named : (rest : List Text) → entered_name_of (name ∷ rest) ≡ Some name

pub replay_reads : Reads replay
replay_reads = record {
  passes = replay_passes;
  names = λ rest e. taken_names replay rest (after_replay rest e);
  found = replay_file;
  named = replay_named;
}

pub check_reads : Reads check
check_reads = record {
  passes = check_passes;
  names = λ rest e. taken_names check rest (after_check rest e);
  found = check_file;
  named = check_named;
}

pub line_is_simple : is_simple command_line ≡ true
unfolding command_line clap_on_literals
line_is_simple = refl

pub line_is_free : is_simple_and_free command_line ≡ true
unfolding command_line clap_on_literals
line_is_free = refl

-- words that ask for a job that reads a file are refused by no step of a parse
pub asked_passes : (name : Text) → Reads name → (words : List Text) (file : Option Text) → file_of name words ≡ Some file → fault_of command_line words ≡ []
unfolding command_line
asked_passes name reads words file e =
    let it = asked_begins name (drop 1 words) file e in
    subst (λ (l : List Text). fault_at l ≡ []) (sym it.1.0) (reads.passes it.0 file it.1.1)

-- and enter it
asked_enters : (name : Text) → Reads name → (words : List Text) (file : Option Text) → file_of name words ≡ Some file → option_map (λ p. p.0) (subcommand_of command_line words) ≡ Some name
unfolding command_line
asked_enters name reads words file e =
    let it = asked_begins name (drop 1 words) file e in
    ap entered_name_of it.1.0 ∙ reads.named it.0

-- words that are taken and enter it ask for it, with the file that is found
entered_asks : (name : Text) → Reads name → (words : List Text) (options : List Row) → fault_of command_line words ≡ [] → subcommand_of command_line words ≡ Some (name, options)
    → file_of name words ≡ Some (first_of (codes "file") options)
unfolding command_line
entered_asks name reads words options e read =
    let it = begun name (drop 1 words) e (ap (option_map (λ p. p.0)) read) in
    let taken : fault_at (name ∷ it.0) ≡ [] = subst (λ (l : List Text). fault_at l ≡ []) it.1 e in
    let entered_here : entered_at (name ∷ it.0) ≡ Some (name, options) = sym (ap entered_at it.1) ∙ read in
    asks_after name (drop 1 words) it.0 it.1 ∙ (reads.names it.0 taken ∙ ap (λ (f : Option Text). Some f) (reads.found it.0 options entered_here))

module _ {Z : Type 0} where
  entered_name : (sub : Option (Box SubCommand Z)) → option_map (λ p. p.0) (subcommand_rows sub) ≡ option_map (λ b. (out-SubCommand (box_value b)).name.now) sub
  entered_name None = refl
  entered_name (Some b) = refl

both_parts : {A B : Type 0} (o : Option (A × B)) (a : A) (b : B) → option_map (λ p. p.0) o ≡ Some a → option_map (λ p. p.1) o ≡ Some b → o ≡ Some (a, b)
both_parts None a b e f = absurd (none-some a e)
both_parts (Some p) a b e f = λ i. Some (within p.0 a e i, within p.1 b f i)

-- the options of a subcommand that a parse found are those that the words give it
pub options_read : (name : Text) (a : App) (words : List Text) (m : ArgMatches) (options : List Row) → a ≡ command_line → HasMatchesOf a words m
    → subcommand_name_of m ≡ Some name → option_map (λ p. p.1) (subcommand_rows (out-ArgMatches m).subcommand) ≡ Some options → subcommand_of command_line words ≡ Some (name, options)
options_read name a words m options is has named told =
    sym ((has (ap is_simple is ∙ line_is_simple)).1 ∙ ap (λ (b : App). subcommand_of b words) is)
    ∙ both_parts (subcommand_rows_of m) name options (entered_name (out-ArgMatches m).subcommand ∙ named) told

-- what a parse that found a subcommand says of the words
module _ (a : App) (words : List Text) (m : ArgMatches) (is : a ≡ command_line) (has : HasMatchesOf a words m) (passed : is_simple_and_free a ≡ true → fault_of a words ≡ []) (name : Text) (options : List Row) (named : subcommand_name_of m ≡ Some name) (told : option_map (λ p. p.1) (subcommand_rows (out-ArgMatches m).subcommand) ≡ Some options) where
  passes : fault_of command_line words ≡ []
  passes = sym (ap (λ (b : App). fault_of b words) is) ∙ passed (ap is_simple_and_free is ∙ line_is_free)

  begins : begin_with name (drop 1 words) ≡ true
  unfolding command_line
  begins =
      let read = options_read name a words m options is has named told in
      let it = begun name (drop 1 words) passes (ap (option_map (λ p. p.0)) read) in
      begins_with name (drop 1 words) it.0 it.1

  pub gives : Gives name words options
  gives = record { begins = begins; taken = passes; read = options_read name a words m options is has named told }

  pub asks_for : Reads name → file_of name words ≡ Some (first_of (codes "file") options)
  asks_for reads = entered_asks name reads words options passes (options_read name a words m options is has named told)

-- words that some step of a parse refuses ask for no job
refused_asks_nothing : (words : List Text) → (fault_of command_line words ≡ [] → ⊥) → AsksNothing words
refused_asks_nothing words refused (Replay file) e = refused (asked_passes replay replay_reads words (option_map (λ f. f.now) file) e)
refused_asks_nothing words refused (Check file) e = refused (asked_passes check check_reads words (option_map (λ f. f.now) file) e)
refused_asks_nothing words refused (Serve serving) asked = refused asked.given.taken
refused_asks_nothing words refused (Show showing) asked = refused asked.given.taken

-- words that ask for something are refused only where an allocation fails
pub job_refused : (a : App) (words : List Text) (error : Error) → a ≡ command_line → (is_simple_and_free a ≡ true → HasKind (fault_of a words) error)
    → AsksNothing words ⊎ (kind_of error ≡ kind.OutOfMemory)
job_refused a words error is fails = go (fault_of command_line words) refl
  where
    only_memory : HasKind [] error → kind_of error ≡ kind.OutOfMemory
    only_memory (inl memory) = memory
    only_memory (inr none) = absurd none

    has : HasKind (fault_of command_line words) error
    has = subst (λ (b : App). HasKind (fault_of b words) error) is (fails (ap is_simple_and_free is ∙ line_is_free))

    go : (kinds : Kinds) → fault_of command_line words ≡ kinds → AsksNothing words ⊎ (kind_of error ≡ kind.OutOfMemory)
    go [] e = inr (only_memory (subst (λ (kinds : Kinds). HasKind kinds error) e has))
    go (first ∷ rest) e = inl (refused_asks_nothing words (λ none. not_empty first rest (sym e ∙ none)))

-- words in whose parse a subcommand was not found don't enter it
module _ (a : App) (words : List Text) (m : ArgMatches) (is : a ≡ command_line) (has : HasMatchesOf a words m) where
  not_named : (name : Text) → (subcommand_name_of m ≡ Some name → ⊥) → option_map (λ p. p.0) (subcommand_of command_line words) ≡ Some name → ⊥
  not_named name none read =
      let name_of : Option (Text × List Row) → Option Text = option_map (λ p. p.0) in
      let found : name_of (subcommand_rows_of m) ≡ name_of (subcommand_of command_line words) =
      ap name_of ((has (ap is_simple is ∙ line_is_simple)).1 ∙ ap (λ (b : App). subcommand_of b words) is) in
      none (sym (entered_name (out-ArgMatches m).subcommand) ∙ (found ∙ read))

  -- nor does a job ask to serve whose options serve in no way
  pub none_found : (subcommand_name_of m ≡ Some replay → ⊥) → (subcommand_name_of m ≡ Some check → ⊥) → (subcommand_name_of m ≡ Some show → ⊥)
      → ((s : Serving) → IsAsked words (Serve s) → ⊥) → AsksNothing words
  none_found no_replay no_check no_show no_serving (Replay file) e = not_named replay no_replay (asked_enters replay replay_reads words (option_map (λ f. f.now) file) e)
  none_found no_replay no_check no_show no_serving (Check file) e = not_named check no_check (asked_enters check check_reads words (option_map (λ f. f.now) file) e)
  none_found no_replay no_check no_show no_serving (Serve serving) asked = no_serving serving asked
  none_found no_replay no_check no_show no_serving (Show showing) asked = not_named show no_show (ap (option_map (λ p. p.0)) asked.given.read)

  pub serve_not_found : (subcommand_name_of m ≡ Some serve → ⊥) → (s : Serving) → IsAsked words (Serve s) → ⊥
  serve_not_found no_serve s asked = not_named serve no_serve (ap (option_map (λ p. p.0)) asked.given.read)

  pub serves_not : (options : List Row) → subcommand_name_of m ≡ Some serve → option_map (λ p. p.1) (subcommand_rows (out-ArgMatches m).subcommand) ≡ Some options
      → NoneServes (λ id. first_of id options) → (s : Serving) → IsAsked words (Serve s) → ⊥
  serves_not options named told none s asked =
      let read : Some (serve, asked.options) ≡ Some (serve, options) = sym asked.given.read ∙ options_read serve a words m options is has named told in
      let same : asked.options ≡ options = ap (λ (o : Option (Text × List Row)). option_map_or (λ p. p.1) o []) read in
      none s (subst (λ (rows : List Row). IsServedBy (λ id. first_of id rows) s) same asked.served) asked.within
