-- What a parse reads of the command line that is understood.
use Rattle.std.specs.Prelude.{ℕ, List, [], ◌∷◌, ◌++◌, Bool, Some, true, false, codes}
use Rattle.clap.specs.Walk.{Rule}
use Rattle.clap.specs.declared.builder.action.ArgAction.TheVariants.{SetTrue}
use Rattle.clap.specs.Simple.{App, Shape, new_app, new_rule, on_top, with_rule, with_subcommand}

-- the program has a version; with no word but its own name it answers with help; a subcommand is
-- wanted
abbrev pub wanting_a_job : Shape → Shape
wanting_a_job s =
    record s { has_version = true; arg_required_else_help = true; subcommand_required = true }

unfoldable pub program : App
program = on_top wanting_a_job (new_app (codes "kbroker"))

-- a file, named by a word that belongs to no option
abbrev pub file_rule : Rule
file_rule = record (new_rule (codes "file")) { value_names = 1 }

-- an option `--NAME VALUE`
abbrev pub option_rule : List ℕ → Bool → Rule
option_rule name must =
    record (new_rule name) { long = Some name; value_names = 1; required = must }

-- an option that one more `--NAME` names too
abbrev pub also_named : Rule → List ℕ → Rule
also_named rule name = record rule { aliases = rule.aliases ++ name ∷ [] }

-- an option that one more `-c` names too
abbrev pub also_short : Rule → ℕ → Rule
also_short rule name = record rule { short_aliases = rule.short_aliases ++ name ∷ [] }

-- the option of the address to listen on, which `--port` and `-p` (112) name too: so it is told
-- what is wrong with a port alone
abbrev pub listen_rule : Rule
listen_rule = also_short (also_named (option_rule (codes "listen") true) (codes "port")) 112

-- the option of the settings' file, which `--config` names too, as servers call theirs
abbrev pub settings_rule : Rule
settings_rule = also_named (option_rule (codes "settings") false) (codes "config")

-- a flag `--NAME`
abbrev pub flag_rule : List ℕ → Rule
flag_rule name = record (new_rule name) { long = Some name; action = Some SetTrue }

-- two options more
abbrev pub with_two_rules : App → Rule → Rule → App
with_two_rules a first second = with_rule (with_rule a first) second

-- three options more
abbrev pub with_rules : App → Rule → Rule → Rule → App
with_rules a first second third = with_rule (with_rule (with_rule a first) second) third

-- the options of `serve` that say where, and how many are served
abbrev pub with_serve_numbers : App → App
with_serve_numbers a =
    with_rules a listen_rule (option_rule (codes "workers") false)
    (option_rule (codes "connections") false)

-- those that change nothing where they aren't given
abbrev pub with_serve_switches : App → App
with_serve_switches a =
    with_two_rules a (option_rule (codes "for") false) (option_rule (codes "idle") false)

-- those of what is told, and of the time before each line of it
abbrev pub with_serve_reports : App → App
with_serve_reports a =
    with_two_rules a (option_rule (codes "audit") false) (flag_rule (codes "log-times"))

-- those of the time that a login has, and a frame
abbrev pub with_serve_deadlines : App → App
with_serve_deadlines a =
    with_two_rules a (option_rule (codes "login-within") false)
    (option_rule (codes "frame-within") false)

-- those of connections that aren't counted, and of those of one host and of one user
abbrev pub with_serve_shares : App → App
with_serve_shares a =
    with_rules a (flag_rule (codes "endless")) (option_rule (codes "per-host") false)
    (option_rule (codes "per-user") false)

-- those of how fast each user may ask
abbrev pub with_serve_rates : App → App
with_serve_rates a =
    with_two_rules a (option_rule (codes "rate") false) (option_rule (codes "rate-bytes") false)

-- those of a broker that is steered
abbrev pub with_serve_steering : App → App
with_serve_steering a =
    with_two_rules a settings_rule (flag_rule (codes "control"))

-- those of how a server stops
abbrev pub with_serve_ending : App → App
with_serve_ending a =
    with_two_rules a (option_rule (codes "grace") false) (flag_rule (codes "stop-with-input"))

-- those for clients that look for other versions
abbrev pub with_serve_clients : App → App
with_serve_clients a = with_rule a (flag_rule (codes "librdkafka"))

-- the options of `serve`
abbrev pub with_serve_options : App → App
with_serve_options a =
    with_serve_clients
    (with_serve_ending
    (with_serve_steering
    (with_serve_rates
    (with_serve_shares
    (with_serve_deadlines
    (with_serve_reports (with_serve_switches (with_serve_numbers a))))))))

abbrev pub serve_shape : Shape
serve_shape = (with_serve_options (new_app (codes "serve"))).top

-- the subcommand of this name, after which a file may be named
abbrev pub reading_app : List ℕ → App
reading_app name = with_rule (new_app name) file_rule

abbrev pub reading_shape : List ℕ → Shape
reading_shape name = (reading_app name).top

-- the subcommand `show` with its file and its option
abbrev pub show_app : App
show_app = with_rule (reading_app (codes "show")) (option_rule (codes "answers") false)

abbrev pub show_shape : Shape
show_shape = show_app.top

-- the program with a subcommand for each job
unfoldable pub command_line : App
unfolding program
command_line =
    with_subcommand
    (with_subcommand
    (with_subcommand (with_subcommand program (reading_shape (codes "replay")))
    (reading_shape (codes "check")))
    serve_shape)
    show_shape
