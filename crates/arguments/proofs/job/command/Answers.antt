use Rattle.std.proofs.Common.{◌≡◌, ◌∙◌, ap, ap₂, codes, false}
use Rattle.std.proofs.lemmas.Result.{IfOk-weaker}
use Rattle.clap.specs.Simple.{App, app_of, shape_of, with_rule, with_subcommand}
use Rattle.clap.specs.declared.builder.command.Command.TheViews.{out-Command as fields_of}
use Rattle.arguments.specs.CommandLine.{command_line, file_rule, program, reading_shape, serve_shape, with_serve_options}
use Rattle.arguments.proofs.job.command.Goals as goal

pub returns : goal.returns
unfolding command_line
returns c =
    let replay : shape_of c.in_ok-replay.replay ≡ reading_shape (codes "replay") = ap (λ (a : App). a.top) (c.in_ok-replay.ensures.app ∙ ap (λ (a : App). with_rule a file_rule) c.described-replay.ensures.app) in
    let replay_local : (fields_of c.in_ok-replay.replay).has_globals ≡ false = c.in_ok-replay.ensures.local ∙ c.described-replay.ensures.local in
    let check : shape_of c.in_ok-check.check ≡ reading_shape (codes "check") = ap (λ (a : App). a.top) (c.in_ok-check.ensures.app ∙ ap (λ (a : App). with_rule a file_rule) c.described-check.ensures.app) in
    let check_local : (fields_of c.in_ok-check.check).has_globals ≡ false = c.in_ok-check.ensures.local ∙ c.described-check.ensures.local in
    let serve : shape_of c.in_ok-serve.serve ≡ serve_shape = ap (λ (a : App). a.top) (c.in_ok-serve.ensures.app ∙ ap with_serve_options c.described-serve.ensures.app) in
    let serve_local : (fields_of c.in_ok-serve.serve).has_globals ≡ false = c.in_ok-serve.ensures.local ∙ c.described-serve.ensures.local in
    let one : app_of c.in_ok-subcommand.field-0 ≡ with_subcommand program (reading_shape (codes "replay")) = c.in_ok-subcommand.ensures.shape replay_local ∙ ap₂ with_subcommand c.bare_program.ensures replay in
    let two : app_of c.in_ok-subcommand-2.field-0 ≡ with_subcommand (with_subcommand program (reading_shape (codes "replay"))) (reading_shape (codes "check")) = c.in_ok-subcommand-2.ensures.shape check_local ∙ ap₂ with_subcommand one check in
    let three : app_of c.in_ok-subcommand-3.field-0 ≡ with_subcommand (with_subcommand (with_subcommand program (reading_shape (codes "replay"))) (reading_shape (codes "check"))) serve_shape = c.in_ok-subcommand-3.ensures.shape serve_local ∙ ap₂ with_subcommand two serve in
    IfOk-weaker c.subcommand-4.result _ _ (λ made added. added.shape c.in_ok-show_command.ensures.local ∙ ap₂ with_subcommand three (ap (λ (a : App). a.top) c.in_ok-show_command.ensures.app)) c.subcommand-4.ensures
