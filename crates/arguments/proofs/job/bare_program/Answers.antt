use Rattle.std.proofs.Common.{◌∙◌, ap, true}
use Rattle.clap.specs.Simple.{Shape, on_top}
use Rattle.arguments.specs.CommandLine.{program}
use Rattle.arguments.proofs.Kept.{about_keeps, has_version, helps_without_words, wants_subcommand}
use Rattle.arguments.proofs.job.bare_program.Goals as goal

pub returns : goal.returns
unfolding program
returns c =
    let about = about_keeps c.new.result c.about.result _ c.about.ensures in
    let version = has_version c.about.result c.version.result _ c.version.ensures in
    let wants = wants_subcommand c.version.result c.subcommand_required.result c.subcommand_required.ensures in
    let helps = helps_without_words c.subcommand_required.result c.arg_required_else_help.result c.arg_required_else_help.ensures in
    let versioned = version ∙ ap (on_top (λ (s : Shape). record s { has_version = true })) (about.app ∙ c.new.ensures.app) in
    helps ∙ ap (on_top (λ (s : Shape). record s { arg_required_else_help = true })) (wants ∙ ap (on_top (λ (s : Shape). record s { subcommand_required = true })) versioned)
