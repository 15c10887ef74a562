use Rattle.std.proofs.Common.{◌∙◌}
use Rattle.arguments.proofs.Kept.{about_keeps, after_help_keeps, keeps_then, long_about_keeps}
use Rattle.arguments.proofs.job.described.Goals as goal

pub returns : goal.returns
returns c =
    let about = about_keeps c.new.result c.about.result _ c.about.ensures in
    let long = long_about_keeps c.about.result c.long_about.result _ c.long_about.ensures in
    let example = after_help_keeps c.long_about.result c.after_help.result _ c.after_help.ensures in
    let all = keeps_then c.new.result c.about.result c.after_help.result about (keeps_then c.about.result c.long_about.result c.after_help.result long example) in
    record { app = all.app ∙ c.new.ensures.app; local = all.globals ∙ c.new.ensures.local }
