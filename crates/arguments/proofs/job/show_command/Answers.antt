use Rattle.std.proofs.Common.{◌≡◌, ◌∙◌, ◌||◌, Bool, codes, true, false, ap, ap₂, refl}
use Rattle.std.proofs.lemmas.Result.{IfOk-weaker}
use Rattle.clap.specs.Simple.{App, app_of, with_rule}
use Rattle.clap.specs.declared.builder.command.Command.TheViews.{out-Command as fields_of}
use Rattle.arguments.specs.CommandLine.{file_rule, reading_app}
use Rattle.arguments.proofs.job.show_command.Goals as goal

pub returns-clause-app : goal.returns-clause-app
returns-clause-app c =
    let show : app_of c.in_ok-show.show ≡ reading_app (codes "show") = c.in_ok-show.ensures.app ∙ ap (λ (a : App). with_rule a file_rule) c.described-show.ensures.app in
    IfOk-weaker c.arg.result _ _ (λ made added. added.shape c.option.ensures.local ∙ ap₂ with_rule show c.option.ensures.rule) c.arg.ensures

or_false : (a : Bool) → (a || false) ≡ a
or_false true = refl
or_false false = refl

pub returns-clause-local : goal.returns-clause-local
returns-clause-local c =
    let show : (fields_of c.in_ok-show.show).has_globals ≡ false = c.in_ok-show.ensures.local ∙ c.described-show.ensures.local in
    IfOk-weaker c.arg.result _ _ (λ made added. added.globals ∙ (ap (λ b. (fields_of c.in_ok-show.show).has_globals || b) c.option.ensures.local ∙ (or_false _ ∙ show))) c.arg.ensures
