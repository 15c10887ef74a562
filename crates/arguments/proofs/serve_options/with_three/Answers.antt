use Rattle.std.proofs.Common.{◌≡◌, ◌∙◌, ◌||◌, Bool, true, false, ap, refl}
use Rattle.std.proofs.lemmas.Result.{IfOk-weaker}
use Rattle.clap.specs.Simple.{app_of, with_rule}
use Rattle.clap.specs.Walk.{rule_of}
use Rattle.clap.specs.declared.builder.command.Command.TheViews.{out-Command as fields_of}
use Rattle.arguments.proofs.serve_options.with_three.Goals as goal

pub returns-clause-app : goal.returns-clause-app
returns-clause-app c =
    let one : app_of c.in_ok-arg.field-0 ≡ with_rule (app_of c.args.command) (rule_of c.args.first) = c.in_ok-arg.ensures.shape c.requires.first in
    let two : app_of c.in_ok-arg-2.field-0 ≡ with_rule (with_rule (app_of c.args.command) (rule_of c.args.first)) (rule_of c.args.second) = c.in_ok-arg-2.ensures.shape c.requires.second ∙ ap (λ a. with_rule a (rule_of c.args.second)) one in
    IfOk-weaker c.arg-3.result _ _ (λ made added. added.shape c.requires.third ∙ ap (λ a. with_rule a (rule_of c.args.third)) two) c.arg-3.ensures

or_false : (a : Bool) → (a || false) ≡ a
or_false true = refl
or_false false = refl

pub returns-clause-local : goal.returns-clause-local
returns-clause-local c =
    let one : (fields_of c.in_ok-arg.field-0).has_globals ≡ (fields_of c.args.command).has_globals = c.in_ok-arg.ensures.globals ∙ (ap (λ b. (fields_of c.args.command).has_globals || b) c.requires.first ∙ or_false _) in
    let two : (fields_of c.in_ok-arg-2.field-0).has_globals ≡ (fields_of c.args.command).has_globals = c.in_ok-arg-2.ensures.globals ∙ (ap (λ b. (fields_of c.in_ok-arg.field-0).has_globals || b) c.requires.second ∙ (or_false _ ∙ one)) in
    IfOk-weaker c.arg-3.result _ _ (λ made added. added.globals ∙ (ap (λ b. (fields_of c.in_ok-arg-2.field-0).has_globals || b) c.requires.third ∙ (or_false _ ∙ two))) c.arg-3.ensures
