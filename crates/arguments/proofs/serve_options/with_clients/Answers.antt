use Rattle.std.proofs.Common.{◌≡◌, ◌∙◌, ◌||◌, Bool, true, false, ap, refl}
use Rattle.std.proofs.lemmas.Result.{IfOk-weaker}
use Rattle.clap.specs.Simple.{app_of, with_rule}
use Rattle.clap.specs.declared.builder.command.Command.TheViews.{out-Command as fields_of}
use Rattle.arguments.proofs.serve_options.with_clients.Goals as goal

pub returns-clause-app : goal.returns-clause-app
returns-clause-app c = IfOk-weaker c.arg.result _ _ (λ made added. added.shape c.flag.ensures.local ∙ ap (with_rule (app_of c.args.command)) c.flag.ensures.rule) c.arg.ensures

or_false : (a : Bool) → (a || false) ≡ a
or_false true = refl
or_false false = refl

pub returns-clause-local : goal.returns-clause-local
returns-clause-local c = IfOk-weaker c.arg.result _ _ (λ made added. added.globals ∙ (ap (λ b. (fields_of c.args.command).has_globals || b) c.flag.ensures.local ∙ or_false _)) c.arg.ensures
