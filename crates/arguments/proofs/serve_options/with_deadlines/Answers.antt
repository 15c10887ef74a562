use Rattle.arguments.proofs.serve_options.with_deadlines.Goals as goal

pub returns-clause-app : goal.returns-clause-app
returns-clause-app c = rw (← c.option-login.ensures.rule, ← c.option-frame.ensures.rule) c.with_two.ensures.app
