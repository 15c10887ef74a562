use Rattle.arguments.proofs.serve_options.with_ending.Goals as goal

pub returns-clause-app : goal.returns-clause-app
returns-clause-app c = rw (← c.option-grace.ensures.rule, ← c.flag-with_input.ensures.rule) c.with_two.ensures.app
