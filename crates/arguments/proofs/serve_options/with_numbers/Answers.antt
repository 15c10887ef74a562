use Rattle.arguments.proofs.serve_options.with_numbers.Goals as goal

pub returns-clause-app : goal.returns-clause-app
returns-clause-app c = rw (← c.in_ok-listen.ensures.rule, ← c.option-workers.ensures.rule, ← c.option-connections.ensures.rule) c.with_three.ensures.app
