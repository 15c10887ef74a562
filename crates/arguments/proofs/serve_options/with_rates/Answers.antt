use Rattle.arguments.proofs.serve_options.with_rates.Goals as goal

pub returns-clause-app : goal.returns-clause-app
returns-clause-app c = rw (← c.option-rate.ensures.rule, ← c.option-rate_bytes.ensures.rule) c.with_two.ensures.app
