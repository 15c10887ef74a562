use Rattle.arguments.proofs.serve_options.with_reports.Goals as goal

pub returns-clause-app : goal.returns-clause-app
returns-clause-app c = rw (← c.option-audit.ensures.rule, ← c.flag-log_times.ensures.rule) c.with_two.ensures.app
