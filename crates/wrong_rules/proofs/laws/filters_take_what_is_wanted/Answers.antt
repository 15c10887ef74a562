use Rattle.wrong_rules.proofs.Filters.{takes_what_is_wanted, not_any_host, not_any_permission, not_by_beginning, only_rule}
use Rattle.wrong_rules.proofs.laws.filters_take_what_is_wanted.Goals as goal

pub returns-clause-taken : goal.returns-clause-taken
returns-clause-taken c = takes_what_is_wanted

pub returns-clause-of_host : goal.returns-clause-of_host
returns-clause-of_host c = not_any_host

pub returns-clause-of_permission : goal.returns-clause-of_permission
returns-clause-of_permission c = not_any_permission

pub returns-clause-of_principal : goal.returns-clause-of_principal
returns-clause-of_principal c = not_by_beginning

pub returns-clause-only : goal.returns-clause-only
returns-clause-only c = only_rule
