use Rattle.wrong_rules.proofs.Supers.{supers_are_listed, not_by_prefix, not_all, only_rule}
use Rattle.wrong_rules.proofs.laws.super_users_are_listed.Goals as goal

pub returns-clause-listed : goal.returns-clause-listed
returns-clause-listed c = supers_are_listed

pub returns-clause-not_by_prefix : goal.returns-clause-not_by_prefix
returns-clause-not_by_prefix c = not_by_prefix

pub returns-clause-not_all : goal.returns-clause-not_all
returns-clause-not_all c = not_all

pub returns-clause-only : goal.returns-clause-only
returns-clause-only c = only_rule
