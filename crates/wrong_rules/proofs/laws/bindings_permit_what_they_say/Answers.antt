use Rattle.wrong_rules.proofs.Permissions.{covers_by_pattern, not_by_beginning, not_itself, only_covering, applies_to_its_own, not_at_each_host, not_to_one_user, only_applying, denies_its_own, not_what_is_implied, not_one_operation, only_denying, allows_what_is_implied, not_nothing_implied, not_by_denials, only_allowing, denies_before_it_allows, not_allowing_first, not_the_last, not_by_default, only_verdicts}
use Rattle.wrong_rules.proofs.laws.bindings_permit_what_they_say.Goals as goal

pub returns-clause-covers : goal.returns-clause-covers
returns-clause-covers c = covers_by_pattern

pub returns-clause-covers_literally : goal.returns-clause-covers_literally
returns-clause-covers_literally c = not_by_beginning

pub returns-clause-covers_by_prefix : goal.returns-clause-covers_by_prefix
returns-clause-covers_by_prefix c = not_itself

pub returns-clause-covers_only : goal.returns-clause-covers_only
returns-clause-covers_only c = only_covering

pub returns-clause-applies : goal.returns-clause-applies
returns-clause-applies c = applies_to_its_own

pub returns-clause-applies_at_a_host : goal.returns-clause-applies_at_a_host
returns-clause-applies_at_a_host c = not_at_each_host

pub returns-clause-applies_to_all : goal.returns-clause-applies_to_all
returns-clause-applies_to_all c = not_to_one_user

pub returns-clause-applies_only : goal.returns-clause-applies_only
returns-clause-applies_only c = only_applying

pub returns-clause-denies : goal.returns-clause-denies
returns-clause-denies c = denies_its_own

pub returns-clause-denies_no_more : goal.returns-clause-denies_no_more
returns-clause-denies_no_more c = not_what_is_implied

pub returns-clause-denies_all : goal.returns-clause-denies_all
returns-clause-denies_all c = not_one_operation

pub returns-clause-denies_only : goal.returns-clause-denies_only
returns-clause-denies_only c = only_denying

pub returns-clause-allows : goal.returns-clause-allows
returns-clause-allows c = allows_what_is_implied

pub returns-clause-allows_more : goal.returns-clause-allows_more
returns-clause-allows_more c = not_nothing_implied

pub returns-clause-allows_by_allow : goal.returns-clause-allows_by_allow
returns-clause-allows_by_allow c = not_by_denials

pub returns-clause-allows_only : goal.returns-clause-allows_only
returns-clause-allows_only c = only_allowing

pub returns-clause-verdict : goal.returns-clause-verdict
returns-clause-verdict c = denies_before_it_allows

pub returns-clause-verdict_denies : goal.returns-clause-verdict_denies
returns-clause-verdict_denies c = not_allowing_first

pub returns-clause-verdict_of_the_first : goal.returns-clause-verdict_of_the_first
returns-clause-verdict_of_the_first c = not_the_last

pub returns-clause-verdict_of_nothing : goal.returns-clause-verdict_of_nothing
returns-clause-verdict_of_nothing c = not_by_default

pub returns-clause-verdict_only : goal.returns-clause-verdict_only
returns-clause-verdict_only c = only_verdicts
