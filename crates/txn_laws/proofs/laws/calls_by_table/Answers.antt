use Rattle.txn_laws.proofs.Tables.{ends, inits, adds, adds_group}
use Rattle.txn_laws.proofs.Wrong.{groups_are_marked, epoch_is_raised, version_5_is_apart, not_from_100, not_beside_open, prepared_is_shut, time_goes_on, earlier_stay, group_time_goes_on, earlier_groups_stay}
use Rattle.txn_laws.proofs.laws.calls_by_table.Goals as goal

pub returns-clause-ends : goal.returns-clause-ends
returns-clause-ends c = ends

pub returns-clause-ends_groups : goal.returns-clause-ends_groups
returns-clause-ends_groups c = groups_are_marked

pub returns-clause-ends_raising : goal.returns-clause-ends_raising
returns-clause-ends_raising c = epoch_is_raised

pub returns-clause-ends_by_version : goal.returns-clause-ends_by_version
returns-clause-ends_by_version c = version_5_is_apart

pub returns-clause-inits : goal.returns-clause-inits
returns-clause-inits c = inits

pub returns-clause-inits_until_used_up : goal.returns-clause-inits_until_used_up
returns-clause-inits_until_used_up c = not_from_100

pub returns-clause-inits_waiting : goal.returns-clause-inits_waiting
returns-clause-inits_waiting c = not_beside_open

pub returns-clause-adds : goal.returns-clause-adds
returns-clause-adds c = adds

pub returns-clause-adds_to_open : goal.returns-clause-adds_to_open
returns-clause-adds_to_open c = prepared_is_shut

pub returns-clause-adds_in_time : goal.returns-clause-adds_in_time
returns-clause-adds_in_time c = time_goes_on

pub returns-clause-adds_keeping : goal.returns-clause-adds_keeping
returns-clause-adds_keeping c = earlier_stay

pub returns-clause-groups : goal.returns-clause-groups
returns-clause-groups c = adds_group

pub returns-clause-groups_in_time : goal.returns-clause-groups_in_time
returns-clause-groups_in_time c = group_time_goes_on

pub returns-clause-groups_keeping : goal.returns-clause-groups_keeping
returns-clause-groups_keeping c = earlier_groups_stay
