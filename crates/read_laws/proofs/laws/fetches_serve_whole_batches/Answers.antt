use Rattle.read_laws.proofs.Fetches.{serves_whole_batches, serves_all_that_fit, serves_within_limits, is_only_fetch}
use Rattle.read_laws.proofs.WrongFetches as wrong
use Rattle.read_laws.proofs.laws.fetches_serve_whole_batches.Goals as goal

pub returns-clause-whole : goal.returns-clause-whole
returns-clause-whole c = serves_whole_batches

pub returns-clause-whole_not_cut : goal.returns-clause-whole_not_cut
returns-clause-whole_not_cut c = wrong.whole_not_cut

pub returns-clause-whole_below_the_level_end : goal.returns-clause-whole_below_the_level_end
returns-clause-whole_below_the_level_end c = wrong.whole_below_the_level_end

pub returns-clause-fitting : goal.returns-clause-fitting
returns-clause-fitting c = serves_all_that_fit

pub returns-clause-fitting_not_one_alone : goal.returns-clause-fitting_not_one_alone
returns-clause-fitting_not_one_alone c = wrong.fitting_not_one_alone

pub returns-clause-within : goal.returns-clause-within
returns-clause-within c = serves_within_limits

pub returns-clause-within_what_is_left : goal.returns-clause-within_what_is_left
returns-clause-within_what_is_left c = wrong.within_what_is_left

pub returns-clause-within_the_partition_limit : goal.returns-clause-within_the_partition_limit
returns-clause-within_the_partition_limit c = wrong.within_the_partition_limit

pub returns-clause-alone : goal.returns-clause-alone
returns-clause-alone c = is_only_fetch
