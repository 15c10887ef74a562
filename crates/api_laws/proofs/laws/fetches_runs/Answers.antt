use Rattle.api_laws.proofs.DataFetches.{fetches_runs as the_law}
use Rattle.api_laws.proofs.WrongReads.{not_stable_as_high, not_from_the_start}
use Rattle.api_laws.proofs.laws.fetches_runs.Goals as goal

pub returns-clause-served : goal.returns-clause-served
returns-clause-served c = the_law

pub returns-clause-high : goal.returns-clause-high
returns-clause-high c = not_stable_as_high

pub returns-clause-outside : goal.returns-clause-outside
returns-clause-outside c = not_from_the_start
