use Rattle.broker_laws.proofs.LastPut.{fetches_by_events}
use Rattle.broker_laws.proofs.WrongOffsets.{not_of_nothing, not_of_staged, not_of_unstable, not_without_offsets, not_with_unstable, not_naming_nothing}
use Rattle.broker_laws.proofs.RoundTrips.{offsets_are_told, commits_are_fetched}
use Rattle.broker_laws.proofs.laws.commits_are_fetched.Goals as goal

pub returns-clause-by_events : goal.returns-clause-by_events
returns-clause-by_events c = fetches_by_events

pub returns-clause-some : goal.returns-clause-some
returns-clause-some c = not_of_nothing

pub returns-clause-committed : goal.returns-clause-committed
returns-clause-committed c = not_of_staged

pub returns-clause-stable : goal.returns-clause-stable
returns-clause-stable c = not_of_unstable

pub returns-clause-told : goal.returns-clause-told
returns-clause-told c = offsets_are_told

pub returns-clause-offsets : goal.returns-clause-offsets
returns-clause-offsets c = not_without_offsets

pub returns-clause-require_stable : goal.returns-clause-require_stable
returns-clause-require_stable c = not_with_unstable

pub returns-clause-unnamed : goal.returns-clause-unnamed
returns-clause-unnamed c = not_naming_nothing

pub returns-clause-over_events : goal.returns-clause-over_events
returns-clause-over_events c = commits_are_fetched
