use Rattle.api_laws.proofs.Numbers.{refusals_by_number as the_law}
use Rattle.api_laws.proofs.Wrong.{not_of_topics, not_ids_as_groups}
use Rattle.api_laws.proofs.laws.refusals_by_number.Goals as goal

pub returns-clause-told : goal.returns-clause-told
returns-clause-told c = the_law

pub returns-clause-by_kind : goal.returns-clause-by_kind
returns-clause-by_kind c = not_of_topics

pub returns-clause-ids_apart : goal.returns-clause-ids_apart
returns-clause-ids_apart c = not_ids_as_groups
