use Rattle.api_laws.proofs.Offsets.{offsets_count_records as the_law}
use Rattle.api_laws.proofs.WrongWrites.{not_counting_repeats, not_from_offset_one}
use Rattle.api_laws.proofs.laws.offsets_count_records.Goals as goal

pub returns-clause-counted : goal.returns-clause-counted
returns-clause-counted c = the_law

pub returns-clause-once : goal.returns-clause-once
returns-clause-once c = not_counting_repeats

pub returns-clause-from_zero : goal.returns-clause-from_zero
returns-clause-from_zero c = not_from_offset_one
