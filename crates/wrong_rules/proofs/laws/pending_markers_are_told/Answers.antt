use Rattle.wrong_rules.proofs.Markers.{tells_what_is_pending, not_the_last, not_without}
use Rattle.wrong_rules.proofs.laws.pending_markers_are_told.Goals as goal

pub returns-clause-told : goal.returns-clause-told
returns-clause-told c = tells_what_is_pending

pub returns-clause-after_marks : goal.returns-clause-after_marks
returns-clause-after_marks c = not_the_last

pub returns-clause-after_ticks : goal.returns-clause-after_ticks
returns-clause-after_ticks c = not_without
