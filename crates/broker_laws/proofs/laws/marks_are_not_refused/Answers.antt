use Rattle.broker_laws.proofs.Reading.{marks_are_not_refused}
use Rattle.broker_laws.proofs.WrongLogs.{not_asked}
use Rattle.broker_laws.proofs.laws.marks_are_not_refused.Goals as goal

pub returns-clause-marks : goal.returns-clause-marks
returns-clause-marks c = marks_are_not_refused

pub returns-clause-unasked : goal.returns-clause-unasked
returns-clause-unasked c = not_asked
