use Rattle.std.proofs.Common.{rules}
use Rattle.wire_laws.proofs.OtherFrames.{not_answered}
use Rattle.wire_laws.proofs.laws.silent_replies_are_not_sent.Goals as goal

pub returns-clause-nothing : goal.returns-clause-nothing
returns-clause-nothing c = search rules

pub returns-clause-not_silent_produces_are_answered : goal.returns-clause-not_silent_produces_are_answered
returns-clause-not_silent_produces_are_answered c = not_answered
