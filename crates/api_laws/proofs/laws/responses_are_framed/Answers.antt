use Rattle.api_laws.proofs.Framing.{framed_are}
use Rattle.api_laws.proofs.Wrong.{not_another_id, not_without_size}
use Rattle.api_laws.proofs.laws.responses_are_framed.Goals as goal

pub returns-clause-framed : goal.returns-clause-framed
returns-clause-framed c = framed_are

pub returns-clause-own_id : goal.returns-clause-own_id
returns-clause-own_id c = not_another_id

pub returns-clause-sized : goal.returns-clause-sized
returns-clause-sized c = not_without_size
