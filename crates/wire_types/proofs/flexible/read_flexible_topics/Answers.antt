use Rattle.wire_types.specs.Topic.{flexible_topic_of}
use Rattle.wire_types.proofs.Announced.{many_refused}
use Rattle.wire_types.proofs.flexible.read_flexible_topics.Goals as goal

pub returns-in-Err : goal.returns-in-Err
returns-in-Err g c = rw c.from.ensures (many_refused _ (flexible_topic_of g.P.Wire.grammar).reading _ _ c.in-Err.ensures)
