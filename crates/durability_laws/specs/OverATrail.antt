-- The same over the trail of a core, which is what the core's own contracts speak of.
use Rattle.std.specs.Prelude.{◌≡◌, false, ℕ, pos, List, ◌∷◌, ◌++◌, Option, Some}
use Rattle.acl_binding.specs.declared.question.Caller.{Caller}
use Rattle.wire_types.specs.declared.topic.Topic.{Topic}
use Rattle.wire_types.specs.ErrorCode.{number_of}
use Rattle.msg_data.specs.declared.produce.ProduceRequest.{ProduceRequest}
use Rattle.msg_data.specs.declared.produce.ProducedRecords.{ProducedRecords}
use Rattle.msg_data.specs.declared.produce.ProducedOffset.{ProducedOffset}
use Rattle.msg_admin.specs.declared.request.Request.TheVariants.{Produce}
use Rattle.audit_trail.specs.declared.event.Event.TheVariants.{Ask}
use Rattle.audit_trail.specs.declared.trail.Entry.{Entry}
use Rattle.walk.specs.Headline.{element_at}
use Rattle.api_dispatch.specs.Step.{outcome}
use Rattle.request_handlers.specs.Core.{CoreValue, IsCore}
use Rattle.read_laws.specs.Fetches.{at_place}
use Rattle.durability_laws.specs.Acknowledged.{topics_acknowledged}
use Rattle.durability_laws.specs.ReadBack.{IsReadBack}

-- Where the trail of a core holds a Produce that was told no error and an offset for a partition,
-- what was sent for that is read from the offset on in the core's world.
abbrev pub ReadsBackOverATrail : Type 0
ReadsBackOverATrail =
    (core : CoreValue) → IsCore core → core.down ≡ false → (before later : List Entry) (x : Entry)
    → core.trail ≡ before ++ x ∷ later
    → (writer : Caller) (client : Option (List ℕ)) (r : ProduceRequest) (i j : ℕ)
    (t : Topic ProducedRecords) (p : ProducedRecords) (answer : ProducedOffset)
    → x.event ≡ Ask writer client (Produce r) → element_at r.topics i ≡ Some t
    → element_at t.partitions j ≡ Some p
    → at_place (topics_acknowledged x.reply) i j ≡ Some answer → number_of answer.error ≡ pos 0
    → IsReadBack outcome core.world t.name p.index answer.base_offset p.records
