-- Wrong rules of what tenants see and change, each of which a law refutes.
use Rattle.std.specs.Prelude.{ℕ, ℤ, Bool, true, List, [], ◌∷◌, ◌++◌, map, Option, Some, None, is_some, if◌then◌else◌}
use Rattle.std.specs.List.{list_any}
use Rattle.acl_binding.specs.declared.question.Caller.{Caller}
use Rattle.wire_types.specs.declared.error_code.ErrorCode.TheVariants as codes
use Rattle.wire_types.specs.declared.topic.Topic.{Topic}
use Rattle.msg_admin.specs.declared.request.Request.TheVariants.{Metadata, OffsetFetch}
use Rattle.msg_admin.specs.declared.reply.Reply.{Reply}
use Rattle.audit_trail.specs.declared.event.Event.TheVariants.{Ask}
use Rattle.broker_world.specs.World.{World, TopicValue, find_topic}
use Rattle.group_handlers.specs.OffsetFetch.{fetch_reply}
use Rattle.api_dispatch.specs.Step.{step, reply_to}
use Rattle.tenant_laws.specs.Rules.{WorldRule, ReplyRule}

-- ---- permissions that are not asked for

-- the world in which the caller may do everything
abbrev pub granting : Caller → World → World
granting caller w = record w { supers = caller.who ∷ w.supers }

-- a request does all that it asks for, though it be refused
abbrev pub step_without_authorization : WorldRule
step_without_authorization w (Ask caller client request) =
    record (step (granting caller w) (Ask caller client request)) { supers = w.supers }
step_without_authorization w e = step w e

-- a request is answered as if all that it asks for were granted
abbrev pub reply_without_authorization : ReplyRule
reply_without_authorization w (Ask caller client request) =
    reply_to (granting caller w) (Ask caller client request)
reply_without_authorization w e = reply_to w e

-- ---- topics

-- with one empty partition
abbrev pub created : Option (List (List ℕ)) → List TopicValue
created None = []
created (Some names) = map (λ name. record { name = name; partitions = [] ∷ [] }) names

-- a Metadata creates the topics that it names, as with auto.create.topics.enable
abbrev pub step_creating_topics : WorldRule
step_creating_topics w (Ask caller client (Metadata r)) =
    record (step w (Ask caller client (Metadata r))) { topics = w.topics ++ created r.topics }
step_creating_topics w e = step w e

abbrev pub is_any_there : List TopicValue → Option (List (List ℕ)) → Bool
is_any_there topics None = true
is_any_there topics (Some names) = list_any (λ name. is_some (find_topic topics name)) names

-- a Metadata that names no topic that is there is told so, whatever the caller may DESCRIBE
abbrev pub reply_telling_what_is_there : ReplyRule
reply_telling_what_is_there w (Ask caller client (Metadata r)) =
    if is_any_there w.topics r.topics then reply_to w (Ask caller client (Metadata r))
    else reply_to (granting caller w) (Ask caller client (Metadata r))
reply_telling_what_is_there w e = reply_to w e

-- ---- a null list of topics

abbrev pub none_for_null : Option (List (Topic ℤ)) → Reply → Reply
none_for_null None reply = fetch_reply codes.None []
none_for_null (Some topics) reply = reply

-- an OffsetFetch with a null list of topics is told of none
abbrev pub reply_telling_of_none : ReplyRule
reply_telling_of_none w (Ask caller client (OffsetFetch r)) =
    none_for_null r.topics (reply_to w (Ask caller client (OffsetFetch r)))
reply_telling_of_none w e = reply_to w e
