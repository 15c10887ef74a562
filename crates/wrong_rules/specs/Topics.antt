-- What Metadata tells of one topic (Kafka protocol guide, "Metadata API (Key: 3)").
use Rattle.std.specs.Prelude.{◌≡◌, ℕ, pos, false, List, [], ◌∷◌, ◌++◌, length, map, take, ◌-◌, Option, Some}
use Rattle.std.specs.List.{AllByRecursion}
use Rattle.wire_types.specs.ErrorCode.{number_of}
use Rattle.wire_types.specs.declared.error_code.ErrorCode.TheVariants as codes
use Rattle.acl_binding.specs.declared.question.Caller.{Caller}
use Rattle.acl_binding.specs.declared.words.Kind.TheVariants as kinds
use Rattle.acl_binding.specs.declared.words.Operation.TheVariants as operations
use Rattle.acl_binding.specs.declared.question.Verdict.TheVariants.{Yes}
use Rattle.acl_binding.specs.Verdict.{question_of}
use Rattle.authorizer.specs.Policy.{verdict}
use Rattle.msg_data.specs.declared.metadata.TopicInfo.{TopicInfo}
use Rattle.msg_data.specs.declared.metadata.MetadataReply.{MetadataReply}
use Rattle.msg_admin.specs.declared.request.Request.TheVariants as requests
use Rattle.msg_admin.specs.declared.reply.Reply.{Reply}
use Rattle.msg_admin.specs.declared.reply.Reply.TheVariants as replies
use Rattle.audit_trail.specs.declared.event.Event.{Event}
use Rattle.audit_trail.specs.declared.event.Event.TheVariants.{Ask}
use Rattle.broker_world.specs.World.{World, TopicValue}
use Rattle.api_dispatch.specs.Step.{outcome}
use Rattle.wrong_rules.specs.Steps.{StepRule, with_reply}

-- what is told of a topic that is there
pub record IsTopic (t : TopicValue) (told : TopicInfo) : Type 0 where
  pub error : number_of told.error ≡ pos 0
  pub name : told.name ≡ t.name
  pub internal : told.internal ≡ false
  pub partitions : length told.partitions ≡ length t.partitions

-- what is told of a topic that isn't
pub record IsUnknown (asked : List ℕ) (told : TopicInfo) : Type 0 where
  pub error : number_of told.error ≡ pos 3
  pub name : told.name ≡ asked
  pub partitions : told.partitions ≡ []

-- the topic stands there, and no other of its name before it
pub record IsThere (topics : List TopicValue) (t : TopicValue) : Type 0 where
  pub before : List TopicValue
  pub after : List TopicValue
  pub place : topics ≡ before ++ t ∷ after
  pub first : AllByRecursion (λ (u : TopicValue). u.name ≡ t.name → ⊥) before

-- a Metadata request for this topic alone
abbrev pub asks_for : Caller → Option (List ℕ) → List ℕ → Event
asks_for caller client name =
    Ask caller client (requests.Metadata (record { topics = Some (name ∷ []) }))

-- whoever may describe a topic, and asks for it alone, is told of it: with all its partitions, or
-- that it isn't there
pub record TellsTheTopic (rule : StepRule) : Type 0 where
  pub found : (w : World) (caller : Caller) (client : Option (List ℕ)) (t : TopicValue)
      (reply : MetadataReply)
      → IsThere w.topics t
      → verdict w.book w.supers (question_of caller operations.Describe kinds.Topic t.name) ≡ Yes
      → (rule w (asks_for caller client t.name)).reply ≡ replies.Metadata reply
      → (told : TopicInfo) × (reply.topics ≡ told ∷ []) × IsTopic t told
  pub missing : (w : World) (caller : Caller) (client : Option (List ℕ)) (name : List ℕ)
      (reply : MetadataReply)
      → AllByRecursion (λ (u : TopicValue). u.name ≡ name → ⊥) w.topics
      → verdict w.book w.supers (question_of caller operations.Describe kinds.Topic name) ≡ Yes
      → (rule w (asks_for caller client name)).reply ≡ replies.Metadata reply
      → (told : TopicInfo) × (reply.topics ≡ told ∷ []) × IsUnknown name told

-- ---- wrong

abbrev pub tell_topics : (TopicInfo → TopicInfo) → Reply → Reply
tell_topics f (replies.Metadata reply) =
    replies.Metadata (record reply { topics = map f reply.topics })
tell_topics f reply = reply

-- each topic is told as one that isn't there
abbrev pub step_telling_unknown : StepRule
step_telling_unknown w e =
    with_reply
    (tell_topics
    (λ (t : TopicInfo). record t { error = codes.UnknownTopicOrPartition; partitions = [] }))
    (outcome w e)

-- the last partition is left out
abbrev pub step_without_last_partition : StepRule
step_without_last_partition w e =
    with_reply
    (tell_topics
    (λ (t : TopicInfo). record t { partitions = take (length t.partitions - 1) t.partitions }))
    (outcome w e)

-- a topic that isn't there is told as one without partitions
abbrev pub step_telling_no_error : StepRule
step_telling_no_error w e =
    with_reply (tell_topics (λ (t : TopicInfo). record t { error = codes.None })) (outcome w e)
