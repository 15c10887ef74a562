-- An OffsetFetch whose list of topics is null tells of each partition, of those that may be
-- described, for which the group has an offset (Kafka protocol guide, "OffsetFetch API (Key: 9)": a
-- null list fetches offsets for all topics).
use Rattle.std.specs.Prelude.{◌≡◌, ℕ, ℤ, pos, Bool, ◌&&◌, ◌||◌, List, [], ◌∷◌, map, filter, length, Option, None, is_some}
use Rattle.std.specs.List.{flat_map, list_any, range_with_len}
use Rattle.acl_binding.specs.declared.question.Caller.{Caller}
use Rattle.authorizer.specs.Asking.{part_refusal}
use Rattle.wire_types.specs.declared.error_code.ErrorCode.TheVariants as codes
use Rattle.wire_types.specs.declared.topic.Topic.{Topic}
use Rattle.msg_group.specs.declared.offset_fetch.OffsetFetchRequest.{OffsetFetchRequest}
use Rattle.msg_group.specs.declared.offset_fetch.FetchedOffset.{FetchedOffset}
use Rattle.msg_admin.specs.declared.request.Request.TheVariants.{OffsetFetch}
use Rattle.audit_trail.specs.declared.event.Event.TheVariants.{Ask}
use Rattle.walk.specs.Alike.{AllTopics}
use Rattle.group_offsets.specs.declared.event.OffsetEvent.{OffsetEvent}
use Rattle.group_offsets.specs.Offsets.{offset_of, is_staged, fetch_result}
use Rattle.broker_world.specs.World.{World, TopicValue, rules_of}
use Rattle.group_handlers.specs.OffsetFetch.{group_question, fetch_reply, offsets_of}
use Rattle.group_handlers.specs.OffsetFetch.{fetched_offset}
use Rattle.api_laws.specs.GroupLaws.{described_slots}
use Rattle.tenant_laws.specs.Rules.{ReplyRule}

-- a partition: its topic, and its index
pub record Place : Type 0 where
  pub topic : List ℕ
  pub index : ℤ

-- the partitions of a topic, from index 0 up to their number
abbrev pub places_of : TopicValue → List Place
places_of t =
    map (λ (i : ℕ). record { topic = t.name; index = pos i })
    (range_with_len 0 (length t.partitions))

-- an offset is committed for the partition, or where only stable ones will do, one is staged for it
abbrev pub has_offset : List OffsetEvent → Bool → Place → Bool
has_offset es stable p =
    is_some (offset_of es p.topic p.index) || (stable && is_staged es p.topic p.index)

-- the partitions that an answer tells of
abbrev pub places_in : Topic FetchedOffset → List Place
places_in t = map (λ (p : FetchedOffset). record { topic = t.name; index = p.index }) t.partitions

-- what is told
pub record TellsOf (reply_to : ReplyRule) (w : World) (caller : Caller) (client : Option (List ℕ))
    (r : OffsetFetchRequest) : Type 0 where
  pub topics : List (Topic FetchedOffset)
  pub reply : reply_to w (Ask caller client (OffsetFetch r)) ≡ fetch_reply codes.None topics
  -- of all partitions of the topics that may be described, in order and each once, exactly those
  -- that have an offset
  pub places : flat_map places_in topics
      ≡ filter (has_offset (offsets_of w r.group) r.require_stable)
      (flat_map places_of (described_slots (rules_of w) caller w.topics))
  -- each topic with such a partition stands there once, in the settings' order, and no other
  pub names : map (λ (t : Topic FetchedOffset). t.name) topics
      ≡ map (λ (t : TopicValue). t.name)
      (filter
      (λ (t : TopicValue). list_any (has_offset (offsets_of w r.group) r.require_stable)
      (places_of t))
      (described_slots (rules_of w) caller w.topics))
  -- and each partition is told what it would be told by its name
  pub answers : AllTopics
      (λ name (p : FetchedOffset). p
      ≡ fetched_offset (fetch_result (offsets_of w r.group) r.require_stable name p.index)
      p.index)
      topics

-- whatever the world is, an OffsetFetch with a null list of topics tells of each partition that may
-- be described and has an offset, and of no other
abbrev pub NullTellsOfAll : ReplyRule → Type 0
NullTellsOfAll reply_to =
    (w : World) (caller : Caller) (client : Option (List ℕ)) (r : OffsetFetchRequest)
    → r.topics ≡ None → part_refusal (rules_of w) (group_question caller r.group ∷ []) ≡ None
    → TellsOf reply_to w caller client r
