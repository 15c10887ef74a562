-- The wrong rules of what tenants see and change are refuted, each in a worked case.
use Rattle.std.proofs.Common.{◌≡◌, ℕ, ℤ, pos, negsuc, true, false, List, [], ◌∷◌, length, Option, Some, None, refl, codes as bytes, ap}
use Rattle.std.specs.List.{flat_map}
use Rattle.acl_binding.specs.declared.question.Caller.{Caller}
use Rattle.acl_binding.specs.declared.question.Verdict.TheVariants.{Yes, Nothing}
use Rattle.acl_binding.specs.declared.words.Kind.TheVariants as kinds
use Rattle.acl_binding.specs.Book.{empty_book}
use Rattle.wire_types.specs.declared.error_code.ErrorCode.{ErrorCode}
use Rattle.wire_types.specs.declared.error_code.ErrorCode.TheVariants as codes
use Rattle.wire_types.specs.declared.topic.Topic.{Topic}
use Rattle.msg_data.specs.declared.metadata.TopicInfo.{TopicInfo}
use Rattle.msg_group.specs.declared.offset_commit.OffsetCommitRequest.{OffsetCommitRequest}
use Rattle.msg_group.specs.declared.offset_fetch.OffsetFetchRequest.{OffsetFetchRequest}
use Rattle.msg_group.specs.declared.offset_fetch.FetchedOffset.{FetchedOffset}
use Rattle.msg_data.specs.declared.metadata.MetadataRequest.{MetadataRequest}
use Rattle.msg_admin.specs.declared.request.Request.TheVariants.{Metadata, OffsetCommit, OffsetFetch}
use Rattle.msg_admin.specs.declared.reply.Reply.{Reply}
use Rattle.msg_admin.specs.declared.reply.Reply.TheVariants as replies
use Rattle.txn_coordinator.specs.Coordinator.{no_transactions}
use Rattle.group_offsets.specs.declared.event.PartitionOffset.{PartitionOffset}
use Rattle.group_offsets.specs.declared.event.OffsetEvent.TheVariants.{Put}
use Rattle.group_offsets.specs.declared.group.Group.{Group}
use Rattle.broker_world.specs.World.{World}
use Rattle.tenant_laws.specs.Laws.{UngrantedStays}
use Rattle.tenant_laws.specs.Replies.{RepliesDependOnGrantedParts}
use Rattle.tenant_laws.specs.NullLists.{places_in, NullTellsOfAll}
use Rattle.tenant_laws.specs.Wrong.{step_without_authorization, reply_without_authorization, step_creating_topics, reply_telling_what_is_there, reply_telling_of_none}

-- ---- a topic `a` with one partition; `User:root` may do everything, and `User:ann` nothing

abbrev w : World
w = record {
  node = record { node_id = pos 0; host = bytes "h"; port = pos 9092; max_batch = pos 1048576; max_txn_timeout = pos 900000 };
  supers = bytes "User:root" ∷ [];
  book = empty_book;
  topics = record { name = bytes "a"; partitions = [] ∷ [] } ∷ [];
  coordinator = no_transactions;
  groups = [];
  moment = 0;
  events = 0;
}

abbrev ann : Caller
ann = record { who = bytes "User:ann"; host = bytes "h" }

abbrev root : Caller
root = record { who = bytes "User:root"; host = bytes "h" }

-- the group `g`, which has committed offset 5
abbrev five : PartitionOffset
five = record { topic = bytes "a"; index = pos 0; offset = pos 5; metadata = [] }

abbrev group : Group
group = record { name = bytes "g"; member = None; generation = pos 0; assignment = None; offsets = Put five ∷ [] }

abbrev with_group : World
with_group = record w { groups = group ∷ [] }

-- ---- what is changed

abbrev commit : OffsetCommitRequest
commit = record { group = bytes "g"; generation = negsuc 0; member = []; retention = negsuc 0; topics = record { name = bytes "a"; partitions = record { index = pos 0; offset = pos 5; metadata = None } ∷ [] } ∷ [] }

none_granted : Nothing ≡ Yes → ⊥
none_granted h = cc

pub not_without_asking : ¬ UngrantedStays step_without_authorization
not_without_asking law =
    let clash : ◌≡◌ {A = Option Group} None (Some group) = law.by_questions w ann None (OffsetCommit commit) kinds.Group (bytes "g") ((λ about yes. none_granted yes), ((λ about yes. none_granted yes), tt)) in
    cc

abbrev asks_for : List ℕ → MetadataRequest
asks_for name = record { topics = Some (name ∷ []) }

pub not_by_asking : ¬ UngrantedStays step_creating_topics
not_by_asking law =
    let clash : ◌≡◌ {A = ℕ} 2 1 = ap (λ (l : List (List ℕ)). length l) (law.settings w ann None (Metadata (asks_for (bytes "bb")))).names in
    cc

-- ---- what is seen

abbrev fetch_of : Option (List (Topic ℤ)) → OffsetFetchRequest
fetch_of topics = record { group = bytes "g"; topics = topics; require_stable = false }

-- the offset that a reply tells first
abbrev first_offset : List FetchedOffset → ℤ
first_offset [] = negsuc 0
first_offset (a ∷ rest) = a.offset

abbrev offset_in_first : List (Topic FetchedOffset) → ℤ
offset_in_first [] = negsuc 0
offset_in_first (t ∷ ts) = first_offset t.partitions

abbrev offset_told : Reply → ℤ
offset_told (replies.OffsetFetch reply) = offset_in_first reply.topics
offset_told reply = negsuc 0

pub not_without_a_grant : ¬ RepliesDependOnGrantedParts reply_without_authorization
not_without_a_grant law =
    let clash : ◌≡◌ {A = ℤ} (pos 5) (negsuc 0) = ap offset_told (law with_group w ann None (OffsetFetch (fetch_of (Some (record { name = bytes "a"; partitions = pos 0 ∷ [] } ∷ []))))
    (record { numbers = record { node = refl; events = refl; given = refl }; questions = refl; grants = (refl, (refl, tt)); granted = tt; described = λ (h : false ≡ true). cc; bindings = λ (h : false ≡ true). cc })) in
    cc

-- the topic is there, or may be
abbrev without_topic : World
without_topic = record w { topics = [] }

-- the error that a reply tells of its first topic
abbrev error_of_first : List TopicInfo → ErrorCode
error_of_first [] = codes.None
error_of_first (t ∷ ts) = t.error

abbrev error_told : Reply → ErrorCode
error_told (replies.Metadata reply) = error_of_first reply.topics
error_told reply = codes.None

pub not_of_what_is_there : ¬ RepliesDependOnGrantedParts reply_telling_what_is_there
not_of_what_is_there law =
    let clash : codes.UnknownTopicOrPartition ≡ codes.TopicAuthorizationFailed = ap error_told (law without_topic w ann None (Metadata (asks_for (bytes "a")))
    (record { numbers = record { node = refl; events = refl; given = refl }; questions = refl; grants = (refl, tt); granted = tt; described = λ (h : false ≡ true). cc; bindings = λ (h : false ≡ true). cc })) in
    cc

-- ---- a null list of topics

abbrev topics_of : Reply → List (Topic FetchedOffset)
topics_of (replies.OffsetFetch reply) = reply.topics
topics_of reply = []

pub not_of_none : ¬ NullTellsOfAll reply_telling_of_none
not_of_none law =
    let all = law with_group root None (fetch_of None) refl refl in
    let none : [] ≡ all.topics = ap topics_of all.reply in
    by_topics all.topics none all.places where
      by_topics : (ts : List (Topic FetchedOffset)) → [] ≡ ts → flat_map places_in ts ≡ record { topic = bytes "a"; index = pos 0 } ∷ [] → ⊥
      by_topics [] none places = cc
      by_topics (t ∷ ts) none places = cc
