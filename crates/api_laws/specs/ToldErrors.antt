-- The errors that an answer tells, by their numbers (Kafka protocol guide, "Error Codes").
use Rattle.std.specs.Prelude.{ℕ, ℤ, List, [], ◌∷◌, map, Option, Some, None}
use Rattle.std.specs.List.{flat_map}
use Rattle.wire_types.specs.declared.error_code.ErrorCode.{ErrorCode}
use Rattle.wire_types.specs.declared.topic.Topic.{Topic}
use Rattle.wire_types.specs.ErrorCode.{number_of}
use Rattle.msg_data.specs.declared.produce.ProducedOffset.{ProducedOffset}
use Rattle.msg_data.specs.declared.fetch.FetchedRecords.{FetchedRecords}
use Rattle.msg_data.specs.declared.list_offsets.FoundOffset.{FoundOffset}
use Rattle.msg_data.specs.declared.metadata.TopicInfo.{TopicInfo}
use Rattle.msg_data.specs.declared.metadata.PartitionInfo.{PartitionInfo}
use Rattle.msg_group.specs.declared.offset_commit.CommittedOffset.{CommittedOffset}
use Rattle.msg_group.specs.declared.offset_fetch.FetchedOffset.{FetchedOffset}
use Rattle.msg_txn.specs.declared.add_partitions.AddedPartition.{AddedPartition}
use Rattle.msg_txn.specs.declared.txn_offset_commit.StagedOffset.{StagedOffset}
use Rattle.msg_txn.specs.EndTxn.{error_of}
use Rattle.msg_acl.specs.declared.create_acls.CreatedAcl.{CreatedAcl}
use Rattle.msg_acl.specs.declared.delete_acls.DeletedAcl.{DeletedAcl}
use Rattle.msg_acl.specs.declared.delete_acls.DeletedAcls.{DeletedAcls}
use Rattle.msg_admin.specs.declared.reply.Reply.{Reply}
use Rattle.msg_admin.specs.declared.reply.Reply.TheVariants as replies
use Rattle.walk.specs.Headline.{element_at}

-- ---- how the request itself came off

-- the answer's own error; CreateAcls and DeleteAcls have none, and tell it in each result
abbrev pub errors_itself : Reply → List ℤ
errors_itself (replies.OffsetFetch a) = number_of a.error ∷ []
errors_itself (replies.FindCoordinator a) = number_of a.error ∷ []
errors_itself (replies.JoinGroup a) = number_of a.error ∷ []
errors_itself (replies.Heartbeat a) = number_of a.error ∷ []
errors_itself (replies.LeaveGroup a) = number_of a.error ∷ []
errors_itself (replies.SyncGroup a) = number_of a.error ∷ []
errors_itself (replies.SaslHandshake a) = number_of a.error ∷ []
errors_itself (replies.ApiVersions a) = number_of a.error ∷ []
errors_itself (replies.InitProducerId a) = number_of a.error ∷ []
errors_itself (replies.AddOffsetsToTxn a) = number_of a.error ∷ []
errors_itself (replies.EndTxn a) = number_of (error_of a) ∷ []
errors_itself (replies.DescribeAcls a) = number_of a.error ∷ []
errors_itself (replies.CreateAcls a) = map (λ (c : CreatedAcl). number_of c.error) a.results
errors_itself (replies.DeleteAcls a) = map (λ (d : DeletedAcls). number_of d.error) a.results
errors_itself (replies.SaslAuthenticate a) = number_of a.error ∷ []
errors_itself reply = []

-- ---- how its parts came off

-- where a part stands: a topic of Metadata at its place, and a partition at its topic's and its own
pub data Place : Type 0 where
  TopicAt : ℕ → Place
  PartitionAt : ℕ → ℕ → Place

-- the error of what stands there, if anything does
abbrev pub error_number : {A : Type 0} → (A → ErrorCode) → Option A → Option ℤ
error_number error None = None
error_number error (Some a) = Some (number_of (error a))

abbrev pub error_number_in : {A : Type 0} → (A → ErrorCode) → Option (Topic A) → ℕ → Option ℤ
error_number_in error None j = None
error_number_in error (Some t) j = error_number error (element_at t.partitions j)

abbrev pub partition_error_at : {A : Type 0} → (A → ErrorCode) → List (Topic A) → Place → Option ℤ
partition_error_at error topics (TopicAt i) = None
partition_error_at error topics (PartitionAt i j) = error_number_in error (element_at topics i) j

abbrev pub topic_error_at : List TopicInfo → Place → Option ℤ
topic_error_at topics (TopicAt i) = error_number (λ (t : TopicInfo). t.error) (element_at topics i)
topic_error_at topics (PartitionAt i j) = None

abbrev pub error_at : Reply → Place → Option ℤ
error_at (replies.Produce a) place =
    partition_error_at (λ (p : ProducedOffset). p.error) a.topics place
error_at (replies.SilentProduce a) place =
    partition_error_at (λ (p : ProducedOffset). p.error) a.topics place
error_at (replies.Fetch a) place =
    partition_error_at (λ (p : FetchedRecords). p.error) a.topics place
error_at (replies.ListOffsets a) place =
    partition_error_at (λ (p : FoundOffset). p.error) a.topics place
error_at (replies.Metadata a) place = topic_error_at a.topics place
error_at (replies.OffsetCommit a) place =
    partition_error_at (λ (p : CommittedOffset). p.error) a.topics place
error_at (replies.OffsetFetch a) place =
    partition_error_at (λ (p : FetchedOffset). p.error) a.topics place
error_at (replies.AddPartitionsToTxn a) place =
    partition_error_at (λ (p : AddedPartition). p.error) a.topics place
error_at (replies.TxnOffsetCommit a) place =
    partition_error_at (λ (p : StagedOffset). p.error) a.topics place
error_at reply place = None

-- ---- all errors of an answer

abbrev pub partition_errors : {A : Type 0} → (A → ErrorCode) → List (Topic A) → List ℤ
partition_errors {A} error topics =
    flat_map (λ (t : Topic A). map (λ (a : A). number_of (error a)) t.partitions) topics

-- of each topic, and of each of its partitions
abbrev pub info_errors : List TopicInfo → List ℤ
info_errors topics =
    flat_map
    (λ (t : TopicInfo). number_of t.error
    ∷ map (λ (p : PartitionInfo). number_of p.error) t.partitions)
    topics

-- of each filter, and of each binding that it took out
abbrev pub deleted_errors : List DeletedAcls → List ℤ
deleted_errors results =
    flat_map
    (λ (d : DeletedAcls). number_of d.error
    ∷ map (λ (m : DeletedAcl). number_of m.error) d.matches)
    results

abbrev pub all_errors : Reply → List ℤ
all_errors (replies.Produce a) = partition_errors (λ (p : ProducedOffset). p.error) a.topics
all_errors (replies.SilentProduce a) = partition_errors (λ (p : ProducedOffset). p.error) a.topics
all_errors (replies.Fetch a) = partition_errors (λ (p : FetchedRecords). p.error) a.topics
all_errors (replies.ListOffsets a) = partition_errors (λ (p : FoundOffset). p.error) a.topics
all_errors (replies.Metadata a) = info_errors a.topics
all_errors (replies.OffsetCommit a) = partition_errors (λ (p : CommittedOffset). p.error) a.topics
all_errors (replies.OffsetFetch a) =
    number_of a.error ∷ partition_errors (λ (p : FetchedOffset). p.error) a.topics
all_errors (replies.AddPartitionsToTxn a) =
    partition_errors (λ (p : AddedPartition). p.error) a.topics
all_errors (replies.TxnOffsetCommit a) = partition_errors (λ (p : StagedOffset). p.error) a.topics
all_errors (replies.DeleteAcls a) = deleted_errors a.results
all_errors reply = errors_itself reply
