-- How much one answer of a Fetch holds (Kafka protocol guide, "Fetch API (Key: 1)": max_bytes of
-- the request, and of a partition).
use Rattle.std.specs.Prelude.{◌≡◌, ◌≤◌, ◌⊎◌, ℕ, ℤ, List, ◌∷◌, ◌++◌, length, Some}
use Rattle.std.specs.List.{flat_map}
use Rattle.acl_binding.specs.declared.question.Caller.{Caller}
use Rattle.wire_types.specs.declared.topic.Topic.{Topic}
use Rattle.record_batch.specs.Batch.{BatchData}
use Rattle.msg_data.specs.declared.fetch.FetchRequest.{FetchRequest}
use Rattle.msg_data.specs.declared.fetch.FetchPartition.{FetchPartition}
use Rattle.msg_data.specs.declared.fetch.FetchedRecords.{FetchedRecords}
use Rattle.msg_data.specs.declared.fetch.FetchReply.{FetchReply}
use Rattle.msg_admin.specs.declared.reply.Reply.TheVariants as replies
use Rattle.walk.specs.Headline.{element_at}
use Rattle.broker_world.specs.World.{World, LogValue}
use Rattle.broker_world.specs.First.{non_negative}
use Rattle.broker_world.specs.Logs.{log_at}
use Rattle.broker_world.specs.HandlerResult.{HandlerResult}

-- what a Fetch comes to
abbrev pub FetchRule : Type 0
FetchRule = World → Caller → FetchRequest → HandlerResult

-- all batches of an answer, one after the other
abbrev pub bytes_of_topic : Topic FetchedRecords → List ℕ
bytes_of_topic t = flat_map (λ (p : FetchedRecords). p.records) t.partitions

abbrev pub bytes_of : List (Topic FetchedRecords) → List ℕ
bytes_of topics = flat_map bytes_of_topic topics

-- the bytes are one batch, which stands in a log
pub record IsOneBatch (w : World) (bytes : List ℕ) : Type 0 where
  pub name : List ℕ
  pub index : ℤ
  pub log : LogValue
  pub before : List BatchData
  pub batch : BatchData
  pub after : List BatchData
  pub there : log_at w.topics name index ≡ Some log
  pub stands : log ≡ before ++ batch ∷ after
  pub whole : bytes ≡ batch.bytes

-- no more bytes than were asked for (a negative number asks for none), or one batch
abbrev pub IsWithin : World → ℤ → List ℕ → Type 0
IsWithin w most bytes = (length bytes ≤ non_negative most) ⊎ IsOneBatch w bytes

-- Whatever is asked, and whatever of it is allowed: the batches of the whole answer have together
-- at most the request's bytes, or are one batch; and those of each partition have at most its own,
-- or are one batch.
pub record FetchIsWithin (fetch_outcome : FetchRule) : Type 0 where
  pub whole : (w : World) (caller : Caller) (r : FetchRequest) (reply : FetchReply)
      → (fetch_outcome w caller r).reply ≡ replies.Fetch reply
      → IsWithin w r.max_bytes (bytes_of reply.topics)
  pub each : (w : World) (caller : Caller) (r : FetchRequest) (reply : FetchReply)
      → (fetch_outcome w caller r).reply ≡ replies.Fetch reply
      → (i j : ℕ) (t : Topic FetchPartition) (a : Topic FetchedRecords) (p : FetchPartition)
      (answer : FetchedRecords)
      → element_at r.topics i ≡ Some t → element_at t.partitions j ≡ Some p
      → element_at reply.topics i ≡ Some a → element_at a.partitions j ≡ Some answer
      → IsWithin w p.max_bytes answer.records
