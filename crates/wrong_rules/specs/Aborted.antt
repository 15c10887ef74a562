-- How a consumer with read_committed gets rid of aborted records (KIP-98, "Consumer"): it is told
-- where each aborted transaction begins, and drops the records of its producer from there on.
use Rattle.std.specs.Prelude.{◌≡◌, ℤ, pos, negsuc, ◌+ℤ◌, List, [], ◌∷◌, map, replicate, codes as bytes, Option, Some, None}
use Rattle.std.specs.Option.{option_map}
use Rattle.wire_types.specs.declared.topic.Topic.{Topic}
use Rattle.record_batch.specs.declared.record.Rec.{Rec}
use Rattle.record_batch.specs.declared.record.RecordAt.{RecordAt}
use Rattle.record_batch.specs.declared.transaction_result.TransactionResult.{TransactionResult}
use Rattle.record_batch.specs.declared.transaction_result.TransactionResult.TheVariants.{Abort}
use Rattle.record_batch.specs.Batch.{BatchData, marker_record}
use Rattle.msg_data.specs.declared.isolation.Isolation.TheVariants as levels
use Rattle.msg_data.specs.declared.fetch.AbortedTransaction.{AbortedTransaction}
use Rattle.msg_data.specs.declared.fetch.FetchedRecords.{FetchedRecords}
use Rattle.msg_admin.specs.declared.request.Request.TheVariants as requests
use Rattle.msg_admin.specs.declared.reply.Reply.{Reply}
use Rattle.msg_admin.specs.declared.reply.Reply.TheVariants as replies
use Rattle.audit_trail.specs.declared.event.Event.{Event}
use Rattle.partition_log.specs.Filter.{filtered_records}
use Rattle.api_dispatch.specs.Step.{outcome}
use Rattle.wrong_rules.specs.Steps.{StepRule, with_reply, cluster_with, asks}

-- ---- a log: a record of nobody, two of producer 7's transaction, and its abort marker

abbrev pub rec : Rec
rec = record { timestamp_delta = pos 0; key = None; value = Some (bytes "v"); headers = [] }

-- a batch with one record; transactional is 0x10, a marker 0x30
abbrev pub batch : ℤ → ℤ → ℤ → Rec → Option TransactionResult → BatchData
batch offset attributes producer r marker = record {
  header = record {
    base_offset = offset;
    batch_length = pos 57;
    partition_leader_epoch = pos 0;
    magic = pos 2;
    crc = 0;
    attributes = attributes;
    last_offset_delta = pos 0;
    base_timestamp = pos 0;
    max_timestamp = pos 0;
    producer_id = producer;
    producer_epoch = pos 0;
    base_sequence = pos 0;
    record_count = pos 1;
  };
  records = r ∷ [];
  marker = marker;
  bytes = replicate 69 1;
}

abbrev pub aborted_log : List BatchData
aborted_log =
    batch (pos 0) (pos 0) (negsuc 0) rec None
    ∷ batch (pos 1) (pos 16) (pos 7) rec None
    ∷ batch (pos 2) (pos 16) (pos 7) rec None
    ∷ batch (pos 3) (pos 48) (pos 7) (marker_record Abort) (Some Abort)
    ∷ []

-- ---- what a Fetch tells

abbrev pub fetches : ℤ → Event
fetches offset =
    asks
    (requests.Fetch
    (record {
      replica = negsuc 0;
      max_wait = pos 0;
      min_bytes = pos 1;
      max_bytes = pos 1000;
      isolation = levels.ReadCommitted;
      topics = record {
        name = bytes "a";
        partitions = record { index = pos 0; offset = offset; max_bytes = pos 1000 } ∷ [];
      } ∷ [];
    }))

-- the lists of aborted transactions of an answer, one for each partition
abbrev pub aborted_in : Reply → List (List (Option (List AbortedTransaction)))
aborted_in (replies.Fetch reply) =
    map (λ (t : Topic FetchedRecords). map (λ (p : FetchedRecords). p.aborted) t.partitions)
    reply.topics
aborted_in reply = []

-- wherever in the transaction a consumer begins to read, it is told the offset of the transaction's
-- first record
pub record TellsTheFirstOffset (rule : StepRule) : Type 0 where
  pub whole : aborted_in (rule (cluster_with (aborted_log ∷ [])) (fetches (pos 0))).reply
      ≡ (Some (record { producer = pos 7; first_offset = pos 1 } ∷ []) ∷ []) ∷ []
  pub within : aborted_in (rule (cluster_with (aborted_log ∷ [])) (fetches (pos 2))).reply
      ≡ (Some (record { producer = pos 7; first_offset = pos 1 } ∷ []) ∷ []) ∷ []

-- ---- what a consumer makes of it

-- what a consumer shows of batches, with a list of aborted transactions, from an offset on
abbrev pub ConsumerRule : Type 0
ConsumerRule = List BatchData → List AbortedTransaction → ℤ → List RecordAt

abbrev pub offsets : List RecordAt → List ℤ
offsets records = map (λ (r : RecordAt). r.offset) records

-- the offsets that are shown of the log, where producer 7's transaction is told from an offset on
abbrev pub shown_by : ConsumerRule → ℤ → List ℤ
shown_by rule first =
    offsets (rule aborted_log (record { producer = pos 7; first_offset = first } ∷ []) (pos 0))

-- a consumer drops a producer's records from the told offset on, and none before it
pub record DropsFromTheFirstOffset (rule : ConsumerRule) : Type 0 where
  pub first : shown_by rule (pos 1) ≡ pos 0 ∷ []
  pub second : shown_by rule (pos 2) ≡ pos 0 ∷ pos 1 ∷ []

-- ---- wrong, each by one

abbrev pub one_later : AbortedTransaction → AbortedTransaction
one_later a = record a { first_offset = a.first_offset +ℤ pos 1 }

abbrev pub tell_aborted : (AbortedTransaction → AbortedTransaction) → Reply → Reply
tell_aborted f (replies.Fetch reply) =
    replies.Fetch
    (record reply {
      topics = map
          (λ (t : Topic FetchedRecords). record t {
            partitions = map
                (λ (p : FetchedRecords). record p { aborted = option_map (map f) p.aborted })
                t.partitions;
          })
          reply.topics;
    })
tell_aborted f reply = reply

-- an aborted transaction is told from its second record on
abbrev pub step_telling_one_later : StepRule
step_telling_one_later w e = with_reply (tell_aborted one_later) (outcome w e)

-- a consumer shows the first record of an aborted transaction
abbrev pub dropping_one_later : ConsumerRule
dropping_one_later batches list from = filtered_records batches (map one_later list) from
