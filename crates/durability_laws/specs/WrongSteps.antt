-- Wrong steps of a broker, each of which a law refutes.
use Rattle.std.specs.Prelude.{pos, negsuc, ◌+ℤ◌, not, is_some, [], ◌∷◌, map, Some, ◌++◌, drop, replicate, false, if◌then◌else◌}
use Rattle.std.specs.List.{filter}
use Rattle.wire_types.specs.declared.error_code.ErrorCode.TheVariants as codes
use Rattle.wire_types.specs.declared.topic.Topic.{Topic}
use Rattle.record_batch.specs.BatchHeader.{is_transactional}
use Rattle.record_batch.specs.Batch.{BatchData}
use Rattle.msg_data.specs.declared.produce.ProducedOffset.{ProducedOffset}
use Rattle.msg_group.specs.declared.offset_fetch.FetchedOffset.{FetchedOffset}
use Rattle.msg_admin.specs.declared.request.Request.TheVariants.{Produce, Fetch, OffsetCommit, OffsetFetch}
use Rattle.msg_admin.specs.declared.reply.Reply.{Reply}
use Rattle.msg_admin.specs.declared.reply.Reply.TheVariants as replies
use Rattle.audit_trail.specs.declared.event.Event.TheVariants.{Ask, Mark, Tick}
use Rattle.group_offsets.specs.declared.group.Group.{Group}
use Rattle.broker_world.specs.World.{TopicValue, LogValue}
use Rattle.broker_world.specs.HandlerResult.{HandlerResult}
use Rattle.api_dispatch.specs.Step.{outcome}
use Rattle.read_laws.specs.WrongFetches.{fetch_as_committed, fetch_without_a_large_batch, fetch_without_the_last_batch}
use Rattle.durability_laws.specs.Steps.{StepRule}

-- ---- Produce

-- wrong: a Produce is answered, and nothing is appended
abbrev pub step_appending_nothing : StepRule
step_appending_nothing w (Ask caller client (Produce r)) =
    record (outcome w (Ask caller client (Produce r))) { world = w }
step_appending_nothing w e = outcome w e

abbrev pub next_told : ProducedOffset → ProducedOffset
next_told told = record told { base_offset = told.base_offset +ℤ pos 1 }

abbrev pub with_next_told : Reply → Reply
with_next_told (replies.Produce reply) =
    replies.Produce
    (record reply {
      topics =
          map (λ (t : Topic ProducedOffset). record t { partitions = map next_told t.partitions })
          reply.topics;
    })
with_next_told reply = reply

-- wrong: a Produce is told the offset after that at which its batch stands
abbrev pub step_telling_the_next_offset : StepRule
step_telling_the_next_offset w e =
    let o = outcome w e in record o { reply = with_next_told o.reply }

-- ---- logs

abbrev pub offset_zero : BatchData → BatchData
offset_zero b = record b { bytes = replicate 8 0 ++ drop 8 b.bytes }

abbrev pub with_each_log : (LogValue → LogValue) → HandlerResult → HandlerResult
with_each_log f o =
    record o {
      world =
          record o.world {
            topics =
                map (λ (t : TopicValue). record t { partitions = map f t.partitions })
                o.world.topics;
          };
    }

-- wrong: a batch is appended with the base offset 0 in its bytes, as it was sent
abbrev pub step_keeping_the_offset_sent : StepRule
step_keeping_the_offset_sent w (Ask caller client (Produce r)) =
    with_each_log (map offset_zero) (outcome w (Ask caller client (Produce r)))
step_keeping_the_offset_sent w e = outcome w e

abbrev pub last_batch : LogValue → LogValue
last_batch [] = []
last_batch (b ∷ []) = b ∷ []
last_batch (b ∷ c ∷ rest) = last_batch (c ∷ rest)

-- wrong: at each tick of the clock a log keeps its last batch alone
abbrev pub step_keeping_the_last_batch : StepRule
step_keeping_the_last_batch w (Tick told) = with_each_log last_batch (outcome w (Tick told))
step_keeping_the_last_batch w e = outcome w e

-- wrong: each marker step takes the batches of transactions out of the logs
abbrev pub step_taking_transactions_out : StepRule
step_taking_transactions_out w Mark =
    with_each_log (filter (λ (b : BatchData). not (is_transactional b.header))) (outcome w Mark)
step_taking_transactions_out w e = outcome w e

-- wrong: each tick of the clock takes the markers out of the logs, so that what they committed is
-- open again
abbrev pub step_taking_markers_out : StepRule
step_taking_markers_out w (Tick told) =
    with_each_log (filter (λ (b : BatchData). not (is_some b.marker))) (outcome w (Tick told))
step_taking_markers_out w e = outcome w e

-- ---- Fetch

-- wrong: a Fetch is never served a log's last batch
abbrev pub step_without_the_last_batch : StepRule
step_without_the_last_batch w (Ask caller client (Fetch r)) =
    fetch_without_the_last_batch w caller r
step_without_the_last_batch w e = outcome w e

-- wrong: a Fetch is never served a batch that is larger than max_bytes
abbrev pub step_without_a_large_batch : StepRule
step_without_a_large_batch w (Ask caller client (Fetch r)) = fetch_without_a_large_batch w caller r
step_without_a_large_batch w e = outcome w e

-- wrong: the isolation level isn't looked at, and read_uncommitted is told what read_committed is
abbrev pub step_fetching_as_committed : StepRule
step_fetching_as_committed w (Ask caller client (Fetch r)) = fetch_as_committed w caller r
step_fetching_as_committed w e = outcome w e

-- ---- offsets

abbrev pub without_offsets : Group → Group
without_offsets g = record g { offsets = [] }

-- wrong: at each tick of the clock the groups forget their offsets
abbrev pub step_forgetting_offsets : StepRule
step_forgetting_offsets w (Tick told) =
    let o = outcome w (Tick told) in
    record o { world = record o.world { groups = map without_offsets o.world.groups } }
step_forgetting_offsets w e = outcome w e

-- wrong: an OffsetCommit is answered, and nothing is committed
abbrev pub step_committing_nothing : StepRule
step_committing_nothing w (Ask caller client (OffsetCommit r)) =
    record (outcome w (Ask caller client (OffsetCommit r))) { world = w }
step_committing_nothing w e = outcome w e

abbrev pub no_offset : FetchedOffset → FetchedOffset
no_offset told = record told { offset = negsuc 0; metadata = Some [] }

abbrev pub with_no_offset : Reply → Reply
with_no_offset (replies.OffsetFetch reply) =
    replies.OffsetFetch
    (record reply {
      topics =
          map (λ (t : Topic FetchedOffset). record t { partitions = map no_offset t.partitions })
          reply.topics;
    })
with_no_offset reply = reply

-- wrong: an OffsetFetch is told that no offset is committed
abbrev pub step_telling_no_offset : StepRule
step_telling_no_offset w e = let o = outcome w e in record o { reply = with_no_offset o.reply }

-- wrong: an OffsetFetch isn't asked whether it requires a stable offset
abbrev pub step_ignoring_require_stable : StepRule
step_ignoring_require_stable w (Ask caller client (OffsetFetch r)) =
    outcome w (Ask caller client (OffsetFetch (record r { require_stable = false })))
step_ignoring_require_stable w e = outcome w e

abbrev pub unstable : FetchedOffset → FetchedOffset
unstable told = record told { offset = negsuc 0; error = codes.UnstableOffsetCommit }

abbrev pub with_unstable : Reply → Reply
with_unstable (replies.OffsetFetch reply) =
    replies.OffsetFetch
    (record reply {
      topics =
          map (λ (t : Topic FetchedOffset). record t { partitions = map unstable t.partitions })
          reply.topics;
    })
with_unstable reply = reply

-- wrong: who requires a stable offset is told UNSTABLE_OFFSET_COMMIT (88) whatever waits
abbrev pub step_always_unstable : StepRule
step_always_unstable w (Ask caller client (OffsetFetch r)) =
    let o = outcome w (Ask caller client (OffsetFetch r)) in
    if r.require_stable then record o { reply = with_unstable o.reply } else o
step_always_unstable w e = outcome w e
