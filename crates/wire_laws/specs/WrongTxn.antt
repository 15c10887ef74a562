-- Wrong decoders and encoders of the messages about transactions: each is the right one, but for
-- one mistake.
use Rattle.std.specs.Prelude.{ℕ, ℤ, pos, reverse, not, if◌then◌else◌, Ok}
use Rattle.std.specs.Ordering.{int_eq}
use Rattle.wire_types.specs.Reading.{◌>>=◌}
use Rattle.msg_txn.specs.declared.end_txn.EndTxn.{EndTxn}
use Rattle.msg_txn.specs.declared.end_txn.EndTxnRequest.{EndTxnRequest}
use Rattle.msg_admin.specs.declared.header.Header.{Header}
use Rattle.msg_admin.specs.declared.request.Request.{Request}
use Rattle.msg_admin.specs.declared.reply.Reply.{Reply}
use Rattle.msg_admin.specs.Request.{request_at}
use Rattle.msg_admin.specs.Response.{response}
use Rattle.wire_laws.specs.Frames.{Decoder, Encoder}
use Rattle.wire_laws.specs.WrongFrames.{null_is_empty, empty_is_null, with_request, each, each_partition}
use Rattle.msg_txn.specs.declared.end_txn.EndTxnRequest.TheVariants as end_txns
use Rattle.msg_txn.specs.declared.end_txn.EndTxnReply.TheVariants as ended
use Rattle.msg_admin.specs.declared.request.Request.TheVariants as requests
use Rattle.msg_admin.specs.declared.reply.Reply.TheVariants as replies

-- the next mistake, in an EndTxn
abbrev invert_end : EndTxn → EndTxn
invert_end r = record r { committed = not r.committed }

-- the next mistake, in an EndTxnRequest
abbrev invert_ends : EndTxnRequest → EndTxnRequest
invert_ends (end_txns.Version0 r) = end_txns.Version0 (invert_end r)
invert_ends (end_txns.Version1 r) = end_txns.Version1 (invert_end r)
invert_ends (end_txns.Version2 r) = end_txns.Version2 (invert_end r)
invert_ends (end_txns.Version3 r) = end_txns.Version3 (record { asked = invert_end r.asked })
invert_ends (end_txns.Version4 r) = end_txns.Version4 (record { asked = invert_end r.asked })
invert_ends (end_txns.Version5 r) = end_txns.Version5 (record { asked = invert_end r.asked })

-- the next mistake, in a Request
abbrev swap_commits : Request → Request
swap_commits (requests.EndTxn r) = requests.EndTxn (invert_ends r)
swap_commits r = r

-- a BOOLEAN is read as true where it is 0, so that a commit aborts
abbrev pub commits_and_aborts_swapped : Decoder
commits_and_aborts_swapped = with_request swap_commits request_at

-- the same of what is read in one version
abbrev swap_commits_in : ℕ → Header × Request → Header × Request
swap_commits_in version (h, r) =
    if int_eq h.version (pos version)
    then (h, swap_commits r)
    else (h, r)

-- a commit is read as an abort, and the other way round, in one version alone
abbrev pub commits_and_aborts_swapped_in : ℕ → Decoder
commits_and_aborts_swapped_in version bytes =
    request_at bytes >>= λ x. Ok (swap_commits_in version x)

-- the next mistake, in an EndTxnRequest
abbrev lower_version : EndTxnRequest → EndTxnRequest
lower_version (end_txns.Version5 r) = end_txns.Version4 r
lower_version r = r

-- the next mistake, in a Request
abbrev lower_versions : Request → Request
lower_versions (requests.EndTxn r) = requests.EndTxn (lower_version r)
lower_versions r = r

-- an EndTxn of version 5 is read as one of version 4
abbrev pub version_5_is_version_4 : Decoder
version_5_is_version_4 = with_request lower_versions request_at

-- the next mistake, in a Request
abbrev exchange_ids : Request → Request
exchange_ids (requests.AddOffsetsToTxn r) =
    requests.AddOffsetsToTxn
    (record r { transactional_id = r.group; group = r.transactional_id })
exchange_ids (requests.TxnOffsetCommit r) =
    requests.TxnOffsetCommit
    (record r { transactional_id = r.group; group = r.transactional_id })
exchange_ids r = r

-- the transactional_id and the group_id are exchanged
abbrev pub transaction_and_group_exchanged : Decoder
transaction_and_group_exchanged = with_request exchange_ids request_at

-- the next mistake, in a Request
abbrev exchange_producers : Request → Request
exchange_producers (requests.AddPartitionsToTxn r) =
    requests.AddPartitionsToTxn (record r { producer = r.epoch; epoch = r.producer })
exchange_producers (requests.AddOffsetsToTxn r) =
    requests.AddOffsetsToTxn (record r { producer = r.epoch; epoch = r.producer })
exchange_producers r = r

-- the producer_id and the producer_epoch are exchanged
abbrev pub producer_and_epoch_exchanged : Decoder
producer_and_epoch_exchanged = with_request exchange_producers request_at

-- the next mistake, in a Request
abbrev reverse_partitions : Request → Request
reverse_partitions (requests.AddPartitionsToTxn r) =
    requests.AddPartitionsToTxn
    (record r { topics = each r.topics (λ t. record t { partitions = reverse t.partitions }) })
reverse_partitions r = r

-- the partitions of a topic are read in reverse
abbrev pub partitions_in_reverse : Decoder
partitions_in_reverse = with_request reverse_partitions request_at

-- the next mistake, in a number
abbrev other_type : ℤ → ℤ
other_type n = if int_eq n (pos 0) then pos 1 else pos 0

-- the next mistake, in a Request
abbrev swap_types : Request → Request
swap_types (requests.FindCoordinator r) =
    requests.FindCoordinator (record r { key_type = other_type r.key_type })
swap_types r = r

-- a FindCoordinator with the key_type 0, which is for a group, is read as one for a transactional
-- id, which is 1
abbrev pub key_types_swapped : Decoder
key_types_swapped = with_request swap_types request_at

-- the next mistake, in a Request
abbrev fill_ids : Request → Request
fill_ids (requests.InitProducerId r) =
    requests.InitProducerId
    (record r { transactional_id = null_is_empty r.transactional_id })
fill_ids r = r

-- a transactional_id that is null is read as an empty one
abbrev pub null_transactional_ids_are_empty : Decoder
null_transactional_ids_are_empty = with_request fill_ids request_at

-- the next mistake, in a Request
abbrev drop_ids : Request → Request
drop_ids (requests.InitProducerId r) =
    requests.InitProducerId
    (record r { transactional_id = empty_is_null r.transactional_id })
drop_ids r = r

-- an empty transactional_id is read as null, so that a producer without one is made
abbrev pub empty_transactional_ids_are_null : Decoder
empty_transactional_ids_are_null = with_request drop_ids request_at

-- the next mistake, in a Request
abbrev exchange_staged : Request → Request
exchange_staged (requests.TxnOffsetCommit r) =
    requests.TxnOffsetCommit
    (record r {
      topics
          = each_partition r.topics
          (λ p. record p { offset = p.leader_epoch; leader_epoch = p.offset });
    })
exchange_staged r = r

-- the committed_offset and the committed_leader_epoch are exchanged
abbrev pub staged_offset_and_leader_epoch_exchanged : Decoder
staged_offset_and_leader_epoch_exchanged = with_request exchange_staged request_at

-- the next mistake, in a Reply
abbrev exchange_told : Reply → Reply
exchange_told (replies.InitProducerId r) =
    replies.InitProducerId (record r { producer = r.epoch; epoch = r.producer })
exchange_told (replies.EndTxn (ended.Version5 r)) =
    replies.EndTxn (ended.Version5 (record r { producer = r.epoch; epoch = r.producer }))
exchange_told r = r

-- the producer_id and the producer_epoch of an answer are exchanged
abbrev pub told_producer_and_epoch_exchanged : Encoder
told_producer_and_epoch_exchanged correlation r = response correlation (exchange_told r)

-- the next mistake, in a Reply
abbrev exchange_ports : Reply → Reply
exchange_ports (replies.FindCoordinator r) =
    replies.FindCoordinator (record r { node = r.port; port = r.node })
exchange_ports r = r

-- the node_id and the port of a coordinator are exchanged
abbrev pub node_and_port_exchanged : Encoder
node_and_port_exchanged correlation r = response correlation (exchange_ports r)

-- the next mistake, in a Reply
abbrev no_throttle : Reply → Reply
no_throttle (replies.AddPartitionsToTxn r) =
    replies.AddPartitionsToTxn (record r { throttle = pos 0 })
no_throttle (replies.AddOffsetsToTxn r) =
    replies.AddOffsetsToTxn (record r { throttle = pos 0 })
no_throttle (replies.TxnOffsetCommit r) =
    replies.TxnOffsetCommit (record r { throttle = pos 0 })
no_throttle r = r

-- the throttle_time_ms is told as 0
abbrev pub throttles_are_zero : Encoder
throttles_are_zero correlation r = response correlation (no_throttle r)
