-- Wrong decoders and encoders of the messages about groups: each is the right one, but for one
-- mistake.
use Rattle.std.specs.Prelude.{[], not}
use Rattle.wire_types.specs.declared.error_code.ErrorCode.{ErrorCode}
use Rattle.msg_admin.specs.declared.request.Request.{Request}
use Rattle.msg_admin.specs.declared.reply.Reply.{Reply}
use Rattle.msg_admin.specs.Request.{request_at}
use Rattle.msg_admin.specs.Response.{response}
use Rattle.wire_laws.specs.Frames.{Decoder, Encoder}
use Rattle.wire_laws.specs.WrongFrames.{null_is_empty, with_request, each_partition, keys_swapped}
use Rattle.wire_types.specs.declared.error_code.ErrorCode.TheVariants as errors
use Rattle.msg_admin.specs.declared.request.Request.TheVariants as requests
use Rattle.msg_admin.specs.declared.reply.Reply.TheVariants as replies

-- the api keys 12 (Heartbeat) and 13 (LeaveGroup) are taken for each other
abbrev pub heartbeat_and_leave_swapped : Decoder
heartbeat_and_leave_swapped = keys_swapped 12 13

-- the api keys 11 (JoinGroup) and 14 (SyncGroup) are taken for each other
abbrev pub join_and_sync_swapped : Decoder
join_and_sync_swapped = keys_swapped 11 14

-- the next mistake, in a Request
abbrev exchange_members : Request → Request
exchange_members (requests.JoinGroup r) =
    requests.JoinGroup (record r { group = r.member; member = r.group })
exchange_members (requests.SyncGroup r) =
    requests.SyncGroup (record r { group = r.member; member = r.group })
exchange_members (requests.Heartbeat r) =
    requests.Heartbeat (record r { group = r.member; member = r.group })
exchange_members (requests.LeaveGroup r) =
    requests.LeaveGroup (record r { group = r.member; member = r.group })
exchange_members (requests.OffsetCommit r) =
    requests.OffsetCommit (record r { group = r.member; member = r.group })
exchange_members r = r

-- the group_id and the member_id are exchanged
abbrev pub group_and_member_exchanged : Decoder
group_and_member_exchanged = with_request exchange_members request_at

-- the next mistake, in a Request
abbrev exchange_timeouts : Request → Request
exchange_timeouts (requests.JoinGroup r) =
    requests.JoinGroup
    (record r { session_timeout = r.rebalance_timeout; rebalance_timeout = r.session_timeout })
exchange_timeouts r = r

-- the session_timeout_ms and the rebalance_timeout_ms are exchanged
abbrev pub timeouts_exchanged : Decoder
timeouts_exchanged = with_request exchange_timeouts request_at

-- the next mistake, in a Request
abbrev invert_stable : Request → Request
invert_stable (requests.OffsetFetch r) =
    requests.OffsetFetch (record r { require_stable = not r.require_stable })
invert_stable r = r

-- a BOOLEAN is read as true where it is 0, so that unstable offsets are told to whom asks for
-- stable ones
abbrev pub require_stable_inverted : Decoder
require_stable_inverted = with_request invert_stable request_at

-- the next mistake, in a Request
abbrev fill_topics : Request → Request
fill_topics (requests.OffsetFetch r) =
    requests.OffsetFetch (record r { topics = null_is_empty r.topics })
fill_topics r = r

-- an OffsetFetch with null in place of topics, which asks for all, is read as one for none
abbrev pub null_offsets_are_none : Decoder
null_offsets_are_none = with_request fill_topics request_at

-- the next mistake, in a Request
abbrev fill_metadata : Request → Request
fill_metadata (requests.OffsetCommit r) =
    requests.OffsetCommit
    (record r {
      topics = each_partition r.topics (λ p. record p { metadata = null_is_empty p.metadata });
    })
fill_metadata r = r

-- a committed_metadata that is null is read as an empty one
abbrev pub null_metadata_is_empty : Decoder
null_metadata_is_empty = with_request fill_metadata request_at

-- the next mistake, in a Reply
abbrev exchange_leaders : Reply → Reply
exchange_leaders (replies.JoinGroup r) =
    replies.JoinGroup (record r { leader = r.member; member = r.leader })
exchange_leaders r = r

-- the leader and the member_id of a JoinGroup's answer are exchanged
abbrev pub leader_and_member_exchanged : Encoder
leader_and_member_exchanged correlation r = response correlation (exchange_leaders r)

-- the next mistake, in an ErrorCode
abbrev other_code : ErrorCode → ErrorCode
other_code errors.UnknownMemberId = errors.RebalanceInProgress
other_code errors.RebalanceInProgress = errors.UnknownMemberId
other_code code = code

-- the next mistake, in a Reply
abbrev swap_codes : Reply → Reply
swap_codes (replies.Heartbeat r) =
    replies.Heartbeat (record r { error = other_code r.error })
swap_codes (replies.LeaveGroup r) =
    replies.LeaveGroup (record r { error = other_code r.error })
swap_codes r = r

-- 25 (UNKNOWN_MEMBER_ID) is told as 27 (REBALANCE_IN_PROGRESS), and the other way round
abbrev pub unknown_member_and_rebalance_swapped : Encoder
unknown_member_and_rebalance_swapped correlation r = response correlation (swap_codes r)

-- the next mistake, in a Reply
abbrev exchange_epochs : Reply → Reply
exchange_epochs (replies.OffsetFetch r) =
    replies.OffsetFetch
    (record r {
      topics
          = each_partition r.topics
          (λ p. record p { offset = p.leader_epoch; leader_epoch = p.offset });
    })
exchange_epochs r = r

-- the committed_offset and the committed_leader_epoch of an answer are exchanged
abbrev pub fetched_offset_and_leader_epoch_exchanged : Encoder
fetched_offset_and_leader_epoch_exchanged correlation r =
    response correlation (exchange_epochs r)

-- the next mistake, in a Reply
abbrev no_error : Reply → Reply
no_error (replies.OffsetCommit r) =
    replies.OffsetCommit
    (record { topics = each_partition r.topics (λ p. record p { error = errors.None }) })
no_error r = r

-- each error is told as 0 (NONE)
abbrev pub errors_are_none : Encoder
errors_are_none correlation r = response correlation (no_error r)

-- the next mistake, in a Reply
abbrev no_assignment : Reply → Reply
no_assignment (replies.SyncGroup r) = replies.SyncGroup (record r { assignment = [] })
no_assignment r = r

-- an assignment is told as an empty one
abbrev pub assignments_are_empty : Encoder
assignments_are_empty correlation r = response correlation (no_assignment r)
