-- Wrong rules for versions: each is the right one, but for one mistake.
use Rattle.std.specs.Prelude.{ℕ, ℤ, pos, int_le, List, [], ◌++◌, Option, Some, None, if◌then◌else◌}
use Rattle.std.specs.Option.{option_and_then}
use Rattle.std.specs.Ordering.{int_eq}
use Rattle.wire_types.specs.declared.error_code.ErrorCode.TheVariants as errors
use Rattle.wire_types.specs.Schema.{int32}
use Rattle.msg_login.specs.ApiVersions.{api_versions_reply}
use Rattle.msg_login.specs.declared.api_versions.ServedVersions.{ServedVersions}
use Rattle.msg_admin.specs.declared.api_key.ApiKey.{ApiKey}
use Rattle.msg_admin.specs.declared.api.Api.{Api}
use Rattle.msg_admin.specs.declared.decode.Frame.{Frame}
use Rattle.msg_admin.specs.declared.reply.Reply.TheVariants as replies
use Rattle.msg_admin.specs.ApiKey.{served_api, key_at}
use Rattle.msg_admin.specs.Decode.{frame_of_request}
use Rattle.msg_admin.specs.Frame.{frame_bytes}
use Rattle.msg_admin.specs.Request.{request_at}
use Rattle.msg_admin.specs.Response.{response}
use Rattle.msg_admin.specs.Versions.{versions_reply, unsupported_reply}
use Rattle.wire_laws.specs.WrongFrames.{each}

-- the api in the version, where it isn't below the first
abbrev from_first : ApiKey → ℤ → Option Api
from_first key version =
    if int_le (served_api key).first version then Some (record { key = key; version = version })
    else None

-- an api is served in each version from its first one on
abbrev pub later_versions_are_served : ℤ × ℤ → Option Api
later_versions_are_served asked =
    option_and_then (λ key. from_first key asked.1) (key_at asked.0)

-- ApiVersions in another version is malformed
abbrev pub other_versions_are_malformed : List ℕ → Frame
other_versions_are_malformed bytes = frame_of_request (request_at bytes)

-- each of two api keys is told for the other
abbrev swap_keys : ServedVersions → ServedVersions
swap_keys v =
    if int_eq v.key (pos 12) then record v { key = pos 13 }
    else if int_eq v.key (pos 13) then record v { key = pos 12 } else v

-- Heartbeat (12) is told as LeaveGroup (13), and the other way round
abbrev pub heartbeat_and_leave_told_swapped : ℤ → List ℕ
heartbeat_and_leave_told_swapped correlation =
    response correlation
    (replies.ApiVersions (record versions_reply { apis = each versions_reply.apis swap_keys }))

-- EndTxn is told to end with version 4
abbrev last_is_4 : ServedVersions → ServedVersions
last_is_4 v = if int_eq v.key (pos 26) then record v { max = pos 4 } else v

-- version 5 of EndTxn isn't told
abbrev pub end_txn_5_is_not_told : ℤ → List ℕ
end_txn_5_is_not_told correlation =
    response correlation
    (replies.ApiVersions (record versions_reply { apis = each versions_reply.apis last_is_4 }))

-- no error is told
abbrev pub unsupported_is_no_error : ℤ → List ℕ
unsupported_is_no_error correlation =
    frame_bytes
    (int32.written correlation
    ++ api_versions_reply.written (record unsupported_reply { error = errors.None }))

-- no version is told beside the error
abbrev pub unsupported_without_versions : ℤ → List ℕ
unsupported_without_versions correlation =
    frame_bytes
    (int32.written correlation
    ++ api_versions_reply.written (record unsupported_reply { apis = [] }))
