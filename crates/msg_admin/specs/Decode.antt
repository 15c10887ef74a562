-- What a client sends in one frame (Kafka protocol guide, "Retrieving Supported API versions";
-- KIP-511).
use Rattle.std.specs.Prelude.{◌≤◌, ℕ, ℤ, List, Option, Some, None, Result, Ok, Err}
use Rattle.wire_types.specs.declared.fault.Malformed.{Malformed}
use Rattle.msg_admin.specs.declared.decode.Frame.{Frame}
use Rattle.msg_admin.specs.declared.decode.Frame.TheVariants as frames
use Rattle.msg_admin.specs.declared.header.Header.{Header}
use Rattle.msg_admin.specs.declared.request.Request.{Request}
use Rattle.msg_admin.specs.declared.request.TheConstants.{FRAME_LIMIT as LIMIT}
use Rattle.msg_admin.specs.Request.{Fits, request_at}
use Rattle.msg_admin.specs.Versions.{unsupported_at}

-- a request, or the first fault of what is none
abbrev pub frame_of_request : Result (Header × Request) Malformed → Frame
frame_of_request (Ok x) = frames.Request x.0 x.1
frame_of_request (Err fault) = frames.Malformed fault

-- who asks ApiVersions in a version that is not served asks nothing else
abbrev pub frame_by : Option ℤ → Result (Header × Request) Malformed → Frame
frame_by (Some correlation) read = frames.OtherApiVersions correlation
frame_by None read = frame_of_request read

-- what the bytes of a frame are
abbrev pub frame_at : List ℕ → Frame
frame_at bytes = frame_by (unsupported_at bytes) (request_at bytes)

-- The request of a frame of so many bytes can be written, where these are within the limit.
abbrev pub FitsWithin : ℕ → Frame → Type 0
FitsWithin count (frames.Request h r) = count ≤ LIMIT → Fits r
FitsWithin count _ = Unit {0}
