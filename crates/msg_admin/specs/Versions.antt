-- What ApiVersions is answered (Kafka protocol guide, "Retrieving Supported API versions"). It is
-- answered in a version that is not served too: a client asks it before it knows the versions
-- (KIP-511).
use Rattle.std.specs.Prelude.{◌≡◌, ℕ, ℤ, pos, List, [], ◌∷◌, ◌++◌, map, Bool, not, ◌&&◌, Option, Some, None, if◌then◌else◌, refl}
use Rattle.std.specs.List.{find}
use Rattle.std.specs.Option.{option_and_then}
use Rattle.std.specs.Ordering.{int_eq}
use Rattle.std.specs.Result.{result_ok}
use Rattle.wire_types.specs.declared.error_code.ErrorCode.TheVariants as codes
use Rattle.wire_types.specs.Grammar.{Grammar}
use Rattle.wire_types.specs.Combinators.{◌⨟◌}
use Rattle.wire_types.specs.Schema.{int32}
use Rattle.msg_login.specs.declared.api_versions.ServedVersions.{ServedVersions}
use Rattle.msg_login.specs.declared.api_versions.ApiVersionsReply.{ApiVersionsReply}
use Rattle.msg_login.specs.ApiVersions.{api_versions_reply}
use Rattle.msg_admin.specs.declared.api_key.ApiKey.{ApiKey}
use Rattle.msg_admin.specs.declared.api_key.ApiKey.TheVariants as keys
use Rattle.msg_admin.specs.ApiKey.{served_api, number_of, is_served, all_keys}
use Rattle.msg_admin.specs.Header.{names}
use Rattle.msg_admin.specs.Frame.{frame_bytes}

-- an api with the versions in which it is served
abbrev pub served_in : ApiKey → ServedVersions
served_in key =
    record { key = number_of key; min = (served_api key).first; max = (served_api key).last }

-- every api that is served
abbrev pub versions_reply : ApiVersionsReply
versions_reply = record { error = codes.None; apis = map served_in all_keys }

-- each api stands in it under its number
pub served_in-listed : (key : ApiKey)
    → find (λ v. int_eq v.key (number_of key)) versions_reply.apis ≡ Some (served_in key)
unfolding all_keys
served_in-listed keys.Produce = refl
served_in-listed keys.Fetch = refl
served_in-listed keys.ListOffsets = refl
served_in-listed keys.Metadata = refl
served_in-listed keys.OffsetCommit = refl
served_in-listed keys.OffsetFetch = refl
served_in-listed keys.FindCoordinator = refl
served_in-listed keys.JoinGroup = refl
served_in-listed keys.Heartbeat = refl
served_in-listed keys.LeaveGroup = refl
served_in-listed keys.SyncGroup = refl
served_in-listed keys.SaslHandshake = refl
served_in-listed keys.ApiVersions = refl
served_in-listed keys.InitProducerId = refl
served_in-listed keys.AddPartitionsToTxn = refl
served_in-listed keys.AddOffsetsToTxn = refl
served_in-listed keys.EndTxn = refl
served_in-listed keys.TxnOffsetCommit = refl
served_in-listed keys.DescribeAcls = refl
served_in-listed keys.CreateAcls = refl
served_in-listed keys.DeleteAcls = refl
served_in-listed keys.SaslAuthenticate = refl

-- ---- asked in a version that is not served

-- what each request header starts with: request_api_key request_api_version correlation_id
abbrev pub header_start : Grammar ((ℤ × ℤ) × ℤ)
header_start = names ⨟ int32

-- The bytes start as a request of ApiVersions, whose key is 18, in another version than 0. Whatever
-- follows is not looked at.
abbrev pub AsksUnsupported : List ℕ → ℤ → Type 0
AsksUnsupported bytes correlation = (front rest : List ℕ) × (version : ℤ) × (bytes ≡ front ++ rest)
    × header_start.Spells front ((pos 18, version), correlation) × (version ≡ pos 0 → ⊥)

-- ---- the same as it is read

abbrev pub asked_unsupported : (ℤ × ℤ) × ℤ → Option ℤ
asked_unsupported ((key, version), correlation) =
    if int_eq key (pos 18) && not (is_served keys.ApiVersions version) then Some correlation
    else None

-- the correlation id of such a request
unfoldable pub unsupported_at : List ℕ → Option ℤ
unsupported_at bytes =
    option_and_then (λ x. asked_unsupported x.0) (result_ok (header_start.reading bytes))

-- ---- its answer

-- the error, and ApiVersions alone with the version that is served
abbrev pub unsupported_reply : ApiVersionsReply
unsupported_reply =
    record { error = codes.UnsupportedVersion; apis = served_in keys.ApiVersions ∷ [] }

-- the whole response, in version 0, which each client can read
abbrev pub unsupported_response : ℤ → List ℕ
unsupported_response correlation =
    frame_bytes (int32.written correlation ++ api_versions_reply.written unsupported_reply)
