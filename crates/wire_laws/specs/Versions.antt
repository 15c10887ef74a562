-- The versions in which each api is served, what a frame in another version is, and what
-- ApiVersions is answered (Kafka protocol guide, "Api Keys" and "Retrieving Supported API
-- versions"; KIP-511). The answers' bytes are those of kafka-python 2.0.2; the requests were
-- written down by hand, after the protocol guide ("ApiVersions API (Key: 18)").
use Rattle.std.specs.Prelude.{◌≡◌, ℕ, ℤ, pos, List, [], ◌∷◌, Option, None}
use Rattle.wire_types.specs.declared.fault.Malformed.TheVariants.{Unknown}
use Rattle.msg_admin.specs.declared.api_key.ApiKey.TheVariants as keys
use Rattle.msg_admin.specs.declared.api.Api.{Api}
use Rattle.msg_admin.specs.declared.decode.Frame.{Frame}
use Rattle.msg_admin.specs.declared.decode.Frame.TheVariants as frames
use Rattle.msg_admin.specs.declared.request.Request.TheVariants as requests
use Rattle.msg_admin.specs.declared.reply.Reply.TheVariants as replies
use Rattle.msg_admin.specs.Api.{api_at}
use Rattle.msg_admin.specs.Response.{response}
use Rattle.msg_admin.specs.Versions.{versions_reply}
use Rattle.wire_laws.specs.Tables.{ReadsNumbers}

-- ---- which apis are served, in which versions

-- each number and version that a request may have, and the api that it asks for
abbrev pub served_versions : List ((ℤ × ℤ) × Api)
served_versions =
    ((pos 0, pos 3), record { key = keys.Produce; version = pos 3 })
    ∷ ((pos 1, pos 4), record { key = keys.Fetch; version = pos 4 })
    ∷ ((pos 2, pos 2), record { key = keys.ListOffsets; version = pos 2 })
    ∷ ((pos 3, pos 1), record { key = keys.Metadata; version = pos 1 })
    ∷ ((pos 8, pos 2), record { key = keys.OffsetCommit; version = pos 2 })
    ∷ ((pos 9, pos 7), record { key = keys.OffsetFetch; version = pos 7 })
    ∷ ((pos 10, pos 1), record { key = keys.FindCoordinator; version = pos 1 })
    ∷ ((pos 11, pos 2), record { key = keys.JoinGroup; version = pos 2 })
    ∷ ((pos 12, pos 1), record { key = keys.Heartbeat; version = pos 1 })
    ∷ ((pos 13, pos 1), record { key = keys.LeaveGroup; version = pos 1 })
    ∷ ((pos 14, pos 1), record { key = keys.SyncGroup; version = pos 1 })
    ∷ ((pos 17, pos 1), record { key = keys.SaslHandshake; version = pos 1 })
    ∷ ((pos 18, pos 0), record { key = keys.ApiVersions; version = pos 0 })
    ∷ ((pos 22, pos 0), record { key = keys.InitProducerId; version = pos 0 })
    ∷ ((pos 24, pos 0), record { key = keys.AddPartitionsToTxn; version = pos 0 })
    ∷ ((pos 25, pos 0), record { key = keys.AddOffsetsToTxn; version = pos 0 })
    ∷ ((pos 26, pos 0), record { key = keys.EndTxn; version = pos 0 })
    ∷ ((pos 26, pos 1), record { key = keys.EndTxn; version = pos 1 })
    ∷ ((pos 26, pos 2), record { key = keys.EndTxn; version = pos 2 })
    ∷ ((pos 26, pos 3), record { key = keys.EndTxn; version = pos 3 })
    ∷ ((pos 26, pos 4), record { key = keys.EndTxn; version = pos 4 })
    ∷ ((pos 26, pos 5), record { key = keys.EndTxn; version = pos 5 })
    ∷ ((pos 28, pos 3), record { key = keys.TxnOffsetCommit; version = pos 3 })
    ∷ ((pos 29, pos 1), record { key = keys.DescribeAcls; version = pos 1 })
    ∷ ((pos 30, pos 1), record { key = keys.CreateAcls; version = pos 1 })
    ∷ ((pos 31, pos 1), record { key = keys.DeleteAcls; version = pos 1 })
    ∷ ((pos 36, pos 0), record { key = keys.SaslAuthenticate; version = pos 0 })
    ∷ []

-- a request is for the api that its number and version name, and for none where they name none
abbrev pub ReadsVersions : (ℤ × ℤ → Option Api) → Type 0
ReadsVersions = ReadsNumbers served_versions

-- the api that a number and a version name
abbrev pub api_named : ℤ × ℤ → Option Api
api_named asked = api_at asked.0 asked.1

-- ---- what a frame is

-- ApiVersions in version 3, as clients of today ask it first
abbrev pub api_versions_3_request : List ℕ
api_versions_3_request =
    0x00 ∷ 0x12  -- request_api_key
    ∷ 0x00 ∷ 0x03  -- request_api_version
    ∷ 0x01 ∷ 0x02 ∷ 0x03 ∷ 0x34  -- correlation_id
    ∷ 0x00 ∷ 0x01 ∷ 0x63  -- client_id
    ∷ 0x00  -- TAG_BUFFER
    ∷ 0x08 ∷ 0x72 ∷ 0x64 ∷ 0x6b ∷ 0x61 ∷ 0x66 ∷ 0x6b ∷ 0x61  -- client_software_name
    ∷ 0x02 ∷ 0x31  -- client_software_version
    ∷ 0x00  -- TAG_BUFFER
    ∷ []

-- ApiVersions in version 0
abbrev pub api_versions_0_request : List ℕ
api_versions_0_request =
    0x00 ∷ 0x12  -- request_api_key
    ∷ 0x00 ∷ 0x00  -- request_api_version
    ∷ 0x01 ∷ 0x02 ∷ 0x03 ∷ 0x38  -- correlation_id
    ∷ 0xff ∷ 0xff  -- client_id
    ∷ []

-- Fetch in version 5, which isn't served
abbrev pub fetch_5_request : List ℕ
fetch_5_request =
    0x00 ∷ 0x01  -- request_api_key
    ∷ 0x00 ∷ 0x05  -- request_api_version
    ∷ 0x01 ∷ 0x02 ∷ 0x03 ∷ 0x36  -- correlation_id
    ∷ 0xff ∷ 0xff  -- client_id
    ∷ []

-- LeaderAndIsr, the api 4, which isn't served
abbrev pub api_4_request : List ℕ
api_4_request =
    0x00 ∷ 0x04  -- request_api_key
    ∷ 0x00 ∷ 0x00  -- request_api_version
    ∷ 0x01 ∷ 0x02 ∷ 0x03 ∷ 0x37  -- correlation_id
    ∷ 0xff ∷ 0xff  -- client_id
    ∷ []

-- ApiVersions is found in a version that isn't served too; any other such request is malformed
pub record ReadsAnyVersion (read : List ℕ → Frame) : Type 0 where
  pub version_3 : read api_versions_3_request ≡ frames.OtherApiVersions (pos 0x01020334)
  pub version_0 : read api_versions_0_request
      ≡ frames.Request
      (record { key = pos 18; version = pos 0; correlation = pos 0x01020338; client = None })
      requests.ApiVersions
  pub fetch_5 : read fetch_5_request ≡ frames.Malformed Unknown
  pub api_4 : read api_4_request ≡ frames.Malformed Unknown

-- ---- what is answered

-- each api that is served, with its first and its last version
abbrev pub api_versions_told : List ℕ
api_versions_told =
    0x00 ∷ 0x00 ∷ 0x00 ∷ 0x8e  -- size
    ∷ 0x01 ∷ 0x02 ∷ 0x03 ∷ 0x35  -- correlation_id
    ∷ 0x00 ∷ 0x00  -- error_code
    ∷ 0x00 ∷ 0x00 ∷ 0x00 ∷ 0x16  -- [api_keys]
    ∷ 0x00 ∷ 0x00 ∷ 0x00 ∷ 0x03 ∷ 0x00 ∷ 0x03  -- Produce: api_key, min_version, max_version
    ∷ 0x00 ∷ 0x01 ∷ 0x00 ∷ 0x04 ∷ 0x00 ∷ 0x04  -- Fetch: api_key, min_version, max_version
    ∷ 0x00 ∷ 0x02 ∷ 0x00 ∷ 0x02 ∷ 0x00  -- ListOffsets: api_key, min_version, max_version
    ∷ 0x02
    ∷ 0x00 ∷ 0x03 ∷ 0x00 ∷ 0x01 ∷ 0x00 ∷ 0x01  -- Metadata: api_key, min_version, max_version
    ∷ 0x00 ∷ 0x08 ∷ 0x00 ∷ 0x02 ∷ 0x00  -- OffsetCommit: api_key, min_version, max_version
    ∷ 0x02
    ∷ 0x00 ∷ 0x09 ∷ 0x00 ∷ 0x07 ∷ 0x00  -- OffsetFetch: api_key, min_version, max_version
    ∷ 0x07
    ∷ 0x00 ∷ 0x0a ∷ 0x00 ∷ 0x01 ∷ 0x00  -- FindCoordinator: api_key, min_version, max_version
    ∷ 0x01
    ∷ 0x00 ∷ 0x0b ∷ 0x00 ∷ 0x02 ∷ 0x00 ∷ 0x02  -- JoinGroup: api_key, min_version, max_version
    ∷ 0x00 ∷ 0x0c ∷ 0x00 ∷ 0x01 ∷ 0x00 ∷ 0x01  -- Heartbeat: api_key, min_version, max_version
    ∷ 0x00 ∷ 0x0d ∷ 0x00 ∷ 0x01 ∷ 0x00  -- LeaveGroup: api_key, min_version, max_version
    ∷ 0x01
    ∷ 0x00 ∷ 0x0e ∷ 0x00 ∷ 0x01 ∷ 0x00 ∷ 0x01  -- SyncGroup: api_key, min_version, max_version
    ∷ 0x00 ∷ 0x11 ∷ 0x00 ∷ 0x01 ∷ 0x00  -- SaslHandshake: api_key, min_version, max_version
    ∷ 0x01
    ∷ 0x00 ∷ 0x12 ∷ 0x00 ∷ 0x00 ∷ 0x00  -- ApiVersions: api_key, min_version, max_version
    ∷ 0x00
    ∷ 0x00 ∷ 0x16 ∷ 0x00 ∷ 0x00 ∷ 0x00  -- InitProducerId: api_key, min_version, max_version
    ∷ 0x00
    ∷ 0x00 ∷ 0x18 ∷ 0x00 ∷ 0x00  -- AddPartitionsToTxn: api_key, min_version, max_version
    ∷ 0x00 ∷ 0x00
    ∷ 0x00 ∷ 0x19 ∷ 0x00 ∷ 0x00 ∷ 0x00  -- AddOffsetsToTxn: api_key, min_version, max_version
    ∷ 0x00
    ∷ 0x00 ∷ 0x1a ∷ 0x00 ∷ 0x00 ∷ 0x00 ∷ 0x05  -- EndTxn: api_key, min_version, max_version
    ∷ 0x00 ∷ 0x1c ∷ 0x00 ∷ 0x03 ∷ 0x00  -- TxnOffsetCommit: api_key, min_version, max_version
    ∷ 0x03
    ∷ 0x00 ∷ 0x1d ∷ 0x00 ∷ 0x01 ∷ 0x00  -- DescribeAcls: api_key, min_version, max_version
    ∷ 0x01
    ∷ 0x00 ∷ 0x1e ∷ 0x00 ∷ 0x01 ∷ 0x00  -- CreateAcls: api_key, min_version, max_version
    ∷ 0x01
    ∷ 0x00 ∷ 0x1f ∷ 0x00 ∷ 0x01 ∷ 0x00  -- DeleteAcls: api_key, min_version, max_version
    ∷ 0x01
    ∷ 0x00 ∷ 0x24 ∷ 0x00 ∷ 0x00 ∷ 0x00  -- SaslAuthenticate: api_key, min_version, max_version
    ∷ 0x00
    ∷ []

-- ApiVersions is answered so, by the correlation id
abbrev pub TellsVersions : (ℤ → List ℕ) → Type 0
TellsVersions tell = tell (pos 0x01020335) ≡ api_versions_told

-- the broker's answer to ApiVersions
abbrev pub versions_told : ℤ → List ℕ
versions_told correlation = response correlation (replies.ApiVersions versions_reply)

-- 35 (UNSUPPORTED_VERSION), and the version of ApiVersions that is served, in the form of version 0
abbrev pub unsupported_version_told : List ℕ
unsupported_version_told =
    0x00 ∷ 0x00 ∷ 0x00 ∷ 0x10  -- size
    ∷ 0x01 ∷ 0x02 ∷ 0x03 ∷ 0x34  -- correlation_id
    ∷ 0x00 ∷ 0x23  -- error_code
    ∷ 0x00 ∷ 0x00 ∷ 0x00 ∷ 0x01  -- [api_keys]
    ∷ 0x00 ∷ 0x12  -- api_key
    ∷ 0x00 ∷ 0x00  -- min_version
    ∷ 0x00 ∷ 0x00  -- max_version
    ∷ []

-- ApiVersions in another version is answered so
abbrev pub TellsUnsupported : (ℤ → List ℕ) → Type 0
TellsUnsupported tell = tell (pos 0x01020334) ≡ unsupported_version_told
