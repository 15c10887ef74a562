-- How versions are listed, in words of its own.
use Rattle.std.specs.Prelude.{◌≡◌, ◌≢◌, ◌⊎◌, ℕ, pos, length, slice_get, Some}
use Rattle.msg_login.specs.declared.api_versions.ServedVersions.{ServedVersions}
use Rattle.msg_admin.specs.Versions.{versions_reply}
use Rattle.sasl_login.specs.declared.listed.ListedVersions.TheVariants.{AsServed, ForLibrdkafka}
use Rattle.sasl_login.specs.Listed.{versions_listed}

-- the api with its last version; its first one is 0 for FindCoordinator (10) and SaslHandshake
-- (17), and for any other what is served
pub record IsListedFor (served listed : ServedVersions) : Type 0 where
  pub key : listed.key ≡ served.key
  pub last : listed.max ≡ served.max
  pub from_zero : (served.key ≡ pos 10) ⊎ (served.key ≡ pos 17) → listed.min ≡ pos 0
  pub from_first : served.key ≢ pos 10 → served.key ≢ pos 17 → listed.min ≡ served.min

pub record VersionsAreListed : Type 0 where
  pub as_served : versions_listed AsServed ≡ versions_reply
  pub error : (versions_listed ForLibrdkafka).error ≡ versions_reply.error
  pub as_many : length (versions_listed ForLibrdkafka).apis ≡ length versions_reply.apis
  pub each : (i : ℕ) (served listed : ServedVersions)
      → slice_get versions_reply.apis i ≡ Some served
      → slice_get (versions_listed ForLibrdkafka).apis i ≡ Some listed → IsListedFor served listed
