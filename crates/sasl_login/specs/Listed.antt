-- What is told before a login of the versions that are served (Kafka protocol guide, "Retrieving
-- Supported API versions").
use Rattle.std.specs.Prelude.{ℤ, pos, Bool, ◌||◌, map, if◌then◌else◌}
use Rattle.std.specs.Ordering.{int_eq}
use Rattle.wire_types.specs.declared.error_code.ErrorCode.TheVariants as codes
use Rattle.msg_login.specs.declared.api_versions.ServedVersions.{ServedVersions}
use Rattle.msg_login.specs.declared.api_versions.ApiVersionsReply.{ApiVersionsReply}
use Rattle.msg_admin.specs.Versions.{versions_reply}
use Rattle.sasl_login.specs.declared.listed.ListedVersions.{ListedVersions}
use Rattle.sasl_login.specs.declared.listed.ListedVersions.TheVariants.{AsServed, ForLibrdkafka}

-- FindCoordinator and SaslHandshake
abbrev pub is_looked_for : ℤ → Bool
is_looked_for key = int_eq key (pos 10) || int_eq key (pos 17)

-- the api, from version 0 on where librdkafka looks for that
abbrev pub from_zero : ServedVersions → ServedVersions
from_zero v =
    if is_looked_for v.key then record { key = v.key; min = pos 0; max = v.max }
    else record { key = v.key; min = v.min; max = v.max }

abbrev pub versions_listed : ListedVersions → ApiVersionsReply
versions_listed AsServed = versions_reply
versions_listed ForLibrdkafka =
    record { error = codes.None; apis = map from_zero versions_reply.apis }
