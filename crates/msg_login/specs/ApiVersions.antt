-- The grammars of the ApiVersions answer, version 0 (Kafka protocol guide, "ApiVersions API (Key:
-- 18)"). The request has no fields.
use Rattle.std.specs.Prelude.{refl}
use Rattle.wire_types.specs.Grammar.{Grammar}
use Rattle.wire_types.specs.Combinators.{struct, ◌⨟◌}
use Rattle.wire_types.specs.Schema.{int16, array}
use Rattle.wire_types.specs.ErrorCode.{error_code}
use Rattle.msg_login.specs.declared.api_versions.ServedVersions.{ServedVersions}
use Rattle.msg_login.specs.declared.api_versions.ApiVersionsReply.{ApiVersionsReply}

-- api_keys => api_key min_version max_version
abbrev pub served_versions : Grammar ServedVersions
served_versions = struct
    (λ (key, (min, max)). record { key = key; min = min; max = max })
    (λ v. (v.key, (v.min, v.max)))
    (λ x. refl) (λ v. refl)
    (int16  -- api_key
    ⨟ int16  -- min_version
    ⨟ int16)  -- max_version

-- ApiVersions Response => error_code [api_keys]
abbrev pub api_versions_reply : Grammar ApiVersionsReply
api_versions_reply = struct
    (λ (error, apis). record { error = error; apis = apis })
    (λ r. (r.error, r.apis))
    (λ x. refl) (λ r. refl)
    (error_code  -- error_code
    ⨟ array served_versions)  -- api_keys
