-- The headers of requests and of responses (Kafka protocol guide, "Request and Response Headers").
use Rattle.std.specs.Prelude.{ℤ, ℕ, List, Bool, true, false, Option, refl}
use Rattle.wire_types.specs.Grammar.{Grammar}
use Rattle.wire_types.specs.Combinators.{struct, ◌⨟◌}
use Rattle.wire_types.specs.Schema.{int16, int32, nullable_string, tagged_struct}
use Rattle.msg_admin.specs.declared.api.Api.{Api}
use Rattle.msg_admin.specs.declared.header.Header.{Header}
use Rattle.msg_admin.specs.Api.{is_flexible}

-- After what a header of a flexible version has in common with a plain one, a tagged section
-- stands.
abbrev pub with_header_tags : {A : Type 0} → Bool → Grammar A → Grammar A
with_header_tags false g = g
with_header_tags true g = tagged_struct (λ x. x) (λ x. x) (λ x. refl) (λ x. refl) g

-- request_api_key request_api_version
abbrev pub names : Grammar (ℤ × ℤ)
names = int16 ⨟ int16

-- correlation_id client_id
abbrev pub sender : Grammar (ℤ × Option (List ℕ))
sender = int32 ⨟ nullable_string

abbrev pub header_of : ℤ × ℤ → ℤ × Option (List ℕ) → Header
header_of (key, version) (correlation, client) =
    record { key = key; version = version; correlation = correlation; client = client }

-- Request Header v1 => request_api_key request_api_version correlation_id client_id
abbrev pub header : Grammar Header
header = struct
    (λ x. header_of x.0 x.1)
    (λ h. ((h.key, h.version), (h.correlation, h.client)))
    (λ x. refl) (λ h. refl)
    (names ⨟ sender)

-- Request Header v1, and for a flexible version Request Header v2 => the same and TAG_BUFFER
abbrev pub request_header : Api → Grammar Header
request_header api = with_header_tags (is_flexible api) header

-- Response Header v0 => correlation_id, and for a flexible version Response Header v1 =>
-- correlation_id TAG_BUFFER
abbrev pub response_header : Api → Grammar ℤ
response_header api = with_header_tags (is_flexible api) int32

-- the bytes of a request's header whose client is null
abbrev pub least_header : Bool → ℕ
least_header false = 10
least_header true = 11
