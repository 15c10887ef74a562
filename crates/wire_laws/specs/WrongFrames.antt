-- Wrong decoders and encoders, whatever the api: each is the right one, but for one mistake.
use Rattle.std.specs.Prelude.{ℕ, ℤ, pos, ◌-◌, List, [], ◌∷◌, ◌++◌, length, drop, slice_range, map, Bool, false, ◌==◌, if◌then◌else◌, Option, Some, None, Ok}
use Rattle.wire_types.specs.declared.topic.Topic.{Topic}
use Rattle.wire_types.specs.Reading.{◌>>=◌}
use Rattle.wire_types.specs.Schema.{int32}
use Rattle.msg_admin.specs.declared.header.Header.{Header}
use Rattle.msg_admin.specs.declared.request.Request.{Request}
use Rattle.msg_admin.specs.declared.api.Api.{Api}
use Rattle.msg_admin.specs.Api.{is_flexible}
use Rattle.msg_admin.specs.Bodies.{sent_as}
use Rattle.msg_admin.specs.Request.{request_at}
use Rattle.msg_admin.specs.Response.{response}
use Rattle.wire_laws.specs.Frames.{Decoder, Encoder}

-- ---- of which the wrong ones are made

-- null is taken for an empty array or text
abbrev pub null_is_empty : {A : Type 0} → Option (List A) → Option (List A)
null_is_empty None = Some []
null_is_empty (Some xs) = Some xs

-- an empty array or text is taken for null
abbrev pub empty_is_null : {A : Type 0} → Option (List A) → Option (List A)
empty_is_null (Some []) = None
empty_is_null xs = xs

-- another header is read
abbrev pub with_header : (Header → Header) → Decoder → Decoder
with_header f decode bytes = decode bytes >>= λ x. Ok (f x.0, x.1)

-- another request is read
abbrev pub with_request : (Request → Request) → Decoder → Decoder
with_request f decode bytes = decode bytes >>= λ x. Ok (x.0, f x.1)

-- something else stands in each place of a list
abbrev pub each : {A : Type 0} → List A → (A → A) → List A
each xs f = map f xs

-- something else is said of each partition
abbrev pub each_partition : {P : Type 0} → List (Topic P) → (P → P) → List (Topic P)
each_partition topics f = each topics (λ t. record t { partitions = map f t.partitions })

-- each of two numbers is taken for the other
abbrev other_key : ℕ → ℕ → ℕ → ℕ
other_key a b n = if n == a then b else if n == b then a else n

-- the bytes of a frame with the other api key
abbrev with_other_key : ℕ → ℕ → List ℕ → List ℕ
with_other_key a b (high ∷ low ∷ rest) = high ∷ other_key a b low ∷ rest
with_other_key a b bytes = bytes

-- the api key that stood there
abbrev key_again : ℕ → ℕ → ℤ → ℤ
key_again a b (pos n) = pos (other_key a b n)
key_again a b n = n

-- two api keys, each below 256, are taken for each other
abbrev pub keys_swapped : ℕ → ℕ → Decoder
keys_swapped a b =
    with_header (λ h. record h { key = key_again a b h.key })
    (λ bytes. request_at (with_other_key a b bytes))

-- ---- wrong ones, whatever the api

-- request_api_key and request_api_version are exchanged
abbrev pub key_and_version_exchanged : Decoder
key_and_version_exchanged =
    with_header (λ h. record h { key = h.version; version = h.key }) request_at

-- a client_id that is null is read as an empty one
abbrev pub null_client_is_empty : Decoder
null_client_is_empty = with_header (λ h. record h { client = null_is_empty h.client }) request_at

-- an empty client_id is read as null
abbrev pub empty_client_is_null : Decoder
empty_client_is_null = with_header (λ h. record h { client = empty_is_null h.client }) request_at

-- the size of a response counts its own four bytes too
abbrev pub size_counts_itself : Encoder
size_counts_itself correlation r =
    int32.written (pos (length (response correlation r))) ++ drop 4 (response correlation r)

-- the reply is sent in a flexible version
abbrev is_sent_flexible : Option Api → Bool
is_sent_flexible None = false
is_sent_flexible (Some api) = is_flexible api

-- the bytes of a response without the empty tagged section of its header
abbrev without_tags : List ℕ → List ℕ
without_tags bytes =
    int32.written (pos (length bytes - 5)) ++ (slice_range bytes 4 8 ++ drop 9 bytes)

-- the header of a response has no tagged fields, in a flexible version either
abbrev pub headers_have_no_tags : Encoder
headers_have_no_tags correlation r =
    if is_sent_flexible (sent_as r) then without_tags (response correlation r)
    else response correlation r
