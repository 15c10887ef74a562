-- Requests: a header whose key and version name an api that is served, and the body of that api.
use Rattle.std.specs.Prelude.{◌≡◌, ◌≤◌, ◌+◌, ◌^◌, ℕ, List, ◌++◌, length, Bool, true, ◌&&◌, ◌==◌, nat_lt, Option, Some, None, Result, Ok, Err, if◌then◌else◌}
use Rattle.wire_types.specs.declared.fault.Malformed.{Malformed}
use Rattle.wire_types.specs.declared.fault.Malformed.TheVariants.{Unknown, Rest}
use Rattle.wire_types.specs.declared.fault.ReadFault.{ReadFault}
use Rattle.wire_types.specs.declared.fault.ReadFault.TheVariants as faults
use Rattle.wire_types.specs.declared.fault.WriteFault.{WriteFault}
use Rattle.wire_types.specs.Reading.{◌>>=◌}
use Rattle.msg_admin.specs.declared.api.Api.{Api}
use Rattle.msg_admin.specs.declared.header.Header.{Header}
use Rattle.msg_admin.specs.declared.request.Request.{Request}
use Rattle.msg_admin.specs.Api.{api_at, is_flexible}
use Rattle.msg_admin.specs.Header.{with_header_tags, names, sender, header_of, request_header, least_header}
use Rattle.msg_admin.specs.Bodies.{api_of, request_body}
use Rattle.msg_admin.specs.Frame.{frame_bytes, Gives}

-- The bytes are a header in the form of the api that it names, and the body of that api.
abbrev pub IsRequest : List ℕ → Header → Request → Type 0
IsRequest bytes h r =
    (front text : List ℕ) × (api : Api) × (bytes ≡ front ++ text)
    × (request_header api).Spells front h
    × (api_at h.key h.version ≡ Some api) × (request_body api).Spells text r

-- ---- reading, from left to right

abbrev pub served_api : Option Api → Result Api Malformed
served_api None = Err Unknown
served_api (Some api) = Ok api

-- nothing follows
abbrev pub whole_body : {A : Type 0} → A × List ℕ → Result A Malformed
whole_body x = if length x.1 == 0 then Ok x.0 else Err Rest

-- The request, or the first fault. Key and version are looked up as soon as both are read, and tell
-- the header's form.
unfoldable pub request_at : List ℕ → Result (Header × Request) Malformed
request_at bytes =
    names.reading bytes >>= λ k.
    served_api (api_at k.0.0 k.0.1) >>= λ api.
    (with_header_tags (is_flexible api) sender).reading k.1 >>= λ s.
    (request_body api).reading s.1 >>= λ x.
    whole_body x >>= λ r.
    Ok (header_of k.0 s.0, r)

-- The call answered so, unless memory ran out.
abbrev pub Answers : {A : Type 0} → Result A Malformed → Result A ReadFault → Type 0
Answers found (Ok x) = found ≡ Ok x
Answers found (Err faults.NoMemory) = Unit {0}
Answers found (Err (faults.Malformed e)) = found ≡ Err e

-- ---- writing

-- a header and a request after it
abbrev pub request_text : Header → Request → List ℕ
request_text h r = (request_header (api_of r)).written h ++ (request_body (api_of r)).written r

-- both have a spelling, and the size of the two can be told
unfoldable pub is_writable : Header → Request → Bool
is_writable h r =
    ((request_header (api_of r)).fits h && (request_body (api_of r)).fits r)
    && nat_lt (length (request_text h r)) (2 ^ 31)

-- The call gave the frame, where it can be written. `TooLong` comes only where it can not.
abbrev pub GivesRequest : Header → Request → Result (List ℕ) WriteFault → Type 0
GivesRequest h r = Gives (is_writable h r) (frame_bytes (request_text h r))

-- The request can be written; after a header whose client is null, its frame has a size of at most
-- 104,857,600.
abbrev pub Fits : Request → Type 0
Fits r =
    ((request_body (api_of r)).fits r ≡ true)
    × (least_header (is_flexible (api_of r)) + length ((request_body (api_of r)).written r)
    ≤ 104857600)
