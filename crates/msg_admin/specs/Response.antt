-- Responses: a header that has the correlation id, and the answer after it (Kafka protocol guide,
-- "Common Request and Response Structure").
use Rattle.std.specs.Prelude.{◌≡◌, ◌<◌, ◌^◌, ◌⊎◌, ℕ, ℤ, List, [], ◌++◌, length, Bool, true, ◌&&◌, nat_lt, Option, Some, None, Result}
use Rattle.std.specs.List.{Any}
use Rattle.wire_types.specs.declared.fault.WriteFault.{WriteFault}
use Rattle.msg_admin.specs.declared.api.Api.{Api}
use Rattle.msg_admin.specs.declared.reply.Reply.{Reply}
use Rattle.msg_admin.specs.Header.{response_header}
use Rattle.msg_admin.specs.Bodies.{sent_as, strings_of, reply_body}
use Rattle.msg_admin.specs.Frame.{frame_bytes, Gives}

-- what stands after the size field
abbrev pub response_text : ℤ → Api → Reply → List ℕ
response_text correlation api r =
    (response_header api).written correlation ++ (reply_body api).written r

abbrev pub response_as : Option Api → ℤ → Reply → List ℕ
response_as None correlation r = []
response_as (Some api) correlation r = frame_bytes (response_text correlation api r)

-- the whole response, and no bytes for a reply that is not sent
abbrev pub response : ℤ → Reply → List ℕ
response correlation r = response_as (sent_as r) correlation r

-- The bytes after the size field are the correlation id, in a header of the form of the api, and
-- the answer of that api.
abbrev pub IsResponse : Api → List ℕ → ℤ → Reply → Type 0
IsResponse api bytes correlation r =
    (front text : List ℕ) × (bytes ≡ front ++ text) × (response_header api).Spells front correlation
    × (reply_body api).Spells text r

-- some text is longer than a length of two bytes can tell
abbrev pub HasLongString : Reply → Type 0
HasLongString r = Any (λ text. 32767 < length text) (strings_of r)

abbrev pub IsTooLongAs : Option Api → ℤ → Reply → Type 0
IsTooLongAs None correlation r = ⊥
IsTooLongAs (Some api) correlation r =
    HasLongString r ⊎ (2147483647 < length (response_text correlation api r))

-- what stands after the size field is longer than the field can tell, or some text in it than its
-- length
abbrev pub IsTooLong : ℤ → Reply → Type 0
IsTooLong correlation r = IsTooLongAs (sent_as r) correlation r

-- ---- as the code decides it

abbrev pub sendable_as : Option Api → ℤ → Reply → Bool
sendable_as None correlation r = true
sendable_as (Some api) correlation r =
    ((response_header api).fits correlation && (reply_body api).fits r)
    && nat_lt (length (response_text correlation api r)) (2 ^ 31)

unfoldable pub is_sendable : ℤ → Reply → Bool
is_sendable correlation r = sendable_as (sent_as r) correlation r

abbrev pub GivesReply : ℤ → Reply → Result (List ℕ) WriteFault → Type 0
GivesReply correlation r = Gives (is_sendable correlation r) (response correlation r)
