-- What holds between bytes, requests and replies.
use Rattle.std.specs.Prelude.{◌≡◌, ◌≤◌, ◌↔◌, ℕ, ℤ, List, length, true, Some, None, Ok}
use Rattle.wire_types.specs.Schema.{int32}
use Rattle.msg_admin.specs.declared.api.Api.{Api}
use Rattle.msg_admin.specs.declared.header.Header.{Header}
use Rattle.msg_admin.specs.declared.request.Request.{Request}
use Rattle.msg_admin.specs.declared.reply.Reply.{Reply}
use Rattle.msg_admin.specs.Api.{api_at}
use Rattle.msg_admin.specs.Header.{header}
use Rattle.msg_admin.specs.Bodies.{api_of, sent_as, request_body, reply_body}
use Rattle.msg_admin.specs.Frame.{frame_bytes}
use Rattle.msg_admin.specs.Request.{IsRequest, Fits, request_at, request_text, is_writable}
use Rattle.msg_admin.specs.Response.{response, IsResponse, IsTooLong, is_sendable}

-- bytes spell one request at most
abbrev pub OneRequest : Type 0
OneRequest =
    (bytes : List ℕ) (g h : Header) (q r : Request) → IsRequest bytes g q → IsRequest bytes h r
    → (g ≡ h) × (q ≡ r)

-- what is read of bytes, from left to right, is the request that they are, and there is none where
-- a fault is found
abbrev pub FoundIsRequest : Type 0
FoundIsRequest =
    (bytes : List ℕ) (h : Header) (r : Request)
    → (request_at bytes ≡ Ok (h, r)) ↔ IsRequest bytes h r

-- what each request of the Rust types meets: its numbers are in their ranges, and its texts are
-- UTF-8
abbrev pub RequestInType : Header → Request → Type 0
RequestInType h r = header.InType h × (request_body (api_of r)).InType r

-- what is written is spelled so, and so read back
abbrev pub WrittenIsRead : Type 0
WrittenIsRead =
    (h : Header) (r : Request) → RequestInType h r → api_at h.key h.version ≡ Some (api_of r)
    → is_writable h r ≡ true → IsRequest (request_text h r) h r

-- a request that is spelled by at most 104,857,600 bytes fits
abbrev pub SpellsFitting : List ℕ → Type 0
SpellsFitting bytes =
    length bytes ≤ 104857600 → (h : Header) (r : Request) → IsRequest bytes h r → Fits r

-- a request that fits can be written after a header without a client
abbrev pub FitsIsWritable : Type 0
FitsIsWritable = (h : Header) (r : Request) → h.client ≡ None → Fits r → is_writable h r ≡ true

-- what each reply of the Rust types and its correlation id meet
abbrev pub ReplyInType : Api → ℤ → Reply → Type 0
ReplyInType api correlation r = int32.InType correlation × (reply_body api).InType r

-- the bytes of a response, the api known that it answers, fix the correlation id and the reply
abbrev pub OneReply : Type 0
OneReply =
    (api : Api) (c d : ℤ) (q r : Reply) → sent_as q ≡ Some api → sent_as r ≡ Some api
    → ReplyInType api c q → ReplyInType api d r
    → (IsTooLong c q → ⊥) → (IsTooLong d r → ⊥) → response c q ≡ response d r → (c ≡ d) × (q ≡ r)

-- the bytes after a response's size field spell one reply at most, the api known that it answers
abbrev pub OneResponse : Type 0
OneResponse =
    (api : Api) (bytes : List ℕ) (c d : ℤ) (q r : Reply) → IsResponse api bytes c q
    → IsResponse api bytes d r → (c ≡ d) × (q ≡ r)

-- what is written of a reply is spelled so, and so read back
abbrev pub WrittenReplyIsRead : Type 0
WrittenReplyIsRead =
    (api : Api) (c : ℤ) (r : Reply) → sent_as r ≡ Some api → ReplyInType api c r
    → (IsTooLong c r → ⊥)
    → (text : List ℕ) × (response c r ≡ frame_bytes text) × IsResponse api text c r

-- a reply can be sent exactly where it isn't too long
abbrev pub SendableIsShort : Type 0
SendableIsShort = (c : ℤ) (r : Reply) → (is_sendable c r ≡ true) ↔ (IsTooLong c r → ⊥)
