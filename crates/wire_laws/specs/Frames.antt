-- Rules for frames: which request is read of bytes, and as which bytes a reply is sent.
use Rattle.std.specs.Prelude.{ℕ, zero, suc, ℤ, List, [], ◌∷◌, Result}
use Rattle.wire_types.specs.declared.fault.Malformed.{Malformed}
use Rattle.msg_admin.specs.declared.header.Header.{Header}
use Rattle.msg_admin.specs.declared.request.Request.{Request}
use Rattle.msg_admin.specs.declared.reply.Reply.{Reply}

-- what the bytes of a frame, after its size, are as a request
abbrev pub Decoder : Type 0
Decoder = List ℕ → Result (Header × Request) Malformed

-- the bytes of a response, its size among them: by the correlation id and the reply
abbrev pub Encoder : Type 0
Encoder = ℤ → Reply → List ℕ

-- so many times the same byte
abbrev pub repeated : ℕ → ℕ → List ℕ
repeated zero byte = []
repeated (suc n) byte = byte ∷ repeated n byte
