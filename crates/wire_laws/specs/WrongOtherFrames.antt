-- Wrong decoders and encoders of frames that are no requests, of replies without bytes and of long
-- texts: each is the right one, but for one mistake.
use Rattle.std.specs.Prelude.{ℕ, List, [], ◌∷◌, take, Result, Ok, Err}
use Rattle.wire_types.specs.declared.fault.Malformed.{Malformed}
use Rattle.wire_types.specs.declared.fault.Malformed.TheVariants.{Short, Range, Rest}
use Rattle.msg_admin.specs.declared.header.Header.{Header}
use Rattle.msg_admin.specs.declared.request.Request.{Request}
use Rattle.msg_admin.specs.declared.request.Request.TheVariants as requests
use Rattle.msg_admin.specs.declared.reply.Reply.{Reply}
use Rattle.msg_admin.specs.declared.reply.Reply.TheVariants as replies
use Rattle.msg_admin.specs.Request.{request_at}
use Rattle.msg_admin.specs.Response.{response}
use Rattle.wire_laws.specs.Frames.{Decoder, Encoder}
use Rattle.wire_laws.specs.WrongFrames.{with_request}

-- the bytes but for the last one
abbrev without_last : List ℕ → List ℕ
without_last [] = []
without_last (byte ∷ []) = []
without_last (byte ∷ next ∷ rest) = byte ∷ without_last (next ∷ rest)

-- a frame with a byte too many is read without it
abbrev read_again : List ℕ → Result (Header × Request) Malformed
    → Result (Header × Request) Malformed
read_again bytes (Err Rest) = request_at (without_last bytes)
read_again bytes found = found

-- a byte after a request is let go
abbrev pub a_byte_after_is_let_go : Decoder
a_byte_after_is_let_go bytes = read_again bytes (request_at bytes)

-- one fault for another
abbrev other_fault : Malformed → Malformed
other_fault Range = Short
other_fault fault = fault

-- the same of what is read
abbrev with_fault : Result (Header × Request) Malformed → Result (Header × Request) Malformed
with_fault (Ok x) = Ok x
with_fault (Err fault) = Err (other_fault fault)

-- a number out of its range is told as bytes that end too early
abbrev pub range_is_short : Decoder
range_is_short bytes = with_fault (request_at bytes)

-- the answer to a Produce with acks 0, as to any other
abbrev spoken : Reply → Reply
spoken (replies.SilentProduce r) = replies.Produce r
spoken r = r

-- a Produce with acks 0 is sent an answer
abbrev pub silent_produces_are_answered : Encoder
silent_produces_are_answered correlation r = response correlation (spoken r)

-- a group's name is read up to 255 bytes
abbrev cut_group : Request → Request
cut_group (requests.Heartbeat r) = requests.Heartbeat (record r { group = take 255 r.group })
cut_group (requests.OffsetFetch r) = requests.OffsetFetch (record r { group = take 255 r.group })
cut_group r = r

-- names are cut off after 255 bytes
abbrev pub names_are_cut_off : Decoder
names_are_cut_off = with_request cut_group request_at
