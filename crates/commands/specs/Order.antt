-- What a line of a script asks for: `req USER HOST HEX`, `mark` or `tick N`.
use Rattle.std.specs.Prelude.{ℕ, ◌^◌, ◌||◌, ◌&&◌, ◌==◌, nat_lt, if◌then◌else◌, List, ◌++◌, codes, length, Option, Some, None, option_map, option_and_then, Result, Ok, Err}
use Rattle.std.specs.Int.{w32}
use Rattle.std.specs.List.{before_first, after_first, position_or_len}
use Rattle.std.specs.Str.{bytes_eq, is_utf8, all_ascii_digits}
use Rattle.std.specs.Str.Parse.{digits_value}
use Rattle.hex.specs.Hex.{decode_of}
use Rattle.hex.specs.declared.error.FromHexError.{FromHexError}
use Rattle.acl_binding.specs.declared.question.Caller.{Caller}
use Rattle.wire_types.specs.Reading.{Found, nat_at}
use Rattle.commands.specs.declared.order.Sent.{Sent}
use Rattle.commands.specs.declared.order.Order.{Order}
use Rattle.commands.specs.declared.order.Order.TheVariants.{Ask, Mark, Tick}

-- a size field, and the bytes that it counts (Kafka protocol guide, "Common Request and Response
-- Structure")
abbrev pub bytes_after_size : Found ℕ → Option (List ℕ)
bytes_after_size (Ok x) = if x.0 == length x.1 then Some x.1 else None
bytes_after_size (Err e) = None

abbrev framed_by : Result (List ℕ) FromHexError → Option (List ℕ)
framed_by (Ok frame) = bytes_after_size (nat_at w32 frame)
framed_by (Err e) = None

-- the frame that hexadecimal digits of either case spell, without its size field
abbrev pub frame_of : List ℕ → Option (List ℕ)
frame_of digits = framed_by (decode_of digits)

-- what stands before the first blank and after it
abbrev pub parts_at_blank : List ℕ → Option (List ℕ × List ℕ)
parts_at_blank text =
    if nat_lt (position_or_len (λ b. b == 32) text) (length text)
    then Some (before_first (λ b. b == 32) text, after_first (λ b. b == 32) text) else None

-- ---- `req USER HOST HEX`

-- after `req `: the user and the host, neither of which is empty, and all that follows the second
-- blank
abbrev pub words_of : List ℕ → Option (List ℕ × List ℕ × List ℕ)
words_of text =
    option_and_then (λ b. option_and_then (λ c.
    if length b.0 == 0 || length c.0 == 0 then None else Some (b.0, c.0, c.1))
    (parts_at_blank b.1)) (parts_at_blank text)

-- the user's principal, at a host
abbrev pub caller_of : List ℕ → List ℕ → Caller
caller_of user host = record { who = codes "User:" ++ user; host = host }

abbrev pub sent_by : List ℕ × List ℕ × List ℕ → Option Sent
sent_by words =
    option_map (λ frame. record { caller = caller_of words.0 words.1; frame = frame })
    (frame_of words.2)

-- what is sent, and by whom
abbrev pub sent_of : List ℕ → Option Sent
sent_of text = option_and_then sent_by (words_of text)

-- ---- `tick N`

-- the number below 2^64 that decimal digits write, of which there is one at least
abbrev pub number_of : List ℕ → Option ℕ
number_of digits =
    if (nat_lt 0 (length digits) && all_ascii_digits digits)
    && nat_lt (digits_value 10 digits) (2 ^ 64)
    then Some (digits_value 10 digits) else None

-- ---- any line

-- a first word, and what stands after its blank
abbrev pub order_by : List ℕ × List ℕ → Option Order
order_by parts =
    if bytes_eq parts.0 (codes "req") then option_map Ask (sent_of parts.1) else
    if bytes_eq parts.0 (codes "tick") then option_map Tick (number_of parts.1) else None

abbrev pub order_in : List ℕ → Option Order
order_in text =
    if bytes_eq text (codes "mark") then Some Mark
    else option_and_then order_by (parts_at_blank text)

-- the bytes, if they are UTF-8
abbrev pub text_of : List ℕ → Option (List ℕ)
text_of bytes = if is_utf8 bytes then Some bytes else None

-- what a line asks for, if it is readable
abbrev pub order_of : List ℕ → Option Order
order_of line = option_and_then order_in (text_of line)
