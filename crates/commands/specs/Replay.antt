-- What `replay` answers to its input.
use Rattle.std.specs.Prelude.{◌≡◌, ℕ, ℤ, pos, false, ◌+◌, nat_lt, if◌then◌else◌, List, [], ◌∷◌, ◌++◌, codes, decimal, length, slice_get, Option, Some, None, Result, Ok, Err}
use Rattle.std.specs.Io.BufRead.{strip_last}
use Rattle.hex.specs.Hex.{encode_lower}
use Rattle.byte_streams.specs.declared.device.TheConstants.{INPUT_LIMIT}
use Rattle.acl_binding.specs.declared.question.Caller.{Caller}
use Rattle.authorizer.specs.declared.answer.Refusal.{Refusal}
use Rattle.msg_admin.specs.declared.request.TheConstants.{FRAME_LIMIT}
use Rattle.msg_admin.specs.declared.decode.Frame.{Frame}
use Rattle.msg_admin.specs.declared.decode.Frame.TheVariants as frames
use Rattle.msg_admin.specs.declared.reply.Reply.{Reply}
use Rattle.msg_admin.specs.Decode.{frame_at}
use Rattle.msg_admin.specs.Response.{response, is_sendable}
use Rattle.msg_admin.specs.Versions.{unsupported_response}
use Rattle.audit_trail.specs.declared.event.Event.{Event}
use Rattle.audit_trail.specs.declared.event.Event.TheVariants as events
use Rattle.audit_trail.specs.declared.trail.Entry.{Entry}
use Rattle.audit_trail.specs.Line.{feed, audit_lines}
use Rattle.request_handlers.specs.declared.stop.Stop.TheVariants.{TrailFull}
use Rattle.request_handlers.specs.Stop.{stop_line}
use Rattle.request_handlers.specs.Core.{CoreValue, trail_limit, events_of}
use Rattle.request_handlers.specs.Headline.{state_after}
use Rattle.settings.specs.declared.settings.Settings.{Settings}
use Rattle.request_handlers.specs.HandlerResult.{HandlerResult}
use Rattle.request_handlers.specs.Events.{reference_step}
use Rattle.settings_text.specs.declared.document.Document.{Document}
use Rattle.settings_text.specs.declared.fault.SettingsFault.{SettingsFault}
use Rattle.settings_text.specs.Document.{document_of_text, fault_name}
use Rattle.commands.specs.Lines.{lines_of, settings_part, script_part}
use Rattle.commands.specs.declared.order.Sent.{Sent}
use Rattle.commands.specs.declared.order.Order.{Order}
use Rattle.commands.specs.declared.order.Order.TheVariants.{Ask, Mark, Tick}
use Rattle.commands.specs.Order.{order_of}
use Rattle.commands.specs.declared.turn.Turn as code
use Rattle.commands.specs.declared.turn.Turn.TheVariants.{Goes, Ends}
use Rattle.std.specs.String.{string_bytes}

-- a text to write, and the status to end with
pub record Answer : Type 0 where
  pub text : List ℕ
  pub status : ℕ

-- the text goes before the answer
abbrev pub with_text_before : List ℕ → Answer → Answer
with_text_before text a = record { text = text ++ a.text; status = a.status }

-- ---- what one line prints

-- a frame in lower hexadecimal digits, or `-` where nothing is sent
abbrev pub frame_line : List ℕ → List ℕ
frame_line [] = codes "-" ++ feed
frame_line (b ∷ bs) = encode_lower (b ∷ bs) ++ feed

-- a session would close here
abbrev pub closed_line : List ℕ
closed_line = codes "closed" ++ feed

-- the response, if it can be sent
abbrev pub reply_line : ℤ → Reply → List ℕ
reply_line correlation reply =
    if is_sendable correlation reply then frame_line (response correlation reply) else closed_line

-- the refusals that a trail keeps at a place
abbrev pub refusals_in : Option Entry → List Refusal
refusals_in None = []
refusals_in (Some entry) = entry.refusals

abbrev pub refusals_at : List Entry → ℕ → List Refusal
refusals_at trail place = refusals_in (slice_get trail place)

-- what is printed for an event: the response, and one audit line for each refusal
abbrev pub event_text : ℤ → HandlerResult → List ℕ
event_text correlation o = reply_line correlation o.reply ++ audit_lines o.refusals

abbrev pub unreadable_line : ℕ → List ℕ
unreadable_line number = codes "line " ++ (decimal number ++ (codes ": unreadable" ++ feed))

-- ---- a script

-- what a line does: the script goes on after these events after a text, or ends with a text
pub data Transition : Type 0 where
  goes : List Event → List ℕ → Transition
  ends : List ℕ → Transition

-- An event after others, from the settings on, prints the plain broker's answer to exactly what the
-- binding list in force allows of it, with each other part's code at its place and its refusal in a
-- line of its own.
abbrev pub step_transition : Settings → List Event → ℤ → Event → Transition
step_transition s before correlation e =
    if nat_lt (length before) (trail_limit s)
    then goes (before ++ e ∷ [])
    (event_text correlation (reference_step (state_after s before) e))
    else ends (stop_line TrailFull)

-- What a frame does: a request is an event. Whoever asks ApiVersions in a version that is not
-- served is told which is. Any other frame closes.
abbrev pub request_transition : Settings → List Event → Caller → Frame → Transition
request_transition s before caller (frames.Request h r) =
    step_transition s before h.correlation (events.Ask caller h.client r)
request_transition s before caller (frames.OtherApiVersions correlation) =
    goes before (frame_line (unsupported_response correlation))
request_transition s before caller (frames.Malformed fault) = goes before closed_line

-- a frame above the limit closes before it is read
abbrev pub frame_transition : Settings → List Event → Sent → Transition
frame_transition s before sent =
    if nat_lt FRAME_LIMIT (length sent.frame) then goes before closed_line
    else request_transition s before sent.caller (frame_at sent.frame)

-- the step of an event that no one asked for: what it is answered is not sent, so no correlation id
-- stands in it
abbrev pub unasked_transition : Settings → List Event → Event → Transition
unasked_transition s before e = step_transition s before (pos 0) e

abbrev pub order_transition : Settings → List Event → Order → Transition
order_transition s before (Ask sent) = frame_transition s before sent
order_transition s before Mark = unasked_transition s before events.Mark
order_transition s before (Tick moment) = unasked_transition s before (events.Tick moment)

abbrev pub read_transition : Settings → List Event → ℕ → Option Order → Transition
read_transition s before number None = ends (unreadable_line number)
read_transition s before number (Some order) = order_transition s before order

-- what the line of this number does, after these events
abbrev pub line_transition : Settings → List Event → ℕ → List ℕ → Transition
line_transition s before number line =
    read_transition s before number (order_of (strip_last 10 line))

abbrev pub answer_after : Transition → (List Event → Answer) → Answer
answer_after (goes events text) rest = with_text_before text (rest events)
answer_after (ends text) rest = record { text = text; status = 1 }

-- the answer to the lines from this number on, after these events
abbrev pub script_answer : Settings → List Event → ℕ → List (List ℕ) → Answer
script_answer s before number [] = record { text = []; status = 0 }
script_answer s before number (line ∷ lines) =
    answer_after (line_transition s before number line)
    (λ more. script_answer s more (number + 1) lines)

-- the core is up, with these settings
abbrev pub IsUp : Settings → CoreValue → Type 0
IsUp s core = (core.settings ≡ s) × (core.down ≡ false)

-- the transition that a call gave is the one that is due, and where the script goes on it leaves a
-- core that is up after its events
abbrev pub IsTransition : Transition → Settings → CoreValue → code.Turn → Type 0
IsTransition due s new (Goes text) =
    (due ≡ goes (events_of new.trail) (string_bytes text)) × IsUp s new
IsTransition due s new (Ends text cause) = due ≡ ends (string_bytes text)

-- ---- an input

abbrev pub refused_line : SettingsFault → List ℕ
refused_line fault = codes "settings refused: " ++ (fault_name fault ++ feed)

abbrev pub refused_answer : SettingsFault → Answer
refused_answer fault = record { text = refused_line fault; status = 1 }

-- a broker of the settings, line by line
abbrev pub opened_answer : Result Document SettingsFault → List (List ℕ) → Answer
opened_answer (Err fault) lines = refused_answer fault
opened_answer (Ok d) lines = script_answer d.settings [] 1 lines

-- settings up to a line `---` or the end, and a script after it
abbrev pub input_answer : List ℕ → Answer
input_answer input =
    opened_answer (document_of_text (settings_part (lines_of input))) (script_part (lines_of input))

-- an input above the limit is a failed read
abbrev pub within_limit : List ℕ → Answer → Answer
within_limit input answer =
    if nat_lt INPUT_LIMIT (length input) then record { text = []; status = 1 } else answer

-- what `replay` is to write for an input, and its status
abbrev pub replay_answer : List ℕ → Answer
replay_answer input = within_limit input (input_answer input)
