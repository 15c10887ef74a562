-- A request that is one part: it is served whole or refused whole.
use Rattle.std.specs.Prelude.{List, [], ◌∷◌, Option, Some, None}
use Rattle.acl_binding.specs.declared.question.Question.{Question}
use Rattle.authorizer.specs.declared.answer.Refusal.{Refusal}
use Rattle.authorizer.specs.Asking.{part_refusal}
use Rattle.wire_types.specs.declared.error_code.ErrorCode.{ErrorCode}
use Rattle.msg_admin.specs.declared.reply.Reply.{Reply}
use Rattle.walk.specs.Codes.{refusal_code}
use Rattle.broker_world.specs.World.{World, rules_of}
use Rattle.broker_world.specs.HandlerResult.{HandlerResult}

-- what is answered, and the world after it, permission aside
pub record Served : Type 0 where
  pub world : World
  pub reply : Reply

-- by its refusal, if it is refused: then nothing is changed, and the answer has the code of the
-- refusal
abbrev pub whole_outcome_by : Option Refusal → World → (ErrorCode → Reply) → Served → HandlerResult
whole_outcome_by None w refused served =
    record { world = served.world; reply = served.reply; refusals = [] }
whole_outcome_by (Some r) w refused served =
    record { world = w; reply = refused (refusal_code r); refusals = r ∷ [] }

-- the questions of the request are decided by the book at the event's start
abbrev pub whole_outcome : World → List Question → (ErrorCode → Reply) → Served → HandlerResult
whole_outcome w questions refused served =
    whole_outcome_by (part_refusal (rules_of w) questions) w refused served
