-- What an event comes to, and what its handler promises.
use Rattle.std.specs.Prelude.{◌≡◌, List, Result, IfOk, OnOk}
use Rattle.std.specs.declared.alloc.AllocError.{AllocError}
use Rattle.acl_binding.specs.declared.question.Question.{Question}
use Rattle.authorizer.specs.declared.answer.Refusal.{Refusal}
use Rattle.authorizer.specs.Asking.{part_paid}
use Rattle.authorizer.specs.Tally.{count_after_parts}
use Rattle.msg_admin.specs.declared.reply.Reply.{Reply}
use Rattle.broker_world.specs.declared.handler_result.HandlerResult.{HandlerResult as Told}
use Rattle.broker_world.specs.World.{World, rules_of}

-- the world that an event leaves, but for the number of events, its reply, and the refusals of its
-- refused parts
pub record HandlerResult : Type 0 where
  pub world : World
  pub reply : Reply
  pub refusals : List Refusal

-- what a handler promises: its event, which asks these questions for itself and these for each of
-- its parts, comes to this outcome. The new world, the reply and the refusals are the outcome's; a
-- permit is spent for each of the event's own questions, if they are granted; and those for the
-- parts are counted. A handler that only reads has one world, old and new
pub record HandlerMeets (old new : World) (outcome : HandlerResult) (asks : List Question)
    (parts : List (List Question)) (result : Result Told AllocError) : Type 0 where
  pub world : OnOk result (new ≡ outcome.world)
  pub reply : IfOk result (λ o. o.reply ≡ outcome.reply)
  pub refusals : IfOk result (λ o. o.refusals ≡ outcome.refusals)
  pub paid : IfOk result (λ o. o.paid ≡ part_paid (rules_of old) asks)
  pub spent : IfOk result (λ o. o.spent ≡ count_after_parts (rules_of old) 0 parts)
