-- A request that is one part: what is promised of it where it was refused.
use Rattle.std.proofs.Common.{◌≡◌, [], ◌∷◌, Option, Some, Result, Ok, Err, IfOk, sym, ap, ◌∙◌}
use Rattle.std.specs.declared.alloc.AllocError.{AllocError}
use Rattle.acl_binding.specs.declared.question.Question.{Question}
use Rattle.authorizer.specs.declared.answer.Refusal.{Refusal}
use Rattle.authorizer.specs.Asking.{Rules, part_refusal, paid_by}
use Rattle.wire_types.specs.declared.error_code.ErrorCode.{ErrorCode}
use Rattle.msg_admin.specs.declared.reply.Reply.{Reply}
use Rattle.walk.specs.Codes.{refusal_code}
use Rattle.broker_world.specs.declared.handler_result.HandlerResult.{HandlerResult as Told}
use Rattle.broker_world.specs.HandlerResult.{HandlerMeets}
use Rattle.broker_world.specs.World.{World, rules_of}
use Rattle.broker_world.specs.Whole.{Served, whole_outcome_by, whole_outcome}

-- a request that was refused left the world as it was
pub refused_met : (w new : World) (rules : Rules) (q p : Question) (refused : ErrorCode → Reply) (served : Served) (r : Refusal) (reply : Reply) (result : Result Told AllocError)
    → new ≡ w → rules_of w ≡ rules → q ≡ p → part_refusal rules (q ∷ []) ≡ Some r → reply ≡ refused (refusal_code r) → IfOk result (λ o. o ≡ record { reply = reply; refusals = r ∷ []; paid = []; spent = 0 })
    → HandlerMeets w new (whole_outcome w (p ∷ []) refused served) (p ∷ []) [] result
refused_met w new rules q p refused served r reply (Err e) stays same asked is told all = record { world = tt; reply = tt; refusals = tt; paid = tt; spent = tt }
refused_met w new rules q p refused served r reply (Ok o) stays same asked is told all =
    let here : part_refusal (rules_of w) (p ∷ []) ≡ Some r = ap (λ (x : Rules). part_refusal x (p ∷ [])) same ∙ ap (λ (x : Question). part_refusal rules (x ∷ [])) (sym asked) ∙ is in
    record {
      world = stays ∙ sym (ap (λ (x : Option Refusal). (whole_outcome_by x w refused served).world) here);
      reply = ap (λ (x : Told). x.reply) all ∙ told ∙ sym (ap (λ (x : Option Refusal). (whole_outcome_by x w refused served).reply) here);
      refusals = ap (λ (x : Told). x.refusals) all ∙ sym (ap (λ (x : Option Refusal). (whole_outcome_by x w refused served).refusals) here);
      paid = ap (λ (x : Told). x.paid) all ∙ sym (ap (λ (x : Option Refusal). paid_by x (p ∷ [])) here);
      spent = ap (λ (x : Told). x.spent) all;
    }
