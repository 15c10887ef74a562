-- An OffsetFetch only reads.
use Rattle.std.proofs.Common.{◌≡◌, ℤ, List, [], ◌∷◌, Bool, Option, Some, None, Result, Ok, Err, refl, sym, ap, ◌∙◌}
use Rattle.std.specs.Prelude.{IfOk, OnOk}
use Rattle.std.specs.declared.alloc.AllocError.{AllocError}
use Rattle.acl_binding.specs.declared.question.Caller.{Caller}
use Rattle.authorizer.specs.declared.answer.Refusal.{Refusal}
use Rattle.authorizer.specs.Asking.{part_refusal}
use Rattle.msg_group.specs.declared.offset_fetch.OffsetFetchRequest.{OffsetFetchRequest}
use Rattle.wire_types.specs.declared.topic.Topic.{Topic}
use Rattle.group_offsets.specs.declared.event.OffsetEvent.{OffsetEvent}
use Rattle.broker_world.specs.declared.handler_result.HandlerResult.{HandlerResult as Told}
use Rattle.broker_world.specs.World.{World, rules_of}
use Rattle.group_handlers.specs.OffsetFetch.{group_question, offsets_of, fetched_outcome, offset_fetch_by, offset_fetch_outcome}

fetched_world : (w : World) (caller : Caller) (es : List OffsetEvent) (stable : Bool) (ts : Option (List (Topic ℤ))) → w ≡ (fetched_outcome w caller es stable ts).world
fetched_world w caller es stable None = refl
fetched_world w caller es stable (Some ts) = refl

same_world : (w : World) (caller : Caller) (r : OffsetFetchRequest) (o : Option Refusal) → w ≡ (offset_fetch_by o w caller r).world
same_world w caller r None = fetched_world w caller (offsets_of w r.group) r.require_stable r.topics
same_world w caller r (Some refusal) = refl

pub world_read : (result : Result Told AllocError) (w : World) (caller : Caller) (r : OffsetFetchRequest) → OnOk result (w ≡ (offset_fetch_outcome w caller r).world)
world_read (Ok o) w caller r = same_world w caller r (part_refusal (rules_of w) (group_question caller r.group ∷ []))
world_read (Err e) w caller r = tt

-- what is refused of the parts, where the group is granted
pub parts_refused : (result : Result Told AllocError) (w : World) (caller : Caller) (r : OffsetFetchRequest) (es : List OffsetEvent) → part_refusal (rules_of w) (group_question caller r.group ∷ []) ≡ None → es ≡ offsets_of w r.group
    → IfOk result (λ o. o.refusals ≡ (fetched_outcome w caller es r.require_stable r.topics).refusals) → IfOk result (λ o. o.refusals ≡ (offset_fetch_outcome w caller r).refusals)
parts_refused (Ok o) w caller r es none same told =
    told ∙ ap (λ (x : List OffsetEvent). (fetched_outcome w caller x r.require_stable r.topics).refusals) same ∙ sym (ap (λ (x : Option Refusal). (offset_fetch_by x w caller r).refusals) none)
parts_refused (Err e) w caller r es none same told = tt
