-- The refusals of a request are those of its parts: for each part that isn't granted the first of
-- its questions that isn't, in order.
use Rattle.std.specs.Prelude.{◌≡◌, ℕ, List, [], ◌∷◌, Option, Some, None}
use Rattle.std.specs.List.{filter_map}
use Rattle.acl_binding.specs.declared.question.Caller.{Caller}
use Rattle.acl_binding.specs.declared.question.Question.{Question}
use Rattle.authorizer.specs.declared.answer.Refusal.{Refusal}
use Rattle.authorizer.specs.Asking.{Rules, part_refusal}
use Rattle.msg_admin.specs.declared.request.Request.{Request}
use Rattle.msg_admin.specs.declared.request.Request.TheVariants.{OffsetFetch}
use Rattle.audit_trail.specs.declared.event.Event.TheVariants.{Ask}
use Rattle.group_handlers.specs.OffsetFetch.{group_question}
use Rattle.broker_world.specs.World.{World, rules_of}
use Rattle.api_dispatch.specs.Step.{refusals_of}
use Rattle.api_dispatch.specs.Questions.{offset_parts, parts_of}

-- the refusals of these parts, in order
abbrev pub refusals_in : Rules → List (List Question) → List Refusal
refusals_in rules parts = filter_map (part_refusal rules) parts

-- where the part that stands for the request is refused, it comes to no other
abbrev pub refusal_or_rest : Option Refusal → List Refusal → List Refusal
refusal_or_rest (Some r) rest = r ∷ []
refusal_or_rest None rest = rest

-- the refusals of a request: those of its parts
abbrev pub request_refusals : Rules → Caller → Request → List Refusal
request_refusals rules caller (OffsetFetch r) =
    refusal_or_rest (part_refusal rules (group_question caller r.group ∷ []))
    (refusals_in rules (offset_parts caller r.topics))
request_refusals rules caller request = refusals_in rules (parts_of rules caller request)

-- so the parts and their questions are those that are asked
abbrev pub RefusalsAreOfParts : Type 0
RefusalsAreOfParts = (w : World) (caller : Caller) (client : Option (List ℕ)) (request : Request)
    → refusals_of w (Ask caller client request) ≡ request_refusals (rules_of w) caller request
