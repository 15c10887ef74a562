-- A request of which nothing is granted but some resources, in worlds that agree on these.
use Rattle.std.proofs.Common.{◌≡◌, ℕ, Bool, true, List, [], ◌∷◌, Option}
use Rattle.acl_binding.specs.declared.question.Caller.{Caller}
use Rattle.acl_binding.specs.declared.question.Question.{Question}
use Rattle.msg_admin.specs.declared.request.Request.{Request}
use Rattle.broker_world.specs.World.{World, rules_of}
use Rattle.api_dispatch.specs.Step.{step}
use Rattle.acl_binding.specs.declared.words.Kind.{Kind}
use Rattle.audit_trail.specs.declared.event.Event.TheVariants.{Ask}
use Rattle.request_handlers.specs.Core.{entry_of}
use Rattle.api_laws.specs.Tenants.{SameGranted}
use Rattle.std.specs.List.{AllByRecursion}
use Rattle.acl_binding.specs.declared.question.Verdict.TheVariants.{Yes}
use Rattle.authorizer.specs.Policy.{verdict}
use Rattle.api_dispatch.specs.Questions.{parts_of, questions_of}
use Rattle.tenant_laws.proofs.Parts.{granted_each}
use Rattle.tenant_laws.specs.Replies.{SameForParts}
use Rattle.tenant_laws.specs.Laws.{AgreeAmong}
use Rattle.tenant_laws.specs.Runs.{IsWithin}
use Rattle.tenant_laws.proofs.Going.{agreement_goes_on}
use Rattle.tenant_laws.proofs.Less.{filtered, about_parts}
use Rattle.tenant_laws.proofs.Apart.{answers_depend}

-- ---- a request

module _ (among : Kind → List ℕ → Bool) where
  module _ (v w : World) (caller : Caller) (client : Option (List ℕ)) (request : Request) (agree : AgreeAmong among v w) (within : IsWithin among v w (Ask caller client request)) where
    granted_among : (qs : List Question) → AllByRecursion (λ (q : Question). verdict w.book w.supers q ≡ Yes → among q.kind q.name ≡ true) qs → SameGranted v w qs
    granted_among [] all = tt
    granted_among (q ∷ qs) all = (λ yes. agree.resources q.kind q.name (all.0 yes), granted_among qs all.1)

    for_parts : SameForParts v w caller request
    for_parts = record {
      numbers = record { node = agree.base.node; events = agree.base.events; given = agree.base.given };
      questions = within.questions;
      verdicts = within.verdicts;
      granted = about_parts v w caller request (filtered v w caller (parts_of (rules_of w) caller request) (granted_each v w (parts_of (rules_of w) caller request) (granted_among (questions_of (rules_of w) caller request) within.granted)));
      described = within.described;
      bindings = within.bindings;
    }

    pub told_alike : entry_of v (Ask caller client request) ≡ entry_of w (Ask caller client request)
    told_alike =
        let told = answers_depend v w caller client request for_parts in
        λ i. record { event = Ask caller client request; reply = told.reply i; refusals = told.refusals i }

    pub agree_after : AgreeAmong among (step v (Ask caller client request)) (step w (Ask caller client request))
    agree_after =
        let goes = agreement_goes_on v w caller client request (record { base = agree.base; questions = within.questions; verdicts = within.verdicts; granted = granted_among (questions_of (rules_of w) caller request) within.granted; bindings = within.bindings }) in
        record { base = goes.base; resources = λ kind name is. goes.resources kind name (agree.resources kind name is) }
