-- What a request leaves: worlds that agree on what it is granted go on agreeing, and what it isn't
-- granted is as before.
use Rattle.std.specs.Prelude.{◌≡◌, ◌⊎◌, ℕ, Bool, true, List, [], ◌∷◌, map, Option, None, is_some}
use Rattle.std.specs.List.{AllByRecursion, filter}
use Rattle.std.specs.Str.{bytes_eq}
use Rattle.acl_binding.specs.declared.question.Caller.{Caller}
use Rattle.acl_binding.specs.declared.question.Question.{Question}
use Rattle.acl_binding.specs.declared.question.Verdict.TheVariants.{Yes}
use Rattle.acl_binding.specs.declared.words.Kind.{Kind}
use Rattle.acl_binding.specs.declared.words.Kind.TheVariants.{Cluster, TransactionalId}
use Rattle.acl_binding.specs.Creatable.{cluster_name}
use Rattle.authorizer.specs.Policy.{verdict}
use Rattle.authorizer.specs.Asking.{part_refusal}
use Rattle.msg_admin.specs.declared.request.Request.{Request}
use Rattle.audit_trail.specs.declared.event.Event.{Event}
use Rattle.audit_trail.specs.declared.event.Event.TheVariants.{Ask, Mark, Tick}
use Rattle.txn_coordinator.specs.declared.marker.PendingMarker.{PendingMarker}
use Rattle.broker_world.specs.World.{World, rules_of, topic_names}
use Rattle.api_dispatch.specs.Step.{step, reply_to, refusals_of}
use Rattle.request_handlers.specs.Core.{CoreValue, entry_of, receipt_of}
use Rattle.plain_broker.specs.Plainness.{is_about_bindings}
use Rattle.api_laws.specs.Tenants.{SameOn, SameGranted}
use Rattle.api_dispatch.specs.Questions.{parts_of, questions_of}
use Rattle.tenant_laws.specs.Rules.{WorldRule, world_after}

-- ---- what is told

-- the event is answered the same, and refused the same
pub record SameTold (v w : World) (e : Event) : Type 0 where
  pub reply : reply_to v e ≡ reply_to w e
  pub refusals : refusals_of v e ≡ refusals_of w e

-- cores that are up give the same receipt for it, and keep the same entry of it
pub record SameReceipt (a b : CoreValue) (e : Event) : Type 0 where
  pub receipt : receipt_of a e ≡ receipt_of b e
  pub entry : entry_of a.world e ≡ entry_of b.world e

-- ---- what goes on

-- the same settings but for topics, moment and number of events, and as many producer ids given
-- out, each of them free in both or owned in both; whatever the books are
pub record SameButForBook (v w : World) : Type 0 where
  pub node : v.node ≡ w.node
  pub supers : v.supers ≡ w.supers
  pub moment : v.moment ≡ w.moment
  pub events : v.events ≡ w.events
  pub given : map is_some v.coordinator.given ≡ map is_some w.coordinator.given

-- each of the questions has the same verdict
abbrev pub SameVerdicts : World → World → List Question → Type 0
SameVerdicts v w questions =
    AllByRecursion (λ (q : Question). verdict v.book v.supers q ≡ verdict w.book w.supers q)
    questions

-- the request asks the same in both worlds, which agree on all that it is granted
pub record SameForRequest (v w : World) (caller : Caller) (request : Request) : Type 0 where
  pub base : SameButForBook v w
  pub questions : parts_of (rules_of v) caller request ≡ parts_of (rules_of w) caller request
  pub verdicts : SameVerdicts v w (questions_of (rules_of w) caller request)
  -- on each topic, group and transactional id on which a question is granted: whether it is there,
  -- and all that it holds
  pub granted : SameGranted v w (questions_of (rules_of w) caller request)
  -- and where it is about the book of bindings: on the book
  pub bindings : is_about_bindings request ≡ true → v.book ≡ w.book

-- after the event the worlds agree in what they agreed before it, but for the book: their base, and
-- each resource
pub record GoOnAgreeing (v w : World) (e : Event) : Type 0 where
  pub base : SameButForBook (step v e) (step w e)
  pub resources : (kind : Kind) (name : List ℕ) → SameOn v w kind name
      → SameOn (step v e) (step w e) kind name

abbrev pub AgreementGoesOn : Type 0
AgreementGoesOn = (v w : World) (caller : Caller) (client : Option (List ℕ)) (request : Request)
    → SameForRequest v w caller request → GoOnAgreeing v w (Ask caller client request)

-- the worlds agree in their base, and on each of these resources
pub record AgreeAmong (among : Kind → List ℕ → Bool) (v w : World) : Type 0 where
  pub base : SameButForBook v w
  pub resources : (kind : Kind) (name : List ℕ) → among kind name ≡ true → SameOn v w kind name

-- ---- what stays as it was

abbrev pub IsAbout : Kind → List ℕ → Question → Type 0
IsAbout kind name q = (q.kind ≡ kind) × (q.name ≡ name)

-- some question of the part is about the resource
abbrev pub AsksAbout : Kind → List ℕ → List Question → Type 0
AsksAbout kind name [] = ⊥
AsksAbout kind name (q ∷ qs) = IsAbout kind name q ⊎ AsksAbout kind name qs

-- no part that asks about the resource is granted
abbrev pub NoPartIsGranted : World → Kind → List ℕ → List (List Question) → Type 0
NoPartIsGranted w kind name parts =
    AllByRecursion (λ part. AsksAbout kind name part → part_refusal (rules_of w) part ≡ None → ⊥)
    parts

-- no question about the resource is granted
abbrev pub NoQuestionIsGranted : World → Kind → List ℕ → List Question → Type 0
NoQuestionIsGranted w kind name questions =
    AllByRecursion (λ q. IsAbout kind name q → verdict w.book w.supers q ≡ Yes → ⊥) questions

-- the event is a request, of which no question about the resource is granted
abbrev pub IsUngranted : World → Kind → List ℕ → Event → Type 0
IsUngranted w kind name (Ask caller client request) =
    NoQuestionIsGranted w kind name (questions_of (rules_of w) caller request)
IsUngranted w kind name Mark = ⊥
IsUngranted w kind name (Tick told) = ⊥

-- so is each of the events, by the book that is then in force
abbrev pub AreUngranted : WorldRule → World → Kind → List ℕ → List Event → Type 0
AreUngranted step w kind name [] = Unit {0}
AreUngranted step w kind name (e ∷ es) =
    IsUngranted w kind name e × AreUngranted step (step w e) kind name es

-- the markers that the transactional id owes, in order
abbrev pub pending_markers_of : List ℕ → List PendingMarker → List PendingMarker
pending_markers_of id warrants = filter (λ (m : PendingMarker). bytes_eq m.id id) warrants

-- what no request changes: the node, the super users, the moment, and which topics there are, in
-- order
pub record KeepsSettings (w new : World) : Type 0 where
  pub node : new.node ≡ w.node
  pub supers : new.supers ≡ w.supers
  pub moment : new.moment ≡ w.moment
  pub names : topic_names new.topics ≡ topic_names w.topics

-- a request leaves as it was whatever it isn't granted: each topic with its logs, each group, each
-- transactional id, and the ACLs
pub record UngrantedStays (step : WorldRule) : Type 0 where
  -- a topic with its logs, a group, a transactional id
  pub by_parts : (w : World) (caller : Caller) (client : Option (List ℕ)) (request : Request)
      (kind : Kind) (name : List ℕ)
      → NoPartIsGranted w kind name (parts_of (rules_of w) caller request)
      → SameOn w (step w (Ask caller client request)) kind name
  pub by_questions : (w : World) (caller : Caller) (client : Option (List ℕ)) (request : Request)
      (kind : Kind) (name : List ℕ)
      → NoQuestionIsGranted w kind name (questions_of (rules_of w) caller request)
      → SameOn w (step w (Ask caller client request)) kind name
  pub over_events : (w : World) (kind : Kind) (name : List ℕ) (events : List Event)
      → AreUngranted step w kind name events → SameOn w (world_after step w events) kind name
  -- what a transactional id owes
  pub owed : (w : World) (caller : Caller) (client : Option (List ℕ)) (request : Request)
      (id : List ℕ)
      → NoPartIsGranted w TransactionalId id (parts_of (rules_of w) caller request)
      → pending_markers_of id (step w (Ask caller client request)).coordinator.warrants
      ≡ pending_markers_of id w.coordinator.warrants
  -- the book of bindings, which is the cluster's
  pub book : (w : World) (caller : Caller) (client : Option (List ℕ)) (request : Request)
      → NoQuestionIsGranted w Cluster cluster_name (questions_of (rules_of w) caller request)
      → (step w (Ask caller client request)).book ≡ w.book
  -- and whatever was granted
  pub settings : (w : World) (caller : Caller) (client : Option (List ℕ)) (request : Request)
      → KeepsSettings w (step w (Ask caller client request))
