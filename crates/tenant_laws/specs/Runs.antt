-- Two runs of the broker side by side. In both a tenant asks the same; meanwhile others ask in each
-- what they like, but for what is the tenant's. The tenant is told the same.
use Rattle.std.specs.Prelude.{◌≡◌, ℕ, Bool, true, List, [], ◌∷◌}
use Rattle.std.specs.List.{AllByRecursion}
use Rattle.acl_binding.specs.declared.question.Caller.{Caller}
use Rattle.acl_binding.specs.declared.question.Question.{Question}
use Rattle.acl_binding.specs.declared.question.Verdict.TheVariants.{Yes}
use Rattle.acl_binding.specs.declared.words.Kind.{Kind}
use Rattle.acl_binding.specs.declared.words.Kind.TheVariants as kinds
use Rattle.authorizer.specs.Policy.{verdict}
use Rattle.msg_admin.specs.declared.request.Request.{Request}
use Rattle.audit_trail.specs.declared.event.Event.{Event}
use Rattle.audit_trail.specs.declared.event.Event.TheVariants.{Ask, Mark, Tick}
use Rattle.audit_trail.specs.declared.trail.Entry.{Entry}
use Rattle.txn_coordinator.specs.declared.marker.PendingMarker.{PendingMarker}
use Rattle.txn_coordinator.specs.declared.target.Target.{Target}
use Rattle.txn_coordinator.specs.declared.target.Target.TheVariants.{Partition, Group}
use Rattle.txn_coordinator.specs.Warrants.{has_pending_marker}
use Rattle.broker_world.specs.World.{World, rules_of}
use Rattle.api_dispatch.specs.Questions.{parts_of, questions_of}
use Rattle.api_dispatch.specs.Step.{step}
use Rattle.request_handlers.specs.Core.{entry_of}
use Rattle.plain_broker.specs.Plainness.{is_about_bindings}
use Rattle.api_laws.specs.Tenants.{SameOn}
use Rattle.tenant_laws.specs.Laws.{SameButForBook, SameVerdicts, AgreeAmong}
use Rattle.tenant_laws.specs.Replies.{described_sizes, comes_to_all}

-- In a round each run takes an event: the tenant's request, the same in both; one of others in
-- each; a tick of the clock, which both see; or the marker step of a marker that is pending first
-- in both.
pub data Round : Type 0 where
  Asks : Event → Round
  Others : Event → Event → Round
  Ticks : ℕ → Round
  Marks : Round

-- what the tenant is told in the one run, and in the other
abbrev pub first_run_entries : World → List Round → List Entry
first_run_entries w [] = []
first_run_entries w (Asks e ∷ rounds) = entry_of w e ∷ first_run_entries (step w e) rounds
first_run_entries w (Others e f ∷ rounds) = first_run_entries (step w e) rounds
first_run_entries w (Ticks told ∷ rounds) = first_run_entries (step w (Tick told)) rounds
first_run_entries w (Marks ∷ rounds) = first_run_entries (step w Mark) rounds

abbrev pub second_run_entries : World → List Round → List Entry
second_run_entries w [] = []
second_run_entries w (Asks e ∷ rounds) = entry_of w e ∷ second_run_entries (step w e) rounds
second_run_entries w (Others e f ∷ rounds) = second_run_entries (step w f) rounds
second_run_entries w (Ticks told ∷ rounds) = second_run_entries (step w (Tick told)) rounds
second_run_entries w (Marks ∷ rounds) = second_run_entries (step w Mark) rounds

-- ---- the tenant's request

-- By the books that are in force in the two runs.
pub record AsksWithin (among : Kind → List ℕ → Bool) (v w : World) (caller : Caller)
    (request : Request) : Type 0 where
  -- what is granted of the request is among the resources
  pub granted : AllByRecursion
      (λ (q : Question). verdict w.book w.supers q ≡ Yes → among q.kind q.name ≡ true)
      (questions_of (rules_of w) caller request)
  -- it asks the same in both, and each of its questions has the same verdict
  pub questions : parts_of (rules_of v) caller request ≡ parts_of (rules_of w) caller request
  pub verdicts : SameVerdicts v w (questions_of (rules_of w) caller request)
  -- where it comes to all topics that may be described: these are the same, with as many partitions
  pub described : comes_to_all (rules_of w) caller request ≡ true
      → described_sizes (rules_of v) caller v.topics ≡ described_sizes (rules_of w) caller w.topics
  -- where it is about the book: that is the same
  pub bindings : is_about_bindings request ≡ true → v.book ≡ w.book

-- the event is such a request
abbrev pub IsWithin : (Kind → List ℕ → Bool) → World → World → Event → Type 0
IsWithin among v w (Ask caller client request) = AsksWithin among v w caller request
IsWithin among v w Mark = ⊥
IsWithin among v w (Tick told) = ⊥

-- ---- what others ask

-- the event leaves each of the resources as it is, as a request does that is granted nothing of
-- them, or only to read, and the marker step of another's marker
abbrev pub LeavesAlone : (Kind → List ℕ → Bool) → World → Event → Type 0
LeavesAlone among w e =
    (kind : Kind) (name : List ℕ) → among kind name ≡ true → SameOn w (step w e) kind name

-- ---- a marker

-- where a marker goes is among the resources
abbrev pub GoesAmong : (Kind → List ℕ → Bool) → Target → Type 0
GoesAmong among (Partition p) = among kinds.Topic p.topic ≡ true
GoesAmong among (Group name) = among kinds.Group name ≡ true

-- the same marker is pending first in both, of an id and to a place among the resources, and the id
-- owes more in both or in neither
pub record OweAlike (among : Kind → List ℕ → Bool) (v w : World) : Type 0 where
  pub marker : PendingMarker
  pub own : among kinds.TransactionalId marker.id ≡ true
  pub target : GoesAmong among marker.target
  pub first : List PendingMarker
  pub second : List PendingMarker
  pub in_first : v.coordinator.warrants ≡ marker ∷ first
  pub in_second : w.coordinator.warrants ≡ marker ∷ second
  pub more : has_pending_marker first marker.id ≡ has_pending_marker second marker.id

-- ---- the runs

-- By the books that are in force in each round the tenant is granted nothing but these resources,
-- which others leave as they are. What others do leaves the same moment in both runs, and as many
-- producer ids given out.
abbrev pub AreApart : (Kind → List ℕ → Bool) → World → World → List Round → Type 0
AreApart among v w [] = Unit {0}
AreApart among v w (Asks e ∷ rounds) =
    IsWithin among v w e × AreApart among (step v e) (step w e) rounds
AreApart among v w (Others e f ∷ rounds) =
    LeavesAlone among v e × LeavesAlone among w f × SameButForBook (step v e) (step w f)
    × AreApart among (step v e) (step w f) rounds
AreApart among v w (Ticks told ∷ rounds) =
    AreApart among (step v (Tick told)) (step w (Tick told)) rounds
AreApart among v w (Marks ∷ rounds) =
    OweAlike among v w × AreApart among (step v Mark) (step w Mark) rounds

abbrev pub OthersAreUnseen : Type 0
OthersAreUnseen = (among : Kind → List ℕ → Bool) (v w : World) (rounds : List Round)
    → AgreeAmong among v w → AreApart among v w rounds
    → first_run_entries v rounds ≡ second_run_entries w rounds
