-- A reply depends on no topic, group or id that its request wasn't granted, the shared numbering of
-- events and producers apart.
use Rattle.std.specs.Prelude.{◌≡◌, ℕ, Bool, true, false, ◌&&◌, List, [], ◌∷◌, map, filter, length, Option, is_none, is_some, if◌then◌else◌}
use Rattle.std.specs.List.{AllByRecursion}
use Rattle.acl_binding.specs.declared.question.Caller.{Caller}
use Rattle.acl_binding.specs.declared.question.Question.{Question}
use Rattle.authorizer.specs.Policy.{verdict}
use Rattle.authorizer.specs.Asking.{Rules}
use Rattle.msg_admin.specs.declared.request.Request.{Request}
use Rattle.msg_admin.specs.declared.request.Request.TheVariants.{Metadata, OffsetFetch}
use Rattle.audit_trail.specs.declared.event.Event.TheVariants.{Ask}
use Rattle.broker_world.specs.World.{World, TopicValue, rules_of}
use Rattle.group_handlers.specs.OffsetFetch.{group_question}
use Rattle.request_handlers.specs.Core.{CoreValue, IsCore}
use Rattle.api_laws.specs.Headline.{is_yes}
use Rattle.api_laws.specs.Tenants.{SameOn}
use Rattle.api_laws.specs.GroupLaws.{described_slots}
use Rattle.api_dispatch.specs.Questions.{parts_of, questions_of}
use Rattle.tenant_laws.specs.Rules.{ReplyRule}
use Rattle.tenant_laws.specs.Laws.{SameVerdicts, SameTold, SameReceipt}
use Rattle.plain_broker.specs.Exactly.{is_granted}
use Rattle.plain_broker.specs.Plainness.{is_about_bindings}

-- the same settings but for topics, the same number of events, and as many producer ids given out,
-- each of them free in both or owned in both, by whatever id
pub record SameNumbers (v w : World) : Type 0 where
  pub node : v.node ≡ w.node
  pub events : v.events ≡ w.events
  pub given : map is_some v.coordinator.given ≡ map is_some w.coordinator.given

-- each of the questions is granted in both or in neither, whatever binding denies it
abbrev pub SameGrants : World → World → List Question → Type 0
SameGrants v w questions =
    AllByRecursion
    (λ (q : Question). is_yes (verdict v.book v.supers q) ≡ is_yes (verdict w.book w.supers q))
    questions

-- the worlds agree on each topic, group and transactional id that one of the questions is about:
-- whether it is there, and all that it holds
abbrev pub SameAbout : World → World → List Question → Type 0
SameAbout v w questions = AllByRecursion (λ (q : Question). SameOn v w q.kind q.name) questions

-- The parts of the request that are granted. An OffsetFetch comes to its partitions where its group
-- may be described.
abbrev pub granted_parts : Rules → Caller → Request → List (List Question)
granted_parts rules caller (OffsetFetch r) =
    if is_granted rules (group_question caller r.group ∷ [])
    then filter (is_granted rules) (parts_of rules caller (OffsetFetch r))
    else []
granted_parts rules caller request = filter (is_granted rules) (parts_of rules caller request)

-- ---- a null list of topics

-- a topic by its name and the number of its partitions
pub record Sized : Type 0 where
  pub name : List ℕ
  pub count : ℕ

abbrev pub size_of_topic : TopicValue → Sized
size_of_topic t = record { name = t.name; count = length t.partitions }

-- the topics that may be described, in order
abbrev pub described_sizes : Rules → Caller → List TopicValue → List Sized
described_sizes rules caller topics = map size_of_topic (described_slots rules caller topics)

-- the request comes to all topics that may be described
abbrev pub comes_to_all : Rules → Caller → Request → Bool
comes_to_all rules caller (Metadata r) = is_none r.topics
comes_to_all rules caller (OffsetFetch r) =
    is_none r.topics && is_granted rules (group_question caller r.group ∷ [])
comes_to_all rules caller request = false

-- ---- the laws

-- The request asks the same in both worlds (what it asks depends on the book for an InitProducerId
-- without an id alone). They grant the same of its questions, and agree on all that its granted
-- parts ask about.
pub record SameForReply (v w : World) (caller : Caller) (request : Request) : Type 0 where
  pub numbers : SameNumbers v w
  pub questions : parts_of (rules_of v) caller request ≡ parts_of (rules_of w) caller request
  pub grants : SameGrants v w (questions_of (rules_of w) caller request)
  pub granted : AllByRecursion (SameAbout v w) (granted_parts (rules_of w) caller request)
  -- where the list of topics is null: the same topics may be described, with as many partitions
  pub described : comes_to_all (rules_of w) caller request ≡ true
      → described_sizes (rules_of v) caller v.topics ≡ described_sizes (rules_of w) caller w.topics
  -- where it is about the book of bindings: that it is the same
  pub bindings : is_about_bindings request ≡ true → v.book ≡ w.book

-- whatever the worlds are, a request is answered the same in two that agree on what it is granted
abbrev pub RepliesDependOnGrantedParts : ReplyRule → Type 0
RepliesDependOnGrantedParts reply_to =
    (v w : World) (caller : Caller) (client : Option (List ℕ)) (request : Request)
    → SameForReply v w caller request
    → reply_to v (Ask caller client request) ≡ reply_to w (Ask caller client request)

-- A refusal names the binding that denies, so for the trail's entry the worlds have to decide each
-- question alike, down to that binding.
pub record SameForParts (v w : World) (caller : Caller) (request : Request) : Type 0 where
  pub numbers : SameNumbers v w
  pub questions : parts_of (rules_of v) caller request ≡ parts_of (rules_of w) caller request
  pub verdicts : SameVerdicts v w (questions_of (rules_of w) caller request)
  pub granted : AllByRecursion (SameAbout v w) (granted_parts (rules_of w) caller request)
  -- where the list of topics is null: the same topics may be described, with as many partitions
  pub described : comes_to_all (rules_of w) caller request ≡ true
      → described_sizes (rules_of v) caller v.topics ≡ described_sizes (rules_of w) caller w.topics
  -- where it is about the book of bindings: that it is the same
  pub bindings : is_about_bindings request ≡ true → v.book ≡ w.book

abbrev pub AnswersDependOnGrantedParts : Type 0
AnswersDependOnGrantedParts =
    (v w : World) (caller : Caller) (client : Option (List ℕ)) (request : Request)
    → SameForParts v w caller request → SameTold v w (Ask caller client request)

-- cores that are up give the same receipt for it, and keep the same entry of it
abbrev pub ReceiptsDependOnGrantedParts : Type 0
ReceiptsDependOnGrantedParts =
    (a b : CoreValue) (caller : Caller) (client : Option (List ℕ)) (request : Request) → IsCore a
    → IsCore b → a.down ≡ false → b.down ≡ false
    → SameForParts a.world b.world caller request → SameReceipt a b (Ask caller client request)
