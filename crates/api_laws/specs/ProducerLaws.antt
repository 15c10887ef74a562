-- What holds of producer ids, and of what producers wrote.
use Rattle.std.specs.Prelude.{◌≡◌, ◌≤ℤ◌, ℕ, ℤ, pos, true, false, List, Some, None}
use Rattle.acl_binding.specs.declared.words.Kind.TheVariants.{Topic}
use Rattle.acl_binding.specs.declared.words.Operation.TheVariants.{Write}
use Rattle.acl_binding.specs.declared.question.Caller.{Caller}
use Rattle.acl_binding.specs.Verdict.{question_of}
use Rattle.authorizer.specs.declared.answer.Refusal.{Refusal}
use Rattle.authorizer.specs.AnyTopic.{any_topic}
use Rattle.authorizer.specs.Asking.{Rules, part_refusal, question_refusal}
use Rattle.settings.specs.declared.settings.Settings.{Settings}
use Rattle.producer_state.specs.Sequences.{batches_written_by}
use Rattle.producer_state.specs.Laws.{IsInSequence}
use Rattle.msg_txn.specs.declared.init_producer_id.InitProducerIdRequest.{InitProducerIdRequest}
use Rattle.msg_admin.specs.declared.reply.Reply.TheVariants as replies
use Rattle.audit_trail.specs.declared.event.Event.{Event}
use Rattle.txn_coordinator.specs.declared.producer_id.ProducerIdOwner.TheVariants.{Never, Free}
use Rattle.txn_coordinator.specs.Coordinator.{owner, given_by}
use Rattle.broker_world.specs.World.{World, LogValue, rules_of}
use Rattle.broker_world.specs.First.{first_world}
use Rattle.broker_world.specs.Logs.{log_at}
use Rattle.broker_world.specs.HandlerResult.{HandlerResult}
use Rattle.txn_handlers.specs.InitProducerId.{init_question, init_questions, init_given}
use Rattle.api_laws.specs.Runs.{RunRule}
use Rattle.api_laws.specs.Tenants.{SameBase, SameGranted}
use Rattle.api_laws.specs.DataTenants.{SameAnswer}
use Rattle.api_laws.specs.AclLaws.{IsRefusedWhole}

-- ---- idempotent producers

-- Whatever the events were, each log holds what a producer wrote in an epoch once, in order and
-- without a gap: its first batch begins at sequence number 0, and each other one where the one
-- before it ended.
abbrev pub HoldsOnce : RunRule → Type 0
HoldsOnce world_after_events =
    (s : Settings) (es : List Event) (name : List ℕ) (index : ℤ) (log : LogValue) (id epoch : ℤ)
    → log_at (world_after_events (first_world s) es).topics name index ≡ Some log → pos 0 ≤ℤ id
    → IsInSequence (pos 0) (batches_written_by id epoch log)

-- ---- InitProducerId

-- a producer id is told that was never given out before and is now, and the others are as they were
pub record GivesFresh (w : World) (o : HandlerResult) : Type 0 where
  pub producer : ℤ
  pub reply : o.reply ≡ replies.InitProducerId (init_given producer)
  pub never : given_by (owner w.coordinator producer) ≡ Never
  pub now : given_by (owner o.world.coordinator producer) ≡ Free
  pub others : (id : ℤ) → (id ≡ producer → ⊥)
      → owner o.world.coordinator id ≡ owner w.coordinator id

-- what an InitProducerId comes to
abbrev pub InitRule : Type 0
InitRule = World → Caller → InitProducerIdRequest → HandlerResult

-- an InitProducerId without a transactional id that is allowed gives out a producer id that was
-- never given out before, and one that is refused changes nothing
pub record InitsOnce (init_producer_id_outcome : InitRule) : Type 0 where
  -- without a transactional id, where it is allowed
  pub fresh : (w : World) (caller : Caller) (r : InitProducerIdRequest) → r.transactional_id ≡ None
      → part_refusal (rules_of w) (init_questions (rules_of w) caller None) ≡ None
      → GivesFresh w (init_producer_id_outcome w caller r)
  pub refused : (w : World) (caller : Caller) (q : InitProducerIdRequest) (r : Refusal)
      → part_refusal (rules_of w) (init_questions (rules_of w) caller q.transactional_id) ≡ Some r
      → IsRefusedWhole w r (init_producer_id_outcome w caller q)
  -- without one it is allowed to whoever may write to some topic, and refused to another as the
  -- question is
  pub waived : (rules : Rules) (caller : Caller)
      → any_topic rules.book.entries caller.who caller.host ≡ true
      → part_refusal rules (init_questions rules caller None) ≡ None
  pub unwaived : (rules : Rules) (caller : Caller)
      → any_topic rules.book.entries caller.who caller.host ≡ false
      → part_refusal rules (init_questions rules caller None)
      ≡ question_refusal rules (init_question caller None)
  -- so it is allowed to whoever is granted to write a topic, of whatever name
  pub granted : (rules : Rules) (caller : Caller) (name : List ℕ)
      → question_refusal rules (question_of caller Write Topic name) ≡ None
      → part_refusal rules (init_questions rules caller None) ≡ None

-- Worlds of one book that gave out the same producer ids, and that agree on the transactional id
-- where writing with it is granted, give the same answer, whatever their topics hold; and no topic
-- is touched.
pub record InitDependsOnGrants (init_producer_id_outcome : InitRule) : Type 0 where
  pub same : (v w : World) (caller : Caller) (r : InitProducerIdRequest) → SameBase v w
      → SameGranted v w (init_questions (rules_of w) caller r.transactional_id)
      → SameAnswer (init_producer_id_outcome v caller r) (init_producer_id_outcome w caller r)
  pub topics : (w : World) (caller : Caller) (r : InitProducerIdRequest)
      → (init_producer_id_outcome w caller r).world.topics ≡ w.topics
