-- An InitProducerId tells the pair that its id has then, and wrong ones tell another.
use Rattle.std.proofs.Common.{◌≡◌, ℕ, ℤ, pos, negsuc, Bool, true, false, cond, List, [], ◌∷◌, Option, Some, None, refl, codes as bytes, sym, ap, subst, ◌∙◌}
use Rattle.std.specs.Option.{option_map}
use Rattle.wire_types.specs.declared.error_code.ErrorCode.{ErrorCode}
use Rattle.wire_types.specs.declared.error_code.ErrorCode.TheVariants as codes
use Rattle.acl_binding.specs.declared.words.Kind.{Kind}
use Rattle.acl_binding.specs.declared.words.Kind.TheVariants as kinds
use Rattle.acl_binding.specs.declared.question.Caller.{Caller}
use Rattle.authorizer.specs.declared.answer.Refusal.{Refusal}
use Rattle.authorizer.specs.Asking.{part_refusal}
use Rattle.walk.specs.Codes.{permission_code, refusal_code}
use Rattle.msg_txn.specs.declared.init_producer_id.InitProducerIdRequest.{InitProducerIdRequest}
use Rattle.msg_txn.specs.declared.init_producer_id.InitProducerIdReply.{InitProducerIdReply}
use Rattle.msg_admin.specs.declared.request.Request.TheVariants as requests
use Rattle.msg_admin.specs.declared.reply.Reply.TheVariants as replies
use Rattle.audit_trail.specs.declared.event.Event.TheVariants.{Ask}
use Rattle.txn_coordinator.specs.declared.producer_id.ProducerIdAndEpoch.{ProducerIdAndEpoch}
use Rattle.txn_coordinator.specs.declared.transaction.Transaction.{Transaction}
use Rattle.txn_coordinator.specs.Words.{is_empty}
use Rattle.txn_coordinator.specs.Transition.{Transition, Stays}
use Rattle.txn_coordinator.specs.Coordinator.{CoordinatorValue, id_record, fresh_producer_id, transition_code, transition_answer, answered_id_and_epoch, apply_transition}
use Rattle.txn_coordinator.specs.InitProducerId.{init, init_for}
use Rattle.broker_world.specs.World.{World, rules_of}
use Rattle.broker_world.specs.HandlerResult.{HandlerResult}
use Rattle.broker_world.specs.Whole.{whole_outcome_by}
use Rattle.txn_handlers.specs.InitProducerId.{init_questions, init_error, init_answered, served_init}
use Rattle.api_dispatch.specs.Step.{outcome}
use Rattle.wrong_rules.specs.Steps.{cluster, root, inits, world_after}
use Rattle.wrong_rules.specs.Pairs.{pair_of, InitTellsThePair, step_telling_epoch_0, step_keeping_no_init}
use Rattle.wrong_rules.proofs.Timeouts.{takes_the_timeout}

-- ---- the right one has it

refused_is_error : (k : Kind) → permission_code k ≡ codes.None → ⊥
refused_is_error kinds.Topic h = let clash : codes.TopicAuthorizationFailed ≡ codes.None = h in cc
refused_is_error kinds.Group h = let clash : codes.GroupAuthorizationFailed ≡ codes.None = h in cc
refused_is_error kinds.Cluster h = let clash : codes.ClusterAuthorizationFailed ≡ codes.None = h in cc
refused_is_error kinds.TransactionalId h = let clash : codes.TransactionalIdAuthorizationFailed ≡ codes.None = h in cc

below_one : (e : Bool) (f : Transition) → transition_code f ≡ codes.InvalidTransactionTimeout → transition_code (cond e (Stays codes.InvalidRequest) f) ≡ codes.None → ⊥
below_one true f is h = let clash : codes.InvalidRequest ≡ codes.None = h in cc
below_one false f is h = let clash : codes.InvalidTransactionTimeout ≡ codes.None = sym is ∙ h in cc

-- who has a timeout has a record
has_record : (found : Option Transaction) (n : ℕ) → option_map (λ (t : Transaction). t.timeout) found ≡ Some n → (t : Transaction) × (found ≡ Some t)
has_record None n h = absurd (let clash : ◌≡◌ {A = Option ℕ} None (Some n) = h in cc)
has_record (Some t) n h = (t, refl)

recorded : (c : CoordinatorValue) (id : List ℕ) (timeout greatest : ℤ) → transition_code (init c id timeout greatest) ≡ codes.None → (t : Transaction) × (id_record (apply_transition c (init c id timeout greatest)).transactions id ≡ Some t)
recorded c id (pos n) greatest h = has_record (id_record (apply_transition c (init c id (pos n) greatest)).transactions id) n (takes_the_timeout c id n greatest h)
recorded c id (negsuc n) greatest h = absurd (below_one (is_empty id) (init_for None (id_record c.transactions id) id (fresh_producer_id c)) refl h)

answers_pair : (code : ErrorCode) (found : Option Transaction) (t : Transaction) → code ≡ codes.None → found ≡ Some t → t.pair ≡ answered_id_and_epoch code found
answers_pair code found t none is = sym (ap (λ (k : ErrorCode). answered_id_and_epoch k found) none ∙ ap (answered_id_and_epoch codes.None) is)

granted : (c : CoordinatorValue) (id : List ℕ) (timeout greatest : ℤ) (reply : InitProducerIdReply)
    → init_answered (transition_answer c id (init c id timeout greatest)) ≡ reply → reply.error ≡ codes.None
    → pair_of (apply_transition c (init c id timeout greatest)) id ≡ Some (record { producer = reply.producer; epoch = reply.epoch })
granted c id timeout greatest reply is none =
    let code : transition_code (init c id timeout greatest) ≡ codes.None = ap (λ (a : InitProducerIdReply). a.error) is ∙ none in
    by_record code (recorded c id timeout greatest code) where
      by_record : transition_code (init c id timeout greatest) ≡ codes.None → (t : Transaction) × (id_record (apply_transition c (init c id timeout greatest)).transactions id ≡ Some t)
          → pair_of (apply_transition c (init c id timeout greatest)) id ≡ Some (record { producer = reply.producer; epoch = reply.epoch })
      by_record code found =
          ap (option_map (λ (t : Transaction). t.pair)) found.1
          ∙ ap Some (answers_pair (transition_code (init c id timeout greatest)) (id_record (apply_transition c (init c id timeout greatest)).transactions id) found.0 code found.1)
          ∙ ap (λ (a : InitProducerIdReply). Some (record { producer = a.producer; epoch = a.epoch })) is

same_init : (a b : InitProducerIdReply) → replies.InitProducerId a ≡ replies.InitProducerId b → a ≡ b
same_init a b h = cc

module _ (w : World) (timeout : ℤ) (id : List ℕ) (reply : InitProducerIdReply) where
  abbrev by_id : Option Refusal → HandlerResult
  by_id o = whole_outcome_by o w (λ code. replies.InitProducerId (init_error code)) (served_init w (record { transactional_id = Some id; timeout = timeout }))

  by_refusal : (o : Option Refusal) → (by_id o).reply ≡ replies.InitProducerId reply → reply.error ≡ codes.None
      → pair_of (by_id o).world.coordinator id ≡ Some (record { producer = reply.producer; epoch = reply.epoch })
  by_refusal None is none = granted w.coordinator id timeout w.node.max_txn_timeout reply (same_init (init_answered (transition_answer w.coordinator id (init w.coordinator id timeout w.node.max_txn_timeout))) reply is) none
  by_refusal (Some r) is none = absurd (refused_is_error r.question.kind (ap (λ (a : InitProducerIdReply). a.error) (same_init (init_error (refusal_code r)) reply is) ∙ none))

module _ (w : World) (caller : Caller) (client : Option (List ℕ)) (timeout : ℤ) (id : List ℕ) (reply : InitProducerIdReply) where
  abbrev answer : Option (List ℕ) → HandlerResult
  answer given = outcome w (Ask caller client (requests.InitProducerId (record { transactional_id = given; timeout = timeout })))

  abbrev Tells : Option (List ℕ) → Type 0
  Tells given = (answer given).reply ≡ replies.InitProducerId reply → pair_of (answer given).world.coordinator id ≡ Some (record { producer = reply.producer; epoch = reply.epoch })

  tells : (given : Option (List ℕ)) → given ≡ Some id → reply.error ≡ codes.None → Tells given
  tells given named none = subst Tells (sym named) (λ told. by_refusal w timeout id reply (part_refusal (rules_of w) (init_questions (rules_of w) caller (Some id))) told none)

pub tells_the_pair : InitTellsThePair outcome
tells_the_pair w caller client r id reply named is none = tells w caller client r.timeout id reply r.transactional_id named none is

-- ---- wrong ones: the id `t` is asked for twice

abbrev asked : InitProducerIdRequest
asked = record { transactional_id = Some (bytes "t"); timeout = pos 1000 }

abbrev once : World
once = world_after outcome cluster (inits (pos 1000) ∷ [])

abbrev told : ℤ → InitProducerIdReply
told epoch = record { throttle = pos 0; error = codes.None; producer = pos 0; epoch = epoch }

abbrev epoch_in : Option ProducerIdAndEpoch → ℤ
epoch_in None = negsuc 0
epoch_in (Some p) = p.epoch

pub not_epoch_0 : ¬ InitTellsThePair step_telling_epoch_0
not_epoch_0 law = let clash : pos 1 ≡ pos 0 = ap epoch_in (law once root None asked (bytes "t") (told (pos 0)) refl refl refl) in cc

pub kept : ¬ InitTellsThePair step_keeping_no_init
kept law = let clash : pos 0 ≡ pos 1 = ap epoch_in (law once root None asked (bytes "t") (told (pos 1)) refl refl refl) in cc
