-- What an InitProducerId gives out, and what its answer depends on.
use Rattle.std.proofs.Common.{◌≡◌, ℕ, zero, suc, ℤ, pos, negsuc, List, [], ◌∷◌, ◌++◌, length, Option, Some, None, Bool, true, false, cond, ◌&&◌, refl, sym, ap, subst, ◌∙◌}
use Rattle.std.specs.Prelude.{slice_get, is_some}
use Rattle.acl_binding.specs.declared.words.Kind.TheVariants.{Topic}
use Rattle.acl_binding.specs.declared.words.Operation.TheVariants.{Write}
use Rattle.acl_binding.specs.declared.question.Caller.{Caller}
use Rattle.acl_binding.specs.declared.question.Question.{Question}
use Rattle.acl_binding.specs.declared.question.Verdict.{Verdict}
use Rattle.acl_binding.specs.declared.question.Verdict.TheVariants.{Yes, Denied, Nothing}
use Rattle.acl_binding.specs.Verdict.{question_of, verdict_of, IsDecided}
use Rattle.acl_binding.proofs.Decided.{verdict_right}
use Rattle.authorizer.specs.declared.answer.Refusal.{Refusal}
use Rattle.authorizer.specs.declared.answer.DenyReason.TheVariants as why
use Rattle.authorizer.specs.Policy.{is_super, verdict}
use Rattle.authorizer.specs.AnyTopic.{any_topic}
use Rattle.authorizer.specs.Asking.{Rules, refusal_by, first_of, part_refusal, question_refusal}
use Rattle.msg_txn.specs.declared.init_producer_id.InitProducerIdRequest.{InitProducerIdRequest}
use Rattle.msg_admin.specs.declared.reply.Reply.TheVariants as replies
use Rattle.txn_coordinator.specs.Transition.{Transition}
use Rattle.txn_coordinator.specs.Coordinator.{CoordinatorValue, owner, given_by, given_free, fresh_producer_id, transition_answer}
use Rattle.txn_coordinator.specs.InitProducerId.{init}
use Rattle.broker_world.specs.declared.node.Node.{Node}
use Rattle.broker_world.specs.World.{World, rules_of}
use Rattle.broker_world.specs.HandlerResult.{HandlerResult}
use Rattle.broker_world.specs.Whole.{whole_outcome_by}
use Rattle.txn_handlers.specs.InitProducerId.{init_question, init_questions, init_given, init_error, init_answered, coordinator_for, reply_for, served_init, init_producer_id_outcome}
use Rattle.api_laws.specs.Tenants.{SameBase, SameGranted}
use Rattle.api_laws.specs.DataTenants.{SameAnswer}
use Rattle.api_laws.specs.AclLaws.{IsRefusedWhole}
use Rattle.api_laws.specs.ProducerLaws.{GivesFresh, InitsOnce, InitDependsOnGrants}
use Rattle.acl_handlers.proofs.BookBounds.{whole_topics}
use Rattle.api_laws.proofs.Writers.{writes_any}
use Rattle.api_laws.proofs.Recorded.{AreSame, same_fresh, same_init, same_answer}

abbrev GivenIds : Type 0
GivenIds = List (Option (List ℕ))

-- ---- one producer id more

beyond : (given : GivenIds) → slice_get given (length given) ≡ None
beyond [] = refl
beyond (x ∷ xs) = beyond xs

last_at : (given : GivenIds) (x : Option (List ℕ)) → slice_get (given ++ x ∷ []) (length given) ≡ Some x
last_at [] x = refl
last_at (y ∷ ys) x = last_at ys x

others_at : (given : GivenIds) (x : Option (List ℕ)) (n : ℕ) → (n ≡ length given → ⊥) → slice_get (given ++ x ∷ []) n ≡ slice_get given n
others_at [] x zero differ = absurd (differ refl)
others_at [] x (suc n) differ = refl
others_at (y ∷ ys) x zero differ = refl
others_at (y ∷ ys) x (suc n) differ = others_at ys x n (λ same. differ (ap suc same))

others_as : (c : CoordinatorValue) (id : ℤ) → (id ≡ fresh_producer_id c → ⊥) → owner (given_free c) id ≡ owner c id
others_as c (pos n) differ = others_at c.given None n (λ same. differ (ap pos same))
others_as c (negsuc n) differ = refl

-- ---- where it is allowed, and where it is refused

abbrev served_by : World → InitProducerIdRequest → Option Refusal → HandlerResult
served_by w r o = whole_outcome_by o w (λ code. replies.InitProducerId (init_error code)) (served_init w r)

given_after : (w : World) (r : InitProducerIdRequest) → r.transactional_id ≡ None → (served_init w r).world.coordinator ≡ given_free w.coordinator
given_after w r is = ap (λ (id : Option (List ℕ)). coordinator_for id w.coordinator w.node.max_txn_timeout r.timeout) is

gives_fresh : (w : World) (r : InitProducerIdRequest) → r.transactional_id ≡ None → GivesFresh w (served_by w r None)
gives_fresh w r none = record {
  producer = fresh_producer_id w.coordinator;
  reply = ap (λ (id : Option (List ℕ)). replies.InitProducerId (reply_for id w.coordinator w.node.max_txn_timeout r.timeout)) none;
  never = ap given_by (beyond w.coordinator.given);
  now = ap (λ (c : CoordinatorValue). given_by (owner c (fresh_producer_id w.coordinator))) (given_after w r none) ∙ ap given_by (last_at w.coordinator.given None);
  others = λ id differ. ap (λ (c : CoordinatorValue). owner c id) (given_after w r none) ∙ others_as w.coordinator id differ;
}

pub inits_once : InitsOnce init_producer_id_outcome
inits_once = record {
  fresh = λ w caller r none allowed.
      subst (GivesFresh w)
      (sym (ap (λ (id : Option (List ℕ)). served_by w r (part_refusal (rules_of w) (init_questions (rules_of w) caller id))) none ∙ ap (served_by w r) allowed))
      (gives_fresh w r none);
  refused = λ w caller q r is.
      subst (IsRefusedWhole w r) (ap (served_by w q) (sym is)) (record { world = refl; refusals = refl });
  waived = λ rules caller any. waived_by rules caller (any_topic rules.book.entries caller.who caller.host) (question_refusal rules (init_question caller None)) refl any;
  unwaived = λ rules caller none.
      ap (λ (b : Bool). part_refusal rules (cond (b && is_some (question_refusal rules (init_question caller None))) [] (init_question caller None ∷ []))) none
      ∙ alone (question_refusal rules (init_question caller None));
  granted = λ rules caller name allows. granted_by rules caller name (is_super rules.supers caller.who) refl allows;
} where
  alone : (o : Option Refusal) → first_of o None ≡ o
  alone None = refl
  alone (Some r) = refl

  waived_by : (rules : Rules) (caller : Caller) (b : Bool) (o : Option Refusal) → question_refusal rules (init_question caller None) ≡ o → b ≡ true
      → part_refusal rules (cond (b && is_some (question_refusal rules (init_question caller None))) [] (init_question caller None ∷ [])) ≡ None
  waived_by rules caller true None is any = ap (λ (o : Option Refusal). part_refusal rules (cond (is_some o) [] (init_question caller None ∷ []))) is ∙ ap (λ (o : Option Refusal). first_of o None) is
  waived_by rules caller true (Some r) is any = ap (λ (o : Option Refusal). part_refusal rules (cond (is_some o) [] (init_question caller None ∷ []))) is
  waived_by rules caller false o is any = absurd (let clash : false ≡ true = any in cc)

  unrefused : (rules : Rules) (caller : Caller) (any : Bool) → question_refusal rules (init_question caller None) ≡ None
      → part_refusal rules (cond (any && is_some (question_refusal rules (init_question caller None))) [] (init_question caller None ∷ [])) ≡ None
  unrefused rules caller true is = ap (λ (o : Option Refusal). part_refusal rules (cond (is_some o) [] (init_question caller None ∷ []))) is ∙ ap (λ (o : Option Refusal). first_of o None) is
  unrefused rules caller false is = ap (λ (o : Option Refusal). first_of o None) is

  yes_of : (x : Verdict) (q : Question) → refusal_by x q ≡ None → x ≡ Yes
  yes_of Yes q h = refl
  yes_of (Denied n) q h = absurd (let clash : Some (record { question = q; why = why.Denied n }) ≡ None = h in cc)
  yes_of Nothing q h = absurd (let clash : Some (record { question = q; why = why.Nothing }) ≡ None = h in cc)

  granted_by : (rules : Rules) (caller : Caller) (name : List ℕ) (super : Bool) → is_super rules.supers caller.who ≡ super → question_refusal rules (question_of caller Write Topic name) ≡ None
      → part_refusal rules (init_questions rules caller None) ≡ None
  granted_by rules caller name true is allows =
      unrefused rules caller (any_topic rules.book.entries caller.who caller.host)
      (ap (λ (b : Bool). refusal_by (cond b Yes (verdict_of rules.book.entries (init_question caller None))) (init_question caller None)) is)
  granted_by rules caller name false is allows =
      let q = question_of caller Write Topic name in
      let granted : verdict_of rules.book.entries q ≡ Yes = yes_of (verdict_of rules.book.entries q) q (sym (ap (λ (b : Bool). refusal_by (cond b Yes (verdict_of rules.book.entries q)) q) is) ∙ allows) in
      waived_by rules caller (any_topic rules.book.entries caller.who caller.host) (question_refusal rules (init_question caller None)) refl
      (writes_any rules.book.entries caller name (subst (IsDecided rules.book.entries q) granted (verdict_right rules.book.entries q)))

-- ---- what it depends on

pub yes_alone : (x : Verdict) (q : Question) → first_of (refusal_by x q) None ≡ None → x ≡ Yes
yes_alone Yes q h = refl
yes_alone (Denied n) q h = absurd (let clash : Some (record { question = q; why = why.Denied n }) ≡ None = h in cc)
yes_alone Nothing q h = absurd (let clash : Some (record { question = q; why = why.Nothing }) ≡ None = h in cc)

module _ (v w : World) (caller : Caller) (timeout : ℤ) (base : SameBase v w) where
  same_node : (id : Option (List ℕ)) → reply_for id v.coordinator v.node.max_txn_timeout timeout ≡ reply_for id v.coordinator w.node.max_txn_timeout timeout
  same_node id = ap (λ (n : Node). reply_for id v.coordinator n.max_txn_timeout timeout) base.node

  same_reply : (id : Option (List ℕ)) → SameGranted v w (init_questions (rules_of w) caller id) → part_refusal (rules_of w) (init_questions (rules_of w) caller id) ≡ None
      → reply_for id v.coordinator w.node.max_txn_timeout timeout ≡ reply_for id w.coordinator w.node.max_txn_timeout timeout
  same_reply None same none = ap init_given (same_fresh v.coordinator w.coordinator base.given)
  same_reply (Some id) same none =
      let q = init_question caller (Some id) in
      let agree : AreSame v.coordinator w.coordinator id = record { given = base.given; recorded = same.0 (yes_alone (verdict w.book w.supers q) q none) } in
      ap (λ (t : Transition). init_answered (transition_answer v.coordinator id t)) (same_init v.coordinator w.coordinator id timeout w.node.max_txn_timeout agree)
      ∙ ap init_answered (same_answer v.coordinator w.coordinator id (init w.coordinator id timeout w.node.max_txn_timeout) agree)

same_by : (o : Option Refusal) (v w : World) (caller : Caller) (r : InitProducerIdRequest) → SameBase v w → SameGranted v w (init_questions (rules_of w) caller r.transactional_id)
    → part_refusal (rules_of w) (init_questions (rules_of w) caller r.transactional_id) ≡ o → SameAnswer (served_by v r o) (served_by w r o)
same_by (Some x) v w caller r base same is = record { reply = refl; refusals = refl }
same_by None v w caller r base same is = record {
  reply = ap (λ a. replies.InitProducerId a) (same_node v w caller r.timeout base r.transactional_id ∙ same_reply v w caller r.timeout base r.transactional_id same is);
  refusals = refl;
}

pub same_refusal : (v w : World) (q : Question) → rules_of v ≡ rules_of w → part_refusal (rules_of w) (q ∷ []) ≡ part_refusal (rules_of v) (q ∷ [])
same_refusal v w q rules = ap (λ (r : Rules). part_refusal r (q ∷ [])) (sym rules)

pub init_depends : InitDependsOnGrants init_producer_id_outcome
init_depends = record {
  same = λ v w caller r base same.
      subst (λ (o : Option Refusal). SameAnswer (served_by v r o) (init_producer_id_outcome w caller r)) (ap (λ (rules : Rules). part_refusal rules (init_questions rules caller r.transactional_id)) (sym base.rules))
      (same_by (part_refusal (rules_of w) (init_questions (rules_of w) caller r.transactional_id)) v w caller r base same refl);
  topics = λ w caller r. whole_topics (part_refusal (rules_of w) (init_questions (rules_of w) caller r.transactional_id)) w _ _ refl;
}
