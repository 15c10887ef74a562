-- What an InitProducerId asks, by what its question is answered.
use Rattle.std.proofs.Common.{◌≡◌, ℕ, List, [], ◌∷◌, Option, Some, None, Bool, true, false, cond, ◌&&◌, refl, sym, ap, ◌∙◌}
use Rattle.std.specs.Prelude.{is_none, is_some}
use Rattle.acl_binding.specs.declared.question.Caller.{Caller}
use Rattle.authorizer.specs.declared.answer.Refusal.{Refusal}
use Rattle.authorizer.specs.AnyTopic.{any_topic}
use Rattle.authorizer.specs.Asking.{Rules, first_of, question_refusal, part_refusal}
use Rattle.txn_handlers.specs.InitProducerId.{init_question, init_questions}

alone : (o p : Option Refusal) → first_of o None ≡ p → o ≡ p
alone None p h = h
alone (Some r) p h = h

never : (b : Bool) → (b && false) ≡ false
never true = refl
never false = refl

module _ (rules : Rules) (caller : Caller) where
  -- where it is granted, it is what is asked
  asked_granted : (id : Option (List ℕ)) → part_refusal rules (init_question caller id ∷ []) ≡ None → init_questions rules caller id ≡ init_question caller id ∷ []
  asked_granted (Some id) h = refl
  asked_granted None h =
      ap (λ (o : Option Refusal). cond (any_topic rules.book.entries caller.who caller.host && is_some o) [] (init_question caller None ∷ [])) (alone (question_refusal rules (init_question caller None)) None h)
      ∙ ap (λ (b : Bool). cond b [] (init_question caller None ∷ [])) (never (any_topic rules.book.entries caller.who caller.host))

  pub granted : (id : Option (List ℕ)) → part_refusal rules (init_question caller id ∷ []) ≡ None → part_refusal rules (init_questions rules caller id) ≡ None
  granted id h = ap (part_refusal rules) (asked_granted id h) ∙ h

  -- and where it is refused, nothing is asked of who may write to some topic
  pub waived : (id : Option (List ℕ)) (r : Refusal) → part_refusal rules (init_question caller id ∷ []) ≡ Some r → (is_none id && any_topic rules.book.entries caller.who caller.host) ≡ true → init_questions rules caller id ≡ []
  waived (Some id) r h any = absurd (let clash : false ≡ true = any in cc)
  waived None r h any =
      ap (λ (b : Bool). cond (b && is_some (question_refusal rules (init_question caller None))) [] (init_question caller None ∷ [])) any
      ∙ ap (λ (o : Option Refusal). cond (is_some o) [] (init_question caller None ∷ [])) (alone (question_refusal rules (init_question caller None)) (Some r) h)

  pub same_asked : (id : Option (List ℕ)) → part_refusal rules (init_question caller id ∷ []) ≡ None → init_question caller id ∷ [] ≡ init_questions rules caller id
  same_asked id h = sym (asked_granted id h)

  -- and else what is refused is what is asked
  pub asked_refused : (id : Option (List ℕ)) → (is_none id && any_topic rules.book.entries caller.who caller.host) ≡ false → init_question caller id ∷ [] ≡ init_questions rules caller id
  asked_refused (Some id) none = refl
  asked_refused None none =
      sym (ap (λ (b : Bool). cond (b && is_some (question_refusal rules (init_question caller None))) [] (init_question caller None ∷ [])) none)
