-- The number of a refusal is that of a question that was asked.
use Rattle.std.proofs.Common.{◌≡◌, ◌⊎◌, inl, inr, ℕ, pos, List, [], ◌∷◌, Option, Some, None, sym, ap}
use Rattle.acl_binding.specs.declared.question.Caller.{Caller}
use Rattle.acl_binding.specs.declared.question.Question.{Question}
use Rattle.acl_binding.specs.declared.question.Verdict.{Verdict}
use Rattle.acl_binding.specs.declared.question.Verdict.TheVariants.{Yes, Denied, Nothing}
use Rattle.authorizer.specs.declared.answer.DenyReason.TheVariants as why
use Rattle.authorizer.specs.declared.answer.Refusal.{Refusal}
use Rattle.authorizer.specs.Policy.{verdict}
use Rattle.authorizer.specs.Asking.{Rules, refusal_by, first_of, part_refusal}
use Rattle.wire_types.specs.ErrorCode.{number_of}
use Rattle.walk.specs.Codes.{permission_code, refusal_code}
use Rattle.broker_world.specs.Questions.{read_question, topic_part}
use Rattle.group_handlers.specs.OffsetCommit.{commit_questions}
use Rattle.group_handlers.specs.OffsetFetch.{group_question}
use Rattle.txn_handlers.specs.TxnOffsetCommit.{Staging, stage_questions}
use Rattle.broker_laws.specs.Commits.{IsAmong}

refused_by_verdict : (v : Verdict) (q : Question) (rest : Option Refusal) (qs : List Question) (x : Refusal) → (rest ≡ Some x → IsAmong x.question qs) → first_of (refusal_by v q) rest ≡ Some x → IsAmong x.question (q ∷ qs)
refused_by_verdict Yes q rest qs x others h = inr (others h)
refused_by_verdict (Denied n) q rest qs x others h = let same : record { question = q; why = why.Denied n } ≡ x = cc in inl (ap (λ (y : Refusal). y.question) same)
refused_by_verdict Nothing q rest qs x others h = let same : record { question = q; why = why.Nothing } ≡ x = cc in inl (ap (λ (y : Refusal). y.question) same)

-- what refuses a part is one of its questions
refused_question : (rules : Rules) (qs : List Question) (x : Refusal) → part_refusal rules qs ≡ Some x → IsAmong x.question qs
refused_question rules [] x h = let clash : None ≡ Some x = h in cc
refused_question rules (q ∷ qs) x h = refused_by_verdict (verdict rules.book rules.supers q) q (part_refusal rules qs) qs x (refused_question rules qs x) h

abbrev question_number : Question → Refusal → Type 0
question_number q x = number_of (refusal_code x) ≡ number_of (permission_code q.kind)

number_is : (q : Question) (x : Refusal) → q ≡ x.question → question_number q x
number_is q x same = ap (λ (y : Question). number_of (permission_code y.kind)) (sym same)

-- 30 where the group may not be read
pub read_number : (rules : Rules) (caller : Caller) (group : List ℕ) (x : Refusal) → part_refusal rules (read_question caller group ∷ []) ≡ Some x → number_of (refusal_code x) ≡ pos 30
unfolding number_of
read_number rules caller group x h = by_question (refused_question rules (read_question caller group ∷ []) x h) where
  by_question : IsAmong x.question (read_question caller group ∷ []) → number_of (refusal_code x) ≡ pos 30
  by_question (inl same) = number_is (read_question caller group) x same
  by_question (inr none) = absurd none

-- or described
pub describe_number : (rules : Rules) (caller : Caller) (group : List ℕ) (x : Refusal) → part_refusal rules (group_question caller group ∷ []) ≡ Some x → number_of (refusal_code x) ≡ pos 30
unfolding number_of
describe_number rules caller group x h = by_question (refused_question rules (group_question caller group ∷ []) x h) where
  by_question : IsAmong x.question (group_question caller group ∷ []) → number_of (refusal_code x) ≡ pos 30
  by_question (inl same) = number_is (group_question caller group) x same
  by_question (inr none) = absurd none

-- 29 where the topic may not
pub topic_number : (rules : Rules) (caller : Caller) (name : List ℕ) (x : Refusal) → part_refusal rules (topic_part caller name) ≡ Some x → number_of (refusal_code x) ≡ pos 29
unfolding number_of
topic_number rules caller name x h = by_question (refused_question rules (topic_part caller name) x h) where
  by_question : IsAmong x.question (topic_part caller name) → number_of (refusal_code x) ≡ pos 29
  by_question (inl same) = ap (λ (y : Question). number_of (permission_code y.kind)) (sym same)
  by_question (inr none) = absurd none

pub commit_number : (rules : Rules) (caller : Caller) (group name : List ℕ) (x : Refusal) → part_refusal rules (commit_questions caller group name) ≡ Some x → (number_of (refusal_code x) ≡ pos 29) ⊎ (number_of (refusal_code x) ≡ pos 30)
unfolding number_of
commit_number rules caller group name x h = by_question (refused_question rules (commit_questions caller group name) x h) where
  by_question : IsAmong x.question (commit_questions caller group name) → (number_of (refusal_code x) ≡ pos 29) ⊎ (number_of (refusal_code x) ≡ pos 30)
  by_question (inl same) = inr (ap (λ (y : Question). number_of (permission_code y.kind)) (sym same))
  by_question (inr (inl same)) = inl (ap (λ (y : Question). number_of (permission_code y.kind)) (sym same))
  by_question (inr (inr none)) = absurd none

-- 53 where the transactional id may not be written with
pub stage_number : (rules : Rules) (caller : Caller) (s : Staging) (name : List ℕ) (x : Refusal) → part_refusal rules (stage_questions caller s name) ≡ Some x
    → (number_of (refusal_code x) ≡ pos 29) ⊎ ((number_of (refusal_code x) ≡ pos 30) ⊎ (number_of (refusal_code x) ≡ pos 53))
unfolding number_of
stage_number rules caller s name x h = by_question (refused_question rules (stage_questions caller s name) x h) where
  by_question : IsAmong x.question (stage_questions caller s name) → (number_of (refusal_code x) ≡ pos 29) ⊎ ((number_of (refusal_code x) ≡ pos 30) ⊎ (number_of (refusal_code x) ≡ pos 53))
  by_question (inl same) = inr (inr (ap (λ (y : Question). number_of (permission_code y.kind)) (sym same)))
  by_question (inr (inl same)) = inr (inl (ap (λ (y : Question). number_of (permission_code y.kind)) (sym same)))
  by_question (inr (inr (inl same))) = inl (ap (λ (y : Question). number_of (permission_code y.kind)) (sym same))
  by_question (inr (inr (inr none))) = absurd none
