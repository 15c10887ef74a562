-- Where no part of a request with a part was refused, what each part asks first is granted.
use Rattle.std.proofs.Common.{◌≡◌, true, false, ◌||◌, List, [], ◌∷◌, ◌++◌, Option, Some, None, refl, sym, ap, ◌∙◌}
use Rattle.std.specs.List.{cons_option}
use Rattle.acl_binding.specs.declared.question.Question.{Question}
use Rattle.authorizer.specs.declared.answer.Refusal.{Refusal}
use Rattle.authorizer.specs.Asking.{Rules, part_refusal, question_refusal, first_of}
use Rattle.wire_types.specs.declared.topic.Topic.{Topic}
use Rattle.walk.specs.Rule.{PartRule}
use Rattle.walk.specs.Walk.{parts_refused, refusals}
use Rattle.walk.specs.Woven.{AsksFirst, has_any, has_part}

pub first_granted : {P A W : Type 0} (api : PartRule P A W) (rules : Rules) (q : Question) (ts : List (Topic P)) → AsksFirst api q → has_part ts ≡ true → refusals api rules ts ≡ [] → question_refusal rules q ≡ None
first_granted api rules q [] first some none = absurd (let clash : false ≡ true = some in cc)
first_granted {P = P} api rules q (t ∷ ts) first some none = by_parts t.partitions (first_granted api rules q ts first) some none where
  by_refusal : (r : Option Refusal) (rest : Option Refusal) (more : List Refusal) → cons_option (first_of r rest) more ≡ [] → r ≡ None
  by_refusal None rest more h = refl
  by_refusal (Some x) rest more h = absurd (let clash : x ∷ more ≡ [] = h in cc)

  by_append : (xs ys : List Refusal) → xs ++ ys ≡ [] → xs ≡ []
  by_append [] ys h = refl
  by_append (x ∷ xs) ys h = absurd (let clash : x ∷ (xs ++ ys) ≡ [] = h in cc)

  by_parts : (ps : List P) → (has_part ts ≡ true → refusals api rules ts ≡ [] → question_refusal rules q ≡ None) → has_any ps || has_part ts ≡ true → parts_refused api rules t.name ps ++ refusals api rules ts ≡ [] → question_refusal rules q ≡ None
  by_parts [] rest some none = rest some none
  by_parts (p ∷ ps) rest some none = by_refusal (question_refusal rules q) (part_refusal rules (first t.name p).0) (parts_refused api rules t.name ps) (ap (λ qs. cons_option (part_refusal rules qs) (parts_refused api rules t.name ps)) (sym (first t.name p).1) ∙ by_append (parts_refused api rules t.name (p ∷ ps)) (refusals api rules ts) none)
