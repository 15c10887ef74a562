-- One topic more of a walk.
use Rattle.std.proofs.Common.{◌≡◌, ℕ, suc, ◌+◌, ◌≤◌, ◌<◌, Bool, List, [], ◌∷◌, ◌++◌, length, get_or, drop, drop-cons, add-one, refl, sym, ap, ◌∙◌, append_assoc, arith}
use Rattle.authorizer.specs.declared.answer.Refusal.{Refusal}
use Rattle.authorizer.specs.Asking.{Rules}
use Rattle.wire_types.specs.declared.topic.Topic.{Topic}
use Rattle.walk.specs.Rule.{PartRule}
use Rattle.walk.specs.Walk.{parts_refused, refusals, parts_weight, topics_weight}
use Rattle.walk.specs.Steps.{parts_world, parts_answers, parts_spent, topics_world, topics_answers, topics_spent}

-- a read at i splits what is left
pub left_at : {A : Type 0} (xs : List A) (i : ℕ) (x : A) → i < length xs → x ≡ get_or xs i x → drop i xs ≡ x ∷ drop (i + 1) xs
left_at xs i x lt is = drop-cons xs i x lt ∙ ap (λ y. y ∷ drop (suc i) xs) (sym is) ∙ ap (λ n. x ∷ drop n xs) (sym (add-one i))

pub world_further : {P A W : Type 0} (api : PartRule P A W) (rules : Rules) (w w' whole : W) (t : Topic P) (left rest : List (Topic P)) (parts : List P)
    → left ≡ t ∷ rest → parts ≡ t.partitions → w' ≡ parts_world api rules w t.name parts → topics_world api rules w left ≡ whole → topics_world api rules w' rest ≡ whole
world_further api rules w w' whole t left rest parts left_is parts_are is before =
    ap (λ v. topics_world api rules v rest) (is ∙ ap (parts_world api rules w t.name) parts_are) ∙ sym (ap (topics_world api rules w) left_is) ∙ before

pub answers_further : {P A W : Type 0} (api : PartRule P A W) (rules : Rules) (w w' : W) (t : Topic P) (left rest : List (Topic P)) (parts : List P) (name : List ℕ) (answers : List A) (told new whole : List (Topic A))
    → left ≡ t ∷ rest → parts ≡ t.partitions → w' ≡ parts_world api rules w t.name parts → name ≡ t.name → answers ≡ parts_answers api rules w t.name parts → new ≡ told ++ record { name = name; partitions = answers } ∷ []
    → told ++ topics_answers api rules w left ≡ whole → new ++ topics_answers api rules w' rest ≡ whole
answers_further {P} {A} api rules w w' t left rest parts name answers told new whole left_is parts_are is name_is answers_are new_is before =
    let one : Topic A = record { name = name; partitions = answers } in
    let here : Topic A = record { name = t.name; partitions = parts_answers api rules w t.name t.partitions } in
    let same : one ≡ here = rw (name_is, answers_are, parts_are) refl in
    ap (λ (l : List (Topic A)). l ++ topics_answers api rules w' rest) new_is
    ∙ append_assoc told (one ∷ []) (topics_answers api rules w' rest)
    ∙ ap (λ (x : Topic A). told ++ x ∷ topics_answers api rules w' rest) same
    ∙ ap (λ v. told ++ here ∷ topics_answers api rules v rest) (is ∙ ap (parts_world api rules w t.name) parts_are)
    ∙ sym (ap (λ l. told ++ topics_answers api rules w l) left_is)
    ∙ before

pub refusals_further : {P A W : Type 0} (api : PartRule P A W) (rules : Rules) (t : Topic P) (left rest : List (Topic P)) (parts : List P) (told new whole : List Refusal)
    → left ≡ t ∷ rest → parts ≡ t.partitions → new ≡ told ++ parts_refused api rules t.name parts → told ++ refusals api rules left ≡ whole → new ++ refusals api rules rest ≡ whole
refusals_further api rules t left rest parts told new whole left_is parts_are new_is before =
    ap (λ l. l ++ refusals api rules rest) (new_is ∙ ap (λ ps. told ++ parts_refused api rules t.name ps) parts_are)
    ∙ append_assoc told (parts_refused api rules t.name t.partitions) (refusals api rules rest)
    ∙ sym (ap (λ l. told ++ refusals api rules l) left_is)
    ∙ before

pub spent_further : {P A W : Type 0} (cuts : Bool) (api : PartRule P A W) (rules : Rules) (t : Topic P) (left rest : List (Topic P)) (parts : List P) (n m whole : ℕ)
    → left ≡ t ∷ rest → parts ≡ t.partitions → m ≡ parts_spent cuts api rules n t.name parts → topics_spent cuts api rules n left ≡ whole → topics_spent cuts api rules m rest ≡ whole
spent_further cuts api rules t left rest parts n m whole left_is parts_are is before =
    ap (λ k. topics_spent cuts api rules k rest) (is ∙ ap (parts_spent cuts api rules n t.name) parts_are) ∙ sym (ap (topics_spent cuts api rules n) left_is) ∙ before

pub budget_further : {P A W : Type 0} (api : PartRule P A W) (t : Topic P) (left rest : List (Topic P)) (parts : List P) (b c : ℕ)
    → left ≡ t ∷ rest → parts ≡ t.partitions → b ≤ parts_weight api parts + c → topics_weight api left ≤ b → topics_weight api rest ≤ c
budget_further api t left rest parts b c left_is parts_are takes before =
    let weight : topics_weight api left ≡ parts_weight api t.partitions + topics_weight api rest = ap (topics_weight api) left_is in
    omega (arith, weight, ap (parts_weight api) parts_are, takes, before)
