-- One part more of a topic.
use Rattle.std.proofs.Common.{◌≡◌, ℕ, ◌+◌, ◌≤◌, Bool, List, [], ◌∷◌, ◌++◌, Option, Some, None, option_to_list, refl, sym, ap, ◌∙◌, append_assoc, arith}
use Rattle.std.specs.List.{cons_option}
use Rattle.authorizer.specs.declared.answer.Refusal.{Refusal}
use Rattle.authorizer.specs.Asking.{Rules}
use Rattle.walk.specs.declared.walking.PartAnswer.{PartAnswer}
use Rattle.walk.specs.Rule.{PartRule, refusal_of}
use Rattle.walk.specs.Walk.{parts_refused, parts_weight}
use Rattle.walk.specs.Steps.{part_world, part_answer, part_spent, parts_world, parts_answers, parts_spent}
use Rattle.walk.proofs.Weights.{part_takes}

pub next_world : {P A W : Type 0} (api : PartRule P A W) (rules : Rules) (w w' whole : W) (name : List ℕ) (p : P) (left rest : List P)
    → left ≡ p ∷ rest → w' ≡ part_world api rules w name p → parts_world api rules w name left ≡ whole → parts_world api rules w' name rest ≡ whole
next_world api rules w w' whole name p left rest left_is is before =
    ap (λ v. parts_world api rules v name rest) is ∙ sym (ap (parts_world api rules w name) left_is) ∙ before

pub next_answers : {P A W : Type 0} (api : PartRule P A W) (rules : Rules) (w w' : W) (name : List ℕ) (p : P) (left rest : List P) (part : PartAnswer A) (told new whole : List A)
    → left ≡ p ∷ rest → w' ≡ part_world api rules w name p → part ≡ part_answer api rules w name p → new ≡ told ++ part.answer ∷ []
    → told ++ parts_answers api rules w name left ≡ whole → new ++ parts_answers api rules w' name rest ≡ whole
next_answers {P} {A} api rules w w' name p left rest part told new whole left_is is part_is new_is before =
    ap (λ (l : List A). l ++ parts_answers api rules w' name rest) new_is
    ∙ append_assoc told (part.answer ∷ []) (parts_answers api rules w' name rest)
    ∙ ap (λ (x : PartAnswer A). told ++ x.answer ∷ parts_answers api rules w' name rest) part_is
    ∙ ap (λ v. told ++ (part_answer api rules w name p).answer ∷ parts_answers api rules v name rest) is
    ∙ sym (ap (λ l. told ++ parts_answers api rules w name l) left_is)
    ∙ before

pub next_refusals : {P A W : Type 0} (api : PartRule P A W) (rules : Rules) (w : W) (name : List ℕ) (p : P) (left rest : List P) (part : PartAnswer A) (told new whole : List Refusal)
    → left ≡ p ∷ rest → part ≡ part_answer api rules w name p → new ≡ told ++ option_to_list part.refusal
    → told ++ parts_refused api rules name left ≡ whole → new ++ parts_refused api rules name rest ≡ whole
next_refusals {P} {A} api rules w name p left rest part told new whole left_is part_is new_is before =
    ap (λ (l : List Refusal). l ++ parts_refused api rules name rest) new_is
    ∙ append_assoc told (option_to_list part.refusal) (parts_refused api rules name rest)
    ∙ ap (λ (x : PartAnswer A). told ++ (option_to_list x.refusal ++ parts_refused api rules name rest)) part_is
    ∙ ap (λ l. told ++ l) (joined (refusal_of api rules name p))
    ∙ sym (ap (λ l. told ++ parts_refused api rules name l) left_is)
    ∙ before
  where
    joined : (r : Option Refusal) → option_to_list r ++ parts_refused api rules name rest ≡ cons_option r (parts_refused api rules name rest)
    joined (Some r) = refl
    joined None = refl

pub next_spent : {P A W : Type 0} (cuts : Bool) (api : PartRule P A W) (rules : Rules) (name : List ℕ) (p : P) (left rest : List P) (n m whole : ℕ)
    → left ≡ p ∷ rest → m ≡ part_spent cuts api rules n name p → parts_spent cuts api rules n name left ≡ whole → parts_spent cuts api rules m name rest ≡ whole
next_spent cuts api rules name p left rest n m whole left_is is before =
    ap (λ k. parts_spent cuts api rules k name rest) is ∙ sym (ap (parts_spent cuts api rules n name) left_is) ∙ before

pub next_budget : {P A W : Type 0} (api : PartRule P A W) (rules : Rules) (w w' : W) (name : List ℕ) (p : P) (left rest : List P) (first whole : ℕ)
    → left ≡ p ∷ rest → w' ≡ part_world api rules w name p → first + parts_weight api left ≤ whole + api.budget w → first + parts_weight api rest ≤ whole + api.budget w'
next_budget api rules w w' name p left rest first whole left_is is before =
    omega (arith, ap (parts_weight api) left_is, ap api.budget is, part_takes api rules w name p, before)
