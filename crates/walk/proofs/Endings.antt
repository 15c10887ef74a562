-- The refusal in how a part goes is the part's refusal; when a part was served as it should be.
use Rattle.std.proofs.Common.{◌≡◌, ℕ, Bool, true, false, List, Option, Some, None, refl, sym, ap, ◌∙◌}
use Rattle.acl_binding.specs.declared.question.Question.{Question}
use Rattle.authorizer.specs.declared.answer.Refusal.{Refusal}
use Rattle.authorizer.specs.Asking.{Rules}
use Rattle.walk.specs.declared.part.PartResult.TheVariants.{Served}
use Rattle.walk.specs.declared.part.Part.{Part}
use Rattle.walk.specs.Rule.{PartRule, refusal_of}
use Rattle.walk.specs.Steps.{answer_by, ending_by, refusal_in, part_done, part_answer}

pub refusal_in_ending : (cuts : Bool) (r : Option Refusal) (qs : List Question) → refusal_in (ending_by cuts r qs) ≡ r
refusal_in_ending cuts (Some r) qs = refl
refusal_in_ending true None qs = refl
refusal_in_ending false None qs = refl

-- what is told of a part that is done, with the refusal in how it went
pub done_told : {P A W : Type 0} (cuts : Bool) (api : PartRule P A W) (rules : Rules) (w : W) (name : List ℕ) (p : P) (done : Part A) (refusal : Option Refusal) → done ≡ part_done cuts api rules w name p → refusal ≡ refusal_in done.ending
    → record { answer = done.answer; refusal = refusal } ≡ part_answer api rules w name p
done_told {A = A} cuts api rules w name p done refusal is told =
    ap (λ (r : Option Refusal). record { answer = done.answer; refusal = r }) (told ∙ ap (λ (d : Part A). refusal_in d.ending) is ∙ refusal_in_ending cuts (refusal_of api rules name p) (api.questions name p))
    ∙ ap (λ (d : Part A). record { answer = d.answer; refusal = refusal_of api rules name p }) is

-- a part that was granted, is answered as the plain broker does, and paid for all that it asks, is done
pub served_done : {P A W : Type 0} (api : PartRule P A W) (rules : Rules) (w : W) (name : List ℕ) (p : P) (answer : A) (paid : List Question) → refusal_of api rules name p ≡ None → answer ≡ api.plain w name p → paid ≡ api.questions name p
    → record { answer = answer; ending = Served paid } ≡ part_done false api rules w name p
served_done {A = A} api rules w name p answer paid none told pays =
    ap (λ (a : A). record { answer = a; ending = Served paid }) told
    ∙ ap (λ (qs : List Question). record { answer = api.plain w name p; ending = Served qs }) pays
    ∙ ap (λ (o : Option Refusal). record { answer = answer_by api o w name p; ending = ending_by false o (api.questions name p) }) (sym none)
