-- What is counted part by part is what the questions of all parts come to; where everything is cut, nothing is.
use Rattle.std.proofs.Common.{◌≡◌, ℕ, Bool, true, false, List, [], ◌∷◌, ◌++◌, map, Option, Some, None, refl, sym, ap, ◌∙◌}
use Rattle.acl_binding.specs.declared.question.Question.{Question}
use Rattle.authorizer.specs.declared.answer.Refusal.{Refusal}
use Rattle.authorizer.specs.Asking.{Rules, paid_by, part_paid}
use Rattle.authorizer.specs.Tally.{count_after, count_after_parts}
use Rattle.wire_types.specs.declared.topic.Topic.{Topic}
use Rattle.walk.specs.Rule.{PartRule, refusal_of}
use Rattle.walk.specs.Walk.{asked_in}
use Rattle.walk.specs.Steps.{ending_by, spent_in, part_spent, parts_spent, topics_spent}

-- parts after parts
pub counted_on : (rules : Rules) (n : ℕ) (xs ys : List (List Question)) → count_after_parts rules n (xs ++ ys) ≡ count_after_parts rules (count_after_parts rules n xs) ys
counted_on rules n [] ys = refl
counted_on rules n (qs ∷ xs) ys = counted_on rules (count_after n (part_paid rules qs)) xs ys

-- a part that is served is paid for, and another isn't
served_spends : (r : Option Refusal) (qs : List Question) → spent_in (ending_by false r qs) ≡ paid_by r qs
served_spends (Some r) qs = refl
served_spends None qs = refl

cut_spends : (r : Option Refusal) (qs : List Question) → spent_in (ending_by true r qs) ≡ []
cut_spends (Some r) qs = refl
cut_spends None qs = refl

parts_counted : {P A W : Type 0} (api : PartRule P A W) (rules : Rules) (n : ℕ) (name : List ℕ) (ps : List P) → parts_spent false api rules n name ps ≡ count_after_parts rules n (map (api.questions name) ps)
parts_counted api rules n name [] = refl
parts_counted api rules n name (p ∷ ps) =
    parts_counted api rules (part_spent false api rules n name p) name ps
    ∙ ap (λ (qs : List Question). count_after_parts rules (count_after n qs) (map (api.questions name) ps)) (served_spends (refusal_of api rules name p) (api.questions name p))

topics_counted : {P A W : Type 0} (api : PartRule P A W) (rules : Rules) (n : ℕ) (ts : List (Topic P)) → topics_spent false api rules n ts ≡ count_after_parts rules n (asked_in api ts)
topics_counted api rules n [] = refl
topics_counted api rules n (t ∷ ts) =
    topics_counted api rules (parts_spent false api rules n t.name t.partitions) ts
    ∙ ap (λ (m : ℕ). count_after_parts rules m (asked_in api ts)) (parts_counted api rules n t.name t.partitions)
    ∙ sym (counted_on rules n (map (api.questions t.name) t.partitions) (asked_in api ts))

parts_uncounted : {P A W : Type 0} (api : PartRule P A W) (rules : Rules) (n : ℕ) (name : List ℕ) (ps : List P) → parts_spent true api rules n name ps ≡ n
parts_uncounted api rules n name [] = refl
parts_uncounted api rules n name (p ∷ ps) =
    parts_uncounted api rules (part_spent true api rules n name p) name ps
    ∙ ap (count_after n) (cut_spends (refusal_of api rules name p) (api.questions name p))

topics_uncounted : {P A W : Type 0} (api : PartRule P A W) (rules : Rules) (n : ℕ) (ts : List (Topic P)) → topics_spent true api rules n ts ≡ n
topics_uncounted api rules n [] = refl
topics_uncounted api rules n (t ∷ ts) = topics_uncounted api rules (parts_spent true api rules n t.name t.partitions) ts ∙ parts_uncounted api rules n t.name t.partitions

pub all_counted : {P A W : Type 0} (cuts : Bool) (api : PartRule P A W) (rules : Rules) (ts : List (Topic P)) → cuts ≡ false → topics_spent cuts api rules 0 ts ≡ count_after_parts rules 0 (asked_in api ts)
all_counted cuts api rules ts is_served = ap (λ (c : Bool). topics_spent c api rules 0 ts) is_served ∙ topics_counted api rules 0 ts

pub none_counted : {P A W : Type 0} (cuts : Bool) (api : PartRule P A W) (rules : Rules) (ts : List (Topic P)) → cuts ≡ true → topics_spent cuts api rules 0 ts ≡ 0
none_counted cuts api rules ts is_cut = ap (λ (c : Bool). topics_spent c api rules 0 ts) is_cut ∙ topics_uncounted api rules 0 ts
