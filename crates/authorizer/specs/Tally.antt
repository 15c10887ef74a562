-- How many permits were spent, counted up to the greatest number of 64 bits.
use Rattle.std.specs.Prelude.{ℕ, ◌+◌, List, [], ◌∷◌, nat_lt, if◌then◌else◌}
use Rattle.acl_binding.specs.declared.question.Question.{Question}
use Rattle.authorizer.specs.Asking.{Rules, part_paid}

abbrev pub one_more : ℕ → ℕ
one_more n = if nat_lt n 18446744073709551615 then n + 1 else n

-- each question whose permit was spent counts one
abbrev pub count_after : ℕ → List Question → ℕ
count_after n [] = n
count_after n (q ∷ qs) = count_after (one_more n) qs

-- after parts that ask these questions each: for one that is granted each of its questions counts,
-- and for another none
abbrev pub count_after_parts : Rules → ℕ → List (List Question) → ℕ
count_after_parts rules n [] = n
count_after_parts rules n (qs ∷ parts) =
    count_after_parts rules (count_after n (part_paid rules qs)) parts
