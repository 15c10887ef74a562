-- The answers to the allowed parts of a request, with those of the refused parts put back at their
-- places.
use Rattle.std.specs.Prelude.{List, [], ◌∷◌, Option, Some, None}

-- `refused` has something for each part: the answer of a refused one, nothing for an allowed one
abbrev pub weave : {A : Type 0} → List (Option A) → List A → List A
weave [] answers = answers
weave (Some answer ∷ refused) answers = answer ∷ weave refused answers
weave (None ∷ refused) [] = []
weave (None ∷ refused) (a ∷ answers) = a ∷ weave refused answers
