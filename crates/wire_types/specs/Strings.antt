-- The texts of a message that stand after a length of two bytes, STRING and NULLABLE_STRING.
use Rattle.std.specs.Prelude.{ℕ, List, [], ◌∷◌, length, Bool, nat_le, Option, Some, None}
use Rattle.wire_types.specs.declared.topic.Topic.{Topic}

-- such a length tells no more
abbrev pub is_short : List ℕ → Bool
is_short text = nat_le (length text) 32767

-- the text of a NULLABLE_STRING, if it has one
abbrev pub text_of : Option (List ℕ) → List (List ℕ)
text_of None = []
text_of (Some text) = text ∷ []

-- the name of a topic whose partitions have no texts
abbrev pub name_of : {P : Type 0} → Topic P → List (List ℕ)
name_of t = t.name ∷ []

-- what has no such text
abbrev pub no_strings : {A : Type 0} → A → List (List ℕ)
no_strings x = []
