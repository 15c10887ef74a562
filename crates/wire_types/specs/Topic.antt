-- A topic in a message: its name, and an array of what the message says of each of its partitions.
use Rattle.std.specs.Prelude.{ℕ, List, refl}
use Rattle.wire_types.specs.Grammar.{Grammar}
use Rattle.wire_types.specs.Combinators.{◌⨟◌, struct}
use Rattle.wire_types.specs.Schema.{string, array, compact_string, compact_array, tagged_struct}
use Rattle.wire_types.specs.declared.topic.Topic.{Topic}

abbrev pub topic_of : {P : Type 0} → Grammar P → Grammar (Topic P)
topic_of {P} g = struct
    (λ (x : List ℕ × List P). record { name = x.0; partitions = x.1 })
    (λ t. (t.name, t.partitions))
    (λ x. refl) (λ t. refl)
    (string ⨟ array g)

-- The same in the messages of flexible versions: in compact forms, with a tagged section after each
-- topic.
unfoldable pub flexible_topic_of : {P : Type 0} → Grammar P → Grammar (Topic P)
flexible_topic_of {P} g = tagged_struct
    (λ (x : List ℕ × List P). record { name = x.0; partitions = x.1 })
    (λ t. (t.name, t.partitions))
    (λ x. refl) (λ t. refl)
    (compact_string ⨟ compact_array g)
