use Rattle.std.proofs.Common.{◌≡◌, drop}
use Rattle.toml.specs.Data.{as_str}
use Rattle.toml.specs.View.{items_view}
use Rattle.settings_text.specs.Fields.{values_of_each}
use Rattle.settings_text.proofs.Tables.{with_front}
use Rattle.settings_text.proofs.rows.supers.Given as goal

-- what was read so far stands before what the rest gives
abbrev pub invariant-loop-value : goal.invariant-loop-value
invariant-loop-value l =
    values_of_each as_str (items_view l.value-items) ≡ with_front l.supers (values_of_each as_str (items_view (drop l.value-index l.value-items)))
