use Rattle.std.proofs.Common.{◌≡◌, drop}
use Rattle.settings_text.specs.Rows.{binding_of}
use Rattle.toml.specs.View.{items_view}
use Rattle.settings_text.specs.Fields.{values_of_each}
use Rattle.settings_text.proofs.Tables.{with_front}
use Rattle.settings_text.proofs.rows.acls.Given as goal

-- what was read so far stands before what the rest gives
abbrev pub invariant-loop-value : goal.invariant-loop-value
invariant-loop-value l =
    values_of_each binding_of (items_view l.value-items) ≡ with_front l.acls (values_of_each binding_of (items_view (drop l.value-index l.value-items)))
