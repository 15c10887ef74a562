use Rattle.std.proofs.Common.{◌≡◌, get_or, Some, sym}
use Rattle.toml.specs.View.{view}
use Rattle.settings_text.specs.Rows.{binding_of}
use Rattle.settings_text.proofs.Tables.{item_read}
use Rattle.settings_text.proofs.rows.acls.Goals as goal

pub loop-value-preserved : goal.loop-value-preserved
loop-value-preserved c =
    let items = c.in_ok-value-items.value-items.now in
    let here : binding_of (view (get_or items c.loop-value.value-index c.value-item.result)) ≡ Some c.in_ok-binding.field-0 = rw (sym c.value-item.is) c.in_ok-binding.ensures in
    rw c.in_ok-push.ensures.ok
    (item_read binding_of items c.loop-value.value-index c.value-item.result c.loop-value-test.true c.loop-value.acls c.loop-value.invariant c.in_ok-binding.field-0 here)
