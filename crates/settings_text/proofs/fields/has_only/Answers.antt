use Rattle.std.proofs.Common.{◌∙◌}
use Rattle.settings_text.proofs.Tables.{has_only_keys}
use Rattle.settings_text.proofs.fields.has_only.Goals as goal

pub returns : goal.returns
returns c = c.are_among.ensures ∙ has_only_keys c.args.known.now c.args.table.now.entries
