use Rattle.std.proofs.Common.{ℤ, ℕ, List, ap, ◌∙◌, w32, to_z, of_z}
use Rattle.std.specs.Map.{lookup}
use Rattle.std.proofs.lemmas.Int.{to_z-of_z}
use Rattle.group_offsets.specs.Partitions.{is_key}
use Rattle.group_offsets.proofs.Partitions.{row_found}
use Rattle.group_offsets.proofs.table.Table.row.Goals as goal

pub returns : goal.returns
returns c =
    let es = c.args.self.now.rows.entries in
    let key : ℤ = to_z w32 (of_z w32 c.args.index) in
    c.get.ensures.value
    ∙ ap (λ (t : List ℕ). lookup (is_key t key) es) c.as_str.ensures
    ∙ ap (λ (i : ℤ). lookup (is_key c.args.topic.now i) es) (to_z-of_z w32 c.args.index c.ranges.index)
    ∙ row_found es c.args.topic.now c.args.index
