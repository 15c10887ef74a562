use Rattle.std.proofs.Common.{ℤ, ℕ, List, ap, ◌∙◌, w32, to_z, of_z}
use Rattle.std.proofs.lemmas.Int.{to_z-of_z}
use Rattle.group_offsets.specs.Kept.{place_in}
use Rattle.group_offsets.proofs.table.Table.place_of.Goals as goal

pub returns : goal.returns
unfolding place_in
returns c =
    let key : ℤ = to_z w32 (of_z w32 c.args.index) in
    c.get_index_of.ensures.index
    ∙ ap (λ (t : List ℕ). place_in c.args.self.now.rows.entries t key) c.as_str.ensures
    ∙ ap (place_in c.args.self.now.rows.entries c.args.topic.now) (to_z-of_z w32 c.args.index c.ranges.index)
