use Rattle.std.proofs.Common.{◌≡◌, true, false, is_some, sym, ◌∙◌, w64}
use Rattle.std.proofs.lemmas.Int.{to_z-of_z}
use Rattle.group_offsets.specs.Kept.{waits, has_row}
use Rattle.group_offsets.proofs.Reading.{has_already, added_once}
use Rattle.group_offsets.proofs.staged.enter.Goals as goal

pub returns-then-waits-clause-ok : goal.returns-then-waits-clause-ok
returns-then-waits-clause-ok c =
    let own = to_z-of_z w64 c.args.producer c.ranges.producer in
    let waiting : is_some (waits c.args.row.now c.args.producer) ≡ true = rw own at (sym c.waits.ensures ∙ c.if-waits.true) in
    has_already c.args.staged.now.entries c.args.at c.args.producer (c.requires.exact ∙ waiting)

pub returns-clause-once : goal.returns-clause-once
returns-clause-once c =
    let own = to_z-of_z w64 c.args.producer c.ranges.producer in
    let waiting : is_some (waits c.args.row.now c.args.producer) ≡ false = rw own at (sym c.waits.ensures ∙ c.if-waits.false) in
    let absent : has_row c.args.staged.now.entries c.args.producer c.args.at ≡ false = c.requires.exact ∙ waiting in
    added_once c.add.result c.args.staged.now.entries c.add.new.staged.entries c.args.producer c.args.at (rw own at c.add.ensures.ok) c.add.ensures.err absent c.requires.once
