use Rattle.std.proofs.Common.{◌≡◌, None, Some, ap, sym, ◌∙◌, arith, rules}
use Rattle.std.proofs.lemmas.Map.Entries.{length-values_of}
use Rattle.group_offsets.specs.Kept.{place_in}
use Rattle.group_offsets.proofs.Partitions.{table_moved, described_moved, entered_table, entered_described, entered_place}
use Rattle.group_offsets.proofs.table.Table.row_for.Goals as goal

pub returns-in-Some-clause-within : goal.returns-in-Some-clause-within
returns-in-Some-clause-within c =
    let es = c.args.self.now.rows.entries in
    let found : place_in es c.args.offset.now.topic c.args.offset.now.index ≡ Some c.in-Some.at = search rules in
    omega (arith, c.requires.within c.args.offset.now.topic c.args.offset.now.index c.in-Some.at found, length-values_of es)

pub returns-in_err-at-clause-table : goal.returns-in_err-at-clause-table
returns-in_err-at-clause-table c = table_moved c.args.self.now.rows.entries c.insert_full.new.self.entries c.args.self.now.staged.entries c.in_err-at.ensures.err c.requires

pub returns-in_err-at-clause-same : goal.returns-in_err-at-clause-same
returns-in_err-at-clause-same c = λ events d. described_moved c.args.self.now.rows.entries c.insert_full.new.self.entries events c.in_err-at.ensures.err d

pub returns-clause-table : goal.returns-clause-table
returns-clause-table c =
    let t = c.args.self.now in
    let o = c.args.offset.now in
    let absent : place_in t.rows.entries o.topic o.index ≡ None = search rules in
    entered_table t.rows c.insert_full.new.self c.in_ok-partition.partition c.new.result o.topic o.index c.in_ok-partition.ensures.topic c.in_ok-partition.ensures.index absent c.in_ok-at.ensures.entries t.staged.entries c.new.ensures.waiting c.requires

pub returns-clause-same : goal.returns-clause-same
returns-clause-same c = λ events d.
    let t = c.args.self.now in
    let o = c.args.offset.now in
    let absent : place_in t.rows.entries o.topic o.index ≡ None = search rules in
    entered_described t.rows c.insert_full.new.self c.in_ok-partition.partition c.new.result o.topic o.index c.in_ok-partition.ensures.topic c.in_ok-partition.ensures.index absent c.in_ok-at.ensures.entries events c.new.ensures.committed c.new.ensures.waiting d

pub returns-clause-place : goal.returns-clause-place
returns-clause-place c =
    let t = c.args.self.now in
    let o = c.args.offset.now in
    let absent : place_in t.rows.entries o.topic o.index ≡ None = search rules in
    entered_place t.rows c.insert_full.new.self c.in_ok-partition.partition c.new.result o.topic o.index c.in_ok-partition.ensures.topic c.in_ok-partition.ensures.index absent c.in_ok-at.ensures.entries ∙ ap Some (sym c.in_ok-at.ensures.index)
