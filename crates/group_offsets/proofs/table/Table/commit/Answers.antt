use Rattle.group_offsets.proofs.Partitions.{committed_table, committed_described}
use Rattle.group_offsets.proofs.table.Table.commit.Goals as goal

pub returns-clause-table : goal.returns-clause-table
returns-clause-table c =
    let t = c.row_for.new.self in
    committed_table t.rows.entries c.in_ok-at.at c.index_mut.result.now c.commit.new.self c.in_ok-at.ensures.within c.index_mut.ensures.value t.staged.entries c.commit.ensures.waiting c.row_for.ensures.table

pub returns-clause-ok : goal.returns-clause-ok
returns-clause-ok c = λ events last d.
    let t = c.row_for.new.self in
    committed_described t.rows.entries c.in_ok-at.at c.index_mut.result.now c.commit.new.self c.in_ok-at.ensures.within c.index_mut.ensures.value c.args.offset.now events c.args.place c.row_for.ensures.table.apart c.in_ok-at.ensures.place
    c.commit.ensures.committed c.commit.ensures.waiting last (c.row_for.ensures.same events d)
