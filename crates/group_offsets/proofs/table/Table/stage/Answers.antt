use Rattle.std.proofs.Common.{◌≡◌, List, ap, ◌∙◌, is_some, ℤ, w64, to_z, of_z}
use Rattle.std.specs.Option.{option_and_then}
use Rattle.std.specs.Map.{values_of}
use Rattle.std.proofs.lemmas.Int.{to_z-of_z}
use Rattle.indexmap.specs.IndexMap.{set_value_at}
use Rattle.group_offsets.specs.declared.event.OffsetEvent.{OffsetEvent}
use Rattle.group_offsets.specs.declared.row.Row.{Row}
use Rattle.group_offsets.specs.Kept.{waits, place_in, Describes, DescribesBy}
use Rattle.group_offsets.proofs.Reading.{same_staged, on_err}
use Rattle.group_offsets.proofs.Partitions.{still_within, still_stands, row_written, same_row_table, same_row_described, staged_table, staged_described}
use Rattle.group_offsets.proofs.table.Table.stage.Goals as goal

pub returns-in_err-reserve-clause-table : goal.returns-in_err-reserve-clause-table
returns-in_err-reserve-clause-table c =
    let t = c.row_for.new.self in
    same_row_table t.rows.entries c.in_ok-at.at c.index_mut.result.now c.reserve.new.self c.in_ok-at.ensures.within c.index_mut.ensures.value t.staged.entries c.reserve.ensures.same c.row_for.ensures.table

pub returns-in_err-reserve-clause-err : goal.returns-in_err-reserve-clause-err
returns-in_err-reserve-clause-err c =
    let t = c.row_for.new.self in
    let rows = set_value_at t.rows.entries c.in_ok-at.at c.reserve.new.self in
    let still : (events : List OffsetEvent) → Describes c.args.self.now events → DescribesBy (place_in rows) (values_of rows) events =
    λ events d. same_row_described t.rows.entries c.in_ok-at.at c.index_mut.result.now c.reserve.new.self c.in_ok-at.ensures.within c.index_mut.ensures.value events c.reserve.ensures.same (c.row_for.ensures.same events d) in
    on_err _ still

pub index-requires : goal.index-requires
index-requires c =
    let t = c.row_for.new.self in
    still_within t.rows.entries c.in_ok-at.at c.index_mut.result.now c.reserve.new.self c.in_ok-at.ensures.within c.index_mut.ensures.value

pub enter-requires-clause-exact : goal.enter-requires-clause-exact
enter-requires-clause-exact c =
    let t = c.row_for.new.self in
    let key : ℤ = to_z w64 (of_z w64 c.args.producer) in
    let reserved = same_row_table t.rows.entries c.in_ok-at.at c.index_mut.result.now c.reserve.new.self c.in_ok-at.ensures.within c.index_mut.ensures.value t.staged.entries c.reserve.ensures.same c.row_for.ensures.table in
    reserved.exact key c.in_ok-at.at ∙ ap is_some (ap (option_and_then (λ (x : Row). waits x key)) c.index.ensures)

pub returns-in_err-enter-clause-table : goal.returns-in_err-enter-clause-table
returns-in_err-enter-clause-table c =
    let t = c.row_for.new.self in
    let rows = set_value_at t.rows.entries c.in_ok-at.at c.reserve.new.self in
    let reserved = same_row_table t.rows.entries c.in_ok-at.at c.index_mut.result.now c.reserve.new.self c.in_ok-at.ensures.within c.index_mut.ensures.value t.staged.entries c.reserve.ensures.same c.row_for.ensures.table in
    same_staged (place_in rows) (values_of rows) t.staged.entries c.enter.new.staged.entries c.in_err-enter.ensures.err c.enter.ensures.once reserved

pub returns-in_err-enter-clause-err : goal.returns-in_err-enter-clause-err
returns-in_err-enter-clause-err c =
    let t = c.row_for.new.self in
    let rows = set_value_at t.rows.entries c.in_ok-at.at c.reserve.new.self in
    let still : (events : List OffsetEvent) → Describes c.args.self.now events → DescribesBy (place_in rows) (values_of rows) events =
    λ events d. same_row_described t.rows.entries c.in_ok-at.at c.index_mut.result.now c.reserve.new.self c.in_ok-at.ensures.within c.index_mut.ensures.value events c.reserve.ensures.same (c.row_for.ensures.same events d) in
    on_err _ still

pub index_mut-requires-2 : goal.index_mut-requires-2
index_mut-requires-2 c =
    let t = c.row_for.new.self in
    still_within t.rows.entries c.in_ok-at.at c.index_mut.result.now c.reserve.new.self c.in_ok-at.ensures.within c.index_mut.ensures.value

pub stage-requires : goal.stage-requires
stage-requires c =
    let t = c.row_for.new.self in
    let same : c.index_mut-2.result.now ≡ c.reserve.new.self = row_written t.rows.entries c.in_ok-at.at c.index_mut.result.now c.reserve.new.self c.in_ok-at.ensures.within c.index_mut.ensures.value _ c.index_mut-2.ensures.value in
    rw same c.in_ok-reserve.ensures.ok

pub returns-clause-table : goal.returns-clause-table
returns-clause-table c =
    let t = c.row_for.new.self in
    let at = c.in_ok-at.at in
    let own = to_z-of_z w64 c.args.producer c.ranges.producer in
    let within = still_within t.rows.entries at c.index_mut.result.now c.reserve.new.self c.in_ok-at.ensures.within c.index_mut.ensures.value in
    let reserved = same_row_table t.rows.entries at c.index_mut.result.now c.reserve.new.self c.in_ok-at.ensures.within c.index_mut.ensures.value t.staged.entries c.reserve.ensures.same c.row_for.ensures.table in
    staged_table (set_value_at t.rows.entries at c.reserve.new.self) at c.index_mut-2.result.now c.stage.new.self within c.index_mut-2.ensures.value t.staged.entries c.enter.new.staged.entries c.args.producer c.args.place
    (rw own at c.stage.ensures) (rw own at c.in_ok-enter.ensures.ok) c.enter.ensures.once reserved

pub returns-clause-ok : goal.returns-clause-ok
returns-clause-ok c = λ events last d.
    let t = c.row_for.new.self in
    let at = c.in_ok-at.at in
    let o = c.args.offset.now in
    let own = to_z-of_z w64 c.args.producer c.ranges.producer in
    let within = still_within t.rows.entries at c.index_mut.result.now c.reserve.new.self c.in_ok-at.ensures.within c.index_mut.ensures.value in
    let reserved = same_row_table t.rows.entries at c.index_mut.result.now c.reserve.new.self c.in_ok-at.ensures.within c.index_mut.ensures.value t.staged.entries c.reserve.ensures.same c.row_for.ensures.table in
    let stands = still_stands t.rows.entries at c.index_mut.result.now c.reserve.new.self c.in_ok-at.ensures.within c.index_mut.ensures.value o.topic o.index c.in_ok-at.ensures.place in
    let described = same_row_described t.rows.entries at c.index_mut.result.now c.reserve.new.self c.in_ok-at.ensures.within c.index_mut.ensures.value events c.reserve.ensures.same (c.row_for.ensures.same events d) in
    staged_described (set_value_at t.rows.entries at c.reserve.new.self) at c.index_mut-2.result.now c.stage.new.self within c.index_mut-2.ensures.value c.args.producer o events c.args.place reserved.apart stands (rw own at c.stage.ensures) last described
