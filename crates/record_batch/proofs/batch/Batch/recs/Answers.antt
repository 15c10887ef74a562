use Rattle.std.proofs.Common.{◌≡◌, ℕ, List, length, refl, sym, ap, subst, ◌∙◌, arith}
use Rattle.std.specs.Prelude.{slice_range}
use Rattle.record_batch.specs.Batch.{BatchData, IsBatch, batch_of_bytes}
use Rattle.record_batch.proofs.Kept.{batch_long, offsets_fit, recs_placed, none_malformed}
use Rattle.record_batch.proofs.Placed.{placed_is, read_now}
use Rattle.record_batch.proofs.batch.Batch.recs.Goals as goal

pub slice-requires : goal.slice-requires
slice-requires c = (omega (arith, c.len.ensures, batch_long _ c.self.invariant.0), omega (arith, c.len.ensures))

pub read_records-requires : goal.read_records-requires
read_records-requires c =
    let now : IsBatch c.args.self.now = subst IsBatch c.self.view_is (placed_is c.self.inside.placed (batch_of_bytes c.self.inside.marker c.self.inside.bytes) c.self.invariant.1 c.self.invariant.0) in
    rw (c.count.ensures, c.header-header.ensures) (offsets_fit c.args.self.now now c.requires)

pub returns-in-Ok : goal.returns-in-Ok
returns-in-Ok c =
    let whole = batch_of_bytes c.self.inside.marker c.self.inside.bytes in
    let now : IsBatch c.args.self.now = subst IsBatch c.self.view_is (placed_is c.self.inside.placed whole c.self.invariant.1 c.self.invariant.0) in
    let over : c.over-cursor.result ≡ slice_range c.self.inside.bytes 61 (length c.self.inside.bytes) = c.over-cursor.ensures ∙ c.in_ok-body.ensures ∙ ap (slice_range c.self.inside.bytes 61) c.len.ensures in
    recs_placed c.args.self.now c.args.self.now _ c.in-Ok.recs _ now refl
    (read_now c.self.inside.placed whole c.args.self.now c.header-header.result c.count.result c.over-cursor.result c.self.invariant.0 c.self.view_is now c.header-header.ensures c.count.ensures over) c.in-Ok.ensures

pub unreachable-requires : goal.unreachable-requires
unreachable-requires c =
    let whole = batch_of_bytes c.self.inside.marker c.self.inside.bytes in
    let now : IsBatch c.args.self.now = subst IsBatch c.self.view_is (placed_is c.self.inside.placed whole c.self.invariant.1 c.self.invariant.0) in
    let over : c.over-cursor.result ≡ slice_range c.self.inside.bytes 61 (length c.self.inside.bytes) = c.over-cursor.ensures ∙ c.in_ok-body.ensures ∙ ap (slice_range c.self.inside.bytes 61) c.len.ensures in
    none_malformed c.args.self.now _ c.in-Err-Malformed.field-0 c.in-Err-Malformed.field-0-0 _ now
    (read_now c.self.inside.placed whole c.args.self.now c.header-header.result c.count.result c.over-cursor.result c.self.invariant.0 c.self.view_is now c.header-header.ensures c.count.ensures over) c.in-Err-Malformed.field-0-is c.in-Err-Malformed.ensures
