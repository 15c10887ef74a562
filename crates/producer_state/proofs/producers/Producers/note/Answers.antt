use Rattle.std.proofs.Common.{rules, ◌≡◌, ◌∙◌, ap, refl, None}
use Rattle.std.specs.Prelude.{FitsSigned}
use Rattle.std.specs.Int.{w16, w64}
use Rattle.std.specs.Map.{lookup}
use Rattle.std.proofs.lemmas.Int.{to_z-of_z}
use Rattle.producer_state.specs.State.{is_key, kept_state}
use Rattle.producer_state.proofs.Numbers.{not_below}
use Rattle.producer_state.proofs.Table.{batch_noted, row_found, row_entered, told_found, told_none}
use Rattle.producer_state.proofs.producers.Producers.note.Goals as goal

pub returns-in-Some-clause-ok : goal.returns-in-Some-clause-ok
returns-in-Some-clause-ok c = λ log describes.
    let fits : FitsSigned w64 c.producer_id-producer.result = search rules in
    let epoch_fits : FitsSigned w16 c.producer_epoch.result = search rules in
    let spelled = to_z-of_z w64 c.producer_id-producer.result fits in
    batch_noted c.args.self.now (c.get_mut.follows.lender c.note.new.self).entries log c.args.batch.now c.args.offset c.producer_id-producer.result c.producer_epoch.result c.update_epoch.new.self c.note.new.self c.producer_id-producer.result _ _ c.producer_id-producer.result
    refl (to_z-of_z w16 c.producer_epoch.result epoch_fits) (to_z-of_z w64 c.args.offset c.ranges.offset) refl
    c.producer_id-producer.ensures c.producer_epoch.ensures (not_below _ _ spelled c.if-producer-lt0.false)
    (told_found c.args.self.now c.producer_id-producer.result _ c.in-Some.known.now c.update_epoch.new.self (row_found c.args.self.now _ c.producer_id-producer.result c.in-Some.known.now spelled (c.in-Some.ensures.value ∙ ap (lookup (is_key _)) c.self.view_is)) c.update_epoch.ensures)
    c.note.ensures
    (λ id. ((c.get_mut.follows.holds c.note.new.self).3 (search rules)).0 id ∙ row_entered c.args.self.now c.producer_id-producer.result _ id c.note.new.self _ spelled (ap (λ table. kept_state table id) c.self.view_is))
    describes

pub returns-clause-ok : goal.returns-clause-ok
returns-clause-ok c = λ log describes.
    let fits : FitsSigned w64 c.producer_id-producer.result = search rules in
    let epoch_fits : FitsSigned w16 c.producer_epoch-2.result = search rules in
    let spelled = to_z-of_z w64 c.producer_id-producer.result fits in
    let none : kept_state c.args.self.now c.producer_id-producer.result ≡ None = search rules in
    batch_noted c.args.self.now c.insert.new.self.entries log c.args.batch.now c.args.offset c.producer_id-producer.result c.producer_epoch-2.result c.in_ok-known.known c.note-2.new.self c.producer_id-producer.result _ _ c.producer_id-producer.result
    refl (to_z-of_z w16 c.producer_epoch-2.result epoch_fits) (to_z-of_z w64 c.args.offset c.ranges.offset) refl
    c.producer_id-producer.ensures c.producer_epoch-2.ensures (not_below _ _ spelled c.if-producer-lt0.false)
    (told_none c.args.self.now c.producer_id-producer.result _ c.in_ok-known.known none c.in_ok-known.ensures)
    c.note-2.ensures
    (λ id. c.in_ok-insert.ensures.updates.0 id ∙ row_entered c.args.self.now c.producer_id-producer.result _ id c.note-2.new.self _ spelled (ap (λ m. kept_state m.entries id) c.get_mut.follows.holds-at-none ∙ ap (λ table. kept_state table id) c.self.view_is))
    describes
