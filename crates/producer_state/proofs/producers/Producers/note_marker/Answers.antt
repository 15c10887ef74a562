use Rattle.std.proofs.Common.{rules, ◌≡◌, ◌∙◌, ap, refl, None}
use Rattle.std.specs.Int.{w16, w64}
use Rattle.std.specs.Map.{lookup}
use Rattle.std.proofs.lemmas.Int.{to_z-of_z}
use Rattle.producer_state.specs.State.{is_key, kept_state}
use Rattle.producer_state.proofs.Table.{marker_noted, row_found, row_entered, told_found, told_none}
use Rattle.producer_state.proofs.producers.Producers.note_marker.Goals as goal

pub returns-in-Some-clause-ok : goal.returns-in-Some-clause-ok
returns-in-Some-clause-ok c = λ log marker marks describes.
    let spelled = to_z-of_z w64 c.args.producer c.ranges.producer in
    marker_noted c.args.self.now (c.get_mut.follows.lender c.update_epoch.new.self).entries log marker c.args.producer c.args.epoch c.update_epoch.new.self c.args.producer _ c.args.producer
    refl (to_z-of_z w16 c.args.epoch c.ranges.epoch) refl marks
    (told_found c.args.self.now c.args.producer _ c.in-Some.known.now c.update_epoch.new.self (row_found c.args.self.now _ c.args.producer c.in-Some.known.now spelled (c.in-Some.ensures.value ∙ ap (lookup (is_key _)) c.self.view_is)) c.update_epoch.ensures)
    (λ id. ((c.get_mut.follows.holds c.update_epoch.new.self).3 (search rules)).0 id ∙ row_entered c.args.self.now c.args.producer _ id c.update_epoch.new.self _ spelled (ap (λ table. kept_state table id) c.self.view_is))
    describes

pub returns-clause-ok : goal.returns-clause-ok
returns-clause-ok c = λ log marker marks describes.
    let spelled = to_z-of_z w64 c.args.producer c.ranges.producer in
    let none : kept_state c.args.self.now c.args.producer ≡ None = search rules in
    marker_noted c.args.self.now c.insert.new.self.entries log marker c.args.producer c.args.epoch c.in_ok-known.known c.args.producer _ c.args.producer
    refl (to_z-of_z w16 c.args.epoch c.ranges.epoch) refl marks
    (told_none c.args.self.now c.args.producer _ c.in_ok-known.known none c.in_ok-known.ensures)
    (λ id. c.in_ok-insert.ensures.updates.0 id ∙ row_entered c.args.self.now c.args.producer _ id c.in_ok-known.known _ spelled (ap (λ m. kept_state m.entries id) c.get_mut.follows.holds-at-none ∙ ap (λ table. kept_state table id) c.self.view_is))
    describes
