use Rattle.std.proofs.Common.{rules, ◌∙◌, ap}
use Rattle.std.specs.Prelude.{FitsSigned}
use Rattle.std.specs.Int.{w64}
use Rattle.std.specs.Map.{lookup}
use Rattle.std.proofs.lemmas.Int.{to_z-of_z}
use Rattle.producer_state.specs.State.{is_key, judgment_by_state}
use Rattle.producer_state.proofs.Numbers.{not_below}
use Rattle.producer_state.proofs.Judging.{judged_alike}
use Rattle.producer_state.proofs.Table.{row_found}
use Rattle.producer_state.proofs.producers.Producers.judge.Goals as goal

pub returns-in-Some : goal.returns-in-Some
returns-in-Some c = λ log describes.
    let fits : FitsSigned w64 c.producer_id-producer.result = search rules in
    let spelled = to_z-of_z w64 c.producer_id-producer.result fits in
    judged_alike c.args.self.now log c.args.batch.now c.producer_id-producer.result c.judge.result c.producer_id-producer.ensures (not_below _ _ spelled c.if-producer-lt0.false)
    (c.judge.ensures ∙ ap (λ state. judgment_by_state state c.args.batch.now) (row_found c.args.self.now _ c.producer_id-producer.result c.in-Some.known.now spelled (c.in-Some.ensures.value ∙ ap (lookup (is_key _)) c.self.view_is)))
    describes
