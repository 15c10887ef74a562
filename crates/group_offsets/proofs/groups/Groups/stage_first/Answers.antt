use Rattle.std.proofs.Common.{◌≡◌, ◌++◌, [], ◌∷◌, cond, ap, ◌∙◌, w64}
use Rattle.std.specs.Prelude.{Result, is_ok}
use Rattle.std.proofs.lemmas.Int.{to_z-of_z}
use Rattle.wire_types.specs.declared.error_code.ErrorCode.{ErrorCode}
use Rattle.group_offsets.specs.declared.group.Group.{Group}
use Rattle.group_offsets.specs.Group.{stage_group}
use Rattle.group_offsets.specs.Groups.{find_group}
use Rattle.group_offsets.proofs.Places.{none_at, kept_fresh, answered_fresh}
use Rattle.group_offsets.proofs.groups.Groups.stage_first.Goals as goal

pub keep-requires : goal.keep-requires
keep-requires c =
    ap (find_group c.args.self.now) (c.in_ok-answer.ensures.name ∙ ap (λ (g : Group). g.name) c.in_ok-group.ensures) ∙ none_at c.args.self.now c.args.metadata.now.group.now c.requires

pub returns-clause-groups : goal.returns-clause-groups
returns-clause-groups c =
    let own = to_z-of_z w64 c.args.producer c.ranges.producer in
    let made = rw (c.in_ok-group.ensures, own) at c.in_ok-answer.ensures.group in
    let answer = rw (c.in_ok-group.ensures, own) at c.in_ok-answer.ensures.answer in
    c.in_ok-keep.ensures.ok
    ∙ ap (λ (a : Result (Unit {0}) ErrorCode). cond (is_ok a) (c.args.self.now ++ c.stage.new.self ∷ []) c.args.self.now) answer
    ∙ kept_fresh c.args.self.now c.stage.new.self c.args.metadata.now.group.now (λ (g : Group). stage_group g c.args.producer c.args.metadata.now.generation c.args.metadata.now.member.now c.args.offset) c.requires made (c.in_ok-answer.ensures.name ∙ ap (λ (g : Group). g.name) c.in_ok-group.ensures)

pub returns-clause-answer : goal.returns-clause-answer
returns-clause-answer c =
    let own = to_z-of_z w64 c.args.producer c.ranges.producer in
    let answer = rw (c.in_ok-group.ensures, own) at c.in_ok-answer.ensures.answer in
    answer ∙ answered_fresh c.args.self.now c.args.metadata.now.group.now (λ (g : Group). stage_group g c.args.producer c.args.metadata.now.generation c.args.metadata.now.member.now c.args.offset) c.requires
