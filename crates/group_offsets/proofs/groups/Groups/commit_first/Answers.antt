use Rattle.std.proofs.Common.{◌≡◌, ◌++◌, [], ◌∷◌, cond, ap, ◌∙◌}
use Rattle.std.specs.Prelude.{Result, is_ok}
use Rattle.wire_types.specs.declared.error_code.ErrorCode.{ErrorCode}
use Rattle.group_offsets.specs.declared.group.Group.{Group}
use Rattle.group_offsets.specs.Group.{commit_group}
use Rattle.group_offsets.specs.Groups.{find_group}
use Rattle.group_offsets.proofs.Places.{none_at, kept_fresh, answered_fresh}
use Rattle.group_offsets.proofs.groups.Groups.commit_first.Goals as goal

pub keep-requires : goal.keep-requires
keep-requires c =
    ap (find_group c.args.self.now) (c.in_ok-answer.ensures.name ∙ ap (λ (g : Group). g.name) c.in_ok-group.ensures) ∙ none_at c.args.self.now c.args.metadata.now.group.now c.requires

pub returns-clause-groups : goal.returns-clause-groups
returns-clause-groups c =
    let made = rw c.in_ok-group.ensures at c.in_ok-answer.ensures.group in
    let answer = rw c.in_ok-group.ensures at c.in_ok-answer.ensures.answer in
    c.in_ok-keep.ensures.ok
    ∙ ap (λ (a : Result (Unit {0}) ErrorCode). cond (is_ok a) (c.args.self.now ++ c.commit.new.self ∷ []) c.args.self.now) answer
    ∙ kept_fresh c.args.self.now c.commit.new.self c.args.metadata.now.group.now (λ (g : Group). commit_group g c.args.metadata.now.generation c.args.metadata.now.member.now c.args.offset) c.requires made (c.in_ok-answer.ensures.name ∙ ap (λ (g : Group). g.name) c.in_ok-group.ensures)

pub returns-clause-answer : goal.returns-clause-answer
returns-clause-answer c =
    let answer = rw c.in_ok-group.ensures at c.in_ok-answer.ensures.answer in
    answer ∙ answered_fresh c.args.self.now c.args.metadata.now.group.now (λ (g : Group). commit_group g c.args.metadata.now.generation c.args.metadata.now.member.now c.args.offset) c.requires
