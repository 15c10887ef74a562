use Rattle.std.proofs.Common.{◌≡◌, ◌++◌, [], ◌∷◌, List, None, cond, sym, ap, ◌∙◌, w64}
use Rattle.std.specs.Prelude.{Result, is_ok}
use Rattle.std.specs.Map.{values_of}
use Rattle.std.specs.Option.{option_copied_mut}
use Rattle.std.proofs.lemmas.Int.{to_z-of_z}
use Rattle.std.proofs.lemmas.Result.{on_ok_weaker, on_err_weaker, IfOk-weaker}
use Rattle.wire_types.specs.declared.error_code.ErrorCode.{ErrorCode}
use Rattle.group_offsets.specs.declared.group.Group.{Group}
use Rattle.group_offsets.specs.Group.{stage_group}
use Rattle.group_offsets.specs.Groups.{place_of}
use Rattle.group_offsets.proofs.Named.{none_in, turned_in, answered_in, unchanged_in, named_in}
use Rattle.group_offsets.proofs.groups.Groups.stage.Goals as goal

pub invariant_of-self : goal.invariant_of-self
invariant_of-self c =
    let es = c.self.inside.table.entries in
    record {
      named = named_in es (c.get_mut.follows.lender c.stage.new.self).entries c.as_str.result.now c.in-Some.group.now c.stage.new.self c.in-Some.ensures.value (c.get_mut.follows.holds c.stage.new.self).0 c.stage.ensures.name c.self.invariant.named;
      empty = c.self.invariant.empty;
    }

pub returns-in-Some-clause-groups : goal.returns-in-Some-clause-groups
returns-in-Some-clause-groups c =
    let own = to_z-of_z w64 c.args.producer c.ranges.producer in
    let es = c.self.inside.table.entries in
    rw (← c.self.view_is) (on_ok_weaker c.stage.result (λ made. turned_in es (c.get_mut.follows.lender c.stage.new.self).entries c.as_str.result.now c.args.metadata.now.group.now c.in-Some.group.now c.stage.new.self (λ (g : Group). stage_group g c.args.producer c.args.metadata.now.generation c.args.metadata.now.member.now c.args.offset) c.as_str.ensures c.self.invariant.named c.in-Some.ensures.value (c.get_mut.follows.holds c.stage.new.self).0 made c.stage.ensures.name) (rw own at c.stage.ensures.group))

pub returns-in-Some-clause-answer : goal.returns-in-Some-clause-answer
returns-in-Some-clause-answer c =
    let own = to_z-of_z w64 c.args.producer c.ranges.producer in
    let es = c.self.inside.table.entries in
    rw (← c.self.view_is) (IfOk-weaker c.stage.result _ _ (λ answer e. e ∙ answered_in es c.as_str.result.now c.args.metadata.now.group.now c.in-Some.group.now (λ (g : Group). stage_group g c.args.producer c.args.metadata.now.generation c.args.metadata.now.member.now c.args.offset) c.as_str.ensures c.self.invariant.named c.in-Some.ensures.value) (rw own at c.stage.ensures.answer))

pub returns-in-Some-clause-err : goal.returns-in-Some-clause-err
returns-in-Some-clause-err c =
    let es = c.self.inside.table.entries in
    rw (← c.self.view_is) (on_err_weaker c.stage.result (λ same. unchanged_in es (c.get_mut.follows.lender c.stage.new.self).entries c.as_str.result.now c.in-Some.group.now c.stage.new.self c.in-Some.ensures.value (c.get_mut.follows.holds c.stage.new.self).0 same) c.stage.ensures.err)

pub stage_first-requires : goal.stage_first-requires
stage_first-requires c =
    let es = c.self.inside.table.entries in
    let same : values_of c.get_mut.follows.lender-at-none.entries ≡ c.args.self.now = ap (λ m. values_of m.entries) c.get_mut.follows.holds-at-none ∙ c.self.view_is in
    let none : place_of c.args.self.now c.args.metadata.now.group.now ≡ None = ap (λ (gs : List Group). place_of gs c.args.metadata.now.group.now) (sym c.self.view_is) ∙ none_in es c.as_str.result.now c.args.metadata.now.group.now c.as_str.ensures c.self.invariant.named (sym (ap option_copied_mut c.in_default.is) ∙ c.get_mut.ensures.value) in
    ap (λ (gs : List Group). place_of gs c.args.metadata.now.group.now) same ∙ none

pub returns-clause-groups : goal.returns-clause-groups
returns-clause-groups c =
    let own = to_z-of_z w64 c.args.producer c.ranges.producer in
    let same : values_of c.get_mut.follows.lender-at-none.entries ≡ c.args.self.now = ap (λ m. values_of m.entries) c.get_mut.follows.holds-at-none ∙ c.self.view_is in
    rw (same, own) at c.stage_first.ensures.groups

pub returns-clause-answer : goal.returns-clause-answer
returns-clause-answer c =
    let own = to_z-of_z w64 c.args.producer c.ranges.producer in
    let same : values_of c.get_mut.follows.lender-at-none.entries ≡ c.args.self.now = ap (λ m. values_of m.entries) c.get_mut.follows.holds-at-none ∙ c.self.view_is in
    rw (same, own) at c.stage_first.ensures.answer

pub returns-clause-err : goal.returns-clause-err
returns-clause-err c =
    let same : values_of c.get_mut.follows.lender-at-none.entries ≡ c.args.self.now = ap (λ m. values_of m.entries) c.get_mut.follows.holds-at-none ∙ c.self.view_is in
    rw same at c.stage_first.ensures.err
