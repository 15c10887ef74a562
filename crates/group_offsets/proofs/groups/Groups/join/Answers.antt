use Rattle.std.proofs.Common.{◌≡◌, ◌++◌, [], ◌∷◌, List, None, cond, sym, ap, ◌∙◌, ◌<ℤ◌, pos, subst}
use Rattle.std.specs.Prelude.{Result, is_ok}
use Rattle.std.specs.Map.{values_of}
use Rattle.std.specs.Option.{option_copied_mut}
use Rattle.std.proofs.lemmas.Result.{on_ok_weaker, on_err_weaker, IfOk-weaker}
use Rattle.wire_types.specs.declared.error_code.ErrorCode.{ErrorCode}
use Rattle.group_offsets.specs.declared.group.Group.{Group}
use Rattle.group_offsets.specs.declared.member.Joined.{Joined}
use Rattle.group_offsets.specs.Joining.{join_group}
use Rattle.group_offsets.specs.Groups.{place_of, group_of}
use Rattle.group_offsets.proofs.Named.{group_in, none_in, turned_in, answered_in, unchanged_in, named_in}
use Rattle.group_offsets.proofs.groups.Groups.join.Goals as goal

pub join-requires : goal.join-requires
join-requires c =
    let es = c.self.inside.table.entries in
    subst (λ (g : Group). g.generation <ℤ pos 2147483647) (ap (λ (gs : List Group). group_of gs c.args.request.now.group) (sym c.self.view_is) ∙ group_in es c.as_str.result.now c.args.request.now.group c.in-Some.group.now c.as_str.ensures c.self.invariant.named c.in-Some.ensures.value) c.requires.generation

pub invariant_of-self : goal.invariant_of-self
invariant_of-self c =
    let es = c.self.inside.table.entries in
    record {
      named = named_in es (c.get_mut.follows.lender c.join.new.self).entries c.as_str.result.now c.in-Some.group.now c.join.new.self c.in-Some.ensures.value (c.get_mut.follows.holds c.join.new.self).0 c.join.ensures.name c.self.invariant.named;
      empty = c.self.invariant.empty;
    }

pub returns-in-Some-clause-groups : goal.returns-in-Some-clause-groups
returns-in-Some-clause-groups c =
    let es = c.self.inside.table.entries in
    rw (← c.self.view_is) (on_ok_weaker c.join.result (λ made. turned_in es (c.get_mut.follows.lender c.join.new.self).entries c.as_str.result.now c.args.request.now.group c.in-Some.group.now c.join.new.self (λ (g : Group). join_group g c.args.request.now c.args.place c.args.moment) c.as_str.ensures c.self.invariant.named c.in-Some.ensures.value (c.get_mut.follows.holds c.join.new.self).0 made c.join.ensures.name) c.join.ensures.group)

pub returns-in-Some-clause-answer : goal.returns-in-Some-clause-answer
returns-in-Some-clause-answer c =
    let es = c.self.inside.table.entries in
    rw (← c.self.view_is) (IfOk-weaker c.join.result _ _ (λ answer e. e ∙ answered_in es c.as_str.result.now c.args.request.now.group c.in-Some.group.now (λ (g : Group). join_group g c.args.request.now c.args.place c.args.moment) c.as_str.ensures c.self.invariant.named c.in-Some.ensures.value) c.join.ensures.answer)

pub returns-in-Some-clause-err : goal.returns-in-Some-clause-err
returns-in-Some-clause-err c =
    let es = c.self.inside.table.entries in
    rw (← c.self.view_is) (on_err_weaker c.join.result (λ same. unchanged_in es (c.get_mut.follows.lender c.join.new.self).entries c.as_str.result.now c.in-Some.group.now c.join.new.self c.in-Some.ensures.value (c.get_mut.follows.holds c.join.new.self).0 same) c.join.ensures.err)

pub join_first-requires : goal.join_first-requires
join_first-requires c =
    let es = c.self.inside.table.entries in
    let same : values_of c.get_mut.follows.lender-at-none.entries ≡ c.args.self.now = ap (λ m. values_of m.entries) c.get_mut.follows.holds-at-none ∙ c.self.view_is in
    let none : place_of c.args.self.now c.args.request.now.group ≡ None = ap (λ (gs : List Group). place_of gs c.args.request.now.group) (sym c.self.view_is) ∙ none_in es c.as_str.result.now c.args.request.now.group c.as_str.ensures c.self.invariant.named (sym (ap option_copied_mut c.in_default.is) ∙ c.get_mut.ensures.value) in
    ap (λ (gs : List Group). place_of gs c.args.request.now.group) same ∙ none

pub returns-clause-groups : goal.returns-clause-groups
returns-clause-groups c =
    let same : values_of c.get_mut.follows.lender-at-none.entries ≡ c.args.self.now = ap (λ m. values_of m.entries) c.get_mut.follows.holds-at-none ∙ c.self.view_is in
    rw (same) at c.join_first.ensures.groups

pub returns-clause-answer : goal.returns-clause-answer
returns-clause-answer c =
    let same : values_of c.get_mut.follows.lender-at-none.entries ≡ c.args.self.now = ap (λ m. values_of m.entries) c.get_mut.follows.holds-at-none ∙ c.self.view_is in
    rw (same) at c.join_first.ensures.answer

pub returns-clause-err : goal.returns-clause-err
returns-clause-err c =
    let same : values_of c.get_mut.follows.lender-at-none.entries ≡ c.args.self.now = ap (λ m. values_of m.entries) c.get_mut.follows.holds-at-none ∙ c.self.view_is in
    rw same at c.join_first.ensures.err
