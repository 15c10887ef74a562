use Rattle.std.proofs.Common.{◌≡◌, ◌++◌, [], ◌∷◌, List, None, cond, sym, ap, ◌∙◌}
use Rattle.std.specs.Prelude.{Result, is_ok}
use Rattle.std.specs.Map.{values_of}
use Rattle.std.specs.Option.{option_copied_mut}
use Rattle.std.proofs.lemmas.Result.{on_ok_weaker, on_err_weaker, IfOk-weaker}
use Rattle.wire_types.specs.declared.error_code.ErrorCode.{ErrorCode}
use Rattle.group_offsets.specs.declared.group.Group.{Group}
use Rattle.group_offsets.specs.Group.{commit_group}
use Rattle.group_offsets.specs.Groups.{place_of}
use Rattle.group_offsets.proofs.Named.{none_in, turned_in, answered_in, unchanged_in, named_in}
use Rattle.group_offsets.proofs.groups.Groups.commit.Goals as goal

pub invariant_of-self : goal.invariant_of-self
invariant_of-self c =
    let es = c.self.inside.table.entries in
    record {
      named = named_in es (c.get_mut.follows.lender c.commit.new.self).entries c.as_str.result.now c.in-Some.group.now c.commit.new.self c.in-Some.ensures.value (c.get_mut.follows.holds c.commit.new.self).0 c.commit.ensures.name c.self.invariant.named;
      empty = c.self.invariant.empty;
    }

pub returns-in-Some-clause-groups : goal.returns-in-Some-clause-groups
returns-in-Some-clause-groups c =
    let es = c.self.inside.table.entries in
    rw (← c.self.view_is) (on_ok_weaker c.commit.result (λ made. turned_in es (c.get_mut.follows.lender c.commit.new.self).entries c.as_str.result.now c.args.metadata.now.group.now c.in-Some.group.now c.commit.new.self (λ (g : Group). commit_group g c.args.metadata.now.generation c.args.metadata.now.member.now c.args.offset) c.as_str.ensures c.self.invariant.named c.in-Some.ensures.value (c.get_mut.follows.holds c.commit.new.self).0 made c.commit.ensures.name) c.commit.ensures.group)

pub returns-in-Some-clause-answer : goal.returns-in-Some-clause-answer
returns-in-Some-clause-answer c =
    let es = c.self.inside.table.entries in
    rw (← c.self.view_is) (IfOk-weaker c.commit.result _ _ (λ answer e. e ∙ answered_in es c.as_str.result.now c.args.metadata.now.group.now c.in-Some.group.now (λ (g : Group). commit_group g c.args.metadata.now.generation c.args.metadata.now.member.now c.args.offset) c.as_str.ensures c.self.invariant.named c.in-Some.ensures.value) c.commit.ensures.answer)

pub returns-in-Some-clause-err : goal.returns-in-Some-clause-err
returns-in-Some-clause-err c =
    let es = c.self.inside.table.entries in
    rw (← c.self.view_is) (on_err_weaker c.commit.result (λ same. unchanged_in es (c.get_mut.follows.lender c.commit.new.self).entries c.as_str.result.now c.in-Some.group.now c.commit.new.self c.in-Some.ensures.value (c.get_mut.follows.holds c.commit.new.self).0 same) c.commit.ensures.err)

pub commit_first-requires : goal.commit_first-requires
commit_first-requires c =
    let es = c.self.inside.table.entries in
    let same : values_of c.get_mut.follows.lender-at-none.entries ≡ c.args.self.now = ap (λ m. values_of m.entries) c.get_mut.follows.holds-at-none ∙ c.self.view_is in
    let none : place_of c.args.self.now c.args.metadata.now.group.now ≡ None = ap (λ (gs : List Group). place_of gs c.args.metadata.now.group.now) (sym c.self.view_is) ∙ none_in es c.as_str.result.now c.args.metadata.now.group.now c.as_str.ensures c.self.invariant.named (sym (ap option_copied_mut c.in_default.is) ∙ c.get_mut.ensures.value) in
    ap (λ (gs : List Group). place_of gs c.args.metadata.now.group.now) same ∙ none

pub returns-clause-groups : goal.returns-clause-groups
returns-clause-groups c =
    let same : values_of c.get_mut.follows.lender-at-none.entries ≡ c.args.self.now = ap (λ m. values_of m.entries) c.get_mut.follows.holds-at-none ∙ c.self.view_is in
    rw same at c.commit_first.ensures.groups

pub returns-clause-answer : goal.returns-clause-answer
returns-clause-answer c =
    let same : values_of c.get_mut.follows.lender-at-none.entries ≡ c.args.self.now = ap (λ m. values_of m.entries) c.get_mut.follows.holds-at-none ∙ c.self.view_is in
    rw same at c.commit_first.ensures.answer

pub returns-clause-err : goal.returns-clause-err
returns-clause-err c =
    let same : values_of c.get_mut.follows.lender-at-none.entries ≡ c.args.self.now = ap (λ m. values_of m.entries) c.get_mut.follows.holds-at-none ∙ c.self.view_is in
    rw same at c.commit_first.ensures.err
