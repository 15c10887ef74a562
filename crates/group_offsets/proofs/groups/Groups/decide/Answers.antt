use Rattle.std.proofs.Common.{◌≡◌, List, None, sym, ap, ◌∙◌, w64}
use Rattle.std.specs.Map.{values_of}
use Rattle.std.specs.Option.{option_copied_mut}
use Rattle.std.proofs.lemmas.Int.{to_z-of_z}
use Rattle.std.proofs.lemmas.Result.{on_ok_weaker, on_err_weaker}
use Rattle.group_offsets.specs.declared.group.Group.{Group}
use Rattle.group_offsets.specs.GroupTransition.{Puts}
use Rattle.group_offsets.specs.declared.event.OffsetEvent.TheVariants.{Decide}
use Rattle.group_offsets.specs.Group.{with_event}
use Rattle.group_offsets.specs.Groups.{place_of, find_group}
use Rattle.group_offsets.proofs.Places.{none_at, kept_fresh}
use Rattle.group_offsets.proofs.Named.{none_in, turned_in, unchanged_in, named_in}
use Rattle.group_offsets.proofs.groups.Groups.decide.Goals as goal

pub invariant_of-self : goal.invariant_of-self
invariant_of-self c =
    let es = c.self.inside.table.entries in
    record {
      named = named_in es (c.get_mut.follows.lender c.decide.new.self).entries c.as_str.result.now c.in-Some.group.now c.decide.new.self c.in-Some.ensures.value (c.get_mut.follows.holds c.decide.new.self).0 c.decide.ensures.name c.self.invariant.named;
      empty = c.self.invariant.empty;
    }

pub returns-in-Some-clause-ok : goal.returns-in-Some-clause-ok
returns-in-Some-clause-ok c =
    let own = to_z-of_z w64 c.args.producer c.ranges.producer in
    let es = c.self.inside.table.entries in
    rw (← c.self.view_is) (on_ok_weaker c.decide.result (λ made. turned_in {A = Unit {0}} es (c.get_mut.follows.lender c.decide.new.self).entries c.as_str.result.now c.args.name.now c.in-Some.group.now c.decide.new.self (λ (g : Group). Puts tt (with_event (Decide c.args.producer c.args.outcome) g)) c.as_str.ensures c.self.invariant.named c.in-Some.ensures.value (c.get_mut.follows.holds c.decide.new.self).0 made c.decide.ensures.name) (rw (own) at c.decide.ensures.ok))

pub returns-in-Some-clause-err : goal.returns-in-Some-clause-err
returns-in-Some-clause-err c =
    let es = c.self.inside.table.entries in
    rw (← c.self.view_is) (on_err_weaker c.decide.result (λ same. unchanged_in es (c.get_mut.follows.lender c.decide.new.self).entries c.as_str.result.now c.in-Some.group.now c.decide.new.self c.in-Some.ensures.value (c.get_mut.follows.holds c.decide.new.self).0 same) c.decide.ensures.err)

pub begin-requires : goal.begin-requires
begin-requires c =
    let es = c.self.inside.table.entries in
    let none : place_of c.args.self.now c.args.name.now ≡ None = ap (λ (gs : List Group). place_of gs c.args.name.now) (sym c.self.view_is) ∙ none_in es c.as_str.result.now c.args.name.now c.as_str.ensures c.self.invariant.named (sym (ap option_copied_mut c.in_default.is) ∙ c.get_mut.ensures.value) in
    let same : values_of c.get_mut.follows.lender-at-none.entries ≡ c.args.self.now = ap (λ m. values_of m.entries) c.get_mut.follows.holds-at-none ∙ c.self.view_is in
    ap (λ (gs : List Group). find_group gs c.decide-2.new.self.name) same ∙ ap (find_group c.args.self.now) (c.in_ok-decide.ensures.name ∙ ap (λ (g : Group). g.name) c.in_ok-group.ensures) ∙ none_at c.args.self.now c.args.name.now none

pub returns-clause-ok : goal.returns-clause-ok
returns-clause-ok c =
    let own = to_z-of_z w64 c.args.producer c.ranges.producer in
    let es = c.self.inside.table.entries in
    let none : place_of c.args.self.now c.args.name.now ≡ None = ap (λ (gs : List Group). place_of gs c.args.name.now) (sym c.self.view_is) ∙ none_in es c.as_str.result.now c.args.name.now c.as_str.ensures c.self.invariant.named (sym (ap option_copied_mut c.in_default.is) ∙ c.get_mut.ensures.value) in
    let same : values_of c.get_mut.follows.lender-at-none.entries ≡ c.args.self.now = ap (λ m. values_of m.entries) c.get_mut.follows.holds-at-none ∙ c.self.view_is in
    let made = rw (c.in_ok-group.ensures, own) at c.in_ok-decide.ensures.ok in
    on_ok_weaker c.begin.result (λ begun. begun
    ∙ kept_fresh {A = Unit {0}} c.args.self.now c.decide-2.new.self c.args.name.now (λ (g : Group). Puts tt (with_event (Decide c.args.producer c.args.outcome) g)) none made (c.in_ok-decide.ensures.name ∙ ap (λ (g : Group). g.name) c.in_ok-group.ensures)) (rw same at c.begin.ensures.ok)
