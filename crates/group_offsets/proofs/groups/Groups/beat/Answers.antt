use Rattle.std.proofs.Common.{◌≡◌, None, sym, subst, ap, ◌∙◌}
use Rattle.std.specs.Map.{values_of}
use Rattle.std.specs.Option.{option_copied_mut}
use Rattle.group_offsets.specs.declared.group.Group.{Group}
use Rattle.group_offsets.specs.Group.{beat_group}
use Rattle.group_offsets.specs.Groups.{place_of}
use Rattle.group_offsets.proofs.Places.{refused_fresh, refusal_fresh, beat_fresh}
use Rattle.group_offsets.specs.Named.{IsKept}
use Rattle.group_offsets.proofs.Named.{none_in, turned_in, answered_in, named_in}
use Rattle.group_offsets.proofs.groups.Groups.beat.Goals as goal

pub invariant_of-self : goal.invariant_of-self
invariant_of-self c = subst (λ m. IsKept m.entries c.self.inside.nothing) (sym c.get_mut.follows.holds-at-none) c.self.invariant

pub returns-in_default-clause-groups : goal.returns-in_default-clause-groups
returns-in_default-clause-groups c =
    let es = c.self.inside.table.entries in
    let none : place_of (values_of es) c.args.request.now.group ≡ None = none_in es c.as_str.result.now c.args.request.now.group c.as_str.ensures c.self.invariant.named (sym (ap option_copied_mut c.in_default.is) ∙ c.get_mut.ensures.value) in
    rw (← c.self.view_is) (ap (λ m. values_of m.entries) c.get_mut.follows.holds-at-none ∙ refused_fresh (values_of es) c.args.request.now.group (λ (g : Group). beat_group g c.args.request.now c.args.moment) none (beat_fresh c.args.request.now c.args.moment))

pub returns-in_default-clause-answer : goal.returns-in_default-clause-answer
returns-in_default-clause-answer c =
    let es = c.self.inside.table.entries in
    let none : place_of (values_of es) c.args.request.now.group ≡ None = none_in es c.as_str.result.now c.args.request.now.group c.as_str.ensures c.self.invariant.named (sym (ap option_copied_mut c.in_default.is) ∙ c.get_mut.ensures.value) in
    rw (← c.self.view_is, c.unknown_group_error.ensures) (refusal_fresh (values_of es) c.args.request.now.group (λ (g : Group). beat_group g c.args.request.now c.args.moment) none (beat_fresh c.args.request.now c.args.moment))

pub invariant_of-self-2 : goal.invariant_of-self-2
invariant_of-self-2 c =
    let es = c.self.inside.table.entries in
    record {
      named = named_in es (c.get_mut.follows.lender c.beat.new.self).entries c.as_str.result.now c.in-Some.group.now c.beat.new.self c.in-Some.ensures.value (c.get_mut.follows.holds c.beat.new.self).0 c.beat.ensures.name c.self.invariant.named;
      empty = c.self.invariant.empty;
    }

pub returns-clause-groups : goal.returns-clause-groups
returns-clause-groups c =
    let es = c.self.inside.table.entries in
    rw (← c.self.view_is) (turned_in es (c.get_mut.follows.lender c.beat.new.self).entries c.as_str.result.now c.args.request.now.group c.in-Some.group.now c.beat.new.self (λ (g : Group). beat_group g c.args.request.now c.args.moment) c.as_str.ensures c.self.invariant.named c.in-Some.ensures.value (c.get_mut.follows.holds c.beat.new.self).0 c.beat.ensures.group c.beat.ensures.name)

pub returns-clause-answer : goal.returns-clause-answer
returns-clause-answer c =
    let es = c.self.inside.table.entries in
    rw (← c.self.view_is) (c.beat.ensures.answer ∙ answered_in es c.as_str.result.now c.args.request.now.group c.in-Some.group.now (λ (g : Group). beat_group g c.args.request.now c.args.moment) c.as_str.ensures c.self.invariant.named c.in-Some.ensures.value)
