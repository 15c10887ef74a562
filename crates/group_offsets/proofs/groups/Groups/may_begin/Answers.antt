use Rattle.std.proofs.Common.{◌≡◌, ◌<ℤ◌, pos, true, None, sym, subst, ap, ◌∙◌, rules}
use Rattle.std.specs.Map.{values_of}
use Rattle.std.specs.Option.{option_copied}
use Rattle.std.specs.Prelude.{◌↔◌, IsTrue}
use Rattle.group_offsets.specs.declared.group.Group.{Group}
use Rattle.group_offsets.specs.Groups.{place_of}
use Rattle.group_offsets.proofs.Places.{fresh_at}
use Rattle.group_offsets.proofs.Named.{group_in, none_in}
use Rattle.group_offsets.proofs.groups.Groups.may_begin.Goals as goal

pub returns-in-Some : goal.returns-in-Some
returns-in-Some c =
    let es = c.self.inside.table.entries in
    rw (← c.self.view_is) (subst (λ (g : Group). IsTrue c.may_begin.result ↔ (g.generation <ℤ pos 2147483647)) (sym (group_in es c.as_str.result.now c.args.name.now c.in-Some.group.now c.as_str.ensures c.self.invariant.named c.in-Some.ensures.value)) c.may_begin.ensures)

pub returns-in-None : goal.returns-in-None
returns-in-None c =
    let es = c.self.inside.table.entries in
    let none : place_of (values_of es) c.args.name.now ≡ None = none_in es c.as_str.result.now c.args.name.now c.as_str.ensures c.self.invariant.named (sym (ap option_copied c.in-None.is) ∙ c.get.ensures.value) in
    rw (← c.self.view_is) (subst (λ (g : Group). IsTrue true ↔ (g.generation <ℤ pos 2147483647)) (sym (fresh_at (values_of es) c.args.name.now none)) (search rules))
