use Rattle.std.proofs.Common.{ℕ, List, [], ◌∷◌, ◌++◌, Option, Some, ap, subst, sym, ◌∙◌, rules}
use Rattle.std.specs.Option.{unwrap_or}
use Rattle.std.proofs.lemmas.Map.Text.{hash_map_updates_text}
use Rattle.acl_binding.specs.declared.binding.Numbered.{Numbered}
use Rattle.authorizer.specs.Longest.{IsLongest}
use Rattle.authorizer.proofs.Tables.{has_more, has_same, on_err}
use Rattle.authorizer.proofs.index.names.Names.add.Goals as goal

pub returns-in_ok-push-in-Some-clause-ok : goal.returns-in_ok-push-in-Some-clause-ok
returns-in_ok-push-in-Some-clause-ok c =
    let writes = (c.get_mut.follows.holds c.push.new.self).3 (search rules) in
    rw (← c.self.view_is) (has_more c.self.inside.shelves.entries (c.get_mut.follows.lender c.push.new.self).entries c.args.name.now c.push.new.self c.args.entry
    (hash_map_updates_text c.args.name.now c.self.inside.shelves (c.get_mut.follows.lender c.push.new.self) _ writes)
    (c.in_ok-push-in-Some.ensures ∙ ap (λ (o : Option (List Numbered)). unwrap_or o [] ++ c.args.entry ∷ []) c.in-Some.ensures.value))

pub returns-in_err-push-in-Some-clause-err : goal.returns-in_err-push-in-Some-clause-err
returns-in_err-push-in-Some-clause-err c =
    let writes = (c.get_mut.follows.holds c.push.new.self).3 (search rules) in
    let same = has_same c.self.inside.shelves.entries (c.get_mut.follows.lender c.push.new.self).entries c.args.name.now c.push.new.self
    (hash_map_updates_text c.args.name.now c.self.inside.shelves (c.get_mut.follows.lender c.push.new.self) _ writes)
    (ap (λ (h : List Numbered). Some h) c.in_err-push-in-Some.ensures ∙ c.in-Some.ensures.value) in
    rw (← c.self.view_is) (on_err _ same)

pub returns-in_ok-add_name-in-None-clause-ok : goal.returns-in_ok-add_name-in-None-clause-ok
returns-in_ok-add_name-in-None-clause-ok c =
    let changed = rw c.get_mut.follows.holds-at-none at c.in_ok-add_name-in-None.ensures.ok in
    rw (← c.self.view_is) (has_more c.self.inside.shelves.entries c.add_name.new.shelves.entries c.args.name.now (c.args.entry ∷ []) c.args.entry changed
    (ap (λ (o : Option (List Numbered)). unwrap_or o [] ++ c.args.entry ∷ []) c.in-None.ensures.value))

pub invariant_of-self-in-None : goal.invariant_of-self-in-None
invariant_of-self-in-None c =
    let last = rw c.get_mut.follows.holds-at-none at c.in_ok-add_name-in-None.ensures.last in
    subst (λ (ns : List ℕ). IsLongest c.add.new.self ns) (sym (last (sym c.in-None.ensures.value))) (c.add.ensures _ c.self.invariant)
