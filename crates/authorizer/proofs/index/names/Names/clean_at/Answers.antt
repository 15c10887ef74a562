use Rattle.std.proofs.Common.{List, None, subst, sym, ◌∙◌, rules}
use Rattle.std.specs.Map.{keys_of}
use Rattle.std.specs.declared.string.String.{String}
use Rattle.std.specs.declared.alloc.Global.{Global}
use Rattle.std.proofs.lemmas.Map.Text.{hash_map_updates_text}
use Rattle.acl_binding.specs.declared.binding.Numbered.{Numbered}
use Rattle.authorizer.specs.Longest.{lengths, IsLongest}
use Rattle.authorizer.proofs.LongestNames.{has_left, written}
use Rattle.authorizer.proofs.Tables.{less_kept, less_gone, less_absent}
use Rattle.authorizer.proofs.index.names.Names.clean_at.Goals as goal

pub returns-in_default : goal.returns-in_default
returns-in_default c = rw (← c.self.view_is, c.get_mut.follows.holds-at-none) (less_absent c.self.inside.shelves.entries c.args.name.now c.args.filter.now c.in_default.ensures.value)

pub returns-then-not-lose : goal.returns-then-not-lose
returns-then-not-lose c =
    let lent = c.get_mut.follows.lender c.keep_unmatched.new.self in
    let writes = (c.get_mut.follows.holds c.keep_unmatched.new.self).3 (search rules) in
    let gone = less_gone c.self.inside.shelves.entries lent.entries c.swap_remove.new.self.entries c.args.name.now c.args.filter.now c.in-Some.shelf.now c.keep_unmatched.new.self
    (hash_map_updates_text c.args.name.now c.self.inside.shelves lent _ writes)
    (hash_map_updates_text c.args.name.now lent c.swap_remove.new.self None c.swap_remove.ensures.updates)
    c.in-Some.ensures.value c.keep_unmatched.ensures.left (sym c.if-not-keep_unmatched.true ∙ c.keep_unmatched.ensures.any) in
    rw (← c.self.view_is) (search (rules, gone))

pub returns-else-not-lose : goal.returns-else-not-lose
returns-else-not-lose c =
    let lent = c.get_mut.follows.lender c.keep_unmatched.new.self in
    let writes = (c.get_mut.follows.holds c.keep_unmatched.new.self).3 (search rules) in
    let gone = less_gone c.self.inside.shelves.entries lent.entries c.swap_remove.new.self.entries c.args.name.now c.args.filter.now c.in-Some.shelf.now c.keep_unmatched.new.self
    (hash_map_updates_text c.args.name.now c.self.inside.shelves lent _ writes)
    (hash_map_updates_text c.args.name.now lent c.swap_remove.new.self None c.swap_remove.ensures.updates)
    c.in-Some.ensures.value c.keep_unmatched.ensures.left (sym c.if-not-keep_unmatched.true ∙ c.keep_unmatched.ensures.any) in
    rw (← c.self.view_is) (search (rules, gone))

pub returns-else-not-keep_unmatched : goal.returns-else-not-keep_unmatched
returns-else-not-keep_unmatched c =
    let writes = (c.get_mut.follows.holds c.keep_unmatched.new.self).3 (search rules) in
    rw (← c.self.view_is) (less_kept c.self.inside.shelves.entries (c.get_mut.follows.lender c.keep_unmatched.new.self).entries c.args.name.now c.args.filter.now c.in-Some.shelf.now c.keep_unmatched.new.self
    (hash_map_updates_text c.args.name.now c.self.inside.shelves (c.get_mut.follows.lender c.keep_unmatched.new.self) _ writes)
    c.in-Some.ensures.value c.keep_unmatched.ensures.left (sym c.if-not-keep_unmatched.false ∙ c.keep_unmatched.ensures.any))

pub invariant_of-self-else-not-keep_unmatched : goal.invariant_of-self-else-not-keep_unmatched
invariant_of-self-else-not-keep_unmatched c =
    let kept = (c.get_mut.follows.holds c.keep_unmatched.new.self).1 in
    subst (λ (ks : List (String Global)). IsLongest c.self.inside.longest (lengths ks)) (sym kept) c.self.invariant

pub invariant_of-self-else-not-lose : goal.invariant_of-self-else-not-lose
invariant_of-self-else-not-lose c =
    let lent = c.get_mut.follows.lender c.keep_unmatched.new.self in
    let writes = (c.get_mut.follows.holds c.keep_unmatched.new.self).3 (search rules) in
    let kept = (c.get_mut.follows.holds c.keep_unmatched.new.self).1 in
    let some = written c.self.inside.shelves.entries lent.entries c.args.name.now c.keep_unmatched.new.self (hash_map_updates_text c.args.name.now c.self.inside.shelves lent _ writes) in
    let left = has_left lent.entries c.args.name.now c.keep_unmatched.new.self some in
    let is = subst (λ (ks : List (String Global)). IsLongest c.self.inside.longest (lengths ks)) (sym kept) c.self.invariant in
    subst (λ (es : List (String Global × List Numbered)). IsLongest c.lose.new.self (lengths (keys_of es))) (sym c.swap_remove.ensures.entries)
    (c.lose.ensures.left _ _ left is (search rules))
