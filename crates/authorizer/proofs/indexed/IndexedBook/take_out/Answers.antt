use Rattle.std.proofs.Common.{List, Option, Some, filter, sym, subst, ap, ◌∙◌}
use Rattle.std.specs.Map.{values_of}
use Rattle.acl_binding.specs.Filter.{is_not_matched}
use Rattle.authorizer.specs.Looking.{IsIndexed}
use Rattle.authorizer.specs.Picking.{AreAllAt}
use Rattle.authorizer.specs.declared.acl_key.AclKey.{AclKey}
use Rattle.authorizer.proofs.Keeping.{kept_less}
use Rattle.authorizer.proofs.Leaving.{left_all}
use Rattle.authorizer.proofs.indexed.IndexedBook.take_out.Goals as goal

pub invariant_of-self : goal.invariant_of-self
invariant_of-self c =
    let es = values_of c.self.inside.entries.entries in
    let covers : AreAllAt (Some c.as_slice.result.now) c.args.filter.now = subst (λ (o : Option (List AclKey)). AreAllAt o c.args.filter.now) (c.in-Some.is ∙ ap (λ (ps : List AclKey). Some ps) (sym c.as_slice.ensures)) c.requires.acl_keys in
    let indexed : IsIndexed c.clean_keys.new.self (filter (is_not_matched c.args.filter.now) es) =
    subst (IsIndexed c.clean_keys.new.self) (left_all c.as_slice.result.now c.args.filter.now es covers c.self.invariant.named) (c.clean_keys.ensures es c.self.invariant.indexed) in
    (kept_less c.self.inside.index c.clean_keys.new.self c.self.inside.contents.entries c.forget.new.contents.entries c.self.inside.entries.entries c.take_out.new.entries.entries c.args.picked.now.entries c.self.inside.next c.args.filter.now
    c.self.invariant (rw (← c.self.view_is) at c.requires.picked) c.take_out.ensures c.forget.ensures indexed).0

pub invariant_of-self-in-None : goal.invariant_of-self-in-None
invariant_of-self-in-None c = (kept_less c.self.inside.index c.clean.new.self c.self.inside.contents.entries c.forget.new.contents.entries c.self.inside.entries.entries c.take_out.new.entries.entries c.args.picked.now.entries c.self.inside.next c.args.filter.now
    c.self.invariant (rw (← c.self.view_is) at c.requires.picked) c.take_out.ensures c.forget.ensures (c.clean.ensures _ c.self.invariant.indexed)).0

pub returns-in-Some : goal.returns-in-Some
returns-in-Some c =
    let es = values_of c.self.inside.entries.entries in
    let covers : AreAllAt (Some c.as_slice.result.now) c.args.filter.now = subst (λ (o : Option (List AclKey)). AreAllAt o c.args.filter.now) (c.in-Some.is ∙ ap (λ (ps : List AclKey). Some ps) (sym c.as_slice.ensures)) c.requires.acl_keys in
    let indexed : IsIndexed c.clean_keys.new.self (filter (is_not_matched c.args.filter.now) es) =
    subst (IsIndexed c.clean_keys.new.self) (left_all c.as_slice.result.now c.args.filter.now es covers c.self.invariant.named) (c.clean_keys.ensures es c.self.invariant.indexed) in
    rw (← c.self.view_is) (kept_less c.self.inside.index c.clean_keys.new.self c.self.inside.contents.entries c.forget.new.contents.entries c.self.inside.entries.entries c.take_out.new.entries.entries c.args.picked.now.entries c.self.inside.next c.args.filter.now
    c.self.invariant (rw (← c.self.view_is) at c.requires.picked) c.take_out.ensures c.forget.ensures indexed).1

pub returns-in-None : goal.returns-in-None
returns-in-None c = rw (← c.self.view_is) (kept_less c.self.inside.index c.clean.new.self c.self.inside.contents.entries c.forget.new.contents.entries c.self.inside.entries.entries c.take_out.new.entries.entries c.args.picked.now.entries c.self.inside.next c.args.filter.now
    c.self.invariant (rw (← c.self.view_is) at c.requires.picked) c.take_out.ensures c.forget.ensures (c.clean.ensures _ c.self.invariant.indexed)).1
