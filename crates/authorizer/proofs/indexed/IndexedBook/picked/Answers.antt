use Rattle.std.proofs.Common.{List, Option, Some, sym, ap, subst, ◌∙◌}
use Rattle.std.proofs.lemmas.Result.{IfOk-weaker}
use Rattle.authorizer.specs.Picking.{AreAllAt}
use Rattle.authorizer.specs.declared.acl_key.AclKey.{AclKey}
use Rattle.authorizer.proofs.Picks.{picked_all, picked_from_all}
use Rattle.authorizer.proofs.indexed.IndexedBook.picked.Goals as goal

pub returns-in_ok-pick-in-Some : goal.returns-in_ok-pick-in-Some
returns-in_ok-pick-in-Some c =
    let covers : AreAllAt (Some c.as_slice.result.now) c.args.filter.now = subst (λ (o : Option (List AclKey)). AreAllAt o c.args.filter.now) (c.in-Some.is ∙ ap (λ (ps : List AclKey). Some ps) (sym c.as_slice.ensures)) c.requires in
    rw (← c.self.view_is) (picked_all c.as_slice.result.now c.args.filter.now _ c.new-picked.result.entries c.pick.new.picked.entries covers c.self.invariant.named c.new-picked.ensures.empty
    (c.in_ok-pick-in-Some.ensures _ c.self.invariant.book.rising c.self.invariant.indexed))

pub returns-in-None : goal.returns-in-None
returns-in-None c =
    rw (← c.self.view_is) (IfOk-weaker c.pick_from_all.result _ _ (λ picked is. picked_from_all c.args.filter.now c.self.inside.entries.entries picked.entries c.self.invariant.book.rising is) c.pick_from_all.ensures)
