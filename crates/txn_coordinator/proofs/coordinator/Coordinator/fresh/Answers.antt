use Rattle.std.proofs.Common.{◌≡◌, ◌++◌, ◌∷◌, [], ℕ, List, Option, None, length, sym, subst, rules}
use Rattle.txn_coordinator.specs.Bounds.{AreInRange}
use Rattle.txn_coordinator.proofs.Ranges.{given_range}
use Rattle.txn_coordinator.proofs.coordinator.Coordinator.fresh.Goals as goal

pub invariant_of-self-2 : goal.invariant_of-self-2
invariant_of-self-2 c =
    let given_is : c.push.new.self.items ≡ c.self.inside.given.items ++ None ∷ [] = search rules in
    subst (λ (given : List (Option (List ℕ))). AreInRange (length given) c.self.inside.records.list) (sym given_is)
    (given_range c.self.inside.given.items (None ∷ []) c.self.inside.records.list c.self.invariant)
