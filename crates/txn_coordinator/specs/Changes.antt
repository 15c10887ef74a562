-- What a call changes of a record that is there: where its id stands, and nothing of what was added
-- to its transaction.
use Rattle.txn_coordinator.specs.declared.transaction.Transaction.{Transaction}
use Rattle.txn_coordinator.specs.declared.change.Standing.{Standing}
use Rattle.txn_coordinator.specs.declared.change.Change.{Change}
use Rattle.txn_coordinator.specs.declared.change.Change.TheVariants as changes
use Rattle.txn_coordinator.specs.Transition.{Transition, Stays, Puts}

abbrev pub with_standing : Standing → Transaction → Transaction
with_standing s t = record t { pair = s.pair; timeout = s.timeout; state = s.state; kept = s.kept }

-- what the call comes to
abbrev pub transition_of : Transaction → Change → Transition
transition_of t (changes.Stays code) = Stays code
transition_of t (changes.Moves code s given owed) = Puts code (with_standing s t) given owed

-- where the id of a record stands
abbrev pub standing_of : Transaction → Standing
standing_of t = record { pair = t.pair; timeout = t.timeout; state = t.state; kept = t.kept }
