-- The ranges of producer ids and epochs.
use Rattle.std.specs.Prelude.{◌≡◌, ℕ, pos, ◌≤ℤ◌, ◌<ℤ◌, ◌+◌, List, [], ◌∷◌, length}
use Rattle.txn_coordinator.specs.declared.producer_id.ProducerIdAndEpoch.{ProducerIdAndEpoch}
use Rattle.txn_coordinator.specs.declared.transaction.TransactionState.TheVariants.{Ongoing}
use Rattle.txn_coordinator.specs.declared.transaction.Transaction.{Transaction}
use Rattle.txn_coordinator.specs.Transition.{Transition, Stays, Puts}
use Rattle.txn_coordinator.specs.Words.{last_epoch}
use Rattle.txn_coordinator.specs.Coordinator.{CoordinatorValue}

-- the producer id is one of those given out, so many as there are, and the epoch one from 0 to the
-- last
pub record IsIdAndEpochInRange (given : ℕ) (p : ProducerIdAndEpoch) : Type 0 where
  pub from_zero : pos 0 ≤ℤ p.producer
  pub given_out : p.producer <ℤ pos given
  pub epoch_from_zero : pos 0 ≤ℤ p.epoch
  pub epoch_to_last : p.epoch ≤ℤ last_epoch

-- the epoch of an open transaction can be raised
abbrev pub CanRaise : Transaction → Type 0
CanRaise t = t.state ≡ Ongoing → t.pair.epoch <ℤ last_epoch

abbrev pub AllCanRaise : List Transaction → Type 0
AllCanRaise [] = Unit {0}
AllCanRaise (t ∷ ts) = CanRaise t × AllCanRaise ts

pub record IsInRange (given : ℕ) (t : Transaction) : Type 0 where
  pub pair : IsIdAndEpochInRange given t.pair
  pub can_raise : CanRaise t

abbrev pub AreInRange : ℕ → List Transaction → Type 0
AreInRange given [] = Unit {0}
AreInRange given (t ∷ ts) = IsInRange given t × AreInRange given ts

abbrev pub IsCoordinator : CoordinatorValue → Type 0
IsCoordinator c = AreInRange (length c.given) c.transactions

-- what a call puts is in range once it is put
abbrev pub IsTransitionInRange : ℕ → Transition → Type 0
IsTransitionInRange given (Stays code) = Unit {0}
IsTransitionInRange given (Puts code t more owed) = IsInRange (given + length more) t
