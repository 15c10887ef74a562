-- What holds in every world that moves reach.
use Rattle.std.specs.Prelude.{◌≡◌, ◌⊎◌, true, ℕ, ◌≤ℤ◌, List, [], ◌∷◌, Some}
use Rattle.txn_coordinator.specs.declared.producer_id.ProducerIdAndEpoch.{ProducerIdAndEpoch}
use Rattle.txn_coordinator.specs.declared.target.Target.{Target}
use Rattle.txn_coordinator.specs.declared.transaction.Transaction.{Transaction}
use Rattle.txn_coordinator.specs.declared.transaction.TransactionState.TheVariants.{Ongoing}
use Rattle.record_batch.specs.declared.transaction_result.TransactionResult.{TransactionResult}
use Rattle.txn_coordinator.specs.declared.marker.PendingMarker.{PendingMarker}
use Rattle.txn_coordinator.specs.Words.{prepared_phase, targets}
use Rattle.txn_coordinator.specs.Coordinator.{CoordinatorValue, id_record, owner}
use Rattle.txn_coordinator.specs.Warrants.{has_pending_marker}
use Rattle.txn_laws.specs.Small.{World, Entry}
use Rattle.txn_laws.specs.Small.Entry.{Data, Marker, Other}

-- each element has the property
abbrev pub Each : {X : Type 0} → (X → Type 0) → List X → Type 0
Each P [] = Unit {0}
Each P (x ∷ xs) = P x × Each P xs

-- it is one of the elements
abbrev pub IsAmong : {X : Type 0} → List X → X → Type 0
IsAmong [] x = ⊥
IsAmong (y ∷ ys) x = (y ≡ x) ⊎ IsAmong ys x

-- the records have different ids
abbrev pub HaveOwnIds : List Transaction → Type 0
HaveOwnIds [] = Unit {0}
HaveOwnIds (t ∷ ts) = Each (λ (u : Transaction). u.id ≡ t.id → ⊥) ts × HaveOwnIds ts

-- no target stands in the list twice
abbrev pub AreDistinct : List Target → Type 0
AreDistinct [] = Unit {0}
AreDistinct (x ∷ xs) = Each (λ y. x ≡ y → ⊥) xs × AreDistinct xs

-- two markers of one id are owed to different targets
abbrev pub IsApart : PendingMarker → PendingMarker → Type 0
IsApart x y = x.id ≡ y.id → x.target ≡ y.target → ⊥

abbrev pub AreApart : List PendingMarker → Type 0
AreApart [] = Unit {0}
AreApart (x ∷ xs) = Each (IsApart x) xs × AreApart xs

-- the producer id is the id's, whose record has gone on to that epoch at least, or to another
-- producer id
pub record IsFenced (c : CoordinatorValue) (id : List ℕ) (pair : ProducerIdAndEpoch) : Type 0 where
  pub owned : owner c pair.producer ≡ Some (Some id)
  pub transaction : Transaction
  pub found : id_record c.transactions id ≡ Some transaction
  pub reached : transaction.pair.producer ≡ pair.producer → pair.epoch ≤ℤ transaction.pair.epoch

-- a marker that is pending: its transaction waits for it
pub record IsPending (c : CoordinatorValue) (x : PendingMarker) : Type 0 where
  pub fence : IsFenced c x.id x.pair
  pub waits : (t : Transaction) → id_record c.transactions x.id ≡ Some t
      → t.state ≡ prepared_phase x.outcome

-- a marker that was written: its id has gone on to its epoch
abbrev pub IsBacked : CoordinatorValue → Entry → Type 0
IsBacked c (Data pair) = Unit {0}
IsBacked c (Marker pair outcome) = (id : List ℕ) × IsFenced c id pair
IsBacked c Other = Unit {0}

-- no data of that producer id with an older epoch
abbrev pub IsNotOlder : ProducerIdAndEpoch → Entry → Type 0
IsNotOlder pair (Data p) = p.producer ≡ pair.producer → pair.epoch ≤ℤ p.epoch
IsNotOlder pair (Marker p outcome) = Unit {0}
IsNotOlder pair Other = Unit {0}

-- no data stands after a marker of its producer id with a greater epoch
abbrev pub IsOrdered : List Entry → Type 0
IsOrdered [] = Unit {0}
IsOrdered (Data p ∷ rest) = IsOrdered rest
IsOrdered (Marker p outcome ∷ rest) = Each (IsNotOlder p) rest × IsOrdered rest
IsOrdered (Other ∷ rest) = IsOrdered rest

pub record IsSound (w : World) : Type 0 where
  pub own_ids : HaveOwnIds w.coordinator.transactions
  -- a record's producer id was given to its id
  pub owned : (id : List ℕ) (t : Transaction) → id_record w.coordinator.transactions id ≡ Some t
      → owner w.coordinator t.pair.producer ≡ Some (Some id)
  pub distinct : (id : List ℕ) (t : Transaction) → id_record w.coordinator.transactions id ≡ Some t
      → AreDistinct (targets t)
  -- an open transaction has a partition or a group
  pub filled : (id : List ℕ) (t : Transaction) → id_record w.coordinator.transactions id ≡ Some t
      → t.state ≡ Ongoing → targets t ≡ [] → ⊥
  pub owed : Each (IsPending w.coordinator) w.coordinator.warrants
  -- one that waits owes a marker
  pub owing : (id : List ℕ) (t : Transaction) (outcome : TransactionResult)
      → id_record w.coordinator.transactions id ≡ Some t → t.state ≡ prepared_phase outcome
      → has_pending_marker w.coordinator.warrants id ≡ true
  pub apart : AreApart w.coordinator.warrants
  pub backed : (target : Target) → Each (IsBacked w.coordinator) (w.entries target)
  pub ordered : (target : Target) → IsOrdered (w.entries target)
