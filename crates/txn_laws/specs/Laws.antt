-- What holds over whole lists of moves: each transaction that is prepared is completed, and what is
-- fenced stays out (KIP-98, 'Transaction Coordinator', 'Fencing').
use Rattle.std.specs.Prelude.{◌≡◌, ℕ, ◌+◌, ℤ, ◌<◌, ◌≤◌, if◌then◌else◌, true, false, List, [], ◌∷◌, ◌++◌, slice_get, Some}
use Rattle.txn_coordinator.specs.declared.producer_id.ProducerIdAndEpoch.{ProducerIdAndEpoch}
use Rattle.txn_coordinator.specs.declared.target.Target.{Target}
use Rattle.txn_coordinator.specs.declared.transaction.Transaction.{Transaction}
use Rattle.txn_coordinator.specs.declared.transaction.TransactionState.TheVariants.{Ongoing}
use Rattle.record_batch.specs.declared.transaction_result.TransactionResult.{TransactionResult}
use Rattle.record_batch.specs.declared.transaction_result.TransactionResult.TheVariants.{Abort}
use Rattle.txn_coordinator.specs.declared.marker.PendingMarker.{PendingMarker}
use Rattle.txn_coordinator.specs.Words.{prepared_phase, completed_phase, targets}
use Rattle.txn_coordinator.specs.Coordinator.{id_record, owner}
use Rattle.txn_coordinator.specs.Preparing.{markers}
use Rattle.txn_coordinator.specs.Expiry.{is_due, expire}
use Rattle.txn_coordinator.specs.Holding.{holding_code}
use Rattle.txn_coordinator.specs.Warrants.{has_pending_marker}
use Rattle.txn_laws.specs.Small.{World, Entry, Move, first_world, is_no_error, is_free, world_after_move, world_after_moves, count_of_marks}
use Rattle.txn_laws.specs.Small.Entry.{Data, Marker, Other}
use Rattle.txn_laws.specs.Small.Move.{Expire, Moment}
use Rattle.txn_laws.specs.Sound.{Each, HaveOwnIds, IsSound, IsOrdered}

-- ---- where a law holds

-- in each world that the invariant holds in
abbrev pub InSound : (World → Type 0) → Type 0
InSound Law = (w : World) → IsSound w → Law w

-- in each world that moves reach from the beginning
abbrev pub InReached : (World → Type 0) → Type 0
InReached Law = (moves : List Move) → Law (world_after_moves first_world moves)

-- the invariant holds at the beginning, and each move keeps it
pub record SoundLaw : Type 0 where
  pub first : IsSound first_world
  pub next : (w : World) (m : Move) → IsSound w → IsSound (world_after_move w m)

-- ---- completion

-- neither data nor a marker of the producer id
abbrev pub IsNotOf : ℤ → Entry → Type 0
IsNotOf producer (Data p) = p.producer ≡ producer → ⊥
IsNotOf producer (Marker p outcome) = p.producer ≡ producer → ⊥
IsNotOf producer Other = Unit {0}

-- after what stood there before, the first of the producer id is its marker of that outcome
pub record IsEnded (pair : ProducerIdAndEpoch) (outcome : TransactionResult) (old new : List Entry)
    : Type 0 where
  pub between : List Entry
  pub after : List Entry
  pub log : new ≡ old ++ (between ++ Marker pair outcome ∷ after)
  pub nothing : Each (IsNotOf pair.producer) between

-- a marker that is pending with fewer than k in front of it is written by k marks
abbrev pub CompletionLaw : World → Type 0
CompletionLaw w =
    (i : ℕ) (x : PendingMarker) (after : List Move) → slice_get w.coordinator.warrants i ≡ Some x
    → i < count_of_marks after
    → IsEnded x.pair x.outcome (w.entries x.target) ((world_after_moves w after).entries x.target)

-- how many markers are pending up to and including the last one of the id
abbrev pub up_to_last : List PendingMarker → List ℕ → ℕ
up_to_last [] id = 0
up_to_last (m ∷ ms) id = if has_pending_marker (m ∷ ms) id then 1 + up_to_last ms id else 0

-- where the transaction of the id waits, so many marks write its outcome to each target for which
-- it owes a marker
abbrev pub WaitingLaw : World → Type 0
WaitingLaw w = (id : List ℕ) (t : Transaction) (outcome : TransactionResult) (after : List Move)
    → id_record w.coordinator.transactions id ≡ Some t → t.state ≡ prepared_phase outcome
    → up_to_last w.coordinator.warrants id ≤ count_of_marks after
    → Each
    (λ (x : PendingMarker). x.id ≡ id
    → IsEnded x.pair outcome (w.entries x.target)
    ((world_after_moves w after).entries x.target))
    w.coordinator.warrants

-- the id's transaction t is open, and the move prepares it
pub record IsPreparedBy (w : World) (m : Move) (id : List ℕ) (t : Transaction)
    (outcome : TransactionResult) : Type 0 where
  pub before : id_record w.coordinator.transactions id ≡ Some t
  pub ongoing : t.state ≡ Ongoing
  pub transaction : Transaction
  pub after : id_record (world_after_move w m).coordinator.transactions id ≡ Some transaction
  pub waits : transaction.state ≡ prepared_phase outcome

-- nothing is written, and after the markers that were pending a marker is owed to each partition
-- and group that was added
pub record OwesEach (w v : World) (t : Transaction) (outcome : TransactionResult) : Type 0 where
  pub pair : ProducerIdAndEpoch
  pub producer : pair.producer ≡ t.pair.producer
  pub owed : v.coordinator.warrants ≡ w.coordinator.warrants ++ markers t pair outcome
  pub entries : v.entries ≡ w.entries

-- a move that prepares a transaction owes a marker to each partition and group that was added
abbrev pub PreparingLaw : World → Type 0
PreparingLaw w =
    (m : Move) (id : List ℕ) (t : Transaction) (outcome : TransactionResult)
    → IsPreparedBy w m id t outcome → OwesEach w (world_after_move w m) t outcome

-- so it ended by a marker of some epoch
abbrev pub IsDone : ℤ → TransactionResult → List Entry → List Entry → Type 0
IsDone producer outcome old new =
    (pair : ProducerIdAndEpoch) × (pair.producer ≡ producer) × IsEnded pair outcome old new

-- and as many marks as markers then stand up to and including its last one write the outcome to
-- each of these, after all that the transaction's producer wrote there
abbrev pub PreparedLaw : World → Type 0
PreparedLaw w =
    (m : Move) (id : List ℕ) (t : Transaction) (outcome : TransactionResult) (after : List Move)
    → IsPreparedBy w m id t outcome
    → up_to_last (world_after_move w m).coordinator.warrants id ≤ count_of_marks after
    → Each
    (λ target. IsDone t.pair.producer outcome (w.entries target)
    ((world_after_moves (world_after_move w m) after).entries target))
    (targets t)

-- moves of which some complete the transaction of the id
pub record IsCompletedBy (w : World) (moves : List Move) (id : List ℕ) (outcome : TransactionResult)
    : Type 0 where
  pub first : List Move
  pub rest : List Move
  pub parts : moves ≡ first ++ rest
  pub transaction : Transaction
  pub found : id_record (world_after_moves w first).coordinator.transactions id ≡ Some transaction
  pub is_complete : transaction.state ≡ completed_phase outcome

-- where the transaction of the id waits, so many marks complete it
abbrev pub CompletedLaw : World → Type 0
CompletedLaw w = (id : List ℕ) (t : Transaction) (outcome : TransactionResult) (after : List Move)
    → id_record w.coordinator.transactions id ≡ Some t → t.state ≡ prepared_phase outcome
    → up_to_last w.coordinator.warrants id ≤ count_of_marks after
    → IsCompletedBy w after id outcome

-- ---- fencing

-- no data of the pair
abbrev pub IsNotIdAndEpoch : ProducerIdAndEpoch → Entry → Type 0
IsNotIdAndEpoch pair (Data p) = p ≡ pair → ⊥
IsNotIdAndEpoch pair (Marker p outcome) = Unit {0}
IsNotIdAndEpoch pair Other = Unit {0}

-- what was written is still there, and no data of the pair came after it
pub record IsSilent (pair : ProducerIdAndEpoch) (old new : List Entry) : Type 0 where
  pub more : List Entry
  pub log : new ≡ old ++ more
  pub nothing : Each (IsNotIdAndEpoch pair) more

-- the id's record has the pair
abbrev pub HasIdAndEpoch : World → List ℕ → ProducerIdAndEpoch → Type 0
HasIdAndEpoch w id pair =
    (t : Transaction) × (id_record w.coordinator.transactions id ≡ Some t) × (t.pair ≡ pair)

-- once moves have made a record leave a pair, no log and no group gets data of it
abbrev pub FencingLaw : World → Type 0
FencingLaw w = (moves after : List Move) (id : List ℕ) (pair : ProducerIdAndEpoch)
    → HasIdAndEpoch w id pair → (HasIdAndEpoch (world_after_moves w moves) id pair → ⊥)
    → (target : Target)
    → IsSilent pair ((world_after_moves w moves).entries target)
    ((world_after_moves (world_after_moves w moves) after).entries target)

-- data of the pair comes in nowhere, neither in a transaction nor without one
pub record Refuses (w : World) (pair : ProducerIdAndEpoch) : Type 0 where
  pub in_transaction : (id : List ℕ) (target : Target)
      → is_no_error (holding_code w.coordinator id pair target) ≡ false
  pub without_id : is_free (owner w.coordinator pair.producer) ≡ false

-- from then on the checks refuse the pair, for each partition and each group
abbrev pub RefusalLaw : World → Type 0
RefusalLaw w = (moves after : List Move) (id : List ℕ) (pair : ProducerIdAndEpoch)
    → HasIdAndEpoch w id pair → (HasIdAndEpoch (world_after_moves w moves) id pair → ⊥)
    → Refuses (world_after_moves (world_after_moves w moves) after) pair

-- no data stands after a marker of its producer id with a greater epoch
abbrev pub OrderLaw : World → Type 0
OrderLaw w = (target : Target) → IsOrdered (w.entries target)

-- ---- expiry

-- the transactional ids of the records are different
abbrev pub IdsLaw : World → Type 0
IdsLaw w = HaveOwnIds w.coordinator.transactions

-- it is a later moment, and each transaction that is due is fenced
abbrev pub world_after_tick : World → ℕ → World
world_after_tick w moment = record w { coordinator = expire w.coordinator moment; moment = moment }

-- the time of each id's transaction is looked at, in the order of the ids' creation
abbrev pub expiries : List Transaction → List Move
expiries [] = []
expiries (t ∷ ts) = Expire t.id ∷ expiries ts

-- to expire all at once is to expire one after the other
abbrev pub ExpiryLaw : World → Type 0
ExpiryLaw w =
    (moment : ℕ)
    → world_after_moves w (Moment moment ∷ expiries w.coordinator.transactions)
    ≡ world_after_tick w moment

-- as many marks as markers then stand up to and including its last one abort a transaction that was
-- due, at each partition and group that was added, after all that its producer wrote there
abbrev pub TickLaw : World → Type 0
TickLaw w = (moment : ℕ) (id : List ℕ) (t : Transaction) (after : List Move)
    → id_record w.coordinator.transactions id ≡ Some t → is_due moment t ≡ true
    → up_to_last (world_after_tick w moment).coordinator.warrants id ≤ count_of_marks after
    → Each
    (λ target. IsDone t.pair.producer Abort (w.entries target)
    ((world_after_moves (world_after_tick w moment) after).entries target))
    (targets t)
