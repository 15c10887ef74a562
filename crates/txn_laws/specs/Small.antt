-- The coordinator with what the logs and the groups hold of producers, and the moves that the
-- broker's events are made of.
use Rattle.std.specs.Prelude.{ℕ, ◌+◌, ℤ, Bool, true, false, if◌then◌else◌, List, [], ◌∷◌, ◌++◌, Option, Some, None}
use Rattle.std.specs.Str.{bytes_eq}
use Rattle.wire_types.specs.declared.error_code.ErrorCode.{ErrorCode}
use Rattle.wire_types.specs.declared.error_code.ErrorCode.TheVariants as codes
use Rattle.txn_coordinator.specs.declared.producer_id.ProducerIdAndEpoch.{ProducerIdAndEpoch}
use Rattle.txn_coordinator.specs.declared.target.TopicPartition.{TopicPartition}
use Rattle.txn_coordinator.specs.declared.target.Target.{Target}
use Rattle.txn_coordinator.specs.declared.target.Target.TheVariants.{Partition, Group}
use Rattle.txn_coordinator.specs.declared.transaction.Transaction.{Transaction}
use Rattle.record_batch.specs.declared.transaction_result.TransactionResult.{TransactionResult}
use Rattle.txn_coordinator.specs.declared.marker.PendingMarker.{PendingMarker}
use Rattle.txn_coordinator.specs.declared.ending.EndForm.{EndForm}
use Rattle.txn_coordinator.specs.Transition.{Transition, Stays}
use Rattle.txn_coordinator.specs.Words.{is_same_partition}
use Rattle.txn_coordinator.specs.Coordinator.{CoordinatorValue, no_transactions, id_record, owner, given_free, apply_transition}
use Rattle.txn_coordinator.specs.Preparing.{fence_transition}
use Rattle.txn_coordinator.specs.InitProducerId.{init}
use Rattle.txn_coordinator.specs.Adding.{add_partitions, add_group}
use Rattle.txn_coordinator.specs.EndTxn.{end}
use Rattle.txn_coordinator.specs.Expiry.{is_due}
use Rattle.txn_coordinator.specs.Holding.{holding_code}
use Rattle.txn_coordinator.specs.Warrants.{with_first_written}

-- ---- the small world

-- one thing that a log or a group holds
pub data Entry : Type 0 where
  -- a batch of records, or offsets, of a producer
  Data : ProducerIdAndEpoch → Entry
  -- what ends a transaction there
  Marker : ProducerIdAndEpoch → TransactionResult → Entry
  -- what has no producer
  Other : Entry

pub record World : Type 0 where
  pub coordinator : CoordinatorValue
  -- what each partition's log, and each group, holds, the oldest first
  pub entries : Target → List Entry
  pub moment : ℕ

-- nothing yet
abbrev pub first_world : World
first_world = record { coordinator = no_transactions; entries = λ _. []; moment = 0 }

abbrev pub is_same_target : Target → Target → Bool
is_same_target (Partition p) (Partition q) = is_same_partition p q
is_same_target (Partition p) (Group g) = false
is_same_target (Group g) (Partition p) = false
is_same_target (Group g) (Group h) = bytes_eq g h

-- one entry more at this target, and at no other
abbrev pub with_entry : (Target → List Entry) → Target → Entry → Target → List Entry
with_entry entries target entry t =
    if is_same_target target t then entries t ++ entry ∷ [] else entries t

abbrev pub world_with_entry : World → Target → Entry → World
world_with_entry w target entry = record w { entries = with_entry w.entries target entry }

-- ---- moves

-- one change of the broker: an event is some of these, one after the other
pub data Move : Type 0 where
  -- InitProducerId for a transactional id, with its timeout and the greatest that is allowed
  Init : List ℕ → ℤ → ℤ → Move
  -- InitProducerId for no transactional id
  Give : Move
  AddPartitions : List ℕ → ProducerIdAndEpoch → List TopicPartition → Move
  AddGroup : List ℕ → ProducerIdAndEpoch → List ℕ → Move
  End : EndForm → List ℕ → ProducerIdAndEpoch → TransactionResult → Move
  -- the time of this id's transaction is looked at
  Expire : List ℕ → Move
  -- it is now this moment
  Moment : ℕ → Move
  -- data of a transaction, which the check of Produce and TxnOffsetCommit lets in or not
  Store : List ℕ → ProducerIdAndEpoch → Target → Move
  -- data of a producer id, which comes in where the producer id was given to no transactional id
  Send : ProducerIdAndEpoch → Target → Move
  -- what has no producer
  Plain : Target → Move
  -- the front marker that is pending is written, if one is
  Mark : Move

abbrev pub with_transition : World → Transition → World
with_transition w transition = record w { coordinator = apply_transition w.coordinator transition }

abbrev pub expire_transition : Option Transaction → ℕ → Transition
expire_transition None moment = Stays codes.None
expire_transition (Some t) moment =
    if is_due moment t then fence_transition codes.None t else Stays codes.None

abbrev pub is_no_error : ErrorCode → Bool
is_no_error codes.None = true
is_no_error code = false

abbrev pub is_free : Option (Option (List ℕ)) → Bool
is_free None = false
is_free (Some None) = true
is_free (Some (Some id)) = false

abbrev pub world_after_mark : List PendingMarker → World → World
world_after_mark [] w = w
world_after_mark (m ∷ rest) w =
    record {
      coordinator = with_first_written w.coordinator (m ∷ rest);
      entries = with_entry w.entries m.target (Marker m.pair m.outcome);
      moment = w.moment;
    }

abbrev pub world_after_move : World → Move → World
world_after_move w (Init id timeout greatest) =
    with_transition w (init w.coordinator id timeout greatest)
world_after_move w Give = record w { coordinator = given_free w.coordinator }
world_after_move w (AddPartitions id pair partitions) =
    with_transition w (add_partitions w.coordinator id pair w.moment partitions)
world_after_move w (AddGroup id pair group) =
    with_transition w (add_group w.coordinator id pair w.moment group)
world_after_move w (End form id pair outcome) =
    with_transition w (end w.coordinator form id pair outcome)
world_after_move w (Expire id) =
    with_transition w (expire_transition (id_record w.coordinator.transactions id) w.moment)
world_after_move w (Moment moment) = record w { moment = moment }
world_after_move w (Store id pair target) =
    if is_no_error (holding_code w.coordinator id pair target)
    then world_with_entry w target (Data pair)
    else w
world_after_move w (Send pair target) =
    if is_free (owner w.coordinator pair.producer) then world_with_entry w target (Data pair) else w
world_after_move w (Plain target) = world_with_entry w target Other
world_after_move w Mark = world_after_mark w.coordinator.warrants w

abbrev pub world_after_moves : World → List Move → World
world_after_moves w [] = w
world_after_moves w (m ∷ ms) = world_after_moves (world_after_move w m) ms

abbrev pub mark_count : Move → ℕ
mark_count Mark = 1
mark_count m = 0

-- how many of the moves are marks
abbrev pub count_of_marks : List Move → ℕ
count_of_marks [] = 0
count_of_marks (m ∷ ms) = mark_count m + count_of_marks ms
