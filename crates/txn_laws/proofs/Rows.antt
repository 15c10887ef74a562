-- A small history of moves whose worlds are known: the id `t` with producer 0.
use Rattle.std.proofs.Common.{◌≡◌, ℕ, ℤ, pos, List, [], ◌∷◌, Option, Some, refl}
use Rattle.std.specs.Option.{option_map}
use Rattle.txn_coordinator.specs.declared.producer_id.ProducerIdAndEpoch.{ProducerIdAndEpoch}
use Rattle.txn_coordinator.specs.declared.target.TopicPartition.{TopicPartition}
use Rattle.txn_coordinator.specs.declared.target.Target.{Target}
use Rattle.txn_coordinator.specs.declared.target.Target.TheVariants.{Partition, Group}
use Rattle.txn_coordinator.specs.declared.transaction.Transaction.{Transaction}
use Rattle.txn_coordinator.specs.declared.transaction.TransactionState.{TransactionState}
use Rattle.txn_coordinator.specs.declared.transaction.TransactionState.TheVariants.{Ongoing, PrepareCommit, PrepareAbort, CompleteCommit}
use Rattle.record_batch.specs.declared.transaction_result.TransactionResult.TheVariants.{Commit, Abort}
use Rattle.txn_coordinator.specs.declared.ending.EndForm.TheVariants as forms
use Rattle.txn_coordinator.specs.Coordinator.{id_record}
use Rattle.txn_laws.specs.Small.{World, Move, first_world, world_after_moves}
use Rattle.txn_laws.specs.Small.Entry.{Data, Marker, Other}
use Rattle.txn_laws.specs.Small.Move.{Init, Give, AddPartitions, AddGroup, End, Expire, Moment, Store, Send, Plain, Mark}
use Rattle.txn_laws.specs.Laws.{up_to_last}
use Rattle.txn_laws.specs.Kept.{kept_world_after_moves}

abbrev t : List ℕ
t = 116 ∷ []

-- partition 0 of topic `b`, and group `g`
abbrev b0 : TopicPartition
b0 = record { topic = 98 ∷ []; index = pos 0 }

abbrev part : Target
part = Partition b0

abbrev group : Target
group = Group (103 ∷ [])

-- of producer 0
abbrev in_epoch : ℤ → ProducerIdAndEpoch
in_epoch epoch = record { producer = pos 0; epoch = epoch }

-- its transactions have ten milliseconds; this one has a partition and a group, and writes to both
abbrev opening : List Move
opening = Init t (pos 10) (pos 900000) ∷ AddPartitions t (in_epoch (pos 0)) (b0 ∷ []) ∷ AddGroup t (in_epoch (pos 0)) (103 ∷ [])
    ∷ Store t (in_epoch (pos 0)) part ∷ Plain part ∷ Store t (in_epoch (pos 0)) group ∷ []

abbrev opened : World
opened = world_after_moves first_world opening

abbrev state_of : World → Option TransactionState
state_of w = option_map (λ (r : Transaction). r.state) (id_record w.coordinator.transactions t)

abbrev pair_of : World → Option ProducerIdAndEpoch
pair_of w = option_map (λ (r : Transaction). r.pair) (id_record w.coordinator.transactions t)

opened_writes : opened.entries part ≡ Data (in_epoch (pos 0)) ∷ Other ∷ []
opened_writes = refl

-- ---- it is committed

abbrev ended : World
ended = world_after_moves opened (End forms.Plain t (in_epoch (pos 0)) Commit ∷ [])

two_are_owed : up_to_last ended.coordinator.warrants t ≡ 2
two_are_owed = refl

waits : state_of ended ≡ Some PrepareCommit
waits = refl

-- nothing of it is let in as long as it waits
waits_alone : (world_after_moves ended (Store t (in_epoch (pos 0)) part ∷ [])).entries part ≡ opened.entries part
waits_alone = refl

one_mark : (world_after_moves ended (Mark ∷ [])).entries part ≡ Data (in_epoch (pos 0)) ∷ Other ∷ Marker (in_epoch (pos 0)) Commit ∷ []
one_mark = refl

still_waits : state_of (world_after_moves ended (Mark ∷ [])) ≡ Some PrepareCommit
still_waits = refl

two_marks : (world_after_moves ended (Mark ∷ Plain part ∷ Mark ∷ [])).entries group ≡ Data (in_epoch (pos 0)) ∷ Marker (in_epoch (pos 0)) Commit ∷ []
two_marks = refl

is_complete : state_of (world_after_moves ended (Mark ∷ Plain part ∷ Mark ∷ [])) ≡ Some CompleteCommit
is_complete = refl

-- a mark more finds nothing owed
third_mark : (world_after_moves ended (Mark ∷ Mark ∷ Mark ∷ [])).entries part ≡ (world_after_moves ended (Mark ∷ [])).entries part
third_mark = refl

-- ---- it is fenced

-- by another InitProducerId: its markers carry the next epoch, and the old one writes nothing
abbrev fenced : World
fenced = world_after_moves opened (Init t (pos 10) (pos 900000) ∷ Mark ∷ Mark ∷ Init t (pos 10) (pos 900000) ∷ Store t (in_epoch (pos 0)) part ∷ [])

fenced_pair : pair_of fenced ≡ Some (in_epoch (pos 2))
fenced_pair = refl

fenced_writes : fenced.entries part ≡ Data (in_epoch (pos 0)) ∷ Other ∷ Marker (in_epoch (pos 1)) Abort ∷ []
fenced_writes = refl

-- by its time: at the moment 10 it isn't over, at 11 it is
in_time : state_of (world_after_moves opened (Moment 10 ∷ Expire t ∷ [])) ≡ Some Ongoing
in_time = refl

late : state_of (world_after_moves opened (Moment 11 ∷ Expire t ∷ [])) ≡ Some PrepareAbort
late = refl

-- ---- producer ids without transactional id

-- producer 1 writes without one, producer 0 doesn't
alone : (world_after_moves opened (Give ∷ Send (record { producer = pos 1; epoch = pos 0 }) part ∷ Send (in_epoch (pos 0)) part ∷ [])).entries part
    ≡ Data (in_epoch (pos 0)) ∷ Other ∷ Data (record { producer = pos 1; epoch = pos 0 }) ∷ []
alone = refl

-- ---- groups without epochs

kept_group : (kept_world_after_moves first_world (Init t (pos 10) (pos 900000) ∷ Init t (pos 10) (pos 900000) ∷ AddGroup t (in_epoch (pos 1)) (103 ∷ []) ∷ Store t (in_epoch (pos 1)) group ∷ [])).entries group ≡ Data (in_epoch (pos 0)) ∷ []
kept_group = refl
