-- The wrong calls are refuted, each in a worked case.
use Rattle.std.proofs.Common.{◌≡◌, inl, inr, ℕ, ℤ, pos, List, [], ◌∷◌, Option, Some, None, refl, sym, ap, subst, ◌∙◌, arith}
use Rattle.std.proofs.lemmas.Int.{ints}
use Rattle.wire_types.specs.ErrorCode.{number_of}
use Rattle.record_batch.specs.declared.transaction_result.TransactionResult.TheVariants.{Commit}
use Rattle.txn_coordinator.specs.declared.producer_id.ProducerIdAndEpoch.{ProducerIdAndEpoch}
use Rattle.txn_coordinator.specs.declared.target.TopicPartition.{TopicPartition}
use Rattle.txn_coordinator.specs.declared.ending.EndForm.TheVariants.{Plain, Fencing, Raising}
use Rattle.txn_coordinator.specs.declared.transaction.Transaction.{Transaction}
use Rattle.txn_coordinator.specs.declared.transaction.TransactionState.{TransactionState}
use Rattle.txn_coordinator.specs.declared.transaction.TransactionState.TheVariants.{Empty, Ongoing, PrepareCommit, CompleteCommit}
use Rattle.txn_coordinator.specs.Coordinator.{CoordinatorValue}
use Rattle.txn_coordinator.specs.InitProducerId.{init}
use Rattle.txn_coordinator.specs.Adding.{add_partitions, add_group}
use Rattle.txn_coordinator.specs.EndTxn.{end}
use Rattle.txn_laws.specs.Sound.{IsAmong}
use Rattle.txn_laws.specs.Tables.{InitTable, EndTable, AddTable, GroupTable, ComesWithOwn}
use Rattle.txn_laws.specs.TurnedAway.{TurnsAwayByTable, IsOfOtherEpoch}
use Rattle.txn_laws.specs.Wrong.{init_used_up_from_100, init_beside_open, init_cutting_timeouts, end_without_groups, end_keeping_the_epoch, end_in_5_as_in_4, end_never_fencing, add_to_prepared, add_beginning_again, add_dropping_earlier, add_by_any_producer, group_beginning_again, group_dropping_earlier}

-- ---- the id `t` with producer 0, and a partition and a group in its transaction

abbrev id : List ℕ
id = 116 ∷ []

abbrev first_partition : TopicPartition
first_partition = record { topic = 97 ∷ []; index = pos 0 }

abbrev second_partition : TopicPartition
second_partition = record { topic = 97 ∷ []; index = pos 1 }

abbrev in_epoch : ℤ → ProducerIdAndEpoch
in_epoch epoch = record { producer = pos 0; epoch = epoch }

abbrev t : ℤ → TransactionState → Transaction
t epoch state = record { id = id; pair = in_epoch epoch; timeout = 1000; start = 0; state = state; partitions = first_partition ∷ []; groups = (1 ∷ []) ∷ []; kept = None }

abbrev c : ℤ → TransactionState → CoordinatorValue
c epoch state = record { transactions = t epoch state ∷ []; given = Some id ∷ []; warrants = [] }

named : id ≡ [] → ⊥
named h = let clash : ◌≡◌ {A = List ℕ} (116 ∷ []) [] = h in cc

own : (state : TransactionState) → ComesWithOwn (c (pos 0) state) id (in_epoch (pos 0)) (t (pos 0) state)
own state = record { named = named; found = refl; own = refl; low = omega (arith, ints); new = λ h. let clash : ◌≡◌ {A = Option ProducerIdAndEpoch} None (Some (in_epoch (pos 0))) = h in cc }

-- ---- InitProducerId

pub not_from_100 : ¬ InitTable init_used_up_from_100
not_from_100 law =
    let row = law.known (c (pos 100) Empty) id 1000 (pos 900000) (t (pos 100) Empty) named (omega arith) (omega (arith, ints)) refl in
    let clash : pos 0 ≡ pos 101 = ((row.next tt).raised (omega (arith, ints))).1 in
    cc

pub not_beside_open : ¬ InitTable init_beside_open
unfolding number_of
not_beside_open law =
    let clash : pos 0 ≡ pos 51 = (law.known (c (pos 0) Ongoing) id 1000 (pos 900000) (t (pos 0) Ongoing) named (omega arith) (omega (arith, ints)) refl).code in
    cc

pub not_cutting : ¬ TurnsAwayByTable init_cutting_timeouts add_partitions add_group end
unfolding number_of
not_cutting law =
    let clash : pos 0 ≡ pos 50 = (law.timeout (c (pos 0) Empty) id (pos 2000) (pos 1000) named (inr (omega (arith, ints)))).code in
    cc

-- ---- EndTxn

pub groups_are_marked : ¬ EndTable end_without_groups
groups_are_marked law = let clash : ◌≡◌ {A = ℕ} 1 2 = (law (c (pos 0) Ongoing) Plain id (in_epoch (pos 0)) Commit (t (pos 0) Ongoing) (own Ongoing)).markers in cc

pub epoch_is_raised : ¬ EndTable end_keeping_the_epoch
epoch_is_raised law =
    let row = law (c (pos 0) Ongoing) Raising id (in_epoch (pos 0)) Commit (t (pos 0) Ongoing) (own Ongoing) in
    let clash : pos 0 ≡ pos 1 = ((row.renewed tt).raised (omega (arith, ints))).1 in
    cc

pub version_5_is_apart : ¬ EndTable end_in_5_as_in_4
unfolding number_of
version_5_is_apart law =
    let clash : pos 0 ≡ pos 48 = (law (c (pos 0) CompleteCommit) Raising id (in_epoch (pos 0)) Commit (t (pos 0) CompleteCommit) (own CompleteCommit)).code in
    cc

earlier : IsOfOtherEpoch (t (pos 1) Empty) (in_epoch (pos 0))
earlier = record { producer = refl; epoch = inl (λ h. let clash : pos 0 ≡ pos 1 = h in cc) }

pub fenced_is_told : ¬ TurnsAwayByTable init add_partitions add_group end_never_fencing
unfolding number_of
fenced_is_told law =
    let clash : pos 47 ≡ pos 90 = (law.epoch.ends (c (pos 1) Empty) Fencing id (in_epoch (pos 0)) Commit (t (pos 1) Empty) named refl (λ h. let none : ◌≡◌ {A = Option ProducerIdAndEpoch} None (Some (in_epoch (pos 0))) = h in cc) earlier).code in
    cc

-- ---- AddPartitionsToTxn and AddOffsetsToTxn

pub prepared_is_shut : ¬ AddTable add_to_prepared
unfolding number_of
prepared_is_shut law =
    let clash : pos 0 ≡ pos 51 = (law (c (pos 0) PrepareCommit) id (in_epoch (pos 0)) 5 second_partition [] (t (pos 0) PrepareCommit) named refl refl (omega (arith, ints))).code in
    cc

found_start : Option Transaction → ℕ
found_start None = 0
found_start (Some t) = t.start

pub time_goes_on : ¬ AddTable add_beginning_again
unfolding found_start
time_goes_on law =
    let taken = (law (c (pos 0) Ongoing) id (in_epoch (pos 0)) 5 second_partition [] (t (pos 0) Ongoing) named refl refl (omega (arith, ints))).taken refl in
    let clash : ◌≡◌ {A = ℕ} 5 0 = ap found_start taken.found ∙ taken.goes_on refl in
    cc

found_partitions : Option Transaction → List TopicPartition
found_partitions None = []
found_partitions (Some t) = t.partitions

pub earlier_stay : ¬ AddTable add_dropping_earlier
unfolding found_partitions
earlier_stay law =
    let taken = (law (c (pos 0) Ongoing) id (in_epoch (pos 0)) 5 second_partition [] (t (pos 0) Ongoing) named refl refl (omega (arith, ints))).taken refl in
    by (subst (λ (ps : List TopicPartition). IsAmong ps first_partition) (sym (ap found_partitions taken.found)) (taken.partitions.kept first_partition (inl refl))) where
      by : IsAmong (second_partition ∷ []) first_partition → ⊥
      by (inl same) = let clash : pos 1 ≡ pos 0 = ap (λ (p : TopicPartition). p.index) same in cc
      by (inr none) = none

pub producer_is_asked : ¬ TurnsAwayByTable init add_by_any_producer add_group end
unfolding number_of
producer_is_asked law =
    let clash : pos 0 ≡ pos 49 = (law.producer.adds (c (pos 0) Empty) id (record { producer = pos 7; epoch = pos 0 }) 5 second_partition [] (t (pos 0) Empty) named refl (λ h. let other : pos 7 ≡ pos 0 = h in cc)).code in
    cc

pub group_time_goes_on : ¬ GroupTable group_beginning_again
unfolding found_start
group_time_goes_on law =
    let taken = (law (c (pos 0) Ongoing) id (in_epoch (pos 0)) 5 (2 ∷ []) (t (pos 0) Ongoing) named refl refl (omega (arith, ints))).taken refl in
    let clash : ◌≡◌ {A = ℕ} 5 0 = ap found_start taken.found ∙ taken.goes_on refl in
    cc

found_groups : Option Transaction → List (List ℕ)
found_groups None = []
found_groups (Some t) = t.groups

pub earlier_groups_stay : ¬ GroupTable group_dropping_earlier
unfolding found_groups
earlier_groups_stay law =
    let taken = (law (c (pos 0) Ongoing) id (in_epoch (pos 0)) 5 (2 ∷ []) (t (pos 0) Ongoing) named refl refl (omega (arith, ints))).taken refl in
    by (subst (λ (gs : List (List ℕ)). IsAmong gs (1 ∷ [])) (sym (ap found_groups taken.found)) (taken.groups.kept (1 ∷ []) (inl refl))) where
      by : IsAmong {X = List ℕ} ((2 ∷ []) ∷ []) (1 ∷ []) → ⊥
      by (inl same) = let clash : ◌≡◌ {A = List ℕ} (2 ∷ []) (1 ∷ []) = same in cc
      by (inr none) = none
