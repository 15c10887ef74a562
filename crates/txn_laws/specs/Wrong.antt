-- Wrong calls of the coordinator, each of which a table refutes.
use Rattle.std.specs.Prelude.{ℕ, pos, List, [], ◌∷◌, Bool, true, false, filter, int_le, if◌then◌else◌, Option, Some, None}
use Rattle.std.specs.Int.{int_min}
use Rattle.wire_types.specs.declared.error_code.ErrorCode.{ErrorCode}
use Rattle.wire_types.specs.declared.error_code.ErrorCode.TheVariants as codes
use Rattle.txn_coordinator.specs.declared.producer_id.ProducerIdAndEpoch.{ProducerIdAndEpoch}
use Rattle.txn_coordinator.specs.declared.ending.EndForm.TheVariants.{Plain, Fencing, Raising}
use Rattle.txn_coordinator.specs.declared.ending.EndForm.{EndForm}
use Rattle.txn_coordinator.specs.declared.marker.PendingMarker.{PendingMarker}
use Rattle.txn_coordinator.specs.declared.target.Target.{Target}
use Rattle.txn_coordinator.specs.declared.target.Target.TheVariants.{Partition, Group}
use Rattle.txn_coordinator.specs.declared.transaction.Transaction.{Transaction}
use Rattle.txn_coordinator.specs.Transition.{Transition, Stays, Puts}
use Rattle.txn_coordinator.specs.Coordinator.{CoordinatorValue, id_record, fresh_producer_id}
use Rattle.txn_coordinator.specs.InitProducerId.{init}
use Rattle.txn_coordinator.specs.Adding.{add_partitions, add_group}
use Rattle.txn_coordinator.specs.EndTxn.{end}
use Rattle.txn_laws.specs.Tables.{InitRule, EndRule, AddRule, GroupRule}

-- a call that puts another record, and one that is told another code
abbrev pub putting : (Transaction → Transaction) → Transition → Transition
putting f (Stays code) = Stays code
putting f (Puts code t given owed) = Puts code (f t) given owed

abbrev pub told_as : (ErrorCode → ErrorCode) → Transition → Transition
told_as f (Stays code) = Stays (f code)
told_as f (Puts code t given owed) = Puts (f code) t given owed

-- ---- InitProducerId

abbrev pub is_from_100 : Option Transaction → Bool
is_from_100 None = false
is_from_100 (Some t) = int_le (pos 100) t.pair.epoch

abbrev pub renewed : CoordinatorValue → List ℕ → Transition → Transition
renewed c id (Stays code) = Stays code
renewed c id (Puts code t given owed) =
    Puts code (record t { pair = record { producer = fresh_producer_id c; epoch = pos 0 } })
    (Some id ∷ []) owed

-- the epochs of a producer id are used up from 100 on
abbrev pub init_used_up_from_100 : InitRule
init_used_up_from_100 c id timeout greatest =
    if is_from_100 (id_record c.transactions id) then renewed c id (init c id timeout greatest)
    else init c id timeout greatest

abbrev pub or_none : ErrorCode → ErrorCode
or_none codes.ConcurrentTransactions = codes.None
or_none code = code

-- nobody is told to wait for an open transaction that is aborted
abbrev pub init_beside_open : InitRule
init_beside_open c id timeout greatest = told_as or_none (init c id timeout greatest)

-- a timeout above the greatest is cut
abbrev pub init_cutting_timeouts : InitRule
init_cutting_timeouts c id timeout greatest = init c id (int_min timeout greatest) greatest

-- ---- EndTxn

abbrev pub is_partition : Target → Bool
is_partition (Partition p) = true
is_partition (Group g) = false

abbrev pub without_groups : Transition → Transition
without_groups (Stays code) = Stays code
without_groups (Puts code t given owed) =
    Puts code t given (filter (λ (m : PendingMarker). is_partition m.target) owed)

-- groups get no marker
abbrev pub end_without_groups : EndRule
end_without_groups c form id pair outcome = without_groups (end c form id pair outcome)

-- version 5 leaves the id its epoch
abbrev pub end_keeping_the_epoch : EndRule
end_keeping_the_epoch c form id pair outcome =
    putting (λ (t : Transaction). record t { pair = pair }) (end c form id pair outcome)

abbrev pub form_until_4 : EndForm → EndForm
form_until_4 Plain = Plain
form_until_4 Fencing = Fencing
form_until_4 Raising = Fencing

-- version 5 does as version 4
abbrev pub end_in_5_as_in_4 : EndRule
end_in_5_as_in_4 c form id pair outcome = end c (form_until_4 form) id pair outcome

abbrev pub never_fenced : ErrorCode → ErrorCode
never_fenced codes.ProducerFenced = codes.InvalidProducerEpoch
never_fenced code = code

-- each version is told INVALID_PRODUCER_EPOCH in place of PRODUCER_FENCED
abbrev pub end_never_fencing : EndRule
end_never_fencing c form id pair outcome = told_as never_fenced (end c form id pair outcome)

-- ---- AddPartitionsToTxn and AddOffsetsToTxn

-- a transaction that waits for its markers takes in partitions
abbrev pub add_to_prepared : AddRule
add_to_prepared c id pair moment ps = told_as or_none (add_partitions c id pair moment ps)

-- each add begins an open transaction's time once more
abbrev pub add_beginning_again : AddRule
add_beginning_again c id pair moment ps =
    putting (λ (t : Transaction). record t { start = moment }) (add_partitions c id pair moment ps)

-- the partitions that were there go
abbrev pub add_dropping_earlier : AddRule
add_dropping_earlier c id pair moment ps =
    putting (λ (t : Transaction). record t { partitions = ps }) (add_partitions c id pair moment ps)

abbrev pub own_producer : Option Transaction → ProducerIdAndEpoch → ProducerIdAndEpoch
own_producer None pair = pair
own_producer (Some t) pair = record pair { producer = t.pair.producer }

-- whoever has the epoch adds, with any producer id
abbrev pub add_by_any_producer : AddRule
add_by_any_producer c id pair moment ps =
    add_partitions c id (own_producer (id_record c.transactions id) pair) moment ps

-- each add begins an open transaction's time once more
abbrev pub group_beginning_again : GroupRule
group_beginning_again c id pair moment group =
    putting (λ (t : Transaction). record t { start = moment }) (add_group c id pair moment group)

-- the groups that were there go
abbrev pub group_dropping_earlier : GroupRule
group_dropping_earlier c id pair moment group =
    putting (λ (t : Transaction). record t { groups = group ∷ [] })
    (add_group c id pair moment group)
