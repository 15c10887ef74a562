-- Small histories whose answers are known from outside: id `t` with producer 0.
use Rattle.std.proofs.Common.{◌≡◌, ℕ, ℤ, pos, negsuc, List, [], ◌∷◌, Some, None, refl}
use Rattle.wire_types.specs.declared.error_code.ErrorCode.TheVariants as codes
use Rattle.txn_coordinator.specs.declared.producer_id.ProducerIdAndEpoch.{ProducerIdAndEpoch}
use Rattle.txn_coordinator.specs.declared.producer_id.ProducerIdAnswer.{ProducerIdAnswer}
use Rattle.txn_coordinator.specs.declared.producer_id.ProducerIdOwner.TheVariants.{Never, Free, Owned}
use Rattle.txn_coordinator.specs.declared.target.TopicPartition.{TopicPartition}
use Rattle.txn_coordinator.specs.declared.target.Target.{Target}
use Rattle.txn_coordinator.specs.declared.target.Target.TheVariants.{Partition, Group}
use Rattle.txn_coordinator.specs.declared.transaction.TransactionState.{TransactionState}
use Rattle.txn_coordinator.specs.declared.transaction.TransactionState.TheVariants.{Empty, Ongoing}
use Rattle.record_batch.specs.declared.transaction_result.TransactionResult.{TransactionResult}
use Rattle.record_batch.specs.declared.transaction_result.TransactionResult.TheVariants.{Commit, Abort}
use Rattle.txn_coordinator.specs.declared.marker.PendingMarker.{PendingMarker}
use Rattle.txn_coordinator.specs.declared.ending.EndForm.{EndForm}
use Rattle.txn_coordinator.specs.declared.ending.EndForm.TheVariants as forms
use Rattle.txn_coordinator.specs.Transition.{Transition}
use Rattle.txn_coordinator.specs.Words.{no_producer}
use Rattle.txn_coordinator.specs.Coordinator.{CoordinatorValue, no_transactions, owner, given_by, given_free, apply_transition, transition_code, transition_answer}
use Rattle.txn_coordinator.specs.InitProducerId.{init}
use Rattle.txn_coordinator.specs.Adding.{add_partitions, add_group}
use Rattle.txn_coordinator.specs.EndTxn.{end}
use Rattle.txn_coordinator.specs.Expiry.{expire}
use Rattle.txn_coordinator.specs.Holding.{holding_code}
use Rattle.txn_coordinator.specs.Warrants.{with_front_written}

abbrev t : List ℕ
t = 116 ∷ []

abbrev g : List ℕ
g = 103 ∷ []

-- partition 0 of topic `b`
abbrev b0 : TopicPartition
b0 = record { topic = 98 ∷ []; index = pos 0 }

abbrev pair : ℤ → ℤ → ProducerIdAndEpoch
pair producer epoch = record { producer = producer; epoch = epoch }

-- of producer 0
abbrev in_epoch : ℤ → ProducerIdAndEpoch
in_epoch epoch = pair (pos 0) epoch

abbrev fine : ProducerIdAndEpoch → ProducerIdAnswer
fine p = record { code = codes.None; pair = p }

abbrev init_t : CoordinatorValue → Transition
init_t c = init c t (pos 1000) (pos 900000)

-- what an InitProducerId leaves
abbrev inited : CoordinatorValue → CoordinatorValue
inited c = apply_transition c (init_t c)

abbrev add_b0 : CoordinatorValue → ℤ → Transition
add_b0 c epoch = add_partitions c t (in_epoch epoch) 0 (b0 ∷ [])

abbrev end_t : CoordinatorValue → EndForm → ℤ → TransactionResult → Transition
end_t c form epoch outcome = end c form t (in_epoch epoch) outcome

abbrev marker : ℤ → TransactionResult → Target → PendingMarker
marker epoch outcome target = record { id = t; pair = in_epoch epoch; outcome = outcome; target = target }

-- ---- a transaction of one partition, begun at moment 0 with a timeout of 1,000

abbrev started : CoordinatorValue
started = inited no_transactions

abbrev ongoing : CoordinatorValue
ongoing = apply_transition started (add_b0 started (pos 0))

abbrev ended : CoordinatorValue
ended = apply_transition ongoing (end_t ongoing forms.Plain (pos 0) Commit)

first_init : transition_answer no_transactions t (init_t no_transactions) ≡ fine (in_epoch (pos 0))
first_init = refl

init_empty_id : transition_code (init no_transactions [] (pos 1000) (pos 900000)) ≡ codes.InvalidRequest
init_empty_id = refl

init_no_timeout : transition_code (init no_transactions t (pos 0) (pos 900000)) ≡ codes.InvalidTransactionTimeout
init_no_timeout = refl

init_negative_timeout : transition_code (init no_transactions t (negsuc 0) (pos 900000)) ≡ codes.InvalidTransactionTimeout
init_negative_timeout = refl

init_greatest_timeout : transition_code (init no_transactions t (pos 900000) (pos 900000)) ≡ codes.None
init_greatest_timeout = refl

init_long_timeout : transition_code (init no_transactions t (pos 900001) (pos 900000)) ≡ codes.InvalidTransactionTimeout
init_long_timeout = refl

adds : transition_code (add_b0 started (pos 0)) ≡ codes.None
adds = refl

adds_again : apply_transition ongoing (add_b0 ongoing (pos 0)) ≡ ongoing
adds_again = refl

-- nothing is begun by naming nothing
adds_nothing : apply_transition started (add_partitions started t (in_epoch (pos 0)) 0 []) ≡ started
adds_nothing = refl

adds_empty_id : transition_code (add_partitions started [] (in_epoch (pos 0)) 0 (b0 ∷ [])) ≡ codes.InvalidRequest
adds_empty_id = refl

adds_other_epoch : transition_code (add_b0 started (pos 1)) ≡ codes.InvalidProducerEpoch
adds_other_epoch = refl

adds_negative_epoch : transition_code (add_b0 started (negsuc 0)) ≡ codes.InvalidProducerEpoch
adds_negative_epoch = refl

adds_negative_producer : transition_code (add_partitions started t (pair (negsuc 0) (pos 0)) 0 (b0 ∷ [])) ≡ codes.InvalidProducerIdMapping
adds_negative_producer = refl

adds_waiting : transition_code (add_b0 ended (pos 0)) ≡ codes.ConcurrentTransactions
adds_waiting = refl

holds_it : holding_code ongoing t (in_epoch (pos 0)) (Partition b0) ≡ codes.None
holds_it = refl

holds_nothing_else : holding_code ongoing t (in_epoch (pos 0)) (Group g) ≡ codes.InvalidTxnState
holds_nothing_else = refl

holds_other_epoch : holding_code ongoing t (in_epoch (pos 1)) (Partition b0) ≡ codes.InvalidProducerEpoch
holds_other_epoch = refl

holds_other_producer : holding_code ongoing t (pair (pos 1) (pos 0)) (Partition b0) ≡ codes.InvalidProducerIdMapping
holds_other_producer = refl

holds_unknown : holding_code ongoing g (in_epoch (pos 0)) (Partition b0) ≡ codes.InvalidProducerIdMapping
holds_unknown = refl

ends : transition_answer ongoing t (end_t ongoing forms.Plain (pos 0) Commit) ≡ fine (in_epoch (pos 0))
ends = refl

owed : ended.warrants ≡ marker (pos 0) Commit (Partition b0) ∷ []
owed = refl

again_before_mark : transition_code (end_t ended forms.Plain (pos 0) Commit) ≡ codes.ConcurrentTransactions
again_before_mark = refl

abort_before_mark : transition_code (end_t ended forms.Plain (pos 0) Abort) ≡ codes.InvalidTxnState
abort_before_mark = refl

again_after_mark : transition_code (end_t (with_front_written ended) forms.Plain (pos 0) Commit) ≡ codes.None
again_after_mark = refl

abort_after_mark : transition_code (end_t (with_front_written ended) forms.Plain (pos 0) Abort) ≡ codes.InvalidTxnState
abort_after_mark = refl

ends_empty_id : transition_code (end ongoing forms.Plain [] (in_epoch (pos 0)) Commit) ≡ codes.InvalidRequest
ends_empty_id = refl

-- ---- expiry

not_due : expire ongoing 1000 ≡ ongoing
not_due = refl

due : (expire ongoing 1001).warrants ≡ marker (pos 1) Abort (Partition b0) ∷ []
due = refl

end_of_expired : transition_code (end_t (with_front_written (expire ongoing 1001)) forms.Plain (pos 0) Commit) ≡ codes.InvalidProducerEpoch
end_of_expired = refl

-- ---- InitProducerId while a transaction is open, and after its marker

init_ongoing : transition_answer ongoing t (init_t ongoing) ≡ record { code = codes.ConcurrentTransactions; pair = no_producer }
init_ongoing = refl

abbrev aborted : CoordinatorValue
aborted = with_front_written (inited ongoing)

init_aborted : transition_answer aborted t (init_t aborted) ≡ fine (in_epoch (pos 2))
init_aborted = refl

-- ---- a partition and a group

abbrev both : CoordinatorValue
both = apply_transition ongoing (add_group ongoing t (in_epoch (pos 0)) 0 g)

abbrev both_ended : CoordinatorValue
both_ended = apply_transition both (end_t both forms.Plain (pos 0) Commit)

partition_first : both_ended.warrants ≡ marker (pos 0) Commit (Partition b0) ∷ marker (pos 0) Commit (Group g) ∷ []
partition_first = refl

-- after one of the two markers the transaction still waits, after both it is complete
one_mark : transition_code (end_t (with_front_written both_ended) forms.Plain (pos 0) Commit) ≡ codes.ConcurrentTransactions
one_mark = refl

two_marks : transition_code (end_t (with_front_written (with_front_written both_ended)) forms.Plain (pos 0) Commit) ≡ codes.None
two_marks = refl

third_mark : with_front_written (with_front_written (with_front_written both_ended)) ≡ with_front_written (with_front_written both_ended)
third_mark = refl

-- ---- versions 2 to 5

old_in_two : transition_code (end_t ongoing forms.Fencing (pos 1) Commit) ≡ codes.ProducerFenced
old_in_two = refl

abbrev five : CoordinatorValue
five = apply_transition ongoing (end_t ongoing forms.Raising (pos 0) Commit)

five_ends : transition_answer ongoing t (end_t ongoing forms.Raising (pos 0) Commit) ≡ fine (in_epoch (pos 1))
five_ends = refl

five_marker : five.warrants ≡ marker (pos 1) Commit (Partition b0) ∷ []
five_marker = refl

five_again : transition_answer five t (end_t five forms.Raising (pos 0) Commit) ≡ record { code = codes.ConcurrentTransactions; pair = no_producer }
five_again = refl

five_after_mark : transition_answer (with_front_written five) t (end_t (with_front_written five) forms.Raising (pos 0) Commit) ≡ fine (in_epoch (pos 1))
five_after_mark = refl

five_other_after_mark : transition_answer (with_front_written five) t (end_t (with_front_written five) forms.Raising (pos 0) Abort) ≡ record { code = codes.InvalidTxnState; pair = no_producer }
five_other_after_mark = refl

five_commits_nothing : transition_code (end_t (with_front_written five) forms.Raising (pos 1) Commit) ≡ codes.InvalidTxnState
five_commits_nothing = refl

abbrev five_aborted : CoordinatorValue
five_aborted = apply_transition (with_front_written five) (end_t (with_front_written five) forms.Raising (pos 1) Abort)

five_aborts_nothing : transition_answer (with_front_written five) t (end_t (with_front_written five) forms.Raising (pos 1) Abort) ≡ fine (in_epoch (pos 2))
five_aborts_nothing = refl

five_owes_nothing : five_aborted.warrants ≡ []
five_owes_nothing = refl

five_aborts_again : transition_answer five_aborted t (end_t five_aborted forms.Raising (pos 1) Abort) ≡ fine (in_epoch (pos 2))
five_aborts_again = refl

-- ---- epochs that are used up

abbrev at_epoch : ℤ → TransactionState → CoordinatorValue
at_epoch epoch state = record {
  transactions = record { id = t; pair = in_epoch epoch; timeout = 1000; start = 0; state = state; partitions = b0 ∷ []; groups = []; kept = None } ∷ [];
  given = Some t ∷ [];
  warrants = [];
}

last_init : transition_answer (at_epoch (pos 32765) Empty) t (init_t (at_epoch (pos 32765) Empty)) ≡ fine (in_epoch (pos 32766))
last_init = refl

used_up : transition_answer (at_epoch (pos 32766) Empty) t (init_t (at_epoch (pos 32766) Empty)) ≡ fine (pair (pos 1) (pos 0))
used_up = refl

abbrev worn : CoordinatorValue
worn = at_epoch (pos 32766) Ongoing

worn_expires : (expire worn 1001).warrants ≡ marker (pos 32767) Abort (Partition b0) ∷ []
worn_expires = refl

worn_init : transition_answer (with_front_written (expire worn 1001)) t (init_t (with_front_written (expire worn 1001))) ≡ fine (pair (pos 1) (pos 0))
worn_init = refl

-- the last epoch is nobody's
worn_adds : transition_code (add_b0 (with_front_written (expire worn 1001)) (pos 32767)) ≡ codes.InvalidProducerEpoch
worn_adds = refl

abbrev worn_five : CoordinatorValue
worn_five = apply_transition worn (end_t worn forms.Raising (pos 32766) Commit)

worn_five_ends : transition_answer worn t (end_t worn forms.Raising (pos 32766) Commit) ≡ fine (pair (pos 1) (pos 0))
worn_five_ends = refl

worn_five_marker : worn_five.warrants ≡ marker (pos 32767) Commit (Partition b0) ∷ []
worn_five_marker = refl

worn_five_holds : holding_code worn_five t (in_epoch (pos 32766)) (Partition b0) ≡ codes.InvalidProducerIdMapping
worn_five_holds = refl

-- ---- producer ids given out

owned : given_by (owner started (pos 0)) ≡ Owned
owned = refl

not_yet : given_by (owner started (pos 1)) ≡ Never
not_yet = refl

free : given_by (owner (given_free started) (pos 1)) ≡ Free
free = refl

never_negative : given_by (owner started (negsuc 0)) ≡ Never
never_negative = refl
