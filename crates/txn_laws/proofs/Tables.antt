-- The calls come to what the tables say.
use Rattle.std.proofs.Common.{◌≡◌, ◌≢◌, ◌⊎◌, inl, inr, Err, ℕ, ◌+◌, ◌≤◌, ℤ, pos, List, [], ◌∷◌, ◌++◌, length, map, Option, Some, None, Bool, true, false, ◌&&◌, cond, refl, sym, subst, ap, ◌∙◌, arith}
use Rattle.std.specs.Prelude.{◌<ℤ◌, ◌≤ℤ◌, int_le, int_lt}
use Rattle.std.specs.Ordering.{int_eq}
use Rattle.std.specs.Str.{bytes_eq}
use Rattle.std.proofs.lemmas.Bool.{true≢false, le-leb, or_cases, and_parts}
use Rattle.std.proofs.lemmas.Bool.Decides.{Decides-int_eq}
use Rattle.std.proofs.lemmas.Int.{ints}
use Rattle.std.proofs.lemmas.List.{length-append, length-map}
use Rattle.wire_types.specs.declared.error_code.ErrorCode.{ErrorCode}
use Rattle.wire_types.specs.declared.error_code.ErrorCode.TheVariants as errors
use Rattle.wire_types.specs.ErrorCode.{number_of}
use Rattle.record_batch.specs.declared.transaction_result.TransactionResult.{TransactionResult}
use Rattle.record_batch.specs.declared.transaction_result.TransactionResult.TheVariants.{Commit, Abort}
use Rattle.txn_coordinator.specs.declared.producer_id.ProducerIdAndEpoch.{ProducerIdAndEpoch}
use Rattle.txn_coordinator.specs.declared.marker.PendingMarker.{PendingMarker}
use Rattle.txn_coordinator.specs.declared.target.TopicPartition.{TopicPartition}
use Rattle.txn_coordinator.specs.declared.target.Target.TheVariants.{Partition, Group}
use Rattle.txn_coordinator.specs.Transition.{Transition, Stays, Puts}
use Rattle.txn_coordinator.specs.declared.transaction.Transaction.{Transaction}
use Rattle.txn_coordinator.specs.declared.transaction.TransactionState.{TransactionState}
use Rattle.txn_coordinator.specs.declared.transaction.TransactionState.TheVariants.{Empty, Ongoing, PrepareCommit, PrepareAbort, CompleteCommit, CompleteAbort}
use Rattle.txn_coordinator.specs.declared.ending.EndForm.{EndForm}
use Rattle.txn_coordinator.specs.declared.ending.EndForm.TheVariants.{Plain, Fencing, Raising}
use Rattle.txn_coordinator.specs.Words.{is_empty, is_same_producer, with_next_epoch, next_id_and_epoch, given_after, last_epoch, targets, is_same_partition, has_partition, has_group}
use Rattle.txn_coordinator.specs.Coordinator.{CoordinatorValue, has_id, id_record, fresh_producer_id, transition_code, apply_transition, id_and_epoch_answer, transition_answer}
use Rattle.txn_coordinator.specs.Preparing.{markers, marker_for, producer_refusal}
use Rattle.txn_coordinator.specs.EndTxn.{other_epoch, renewal_transition, end_in, is_kept, is_again, end_again, end_by, end_found, end}
use Rattle.txn_coordinator.specs.Adding.{partition_added, partitions_added, with_partitions, group_added, with_group, begun_transaction, open_in, open_by, open_found, open_transaction, growth_transition, add_partitions, add_group}
use Rattle.txn_coordinator.specs.InitProducerId.{timeout_within, new_transaction, begin_transition, init_in, init_for, init}
use Rattle.txn_laws.specs.Tables.{end_code, end_markers, IsRenewing, IsNext, ComesWithOwn, EndTable, init_code, IsClosed, InitsByTable, InitsNew, InitTable, add_code, AddsEach, TakesIn, AddTable, TakesGroupIn, GroupTable}
use Rattle.txn_laws.specs.Sound.{IsAmong}
use Rattle.txn_laws.proofs.Base.{same_is, is_same, recorded_put}

-- ---- what the premises say

pub not_empty : (id : List ℕ) → id ≢ [] → is_empty id ≡ false
not_empty [] h = absurd (h refl)
not_empty (b ∷ bs) h = refl

pub same_int : (z : ℤ) → int_eq z z ≡ true
same_int z = (Decides-int_eq z z).1 refl

is_low : (e : ℤ) → e <ℤ pos 32767 → int_lt e last_epoch ≡ true
is_low e h = grind (arith, ints)

-- nothing refuses the own pair
unrefused : (code : ErrorCode) (t : Transaction) → t.pair.epoch <ℤ pos 32767 → producer_refusal code t t.pair ≡ None
unrefused code t low =
    ap (λ (b : Bool). cond b (cond (int_eq t.pair.epoch t.pair.epoch && int_lt t.pair.epoch last_epoch) None (Some code)) (Some errors.InvalidProducerIdMapping)) (same_int t.pair.producer)
    ∙ ap (λ (b : Bool). cond (b && int_lt t.pair.epoch last_epoch) None (Some code)) (same_int t.pair.epoch)
    ∙ ap (λ (b : Bool). cond b None (Some code)) (is_low t.pair.epoch low)

same_pair : (a b : ProducerIdAndEpoch) → is_same_producer a b ≡ true → a ≡ b
same_pair a b h =
    let parts = and_parts (int_eq a.producer b.producer) (int_eq a.epoch b.epoch) h in
    let producer = (Decides-int_eq a.producer b.producer).0 parts.0 in
    let epoch = (Decides-int_eq a.epoch b.epoch).0 parts.1 in
    (λ i. record { producer = producer i; epoch = epoch i })

not_kept : (kept : Option ProducerIdAndEpoch) (pair : ProducerIdAndEpoch) → kept ≢ Some pair → is_kept kept pair ≡ false
not_kept None pair new = refl
not_kept (Some k) pair new = by_same (is_same_producer k pair) refl where
  by_same : (b : Bool) → is_same_producer k pair ≡ b → b ≡ false
  by_same true h = absurd (new (ap (λ (p : ProducerIdAndEpoch). Some p) (same_pair k pair h)))
  by_same false h = refl

pub not_again : (form : EndForm) (t : Transaction) (pair : ProducerIdAndEpoch) → t.kept ≢ Some pair → is_again form t pair ≡ false
not_again Plain t pair new = refl
not_again Fencing t pair new = refl
not_again Raising t pair new = not_kept t.kept pair new

-- a call with the own pair goes by the state
goes_by_state : (c : CoordinatorValue) (form : EndForm) (id : List ℕ) (pair : ProducerIdAndEpoch) (outcome : TransactionResult) (t : Transaction) → ComesWithOwn c id pair t → end c form id pair outcome ≡ end_in t.state form t (fresh_producer_id c) outcome
goes_by_state c form id pair outcome t h =
    ap (λ (b : Bool). cond b (Stays errors.InvalidRequest) (end_found (id_record c.transactions id) form (fresh_producer_id c) pair outcome)) (not_empty id h.named)
    ∙ ap (λ (o : Option Transaction). end_found o form (fresh_producer_id c) pair outcome) h.found
    ∙ ap (λ (b : Bool). cond b (Stays (end_again t.state outcome)) (end_by (producer_refusal (other_epoch form) t pair) form t (fresh_producer_id c) outcome)) (not_again form t pair h.new)
    ∙ ap (λ (p : ProducerIdAndEpoch). end_by (producer_refusal (other_epoch form) t p) form t (fresh_producer_id c) outcome) h.own
    ∙ ap (λ (o : Option ErrorCode). end_by o form t (fresh_producer_id c) outcome) (unrefused (other_epoch form) t h.low)

-- ---- the rows

codes_are : (state : TransactionState) (form : EndForm) (t : Transaction) (next : ℤ) (outcome : TransactionResult) → number_of (transition_code (end_in state form t next outcome)) ≡ end_code form state outcome
unfolding number_of
codes_are Empty Plain t next Commit = refl
codes_are Empty Plain t next Abort = refl
codes_are Empty Fencing t next Commit = refl
codes_are Empty Fencing t next Abort = refl
codes_are Empty Raising t next Commit = refl
codes_are Empty Raising t next Abort = refl
codes_are Ongoing Plain t next Commit = refl
codes_are Ongoing Plain t next Abort = refl
codes_are Ongoing Fencing t next Commit = refl
codes_are Ongoing Fencing t next Abort = refl
codes_are Ongoing Raising t next Commit = refl
codes_are Ongoing Raising t next Abort = refl
codes_are PrepareCommit Plain t next Commit = refl
codes_are PrepareCommit Plain t next Abort = refl
codes_are PrepareCommit Fencing t next Commit = refl
codes_are PrepareCommit Fencing t next Abort = refl
codes_are PrepareCommit Raising t next Commit = refl
codes_are PrepareCommit Raising t next Abort = refl
codes_are PrepareAbort Plain t next Commit = refl
codes_are PrepareAbort Plain t next Abort = refl
codes_are PrepareAbort Fencing t next Commit = refl
codes_are PrepareAbort Fencing t next Abort = refl
codes_are PrepareAbort Raising t next Commit = refl
codes_are PrepareAbort Raising t next Abort = refl
codes_are CompleteCommit Plain t next Commit = refl
codes_are CompleteCommit Plain t next Abort = refl
codes_are CompleteCommit Fencing t next Commit = refl
codes_are CompleteCommit Fencing t next Abort = refl
codes_are CompleteCommit Raising t next Commit = refl
codes_are CompleteCommit Raising t next Abort = refl
codes_are CompleteAbort Plain t next Commit = refl
codes_are CompleteAbort Plain t next Abort = refl
codes_are CompleteAbort Fencing t next Commit = refl
codes_are CompleteAbort Fencing t next Abort = refl
codes_are CompleteAbort Raising t next Commit = refl
codes_are CompleteAbort Raising t next Abort = refl

abbrev owed_in : Transition → List PendingMarker
owed_in (Stays code) = []
owed_in (Puts code t given owed) = owed

markers_are : (t : Transaction) (pair : ProducerIdAndEpoch) (outcome : TransactionResult) → length (markers t pair outcome) ≡ length t.partitions + length t.groups
markers_are t pair outcome =
    length-map (targets t) (marker_for t.id pair outcome)
    ∙ length-append (map (λ p. Partition p) t.partitions) (map (λ g. Group g) t.groups)
    ∙ (λ i. length-map t.partitions (λ p. Partition p) i + length-map t.groups (λ g. Group g) i)

owed_is : (state : TransactionState) (form : EndForm) (t : Transaction) (next : ℤ) (outcome : TransactionResult) → length (owed_in (end_in state form t next outcome)) ≡ end_markers state t
owed_is Empty Plain t next Commit = refl
owed_is Empty Plain t next Abort = refl
owed_is Empty Fencing t next Commit = refl
owed_is Empty Fencing t next Abort = refl
owed_is Empty Raising t next Commit = refl
owed_is Empty Raising t next Abort = refl
owed_is Ongoing Plain t next Commit = markers_are t _ Commit
owed_is Ongoing Plain t next Abort = markers_are t _ Abort
owed_is Ongoing Fencing t next Commit = markers_are t _ Commit
owed_is Ongoing Fencing t next Abort = markers_are t _ Abort
owed_is Ongoing Raising t next Commit = markers_are t _ Commit
owed_is Ongoing Raising t next Abort = markers_are t _ Abort
owed_is PrepareCommit Plain t next Commit = refl
owed_is PrepareCommit Plain t next Abort = refl
owed_is PrepareCommit Fencing t next Commit = refl
owed_is PrepareCommit Fencing t next Abort = refl
owed_is PrepareCommit Raising t next Commit = refl
owed_is PrepareCommit Raising t next Abort = refl
owed_is PrepareAbort Plain t next Commit = refl
owed_is PrepareAbort Plain t next Abort = refl
owed_is PrepareAbort Fencing t next Commit = refl
owed_is PrepareAbort Fencing t next Abort = refl
owed_is PrepareAbort Raising t next Commit = refl
owed_is PrepareAbort Raising t next Abort = refl
owed_is CompleteCommit Plain t next Commit = refl
owed_is CompleteCommit Plain t next Abort = refl
owed_is CompleteCommit Fencing t next Commit = refl
owed_is CompleteCommit Fencing t next Abort = refl
owed_is CompleteCommit Raising t next Commit = refl
owed_is CompleteCommit Raising t next Abort = refl
owed_is CompleteAbort Plain t next Commit = refl
owed_is CompleteAbort Plain t next Abort = refl
owed_is CompleteAbort Fencing t next Commit = refl
owed_is CompleteAbort Fencing t next Abort = refl
owed_is CompleteAbort Raising t next Commit = refl
owed_is CompleteAbort Raising t next Abort = refl

owed_then : (c : CoordinatorValue) (transition : Transition) → length (apply_transition c transition).warrants ≡ length c.warrants + length (owed_in transition)
owed_then c (Stays code) = omega arith
owed_then c (Puts code t given owed) = length-append c.warrants owed

-- the record that a renewing call puts
abbrev IsRenewed : Transaction → ℤ → Transition → Type 0
IsRenewed t next transition = (state : TransactionState) × (owed : List PendingMarker) × (transition ≡ renewal_transition t next state owed)

renewing : (state : TransactionState) (form : EndForm) (t : Transaction) (next : ℤ) (outcome : TransactionResult) → IsRenewing form state outcome → IsRenewed t next (end_in state form t next outcome)
renewing Empty Plain t next Commit h = absurd h
renewing Empty Plain t next Abort h = absurd h
renewing Empty Fencing t next Commit h = absurd h
renewing Empty Fencing t next Abort h = absurd h
renewing Empty Raising t next Commit h = absurd h
renewing Empty Raising t next Abort h = (_, _, refl)
renewing Ongoing Plain t next Commit h = absurd h
renewing Ongoing Plain t next Abort h = absurd h
renewing Ongoing Fencing t next Commit h = absurd h
renewing Ongoing Fencing t next Abort h = absurd h
renewing Ongoing Raising t next Commit h = (_, _, refl)
renewing Ongoing Raising t next Abort h = (_, _, refl)
renewing PrepareCommit Plain t next Commit h = absurd h
renewing PrepareCommit Plain t next Abort h = absurd h
renewing PrepareCommit Fencing t next Commit h = absurd h
renewing PrepareCommit Fencing t next Abort h = absurd h
renewing PrepareCommit Raising t next Commit h = absurd h
renewing PrepareCommit Raising t next Abort h = absurd h
renewing PrepareAbort Plain t next Commit h = absurd h
renewing PrepareAbort Plain t next Abort h = absurd h
renewing PrepareAbort Fencing t next Commit h = absurd h
renewing PrepareAbort Fencing t next Abort h = absurd h
renewing PrepareAbort Raising t next Commit h = absurd h
renewing PrepareAbort Raising t next Abort h = absurd h
renewing CompleteCommit Plain t next Commit h = absurd h
renewing CompleteCommit Plain t next Abort h = absurd h
renewing CompleteCommit Fencing t next Commit h = absurd h
renewing CompleteCommit Fencing t next Abort h = absurd h
renewing CompleteCommit Raising t next Commit h = absurd h
renewing CompleteCommit Raising t next Abort h = (_, _, refl)
renewing CompleteAbort Plain t next Commit h = absurd h
renewing CompleteAbort Plain t next Abort h = absurd h
renewing CompleteAbort Fencing t next Commit h = absurd h
renewing CompleteAbort Fencing t next Abort h = absurd h
renewing CompleteAbort Raising t next Commit h = absurd h
renewing CompleteAbort Raising t next Abort h = (_, _, refl)

-- ---- the next pair

exhausted_not : (e : ℤ) → e <ℤ pos 32766 → int_le (pos 32766) e ≡ false
exhausted_not e low = by_test (int_le (pos 32766) e) refl where
  by_test : (b : Bool) → int_le (pos 32766) e ≡ b → b ≡ false
  by_test false h = refl
  by_test true h = absurd (grind (arith, ints))

exhausted : (e : ℤ) → pos 32766 ≤ℤ e → int_le (pos 32766) e ≡ true
exhausted e high = by_test (int_le (pos 32766) e) refl where
  by_test : (b : Bool) → int_le (pos 32766) e ≡ b → b ≡ true
  by_test true h = refl
  by_test false h = absurd (grind (arith, ints))

next_is : (c : CoordinatorValue) (old new : ProducerIdAndEpoch) → new ≡ next_id_and_epoch old (fresh_producer_id c) → IsNext c old new
next_is c old new is = record {
  raised = λ low. let same : new ≡ with_next_epoch old = is ∙ ap (λ (b : Bool). cond b (record { producer = fresh_producer_id c; epoch = pos 0 }) (with_next_epoch old)) (exhausted_not old.epoch low) in (ap (λ (p : ProducerIdAndEpoch). p.producer) same, ap (λ (p : ProducerIdAndEpoch). p.epoch) same);
  fresh = λ high. let same : new ≡ record { producer = fresh_producer_id c; epoch = pos 0 } = is ∙ ap (λ (b : Bool). cond b (record { producer = fresh_producer_id c; epoch = pos 0 }) (with_next_epoch old)) (exhausted old.epoch high) in (ap (λ (p : ProducerIdAndEpoch). p.producer) same, ap (λ (p : ProducerIdAndEpoch). p.epoch) same);
}

-- what is recorded under an id has it
has_own : (ts : List Transaction) (id : List ℕ) (t : Transaction) → id_record ts id ≡ Some t → has_id id t ≡ true
has_own [] id t h = absurd (let clash : None ≡ Some t = h in cc)
has_own (x ∷ xs) id t h = by_test (has_id id x) refl h (has_own xs id t) where
  by_test : (b : Bool) → has_id id x ≡ b → cond b (Some x) (id_record xs id) ≡ Some t → (id_record xs id ≡ Some t → has_id id t ≡ true) → has_id id t ≡ true
  by_test true same h more = let is : x ≡ t = cc in ap (has_id id) (sym is) ∙ same
  by_test false other h more = more h

-- an id whose record is put without an error is answered its pair
answered_own : (c : CoordinatorValue) (id : List ℕ) (r : Transaction) (given : List (Option (List ℕ))) (owed : List PendingMarker) → has_id id r ≡ true → (transition_answer c id (Puts errors.None r given owed)).pair ≡ r.pair
answered_own c id r given owed own = ap (λ (o : Option Transaction). (id_and_epoch_answer errors.None o).pair) (recorded_put c.transactions r id ∙ ap (λ (b : Bool). cond b (Some r) (id_record c.transactions id)) own)

renewed_pair : (c : CoordinatorValue) (id : List ℕ) (t : Transaction) (transition : Transition) → has_id id t ≡ true → IsRenewed t (fresh_producer_id c) transition → IsNext c t.pair (transition_answer c id transition).pair
renewed_pair c id t transition own (state, owed, is) =
    next_is c t.pair _ (ap (λ (u : Transition). (transition_answer c id u).pair) is ∙ answered_own c id (record t { pair = next_id_and_epoch t.pair (fresh_producer_id c); state = state; kept = Some t.pair }) (given_after t.pair t.id) owed own)

pub ends : EndTable end
ends c form id pair outcome t h =
    let same = goes_by_state c form id pair outcome t h in
    record {
      code = ap (λ (u : Transition). number_of (transition_code u)) same ∙ codes_are t.state form t (fresh_producer_id c) outcome;
      markers = ap (λ (u : Transition). length (apply_transition c u).warrants) same ∙ owed_then c (end_in t.state form t (fresh_producer_id c) outcome) ∙ ap (λ (n : ℕ). length c.warrants + n) (owed_is t.state form t (fresh_producer_id c) outcome);
      renewed = λ renews. subst (λ (u : Transition). IsNext c t.pair (transition_answer c id u).pair) (sym same) (renewed_pair c id t (end_in t.state form t (fresh_producer_id c) outcome) (has_own c.transactions id t h.found) (renewing t.state form t (fresh_producer_id c) outcome renews));
    }

-- ---- InitProducerId

within : (n : ℕ) (greatest : ℤ) → 1 ≤ n → pos n ≤ℤ greatest → timeout_within (pos n) greatest ≡ Some n
within n greatest low high =
    ap (λ (b : Bool). cond (b && int_le (pos n) greatest) (Some n) None) (le-leb 1 n low)
    ∙ ap (λ (b : Bool). cond b (Some n) None) (by_test (int_le (pos n) greatest) refl) where
      by_test : (b : Bool) → int_le (pos n) greatest ≡ b → b ≡ true
      by_test true h = refl
      by_test false h = absurd (grind (arith, ints))

inits_for : (c : CoordinatorValue) (id : List ℕ) (n : ℕ) (greatest : ℤ) (o : Option Transaction) → id ≢ [] → 1 ≤ n → pos n ≤ℤ greatest → id_record c.transactions id ≡ o → init c id (pos n) greatest ≡ init_for (Some n) o id (fresh_producer_id c)
inits_for c id n greatest o named low high found =
    ap (λ (b : Bool). cond b (Stays errors.InvalidRequest) (init_for (timeout_within (pos n) greatest) (id_record c.transactions id) id (fresh_producer_id c))) (not_empty id named)
    ∙ (λ i. init_for (within n greatest low high i) (found i) id (fresh_producer_id c))

init_codes : (state : TransactionState) (t : Transaction) (next : ℤ) (n : ℕ) → number_of (transition_code (init_in state t next n)) ≡ init_code state
unfolding number_of
init_codes Empty t next n = refl
init_codes CompleteCommit t next n = refl
init_codes CompleteAbort t next n = refl
init_codes Ongoing t next n = refl
init_codes PrepareCommit t next n = refl
init_codes PrepareAbort t next n = refl

closed_begins : (state : TransactionState) (t : Transaction) (next : ℤ) (n : ℕ) → IsClosed state → init_in state t next n ≡ begin_transition t next n
closed_begins Empty t next n h = refl
closed_begins CompleteCommit t next n h = refl
closed_begins CompleteAbort t next n h = refl
closed_begins Ongoing t next n h = absurd h
closed_begins PrepareCommit t next n h = absurd h
closed_begins PrepareAbort t next n h = absurd h

begun_pair : (c : CoordinatorValue) (id : List ℕ) (t : Transaction) (n : ℕ) → has_id id t ≡ true → (transition_answer c id (begin_transition t (fresh_producer_id c) n)).pair ≡ next_id_and_epoch t.pair (fresh_producer_id c)
begun_pair c id t n own = answered_own c id (record t { pair = next_id_and_epoch t.pair (fresh_producer_id c); timeout = n; state = Empty; kept = None }) (given_after t.pair t.id) [] own

known : (c : CoordinatorValue) (id : List ℕ) (n : ℕ) (greatest : ℤ) (t : Transaction) → id ≢ [] → 1 ≤ n → pos n ≤ℤ greatest → id_record c.transactions id ≡ Some t → InitsByTable init c id (pos n) greatest t
known c id n greatest t named low high found =
    let same = inits_for c id n greatest (Some t) named low high found in
    record {
      code = ap (λ (u : Transition). number_of (transition_code u)) same ∙ init_codes t.state t (fresh_producer_id c) n;
      next = λ closed. next_is c t.pair _ (ap (λ (u : Transition). (transition_answer c id u).pair) (same ∙ closed_begins t.state t (fresh_producer_id c) n closed) ∙ begun_pair c id t n (has_own c.transactions id t found));
    }

zero_is : number_of errors.None ≡ pos 0
unfolding number_of
zero_is = refl

new : (c : CoordinatorValue) (id : List ℕ) (n : ℕ) (greatest : ℤ) → id ≢ [] → 1 ≤ n → pos n ≤ℤ greatest → id_record c.transactions id ≡ None → InitsNew init c id (pos n) greatest
new c id n greatest named low high found =
    let same = inits_for c id n greatest None named low high found in
    let pair : (transition_answer c id (init c id (pos n) greatest)).pair ≡ record { producer = fresh_producer_id c; epoch = pos 0 } =
    ap (λ (u : Transition). (transition_answer c id u).pair) same ∙ answered_own c id (new_transaction id (fresh_producer_id c) n) (Some id ∷ []) [] (is_same id id refl) in
    record {
      code = ap (λ (u : Transition). number_of (transition_code u)) same ∙ zero_is;
      producer = ap (λ (p : ProducerIdAndEpoch). p.producer) pair;
      epoch = ap (λ (p : ProducerIdAndEpoch). p.epoch) pair;
    }

pub inits : InitTable init
inits = record { known = known; new = new }

-- ---- AddPartitionsToTxn

same_partition : (p q : TopicPartition) → is_same_partition p q ≡ true → p ≡ q
same_partition p q h =
    let parts = and_parts (bytes_eq p.topic q.topic) (int_eq p.index q.index) h in
    let topic = same_is p.topic q.topic parts.0 in
    let index = (Decides-int_eq p.index q.index).0 parts.1 in
    (λ i. record { topic = topic i; index = index i })

is_in : (added : List TopicPartition) (p : TopicPartition) → has_partition added p ≡ true → IsAmong added p
is_in [] p h = absurd (true≢false (sym h))
is_in (q ∷ qs) p h = by_case (or_cases (is_same_partition q p) (has_partition qs p) h) (is_in qs p) where
  by_case : (is_same_partition q p ≡ true) ⊎ (has_partition qs p ≡ true) → (has_partition qs p ≡ true → IsAmong qs p) → IsAmong (q ∷ qs) p
  by_case (inl here) more = inl (same_partition q p here)
  by_case (inr later) more = inr (more later)

in_front : {X : Type 0} (qs rs : List X) (p : X) → IsAmong qs p → IsAmong (qs ++ rs) p
in_front [] rs p h = absurd h
in_front (q ∷ qs) rs p (inl here) = inl here
in_front (q ∷ qs) rs p (inr later) = inr (in_front qs rs p later)

in_last : {X : Type 0} (qs : List X) (p : X) → IsAmong (qs ++ p ∷ []) p
in_last [] p = inl refl
in_last (q ∷ qs) p = inr (in_last qs p)

in_push : {X : Type 0} (qs : List X) (r p : X) → IsAmong (qs ++ r ∷ []) p → IsAmong qs p ⊎ (r ≡ p)
in_push [] r p (inl last) = inr last
in_push [] r p (inr h) = absurd h
in_push (q ∷ qs) r p (inl here) = inl (inl here)
in_push (q ∷ qs) r p (inr later) = by_case (in_push qs r p later) where
  by_case : IsAmong qs p ⊎ (r ≡ p) → IsAmong (q ∷ qs) p ⊎ (r ≡ p)
  by_case (inl there) = inl (inr there)
  by_case (inr last) = inr last

-- one that is there already, or comes last
one_there : {X : Type 0} (added : List X) (r : X) → IsAmong added r → AddsEach added (r ∷ []) added
one_there {X} added r there = record {
  kept = λ p h. h;
  all = λ p h. by_named p h;
  alone = λ p h. inl h;
} where
  by_named : (p : X) → IsAmong (r ∷ []) p → IsAmong added p
  by_named p (inl same) = subst (IsAmong added) same there
  by_named p (inr h) = absurd h

one_last : {X : Type 0} (added : List X) (r : X) → AddsEach added (r ∷ []) (added ++ r ∷ [])
one_last {X} added r = record {
  kept = λ p h. in_front added (r ∷ []) p h;
  all = λ p h. by_named p h;
  alone = λ p h. by_place p (in_push added r p h);
} where
  by_named : (p : X) → IsAmong (r ∷ []) p → IsAmong (added ++ r ∷ []) p
  by_named p (inl same) = subst (IsAmong (added ++ r ∷ [])) same (in_last added r)
  by_named p (inr h) = absurd h

  by_place : (p : X) → IsAmong added p ⊎ (r ≡ p) → IsAmong added p ⊎ IsAmong (r ∷ []) p
  by_place p (inl there) = inl there
  by_place p (inr last) = inr (inl last)

one_added : (added : List TopicPartition) (r : TopicPartition) → AddsEach added (r ∷ []) (partition_added added r)
one_added added r = by_test (has_partition added r) refl where
  by_test : (b : Bool) → has_partition added r ≡ b → AddsEach added (r ∷ []) (cond b added (added ++ r ∷ []))
  by_test true there = one_there added r (is_in added r there)
  by_test false new = one_last added r

is_named : (added : List (List ℕ)) (g : List ℕ) → has_group added g ≡ true → IsAmong added g
is_named [] g h = absurd (true≢false (sym h))
is_named (x ∷ xs) g h = by_case (or_cases (bytes_eq x g) (has_group xs g) h) (is_named xs g) where
  by_case : (bytes_eq x g ≡ true) ⊎ (has_group xs g ≡ true) → (has_group xs g ≡ true → IsAmong xs g) → IsAmong (x ∷ xs) g
  by_case (inl here) more = inl (same_is x g here)
  by_case (inr later) more = inr (more later)

group_is_added : (added : List (List ℕ)) (g : List ℕ) → AddsEach added (g ∷ []) (group_added added g)
group_is_added added g = by_test (has_group added g) refl where
  by_test : (b : Bool) → has_group added g ≡ b → AddsEach added (g ∷ []) (cond b added (added ++ g ∷ []))
  by_test true there = one_there added g (is_named added g there)
  by_test false new = one_last added g

then_more : (old more new : List TopicPartition) (r : TopicPartition) (rs : List TopicPartition) → AddsEach old (r ∷ []) more → AddsEach more rs new → AddsEach old (r ∷ rs) new
then_more old more new r rs first rest = record {
  kept = λ p h. rest.kept p (first.kept p h);
  all = λ p h. by_named p h;
  alone = λ p h. by_place p (rest.alone p h);
} where
  by_named : (p : TopicPartition) → IsAmong (r ∷ rs) p → IsAmong new p
  by_named p (inl same) = rest.kept p (first.all p (inl same))
  by_named p (inr later) = rest.all p later

  by_first : (p : TopicPartition) → IsAmong old p ⊎ IsAmong (r ∷ []) p → IsAmong old p ⊎ IsAmong (r ∷ rs) p
  by_first p (inl there) = inl there
  by_first p (inr (inl same)) = inr (inl same)
  by_first p (inr (inr h)) = absurd h

  by_place : (p : TopicPartition) → IsAmong more p ⊎ IsAmong rs p → IsAmong old p ⊎ IsAmong (r ∷ rs) p
  by_place p (inl there) = by_first p (first.alone p there)
  by_place p (inr later) = inr (inr later)

each_added : (added ps : List TopicPartition) → AddsEach added ps (partitions_added added ps)
each_added added [] = record { kept = λ p h. h; all = λ p h. absurd h; alone = λ p h. inl h }
each_added added (r ∷ rs) = then_more added (partition_added added r) (partitions_added (partition_added added r) rs) r rs (one_added added r) (each_added (partition_added added r) rs)

opens : (c : CoordinatorValue) (id : List ℕ) (pair : ProducerIdAndEpoch) (moment : ℕ) (t : Transaction) → id ≢ [] → id_record c.transactions id ≡ Some t → pair ≡ t.pair → t.pair.epoch <ℤ pos 32767 → open_transaction c id pair moment ≡ open_in t.state t moment
opens c id pair moment t named found own low =
    ap (λ (b : Bool). cond b (Err errors.InvalidRequest) (open_found (id_record c.transactions id) pair moment)) (not_empty id named)
    ∙ (λ i. open_found (found i) (own i) moment)
    ∙ ap (λ (o : Option ErrorCode). open_by o t moment) (unrefused errors.InvalidProducerEpoch t low)

add_codes : (state : TransactionState) (t : Transaction) (moment : ℕ) (grow : Transaction → Transaction) → number_of (transition_code (growth_transition grow (open_in state t moment))) ≡ add_code state
unfolding number_of
add_codes Empty t moment grow = refl
add_codes CompleteCommit t moment grow = refl
add_codes CompleteAbort t moment grow = refl
add_codes Ongoing t moment grow = refl
add_codes PrepareCommit t moment grow = refl
add_codes PrepareAbort t moment grow = refl

put_found : (c : CoordinatorValue) (id : List ℕ) (r : Transaction) → has_id id r ≡ true → id_record (apply_transition c (Puts errors.None r [] [])).transactions id ≡ Some r
put_found c id r own = recorded_put c.transactions r id ∙ ap (λ (b : Bool). cond b (Some r) (id_record c.transactions id)) own

no_code : pos 51 ≡ pos 0 → ⊥
no_code h = omega (arith, ints, h)

-- a closed one begins now
begins_now : (c : CoordinatorValue) (id : List ℕ) (moment : ℕ) (ps : List TopicPartition) (t : Transaction) → has_id id t ≡ true → (t.state ≡ Ongoing → ⊥) → TakesIn c id moment ps t (Puts errors.None (with_partitions ps (begun_transaction t moment)) [] [])
begins_now c id moment ps t own closed = record {
  transaction = with_partitions ps (begun_transaction t moment);
  found = put_found c id (with_partitions ps (begun_transaction t moment)) own;
  ongoing = refl;
  pair = refl;
  begins = λ h. refl;
  goes_on = λ h. absurd (closed h);
  partitions = each_added t.partitions ps;
  groups = refl;
}

takes : (state : TransactionState) (c : CoordinatorValue) (id : List ℕ) (moment : ℕ) (ps : List TopicPartition) (t : Transaction) → t.state ≡ state → has_id id t ≡ true → add_code state ≡ pos 0 → TakesIn c id moment ps t (growth_transition (with_partitions ps) (open_in state t moment))
takes Empty c id moment ps t is own h = begins_now c id moment ps t own (λ ongoing. other (sym is ∙ ongoing)) where
  other : Empty ≡ Ongoing → ⊥
  other e = cc
takes CompleteCommit c id moment ps t is own h = begins_now c id moment ps t own (λ ongoing. other (sym is ∙ ongoing)) where
  other : CompleteCommit ≡ Ongoing → ⊥
  other e = cc
takes CompleteAbort c id moment ps t is own h = begins_now c id moment ps t own (λ ongoing. other (sym is ∙ ongoing)) where
  other : CompleteAbort ≡ Ongoing → ⊥
  other e = cc
takes Ongoing c id moment ps t is own h = record {
  transaction = with_partitions ps (record t { kept = None });
  found = put_found c id (with_partitions ps (record t { kept = None })) own;
  ongoing = is;
  pair = refl;
  begins = λ closed. absurd (subst IsClosed is closed);
  goes_on = λ still. refl;
  partitions = each_added t.partitions ps;
  groups = refl;
}
takes PrepareCommit c id moment ps t is own h = absurd (no_code h)
takes PrepareAbort c id moment ps t is own h = absurd (no_code h)

pub adds : AddTable add_partitions
adds c id pair moment p ps t named found own low =
    let same = ap (growth_transition (with_partitions (p ∷ ps))) (opens c id pair moment t named found own low) in
    record {
      code = ap (λ (u : Transition). number_of (transition_code u)) same ∙ add_codes t.state t moment (with_partitions (p ∷ ps));
      taken = λ h. subst (TakesIn c id moment (p ∷ ps) t) (sym same) (takes t.state c id moment (p ∷ ps) t refl (has_own c.transactions id t found) h);
    }

-- ---- AddOffsetsToTxn

group_begins : (c : CoordinatorValue) (id : List ℕ) (moment : ℕ) (group : List ℕ) (t : Transaction) → has_id id t ≡ true → (t.state ≡ Ongoing → ⊥) → TakesGroupIn c id moment group t (Puts errors.None (with_group group (begun_transaction t moment)) [] [])
group_begins c id moment group t own closed = record {
  transaction = with_group group (begun_transaction t moment);
  found = put_found c id (with_group group (begun_transaction t moment)) own;
  ongoing = refl;
  pair = refl;
  begins = λ h. refl;
  goes_on = λ h. absurd (closed h);
  groups = group_is_added t.groups group;
  partitions = refl;
}

takes_group : (state : TransactionState) (c : CoordinatorValue) (id : List ℕ) (moment : ℕ) (group : List ℕ) (t : Transaction) → t.state ≡ state → has_id id t ≡ true → add_code state ≡ pos 0 → TakesGroupIn c id moment group t (growth_transition (with_group group) (open_in state t moment))
takes_group Empty c id moment group t is own h = group_begins c id moment group t own (λ ongoing. other (sym is ∙ ongoing)) where
  other : Empty ≡ Ongoing → ⊥
  other e = cc
takes_group CompleteCommit c id moment group t is own h = group_begins c id moment group t own (λ ongoing. other (sym is ∙ ongoing)) where
  other : CompleteCommit ≡ Ongoing → ⊥
  other e = cc
takes_group CompleteAbort c id moment group t is own h = group_begins c id moment group t own (λ ongoing. other (sym is ∙ ongoing)) where
  other : CompleteAbort ≡ Ongoing → ⊥
  other e = cc
takes_group Ongoing c id moment group t is own h = record {
  transaction = with_group group (record t { kept = None });
  found = put_found c id (with_group group (record t { kept = None })) own;
  ongoing = is;
  pair = refl;
  begins = λ closed. absurd (subst IsClosed is closed);
  goes_on = λ still. refl;
  groups = group_is_added t.groups group;
  partitions = refl;
}
takes_group PrepareCommit c id moment group t is own h = absurd (no_code h)
takes_group PrepareAbort c id moment group t is own h = absurd (no_code h)

pub adds_group : GroupTable add_group
adds_group c id pair moment group t named found own low =
    let same = ap (growth_transition (with_group group)) (opens c id pair moment t named found own low) in
    record {
      code = ap (λ (u : Transition). number_of (transition_code u)) same ∙ add_codes t.state t moment (with_group group);
      taken = λ h. subst (TakesGroupIn c id moment group t) (sym same) (takes_group t.state c id moment group t refl (has_own c.transactions id t found) h);
    }
