-- What becomes of a partition that a transaction takes in: what its producer had open there is ended.
use Rattle.std.proofs.Common.{◌≡◌, ℕ, ℤ, pos, negsuc, List, [], ◌∷◌, ◌++◌, map, Option, Some, None, Bool, true, false, cond, refl, sym, ap, subst, ◌∙◌, arith}
use Rattle.std.specs.Prelude.{◌&&◌, int_lt, is_none, is_some}
use Rattle.std.specs.Ordering.{int_eq}
use Rattle.std.proofs.lemmas.Bool.Decides.{Decides-int_eq}
use Rattle.std.proofs.lemmas.Int.{ints}
use Rattle.std.proofs.lemmas.List.{map-append}
use Rattle.record_batch.specs.declared.transaction_result.TransactionResult.{TransactionResult}
use Rattle.record_batch.specs.Batch.{BatchData}
use Rattle.record_batch.specs.BatchHeader.{is_transactional}
use Rattle.producer_state.specs.Sequences.{is_data, has_producer_id}
use Rattle.partition_log.specs.Log.{is_transactional_data, is_marker_of, is_commit, first_marker, transaction_outcome, is_open, own_bases, least_of, is_committed}
use Rattle.partition_log.proofs.Numbers.{lt_false}
use Rattle.audit_trail.specs.declared.event.Event.{Event}
use Rattle.txn_coordinator.specs.declared.producer_id.ProducerIdAndEpoch.{ProducerIdAndEpoch}
use Rattle.txn_coordinator.specs.declared.target.TopicPartition.{TopicPartition}
use Rattle.txn_coordinator.specs.declared.target.Target.{Target}
use Rattle.txn_coordinator.specs.declared.target.Target.TheVariants.{Partition}
use Rattle.txn_coordinator.specs.declared.marker.PendingMarker.{PendingMarker}
use Rattle.txn_coordinator.specs.Words.{targets}
use Rattle.txn_coordinator.specs.Coordinator.{CoordinatorValue, owner}
use Rattle.txn_laws.specs.Small.{Entry}
use Rattle.txn_laws.specs.Small.Entry.{Data, Marker, Other}
use Rattle.txn_laws.specs.Sound.{Each, IsPending}
use Rattle.txn_laws.specs.Laws.{IsNotOf, IsEnded, IsDone}
use Rattle.txn_laws.specs.Kept.{kept_id_and_epoch}
use Rattle.txn_laws.proofs.Base.{each_weaker, each_with}
use Rattle.broker_world.specs.World.{World, LogValue}
use Rattle.broker_world.specs.Logs.{log_at}
use Rattle.data_handlers.specs.Judged.{id_and_epoch_of}
use Rattle.api_dispatch.specs.Step.{world_after_events}
use Rattle.broker_laws.specs.Entries.{entry_by, entry_of, log_entries, entries_in}
use Rattle.broker_laws.specs.Targets.{IsThere, TakesInExisting, IsPendingToExisting}
use Rattle.broker_laws.specs.Laws.{InReached}
use Rattle.broker_laws.specs.LogEnds.{IsEndedAs, IsNotFrom, IsEndedLog, IsEndedAt, EndsPrepared, EndsWaiting}
use Rattle.broker_laws.proofs.Turns.{each_recorded}
use Rattle.broker_laws.proofs.Steps.{log_found}
use Rattle.broker_laws.proofs.Reached.{IsGood, good}
use Rattle.broker_laws.proofs.Completing.{prepared_done, waiting_completes}
use Rattle.broker_laws.proofs.Deciding.{cancelled, own_number, other_number}
use Rattle.broker_laws.proofs.LogsGrow.{reached_grows}

-- ---- the batches among which the entries stand

-- the producer's marker, with nothing of the producer before it
record IsSplit (producer : ℤ) (o : TransactionResult) (batches : List BatchData) : Type 0 where
  between : List BatchData
  marker : BatchData
  after : List BatchData
  parts : batches ≡ between ++ marker ∷ after
  by : marker.header.producer_id ≡ producer
  ends : marker.marker ≡ Some o
  nothing : Each (IsNotFrom producer) between

marker_is : (b : BatchData) (pair : ProducerIdAndEpoch) (o : TransactionResult) → entry_of b ≡ Marker pair o → (b.header.producer_id ≡ pair.producer) × (b.marker ≡ Some o)
marker_is b pair o h = by_marker b.marker refl h where
  by_sign : (s : Bool) → cond s Other (Data (id_and_epoch_of b.header)) ≡ Marker pair o → ⊥
  by_sign true h = cc
  by_sign false h = cc

  by_marker : (m : Option TransactionResult) → b.marker ≡ m → entry_by m (id_and_epoch_of b.header) ≡ Marker pair o → (b.header.producer_id ≡ pair.producer) × (b.marker ≡ Some o)
  by_marker None e h = absurd (by_sign (int_lt b.header.producer_id (pos 0)) h)
  by_marker (Some x) e h =
      let own : id_and_epoch_of b.header ≡ pair = cc in
      let same : x ≡ o = cc in
      (ap (λ (p : ProducerIdAndEpoch). p.producer) own, e ∙ ap (λ y. Some y) same)

not_from : (producer : ℤ) → int_lt producer (pos 0) ≡ false → (b : BatchData) → IsNotOf producer (entry_of b) → IsNotFrom producer b
not_from producer sign b h same = by_marker b.marker h where
  by_sign : (s : Bool) → int_lt b.header.producer_id (pos 0) ≡ s → IsNotOf producer (cond s Other (Data (id_and_epoch_of b.header))) → ⊥
  by_sign true e h = let clash : true ≡ false = sym e ∙ ap (λ n. int_lt n (pos 0)) same ∙ sign in cc
  by_sign false e h = h same

  by_marker : (m : Option TransactionResult) → IsNotOf producer (entry_by m (id_and_epoch_of b.header)) → ⊥
  by_marker None h = by_sign (int_lt b.header.producer_id (pos 0)) refl h
  by_marker (Some x) h = h same

one_before : (producer : ℤ) (o : TransactionResult) (b : BatchData) (bs : List BatchData) → IsNotFrom producer b → IsSplit producer o bs → IsSplit producer o (b ∷ bs)
one_before producer o b bs other is = record {
  between = b ∷ is.between;
  marker = is.marker;
  after = is.after;
  parts = ap (λ l. b ∷ l) is.parts;
  by = is.by;
  ends = is.ends;
  nothing = (other, is.nothing);
}

split : (bs : List BatchData) (before later : List Entry) (pair : ProducerIdAndEpoch) (o : TransactionResult) → int_lt pair.producer (pos 0) ≡ false → map entry_of bs ≡ before ++ Marker pair o ∷ later → Each (IsNotOf pair.producer) before → IsSplit pair.producer o bs
split [] [] later pair o sign e h = absurd (let clash : [] ≡ Marker pair o ∷ later = e in cc)
split [] (x ∷ before) later pair o sign e h = absurd (let clash : [] ≡ x ∷ (before ++ Marker pair o ∷ later) = e in cc)
split (b ∷ bs) [] later pair o sign e h =
    let front : entry_of b ≡ Marker pair o = cc in
    let is = marker_is b pair o front in
    record { between = []; marker = b; after = bs; parts = refl; by = is.0; ends = is.1; nothing = tt }
split (b ∷ bs) (x ∷ before) later pair o sign e h =
    let front : entry_of b ≡ x = cc in
    let entries : map entry_of bs ≡ before ++ Marker pair o ∷ later = cc in
    one_before pair.producer o b bs (not_from pair.producer sign b (subst (IsNotOf pair.producer) (sym front) h.0)) (split bs before later pair o sign entries h.1)

-- ---- the first marker

-- after batches without a marker of the producer, the first is the first of those after
passed : (p : ℤ) (xs ys : List BatchData) → first_marker p xs ≡ None → first_marker p (xs ++ ys) ≡ first_marker p ys
passed p [] ys none = refl
passed p (x ∷ xs) ys none = by_test (passed p xs ys) (is_marker_of p x) refl none where
  by_test : (first_marker p xs ≡ None → first_marker p (xs ++ ys) ≡ first_marker p ys) → (b : Bool) → is_marker_of p x ≡ b → cond b x.marker (first_marker p xs) ≡ None → cond b x.marker (first_marker p (xs ++ ys)) ≡ first_marker p ys
  by_test rest true e h = absurd (let clash : true ≡ false = sym e ∙ ap (λ (o : Option TransactionResult). is_some o && has_producer_id p x) h in cc)
  by_test rest false e h = rest h

and_false : (b : Bool) → (b && false) ≡ false
and_false true = refl
and_false false = refl

no_marker : (p : ℤ) (xs : List BatchData) → Each (IsNotFrom p) xs → first_marker p xs ≡ None
no_marker p [] h = refl
no_marker p (x ∷ xs) h =
    ap (λ b. cond (is_some x.marker && b) x.marker (first_marker p xs)) (other_number x.header.producer_id p h.0)
    ∙ ap (λ b. cond b x.marker (first_marker p xs)) (and_false (is_some x.marker))
    ∙ no_marker p xs h.1

is_its_marker : (p : ℤ) (o : TransactionResult) (m : BatchData) → m.header.producer_id ≡ p → m.marker ≡ Some o → is_marker_of p m ≡ true
is_its_marker p o m by ends = ap (λ (x : Option TransactionResult). is_some x && has_producer_id p m) ends ∙ ap (λ n. int_eq n p) by ∙ own_number p

at_marker : (p : ℤ) (o : TransactionResult) (m : BatchData) (rest : List BatchData) → m.header.producer_id ≡ p → m.marker ≡ Some o → first_marker p (m ∷ rest) ≡ Some o
at_marker p o m rest by ends = ap (λ b. cond b m.marker (first_marker p rest)) (is_its_marker p o m by ends) ∙ ends

-- ---- what was open

none_is : {A : Type 0} → (o : Option A) → is_none o ≡ true → o ≡ None
none_is None h = refl
none_is (Some x) h = absurd (let clash : false ≡ true = h in cc)

both : (a b : Bool) → (a && b) ≡ true → (a ≡ true) × (b ≡ true)
both true true h = (refl, refl)
both true false h = absurd (let clash : false ≡ true = h in cc)
both false b h = absurd (let clash : false ≡ true = h in cc)

-- a transactional batch of data is committed where its transaction was
committed_as : (b : BatchData) (later : List BatchData) (o : TransactionResult) → is_transactional_data b ≡ true → transaction_outcome b later ≡ Some o → is_committed b later ≡ is_commit (Some o)
committed_as b later o kind told =
    let kinds = both (is_transactional b.header) (is_data b) kind in
    ap (λ x. x && cond (is_transactional b.header) (is_commit (transaction_outcome b later)) true) kinds.1
    ∙ ap (λ x. cond x (is_commit (transaction_outcome b later)) true) kinds.0
    ∙ ap is_commit told

ended_as : (p : ℤ) (o : TransactionResult) (b : BatchData) (later between after : List BatchData) (m : BatchData) → Each (IsNotFrom p) between → m.header.producer_id ≡ p → m.marker ≡ Some o → b.header.producer_id ≡ p → is_open b later ≡ true → IsEndedAs b (later ++ (between ++ m ∷ after)) o
ended_as p o b later between after m nothing by ends own stands =
    let parts = both (is_transactional_data b) (is_none (transaction_outcome b later)) stands in
    let none : first_marker p later ≡ None = ap (λ n. first_marker n later) (sym own) ∙ none_is (transaction_outcome b later) parts.1 in
    let told : transaction_outcome b (later ++ (between ++ m ∷ after)) ≡ Some o =
    ap (λ n. first_marker n (later ++ (between ++ m ∷ after))) own
    ∙ passed p later (between ++ m ∷ after) none
    ∙ passed p between (m ∷ after) (no_marker p between nothing)
    ∙ at_marker p o m after by ends in
    record { told = told; shown = committed_as b (later ++ (between ++ m ∷ after)) o parts.0 told }

-- ---- nothing is open after a marker

marker_after : (p : ℤ) (o : TransactionResult) (m : BatchData) → m.header.producer_id ≡ p → m.marker ≡ Some o → (xs : List BatchData) → is_none (first_marker p (xs ++ m ∷ [])) ≡ false
marker_after p o m by ends [] = ap is_none (at_marker p o m [] by ends)
marker_after p o m by ends (x ∷ xs) = by_test (is_marker_of p x) refl (marker_after p o m by ends xs) where
  some_is : (a : Option TransactionResult) → (is_some a && has_producer_id p x) ≡ true → is_none a ≡ false
  some_is None h = absurd (let clash : false ≡ true = h in cc)
  some_is (Some y) h = refl

  by_test : (b : Bool) → is_marker_of p x ≡ b → is_none (first_marker p (xs ++ m ∷ [])) ≡ false → is_none (cond b x.marker (first_marker p (xs ++ m ∷ []))) ≡ false
  by_test true e rest = some_is x.marker e
  by_test false e rest = rest

not_open : (p : ℤ) (o : TransactionResult) (m : BatchData) → m.header.producer_id ≡ p → m.marker ≡ Some o → (x : BatchData) (xs : List BatchData) → (has_producer_id p x && is_open x (xs ++ m ∷ [])) ≡ false
not_open p o m by ends x xs = by_own (has_producer_id p x) refl where
  by_own : (b : Bool) → has_producer_id p x ≡ b → (b && is_open x (xs ++ m ∷ [])) ≡ false
  by_own false e = refl
  by_own true e =
      let own : x.header.producer_id ≡ p = (Decides-int_eq x.header.producer_id p).0 e in
      ap (λ b. is_transactional_data x && b) (ap (λ n. is_none (first_marker n (xs ++ m ∷ []))) own ∙ marker_after p o m by ends xs) ∙ and_false (is_transactional_data x)

marker_not_open : (p : ℤ) (o : TransactionResult) (m : BatchData) → m.marker ≡ Some o → (has_producer_id p m && is_open m []) ≡ false
marker_not_open p o m ends =
    ap (λ (a : Option TransactionResult). has_producer_id p m && ((is_transactional m.header && is_none a) && true)) ends
    ∙ by_kind (has_producer_id p m) (is_transactional m.header) where
      by_kind : (a b : Bool) → (a && ((b && false) && true)) ≡ false
      by_kind true true = refl
      by_kind true false = refl
      by_kind false b = refl

none_open : (p : ℤ) (o : TransactionResult) (m : BatchData) → m.header.producer_id ≡ p → m.marker ≡ Some o → (xs : List BatchData) → own_bases p (xs ++ m ∷ []) ≡ []
none_open p o m by ends [] = ap (λ b. cond b (m.header.base_offset ∷ []) []) (marker_not_open p o m ends)
none_open p o m by ends (x ∷ xs) =
    ap (λ b. cond b (x.header.base_offset ∷ own_bases p (xs ++ m ∷ [])) (own_bases p (xs ++ m ∷ []))) (not_open p o m by ends x xs)
    ∙ none_open p o m by ends xs

-- ---- a log

ended_log : (old more : LogValue) (pair : ProducerIdAndEpoch) (o : TransactionResult) → int_lt pair.producer (pos 0) ≡ false → IsEnded pair o (map entry_of old) (map entry_of (old ++ more)) → IsEndedLog pair.producer o old (old ++ more)
ended_log old more pair o sign h =
    let p = pair.producer in
    let entries = cancelled (map entry_of old) (map entry_of more) (h.between ++ Marker pair o ∷ h.after) (sym (map-append entry_of old more) ∙ h.log) in
    let is = split more h.between h.after pair o sign entries h.nothing in
    record {
      between = is.between;
      marker = is.marker;
      after = is.after;
      log = ap (λ l. old ++ l) is.parts;
      nothing = is.nothing;
      by = is.by;
      ends = is.ends;
      opened = λ before later b parts own stands. ended_as p o b later is.between is.after is.marker is.nothing is.by is.ends own stands;
      settled = ap least_of (none_open p o is.marker is.by is.ends (old ++ is.between));
    }

-- ---- a partition

-- what was given out is a number from 0 on
given_sign : (c : CoordinatorValue) (p : ℤ) (v : Option (List ℕ)) → owner c p ≡ Some v → int_lt p (pos 0) ≡ false
given_sign c (pos n) v h = lt_false (pos n) (pos 0) (omega (arith, ints))
given_sign c (negsuc n) v h = absurd (let clash : None ≡ Some v = h in cc)

ended_at : (w : World) (es : List Event) (p : TopicPartition) (pair : ProducerIdAndEpoch) (o : TransactionResult) → IsThere w.topics (Partition p) → int_lt pair.producer (pos 0) ≡ false → IsEnded pair o (entries_in w (Partition p)) (entries_in (world_after_events w es) (Partition p)) → IsEndedAt pair.producer o w (world_after_events w es) p
ended_at w es p pair o there sign h =
    let found = log_found (log_at w.topics p.topic p.index) there in
    let old = found.0 in
    let now = reached_grows w es p old found.1 in
    record {
      log_before = old;
      log_then = old ++ now.more;
      before = found.1;
      then = now.log;
      is_ended = ended_log old now.more pair o sign
          (subst (λ l. IsEnded pair o (map entry_of old) (log_entries l)) now.log
          (subst (λ l. IsEnded pair o (log_entries l) (entries_in (world_after_events w es) (Partition p))) found.1 h));
    }

-- ---- the laws

added_partitions : (P : Target → Type 0) (ps : List TopicPartition) (gs : List Target) → Each P (map (λ p. Partition p) ps ++ gs) → Each (λ p. P (Partition p)) ps
added_partitions P [] gs h = tt
added_partitions P (p ∷ ps) gs h = (h.0, added_partitions P ps gs h.1)

pub prepared_ends : (w : World) → IsGood w → EndsPrepared w
prepared_ends w good e id t o after by enough =
    let v = world_after_events w (e ∷ after) in
    let there : Each (IsThere w.topics) (targets t) = each_recorded (TakesInExisting w.topics) w.coordinator.transactions id t good.all_exist.added by.before in
    let sign = given_sign w.coordinator t.pair.producer (Some id) (good.sound.owned id t by.before) in
    each_weaker (λ p. IsThere w.topics (Partition p) × IsDone t.pair.producer o (entries_in w (Partition p)) (entries_in v (Partition p))) (IsEndedAt t.pair.producer o w v) (λ p h. one p sign h.0 h.1) t.partitions
    (added_partitions (λ target. IsThere w.topics target × IsDone t.pair.producer o (entries_in w target) (entries_in v target)) t.partitions _
    (each_with (IsThere w.topics) (λ target. IsDone t.pair.producer o (entries_in w target) (entries_in v target)) (targets t) there (prepared_done w good e id t o after by enough))) where
      one : (p : TopicPartition) → int_lt t.pair.producer (pos 0) ≡ false → IsThere w.topics (Partition p) → IsDone t.pair.producer o (entries_in w (Partition p)) (entries_in (world_after_events w (e ∷ after)) (Partition p)) → IsEndedAt t.pair.producer o w (world_after_events w (e ∷ after)) p
      one p sign there (pair, is, h) =
          subst (λ n. IsEndedAt n o w (world_after_events w (e ∷ after)) p) is (ended_at w (e ∷ after) p pair o there (ap (λ n. int_lt n (pos 0)) is ∙ sign) h)

pub prepared_logs : InReached EndsPrepared
prepared_logs s es = prepared_ends _ (good s es)

pub waiting_ends : (w : World) → IsGood w → EndsWaiting w
waiting_ends w good id t o after found waits enough =
    let v = world_after_events w after in
    each_weaker (λ (x : PendingMarker). (IsPending w.coordinator x × IsPendingToExisting w.topics x) × (x.id ≡ id → IsEnded (kept_id_and_epoch x.target x.pair) o (entries_in w x.target) (entries_in v x.target)))
    (λ (x : PendingMarker). x.id ≡ id → (p : TopicPartition) → x.target ≡ Partition p → IsEndedAt x.pair.producer o w v p)
    (λ x h own p is. one x h.0.0 p is h.0.1 (h.1 own))
    w.coordinator.warrants
    (each_with (λ (x : PendingMarker). IsPending w.coordinator x × IsPendingToExisting w.topics x) _ w.coordinator.warrants
    (each_with (IsPending w.coordinator) (IsPendingToExisting w.topics) w.coordinator.warrants good.sound.owed good.all_exist.owed)
    (waiting_completes w good id t o after found waits enough)) where
      sign_of : (x : PendingMarker) → IsPending w.coordinator x → int_lt x.pair.producer (pos 0) ≡ false
      sign_of x owed = given_sign w.coordinator x.pair.producer (Some x.id) owed.fence.owned

      one : (x : PendingMarker) → IsPending w.coordinator x → (p : TopicPartition) → x.target ≡ Partition p → IsThere w.topics x.target → IsEnded (kept_id_and_epoch x.target x.pair) o (entries_in w x.target) (entries_in (world_after_events w after) x.target) → IsEndedAt x.pair.producer o w (world_after_events w after) p
      one x owed p is there h =
          ended_at w after p x.pair o (subst (IsThere w.topics) is there) (sign_of x owed)
          (subst (λ target. IsEnded (kept_id_and_epoch target x.pair) o (entries_in w target) (entries_in (world_after_events w after) target)) is h)

pub waiting_logs : InReached EndsWaiting
waiting_logs s es = waiting_ends _ (good s es)
