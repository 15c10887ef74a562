-- What the coordinator's calls take in exists, where it did before and what is named does.
use Rattle.std.proofs.Common.{◌≡◌, ℕ, ℤ, List, [], ◌∷◌, ◌++◌, map, Option, Some, None, Result, Ok, Err, Bool, true, false, cond, refl, subst}
use Rattle.std.specs.List.{flat_map}
use Rattle.wire_types.specs.declared.error_code.ErrorCode.{ErrorCode}
use Rattle.wire_types.specs.declared.error_code.ErrorCode.TheVariants as codes
use Rattle.txn_coordinator.specs.declared.producer_id.ProducerIdAndEpoch.{ProducerIdAndEpoch}
use Rattle.txn_coordinator.specs.declared.target.TopicPartition.{TopicPartition}
use Rattle.txn_coordinator.specs.declared.target.Target.{Target}
use Rattle.txn_coordinator.specs.declared.target.Target.TheVariants.{Partition, Group}
use Rattle.txn_coordinator.specs.declared.transaction.TransactionState.{TransactionState}
use Rattle.txn_coordinator.specs.declared.transaction.TransactionState.TheVariants.{Empty, Ongoing, PrepareCommit, PrepareAbort, CompleteCommit, CompleteAbort}
use Rattle.txn_coordinator.specs.declared.transaction.Transaction.{Transaction}
use Rattle.record_batch.specs.declared.transaction_result.TransactionResult.{TransactionResult}
use Rattle.record_batch.specs.declared.transaction_result.TransactionResult.TheVariants.{Commit, Abort}
use Rattle.txn_coordinator.specs.declared.marker.PendingMarker.{PendingMarker}
use Rattle.txn_coordinator.specs.declared.ending.EndForm.{EndForm}
use Rattle.txn_coordinator.specs.declared.ending.EndForm.TheVariants.{Plain, Fencing, Raising}
use Rattle.txn_coordinator.specs.Transition.{Transition, Stays, Puts}
use Rattle.txn_coordinator.specs.Words.{is_empty, has_partition, with_next_epoch, targets}
use Rattle.txn_coordinator.specs.Coordinator.{CoordinatorValue, has_id, id_record, records_with, fresh_producer_id, apply_transition}
use Rattle.txn_coordinator.specs.Preparing.{marker_for, markers, fenced_transaction, fence_markers, producer_refusal}
use Rattle.txn_coordinator.specs.InitProducerId.{timeout_within, init_in, init_for, init}
use Rattle.txn_coordinator.specs.Adding.{partition_added, partitions_added, with_partitions, group_added, with_group, open_in, open_by, open_found, open_transaction, growth_transition, add_partitions, add_group}
use Rattle.txn_coordinator.specs.EndTxn.{other_epoch, end_ongoing, end_closed, end_in, is_again, end_again, end_by, end_found, end}
use Rattle.txn_coordinator.specs.Expiry.{is_due, fenced_if_due, expiry_markers, expire}
use Rattle.txn_coordinator.specs.Warrants.{has_pending_marker, completed_transaction, with_completed, with_first_written}
use Rattle.txn_laws.specs.Sound.{Each}
use Rattle.txn_laws.proofs.Base.{each_append}
use Rattle.broker_world.specs.World.{TopicValue}
use Rattle.broker_laws.specs.Targets.{IsThere, TakesInExisting, IsPendingToExisting, AllExist}

-- ---- lists

each_put : (P : Transaction → Type 0) (ts : List Transaction) (r : Transaction) → Each P ts → P r → Each P (records_with ts r)
each_put P [] r h k = (k, tt)
each_put P (t ∷ ts) r h k = by_same (has_id r.id t) (each_put P ts r h.1 k) where
  by_same : (b : Bool) → Each P (records_with ts r) → Each P (cond b (r ∷ ts) (t ∷ records_with ts r))
  by_same true rest = (k, h.1)
  by_same false rest = (h.0, rest)

pub each_recorded : (P : Transaction → Type 0) (ts : List Transaction) (id : List ℕ) (t : Transaction) → Each P ts → id_record ts id ≡ Some t → P t
each_recorded P [] id t h found = absurd (let clash : None ≡ Some t = found in cc)
each_recorded P (x ∷ xs) id t h found = by_same (has_id id x) (each_recorded P xs id t h.1) found where
  by_same : (b : Bool) → (id_record xs id ≡ Some t → P t) → cond b (Some x) (id_record xs id) ≡ Some t → P t
  by_same true rest here = let same : x ≡ t = cc in subst P same h.0
  by_same false rest here = rest here

module _ (topics : List TopicValue) where
  -- ---- markers

  markers_exist : (t : Transaction) (pair : ProducerIdAndEpoch) (o : TransactionResult) → TakesInExisting topics t → Each (IsPendingToExisting topics) (markers t pair o)
  markers_exist t pair o h = each_marker (targets t) h where
    each_marker : (xs : List Target) → Each (IsThere topics) xs → Each (IsPendingToExisting topics) (map (marker_for t.id pair o) xs)
    each_marker [] h = tt
    each_marker (x ∷ xs) h = (h.0, each_marker xs h.1)

  -- ---- a transition

  abbrev TransitionExists : Transition → Type 0
  TransitionExists (Stays code) = Unit {0}
  TransitionExists (Puts code t given owed) = TakesInExisting topics t × Each (IsPendingToExisting topics) owed

  pub turned_exist : (c : CoordinatorValue) (transition : Transition) → AllExist topics c → TransitionExists transition → AllExist topics (apply_transition c transition)
  turned_exist c (Stays code) all h = all
  turned_exist c (Puts code t given owed) all h = record {
    added = each_put (TakesInExisting topics) c.transactions t all.added h.0;
    owed = each_append (IsPendingToExisting topics) c.warrants owed all.owed h.1;
  }

  -- ---- InitProducerId

  init_in_exists : (state : TransactionState) (t : Transaction) (next : ℤ) (timeout : ℕ) → TakesInExisting topics t → TransitionExists (init_in state t next timeout)
  init_in_exists Empty t next timeout h = (h, tt)
  init_in_exists CompleteCommit t next timeout h = (h, tt)
  init_in_exists CompleteAbort t next timeout h = (h, tt)
  init_in_exists Ongoing t next timeout h = (h, markers_exist t _ _ h)
  init_in_exists PrepareCommit t next timeout h = tt
  init_in_exists PrepareAbort t next timeout h = tt

  init_for_exists : (o : Option ℕ) (found : Option Transaction) (id : List ℕ) (next : ℤ) → ((t : Transaction) → found ≡ Some t → TakesInExisting topics t) → TransitionExists (init_for o found id next)
  init_for_exists None found id next h = tt
  init_for_exists (Some timeout) None id next h = (tt, tt)
  init_for_exists (Some timeout) (Some t) id next h = init_in_exists t.state t next timeout (h t refl)

  pub init_exists : (c : CoordinatorValue) (id : List ℕ) (timeout greatest : ℤ) → AllExist topics c → TransitionExists (init c id timeout greatest)
  init_exists c id timeout greatest all = by_empty (is_empty id) where
    by_empty : (b : Bool) → TransitionExists (cond b (Stays codes.InvalidRequest) (init_for (timeout_within timeout greatest) (id_record c.transactions id) id (fresh_producer_id c)))
    by_empty true = tt
    by_empty false = init_for_exists (timeout_within timeout greatest) (id_record c.transactions id) id (fresh_producer_id c) (λ t found. each_recorded (TakesInExisting topics) c.transactions id t all.added found)

  -- ---- AddPartitionsToTxn

  one_added : (xs : List TopicPartition) (p : TopicPartition) (gs : List Target) → IsThere topics (Partition p) → Each (IsThere topics) (map (λ x. Partition x) xs ++ gs) → Each (IsThere topics) (map (λ x. Partition x) (xs ++ p ∷ []) ++ gs)
  one_added [] p gs here h = (here, h)
  one_added (x ∷ xs) p gs here h = (h.0, one_added xs p gs here h.1)

  all_added : (new xs : List TopicPartition) (gs : List Target) → Each (λ p. IsThere topics (Partition p)) new → Each (IsThere topics) (map (λ x. Partition x) xs ++ gs) → Each (IsThere topics) (map (λ x. Partition x) (partitions_added xs new) ++ gs)
  all_added [] xs gs there h = h
  all_added (p ∷ ps) xs gs there h = all_added ps (partition_added xs p) gs there.1 (by_has (has_partition xs p)) where
    by_has : (b : Bool) → Each (IsThere topics) (map (λ x. Partition x) (cond b xs (xs ++ p ∷ [])) ++ gs)
    by_has true = h
    by_has false = one_added xs p gs there.0 h

  grown_exists : (ps : List TopicPartition) (r : Result Transaction ErrorCode) → Each (λ p. IsThere topics (Partition p)) ps → ((t : Transaction) → r ≡ Ok t → TakesInExisting topics t) → TransitionExists (growth_transition (with_partitions ps) r)
  grown_exists ps (Ok t) there h = (all_added ps t.partitions (map (λ g. Group g) t.groups) there (h t refl), tt)
  grown_exists ps (Err code) there h = tt

  -- what is opened takes in what it did
  abbrev OpensExisting : Result Transaction ErrorCode → Type 0
  OpensExisting (Ok t) = TakesInExisting topics t
  OpensExisting (Err code) = Unit {0}

  open_in_exists : (state : TransactionState) (t : Transaction) (moment : ℕ) → TakesInExisting topics t → OpensExisting (open_in state t moment)
  open_in_exists Ongoing t moment h = h
  open_in_exists Empty t moment h = h
  open_in_exists CompleteCommit t moment h = h
  open_in_exists CompleteAbort t moment h = h
  open_in_exists PrepareCommit t moment h = tt
  open_in_exists PrepareAbort t moment h = tt

  open_by_exists : (o : Option ErrorCode) (t : Transaction) (moment : ℕ) → TakesInExisting topics t → OpensExisting (open_by o t moment)
  open_by_exists (Some code) t moment h = tt
  open_by_exists None t moment h = open_in_exists t.state t moment h

  open_found_exists : (found : Option Transaction) (pair : ProducerIdAndEpoch) (moment : ℕ) → ((t : Transaction) → found ≡ Some t → TakesInExisting topics t) → OpensExisting (open_found found pair moment)
  open_found_exists None pair moment h = tt
  open_found_exists (Some t) pair moment h = open_by_exists (producer_refusal codes.InvalidProducerEpoch t pair) t moment (h t refl)

  opened : (r : Result Transaction ErrorCode) → OpensExisting r → (t : Transaction) → r ≡ Ok t → TakesInExisting topics t
  opened (Ok x) h t e = let same : x ≡ t = cc in subst (TakesInExisting topics) same h
  opened (Err code) h t e = absurd (let clash : Err code ≡ Ok t = e in cc)

  open_exists : (c : CoordinatorValue) (id : List ℕ) (pair : ProducerIdAndEpoch) (moment : ℕ) → AllExist topics c → OpensExisting (open_transaction c id pair moment)
  open_exists c id pair moment all = by_empty (is_empty id) where
    by_empty : (b : Bool) → OpensExisting (cond b (Err codes.InvalidRequest) (open_found (id_record c.transactions id) pair moment))
    by_empty true = tt
    by_empty false = open_found_exists (id_record c.transactions id) pair moment (λ t found. each_recorded (TakesInExisting topics) c.transactions id t all.added found)

  pub add_exists : (c : CoordinatorValue) (id : List ℕ) (pair : ProducerIdAndEpoch) (moment : ℕ) (ps : List TopicPartition) → AllExist topics c → Each (λ p. IsThere topics (Partition p)) ps → TransitionExists (add_partitions c id pair moment ps)
  add_exists c id pair moment [] all there = tt
  add_exists c id pair moment (p ∷ ps) all there = grown_exists (p ∷ ps) (open_transaction c id pair moment) there (opened (open_transaction c id pair moment) (open_exists c id pair moment all))

  -- ---- AddOffsetsToTxn

  -- each group exists
  groups_exist : (groups : List (List ℕ)) → Each (IsThere topics) (map (λ g. Group g) groups)
  groups_exist [] = tt
  groups_exist (g ∷ gs) = (refl, groups_exist gs)

  other_groups : (ps : List TopicPartition) (old new : List (List ℕ)) → Each (IsThere topics) (map (λ p. Partition p) ps ++ map (λ g. Group g) old) → Each (IsThere topics) (map (λ p. Partition p) ps ++ map (λ g. Group g) new)
  other_groups [] old new h = groups_exist new
  other_groups (p ∷ ps) old new h = (h.0, other_groups ps old new h.1)

  grown_group : (group : List ℕ) (r : Result Transaction ErrorCode) → ((t : Transaction) → r ≡ Ok t → TakesInExisting topics t) → TransitionExists (growth_transition (with_group group) r)
  grown_group group (Ok t) h = (other_groups t.partitions t.groups (group_added t.groups group) (h t refl), tt)
  grown_group group (Err code) h = tt

  pub add_group_exists : (c : CoordinatorValue) (id : List ℕ) (pair : ProducerIdAndEpoch) (moment : ℕ) (group : List ℕ) → AllExist topics c → TransitionExists (add_group c id pair moment group)
  add_group_exists c id pair moment group all = grown_group group (open_transaction c id pair moment) (opened (open_transaction c id pair moment) (open_exists c id pair moment all))

  -- ---- EndTxn

  end_ongoing_exists : (form : EndForm) (t : Transaction) (next : ℤ) (o : TransactionResult) → TakesInExisting topics t → TransitionExists (end_ongoing form t next o)
  end_ongoing_exists Plain t next o h = (h, markers_exist t t.pair o h)
  end_ongoing_exists Fencing t next o h = (h, markers_exist t t.pair o h)
  end_ongoing_exists Raising t next o h = (h, markers_exist t (with_next_epoch t.pair) o h)

  end_closed_exists : (form : EndForm) (t : Transaction) (next : ℤ) (o : TransactionResult) (code : ErrorCode) → TakesInExisting topics t → TransitionExists (end_closed form t next o code)
  end_closed_exists Plain t next o code h = tt
  end_closed_exists Fencing t next o code h = tt
  end_closed_exists Raising t next Commit code h = tt
  end_closed_exists Raising t next Abort code h = (h, tt)

  end_in_exists : (state : TransactionState) (form : EndForm) (t : Transaction) (next : ℤ) (o : TransactionResult) → TakesInExisting topics t → TransitionExists (end_in state form t next o)
  end_in_exists Ongoing form t next o h = end_ongoing_exists form t next o h
  end_in_exists PrepareCommit form t next Commit h = tt
  end_in_exists PrepareCommit form t next Abort h = tt
  end_in_exists PrepareAbort form t next Commit h = tt
  end_in_exists PrepareAbort form t next Abort h = tt
  end_in_exists Empty form t next o h = end_closed_exists form t next o codes.InvalidTxnState h
  end_in_exists CompleteCommit form t next Commit h = end_closed_exists form t next Commit codes.None h
  end_in_exists CompleteCommit form t next Abort h = end_closed_exists form t next Abort codes.InvalidTxnState h
  end_in_exists CompleteAbort form t next Commit h = end_closed_exists form t next Commit codes.InvalidTxnState h
  end_in_exists CompleteAbort form t next Abort h = end_closed_exists form t next Abort codes.None h

  end_by_exists : (refusal : Option ErrorCode) (form : EndForm) (t : Transaction) (next : ℤ) (o : TransactionResult) → TakesInExisting topics t → TransitionExists (end_by refusal form t next o)
  end_by_exists (Some code) form t next o h = tt
  end_by_exists None form t next o h = end_in_exists t.state form t next o h

  end_again_exists : (b : Bool) (form : EndForm) (t : Transaction) (next : ℤ) (pair : ProducerIdAndEpoch) (o : TransactionResult) → TakesInExisting topics t → TransitionExists (cond b (Stays (end_again t.state o)) (end_by (producer_refusal (other_epoch form) t pair) form t next o))
  end_again_exists true form t next pair o h = tt
  end_again_exists false form t next pair o h = end_by_exists (producer_refusal (other_epoch form) t pair) form t next o h

  end_found_exists : (found : Option Transaction) (form : EndForm) (next : ℤ) (pair : ProducerIdAndEpoch) (o : TransactionResult) → ((t : Transaction) → found ≡ Some t → TakesInExisting topics t) → TransitionExists (end_found found form next pair o)
  end_found_exists None form next pair o h = tt
  end_found_exists (Some t) form next pair o h = end_again_exists (is_again form t pair) form t next pair o (h t refl)

  pub end_exists : (c : CoordinatorValue) (form : EndForm) (id : List ℕ) (pair : ProducerIdAndEpoch) (o : TransactionResult) → AllExist topics c → TransitionExists (end c form id pair o)
  end_exists c form id pair o all = by_empty (is_empty id) where
    by_empty : (b : Bool) → TransitionExists (cond b (Stays codes.InvalidRequest) (end_found (id_record c.transactions id) form (fresh_producer_id c) pair o))
    by_empty true = tt
    by_empty false = end_found_exists (id_record c.transactions id) form (fresh_producer_id c) pair o (λ t found. each_recorded (TakesInExisting topics) c.transactions id t all.added found)

  -- ---- a marker step

  completed_exist : (o : TransactionResult) (found : Option Transaction) (ts : List Transaction) → Each (TakesInExisting topics) ts → Each (TakesInExisting topics) (with_completed o found ts)
  completed_exist o None ts h = h
  completed_exist o (Some t) ts h = each_put (TakesInExisting topics) ts (completed_transaction o t) h tt

  pub written_exist : (c : CoordinatorValue) (ws : List PendingMarker) → c.warrants ≡ ws → AllExist topics c → AllExist topics (with_first_written c ws)
  written_exist c [] e all = all
  written_exist c (m ∷ rest) e all = record { added = by_owes (has_pending_marker rest m.id); owed = (subst (Each (IsPendingToExisting topics)) e all.owed).1 } where
    by_owes : (b : Bool) → Each (TakesInExisting topics) (cond b c.transactions (with_completed m.outcome (id_record c.transactions m.id) c.transactions))
    by_owes true = all.added
    by_owes false = completed_exist m.outcome (id_record c.transactions m.id) c.transactions all.added

  -- ---- a tick

  one_expired : (moment : ℕ) (t : Transaction) → TakesInExisting topics t → TakesInExisting topics (fenced_if_due moment t) × Each (IsPendingToExisting topics) (expiry_markers moment t)
  one_expired moment t h = by_due (is_due moment t) where
    by_due : (b : Bool) → TakesInExisting topics (cond b (fenced_transaction t) t) × Each (IsPendingToExisting topics) (cond b (fence_markers t) [])
    by_due true = (h, markers_exist t _ _ h)
    by_due false = (h, tt)

  each_expired : (moment : ℕ) (ts : List Transaction) → Each (TakesInExisting topics) ts → Each (TakesInExisting topics) (map (fenced_if_due moment) ts) × Each (IsPendingToExisting topics) (flat_map (expiry_markers moment) ts)
  each_expired moment [] h = (tt, tt)
  each_expired moment (t ∷ ts) h =
      let one = one_expired moment t h.0 in
      let rest = each_expired moment ts h.1 in
      ((one.0, rest.0), each_append (IsPendingToExisting topics) (expiry_markers moment t) (flat_map (expiry_markers moment) ts) one.1 rest.1)

  pub expire_exist : (c : CoordinatorValue) (moment : ℕ) → AllExist topics c → AllExist topics (expire c moment)
  expire_exist c moment all =
      let each = each_expired moment c.transactions all.added in
      record { added = each.0; owed = each_append (IsPendingToExisting topics) c.warrants (flat_map (expiry_markers moment) c.transactions) all.owed each.1 }
