-- Targets that were added once each, and what is owed to them.
use Rattle.std.proofs.Common.{◌≡◌, ℕ, ℤ, List, [], ◌∷◌, ◌++◌, map, Option, Some, Bool, true, false, cond, refl, sym, ap, ◌∙◌}
use Rattle.std.specs.Prelude.{◌||◌, ◌&&◌, ◌≤ℤ◌}
use Rattle.std.specs.Ordering.{int_eq}
use Rattle.std.specs.Str.{bytes_eq}
use Rattle.std.proofs.lemmas.Bool.Decides.{Decides-int_eq}
use Rattle.txn_coordinator.specs.declared.producer_id.ProducerIdAndEpoch.{ProducerIdAndEpoch}
use Rattle.txn_coordinator.specs.declared.target.TopicPartition.{TopicPartition}
use Rattle.txn_coordinator.specs.declared.target.Target.{Target}
use Rattle.txn_coordinator.specs.declared.target.Target.TheVariants.{Partition, Group}
use Rattle.txn_coordinator.specs.declared.transaction.Transaction.{Transaction}
use Rattle.record_batch.specs.declared.transaction_result.TransactionResult.{TransactionResult}
use Rattle.txn_coordinator.specs.Words.{is_same_partition, has_partition, has_group, prepared_phase, targets}
use Rattle.txn_coordinator.specs.Adding.{partition_added, partitions_added, group_added}
use Rattle.txn_coordinator.specs.Preparing.{marker_for, markers}
use Rattle.txn_coordinator.specs.Warrants.{has_pending_marker}
use Rattle.txn_laws.specs.Small.{is_same_target}
use Rattle.txn_laws.specs.Sound.{Each, AreDistinct, AreApart, IsApart}
use Rattle.txn_laws.proofs.Base.{each_map, same_is, is_same, given_to}
use Rattle.txn_laws.proofs.Turns.{IsOwedBy}

-- ---- the tests

both : (a b : Bool) → a ≡ true → b ≡ true → (a && b) ≡ true
both true true h k = refl
both true false h k = k
both false b h k = h

or_false : (a b : Bool) → (a || b) ≡ false → (a ≡ false) × (b ≡ false)
or_false true b h = cc
or_false false b h = (refl, h)

pub and_true : (a b : Bool) → (a && b) ≡ true → (a ≡ true) × (b ≡ true)
and_true true b h = (refl, h)
and_true false b h = cc

pub same_number : (m n : ℤ) → int_eq m n ≡ true → m ≡ n
same_number m n h = (Decides-int_eq m n).0 h

self_number : (n : ℤ) → int_eq n n ≡ true
self_number n = (Decides-int_eq n n).1 refl

self_partition : (p : TopicPartition) → is_same_partition p p ≡ true
self_partition p = both (bytes_eq p.topic p.topic) (int_eq p.index p.index) (is_same p.topic p.topic refl) (self_number p.index)

pub self_target : (t : Target) → is_same_target t t ≡ true
self_target (Partition p) = self_partition p
self_target (Group g) = is_same g g refl

pub target_is : (s t : Target) → is_same_target s t ≡ true → s ≡ t
target_is (Partition p) (Partition q) h = let parts = and_true (bytes_eq p.topic q.topic) (int_eq p.index q.index) h in
    let name = same_is p.topic q.topic parts.0 in let index = same_number p.index q.index parts.1 in
    λ i. Partition (record { topic = name i; index = index i })
target_is (Partition p) (Group g) h = cc
target_is (Group g) (Partition p) h = cc
target_is (Group g) (Group k) h = ap (λ x. Group x) (same_is g k h)

-- ---- added once each

abbrev all_targets : List TopicPartition → List (List ℕ) → List Target
all_targets ps gs = map (λ p. Partition p) ps ++ map (λ g. Group g) gs

each_insert : (P : Target → Type 0) (xs : List TopicPartition) (p : TopicPartition) (gs : List Target) → Each P (map (λ x. Partition x) xs ++ gs) → P (Partition p) → Each P (map (λ x. Partition x) (xs ++ p ∷ []) ++ gs)
each_insert P [] p gs h k = (k, h)
each_insert P (x ∷ xs) p gs h k = (h.0, each_insert P xs p gs h.1 k)

other_kind : (p : TopicPartition) (gs : List (List ℕ)) → Each (λ y. Partition p ≡ y → ⊥) (map (λ g. Group g) gs)
other_kind p gs = each_map (λ g. Group g) (λ y. Partition p ≡ y → ⊥) (λ g h. let clash : Partition p ≡ Group g = h in cc) gs

distinct_insert : (xs : List TopicPartition) (p : TopicPartition) (gs : List (List ℕ)) → has_partition xs p ≡ false → AreDistinct (all_targets xs gs) → AreDistinct (all_targets (xs ++ p ∷ []) gs)
distinct_insert [] p gs none h = (other_kind p gs, h)
distinct_insert (x ∷ xs) p gs none h =
    let parts = or_false (is_same_partition x p) (has_partition xs p) none in (
      each_insert (λ y. Partition x ≡ y → ⊥) xs p (map (λ g. Group g) gs) h.0 (λ same. let e : x ≡ p = cc in let yes : is_same_partition x p ≡ true = ap (is_same_partition x) (sym e) ∙ self_partition x in let no : is_same_partition x p ≡ false = parts.0 in cc),
      distinct_insert xs p gs parts.1 h.1,
    )

pub distinct_partitions : (new xs : List TopicPartition) (gs : List (List ℕ)) → AreDistinct (all_targets xs gs) → AreDistinct (all_targets (partitions_added xs new) gs)
distinct_partitions [] xs gs h = h
distinct_partitions (p ∷ ps) xs gs h = distinct_partitions ps (partition_added xs p) gs (by_has (has_partition xs p) refl) where
  by_has : (b : Bool) → has_partition xs p ≡ b → AreDistinct (all_targets (cond b xs (xs ++ p ∷ [])) gs)
  by_has true e = h
  by_has false e = distinct_insert xs p gs e h

group_last : (P : Target → Type 0) (gs : List (List ℕ)) (g : List ℕ) → Each P (map (λ x. Group x) gs) → P (Group g) → Each P (map (λ x. Group x) (gs ++ g ∷ []))
group_last P [] g h k = (k, tt)
group_last P (x ∷ xs) g h k = (h.0, group_last P xs g h.1 k)

both_last : (P : Target → Type 0) (ps : List TopicPartition) (gs : List (List ℕ)) (g : List ℕ) → Each P (all_targets ps gs) → P (Group g) → Each P (all_targets ps (gs ++ g ∷ []))
both_last P [] gs g h k = group_last P gs g h k
both_last P (x ∷ xs) gs g h k = (h.0, both_last P xs gs g h.1 k)

distinct_last : (gs : List (List ℕ)) (g : List ℕ) → has_group gs g ≡ false → AreDistinct (map (λ x. Group x) gs) → AreDistinct (map (λ x. Group x) (gs ++ g ∷ []))
distinct_last [] g none h = (tt, tt)
distinct_last (x ∷ xs) g none h =
    let parts = or_false (bytes_eq x g) (has_group xs g) none in
    (group_last (λ y. Group x ≡ y → ⊥) xs g h.0 (λ same. let e : x ≡ g = cc in let yes : bytes_eq x g ≡ true = is_same x g e in let no : bytes_eq x g ≡ false = parts.0 in cc), distinct_last xs g parts.1 h.1)

distinct_both : (ps : List TopicPartition) (gs : List (List ℕ)) (g : List ℕ) → has_group gs g ≡ false → AreDistinct (all_targets ps gs) → AreDistinct (all_targets ps (gs ++ g ∷ []))
distinct_both [] gs g none h = distinct_last gs g none h
distinct_both (x ∷ xs) gs g none h = (both_last (λ y. Partition x ≡ y → ⊥) xs gs g h.0 (λ same. let clash : Partition x ≡ Group g = same in cc), distinct_both xs gs g none h.1)

pub distinct_group : (ps : List TopicPartition) (gs : List (List ℕ)) (g : List ℕ) → AreDistinct (all_targets ps gs) → AreDistinct (all_targets ps (group_added gs g))
distinct_group ps gs g h = by_has (has_group gs g) refl where
  by_has : (b : Bool) → has_group gs g ≡ b → AreDistinct (all_targets ps (cond b gs (gs ++ g ∷ [])))
  by_has true e = h
  by_has false e = distinct_both ps gs g e h

-- ---- some are added

no_partition : (ps : List TopicPartition) (gs : List (List ℕ)) → all_targets ps gs ≡ [] → ps ≡ []
no_partition [] gs h = refl
no_partition (p ∷ ps) gs h = absurd (let clash : Partition p ∷ all_targets ps gs ≡ [] = h in cc)

no_group : (ps : List TopicPartition) (gs : List (List ℕ)) → all_targets ps gs ≡ [] → gs ≡ []
no_group [] [] h = refl
no_group [] (g ∷ gs) h = absurd (let clash : Group g ∷ map (λ x. Group x) gs ≡ [] = h in cc)
no_group (p ∷ ps) gs h = absurd (let clash : Partition p ∷ all_targets ps gs ≡ [] = h in cc)

not_pushed : {X : Type 0} (xs : List X) (x : X) → xs ++ x ∷ [] ≡ [] → ⊥
not_pushed [] x h = let clash : x ∷ [] ≡ [] = h in cc
not_pushed (y ∷ ys) x h = let clash : y ∷ (ys ++ x ∷ []) ≡ [] = h in cc

partition_in : (added : List TopicPartition) (p : TopicPartition) → partition_added added p ≡ [] → ⊥
partition_in [] p h = let clash : p ∷ [] ≡ [] = h in cc
partition_in (x ∷ xs) p h = by_has (has_partition (x ∷ xs) p) h where
  by_has : (b : Bool) → cond b (x ∷ xs) (x ∷ (xs ++ p ∷ [])) ≡ [] → ⊥
  by_has true k = let clash : x ∷ xs ≡ [] = k in cc
  by_has false k = let clash : x ∷ (xs ++ p ∷ []) ≡ [] = k in cc

partitions_in : (new added : List TopicPartition) → (added ≡ [] → ⊥) → partitions_added added new ≡ [] → ⊥
partitions_in [] added some h = some h
partitions_in (p ∷ ps) added some h = partitions_in ps (partition_added added p) (partition_in added p) h

group_in : (added : List (List ℕ)) (g : List ℕ) → group_added added g ≡ [] → ⊥
group_in [] g h = let clash : g ∷ [] ≡ [] = h in cc
group_in (x ∷ xs) g h = by_has (has_group (x ∷ xs) g) h where
  by_has : (b : Bool) → cond b (x ∷ xs) (x ∷ (xs ++ g ∷ [])) ≡ [] → ⊥
  by_has true k = let clash : x ∷ xs ≡ [] = k in cc
  by_has false k = let clash : x ∷ (xs ++ g ∷ []) ≡ [] = k in cc

pub filled_partitions : (p : TopicPartition) (ps added : List TopicPartition) (gs : List (List ℕ)) → all_targets (partitions_added added (p ∷ ps)) gs ≡ [] → ⊥
filled_partitions p ps added gs h = partitions_in ps (partition_added added p) (partition_in added p) (no_partition (partitions_added added (p ∷ ps)) gs h)

pub filled_group : (ps : List TopicPartition) (added : List (List ℕ)) (g : List ℕ) → all_targets ps (group_added added g) ≡ [] → ⊥
filled_group ps added g h = group_in added g (no_group ps (group_added added g) h)

-- ---- what is owed to them

owing_map : (id : List ℕ) (p : ProducerIdAndEpoch) (o : TransactionResult) (xs : List Target) → (xs ≡ [] → ⊥) → has_pending_marker (map (marker_for id p o) xs) id ≡ true
owing_map id p o [] some = absurd (some refl)
owing_map id p o (x ∷ xs) some = ap (λ b. b || has_pending_marker (map (marker_for id p o) xs) id) (is_same id id refl)

pub markers_owing : (t : Transaction) (p : ProducerIdAndEpoch) (o : TransactionResult) → (targets t ≡ [] → ⊥) → has_pending_marker (markers t p o) t.id ≡ true
markers_owing t p o some = owing_map t.id p o (targets t) some

pub markers_owed : (given : List (Option (List ℕ))) (r t : Transaction) (p : ProducerIdAndEpoch) (o : TransactionResult) → t.id ≡ r.id → given_to given p.producer ≡ Some (Some t.id) → (r.pair.producer ≡ p.producer → p.epoch ≤ℤ r.pair.epoch) → r.state ≡ prepared_phase o → Each (IsOwedBy given r) (markers t p o)
markers_owed given r t p o own owned reached waits = each_map (marker_for t.id p o) (IsOwedBy given r) (λ target. record { own = own; owned = owned; reached = reached; waits = waits }) (targets t)

apart_one : (id : List ℕ) (p : ProducerIdAndEpoch) (o : TransactionResult) (x : Target) (xs : List Target) → Each (λ y. x ≡ y → ⊥) xs → Each (IsApart (marker_for id p o x)) (map (marker_for id p o) xs)
apart_one id p o x [] h = tt
apart_one id p o x (y ∷ ys) h = ((λ same_id same. h.0 same), apart_one id p o x ys h.1)

apart_map : (id : List ℕ) (p : ProducerIdAndEpoch) (o : TransactionResult) (xs : List Target) → AreDistinct xs → AreApart (map (marker_for id p o) xs)
apart_map id p o [] h = tt
apart_map id p o (x ∷ xs) h = (apart_one id p o x xs h.0, apart_map id p o xs h.1)

pub markers_apart : (t : Transaction) (p : ProducerIdAndEpoch) (o : TransactionResult) → AreDistinct (targets t) → AreApart (markers t p o)
markers_apart t p o h = apart_map t.id p o (targets t) h
