-- What a log put in a partition's place changes among the entries.
use Rattle.std.proofs.Common.{◌≡◌, ℕ, zero, suc, ℤ, pos, negsuc, List, [], ◌∷◌, ◌++◌, map, Option, Some, None, Bool, true, false, cond, refl, sym, ap, ◌∙◌}
use Rattle.std.specs.Prelude.{◌&&◌, slice_get, slice_set, is_some}
use Rattle.std.specs.Option.{option_map, option_and_then}
use Rattle.std.specs.Ordering.{int_eq}
use Rattle.std.specs.Str.{bytes_eq}
use Rattle.std.proofs.lemmas.Bool.Decides.{Decides-int_eq}
use Rattle.std.proofs.lemmas.Slice.Eq.{bytes_eq-Decides}
use Rattle.txn_coordinator.specs.declared.target.Target.{Target}
use Rattle.txn_coordinator.specs.declared.target.Target.TheVariants.{Partition, Group}
use Rattle.group_offsets.specs.declared.group.Group.{Group as GroupValue}
use Rattle.txn_laws.specs.Small.{Entry, with_entry}
use Rattle.broker_world.specs.World.{TopicValue, LogValue, find_topic}
use Rattle.broker_world.specs.Logs.{log_in, log_of, log_at, logs_with, with_log}
use Rattle.data_handlers.specs.Judged.{partition_at}
use Rattle.api_laws.proofs.DataGrants.{find_same, find_other}
use Rattle.broker_laws.specs.Entries.{entry_of, log_entries, entries_at}
use Rattle.broker_laws.specs.Targets.{is_there}

-- ---- among a topic's logs

get_set : (logs : List LogValue) (n : ℕ) (log : LogValue) → is_some (slice_get logs n) ≡ true → slice_get (slice_set logs n log) n ≡ Some log
get_set [] n log h = absurd (let clash : false ≡ true = h in cc)
get_set (x ∷ xs) zero log h = refl
get_set (x ∷ xs) (suc n) log h = get_set xs n log h

get_other : (logs : List LogValue) (m n : ℕ) (log : LogValue) → (m ≡ n → ⊥) → slice_get (slice_set logs m log) n ≡ slice_get logs n
get_other [] m n log differ = refl
get_other (x ∷ xs) zero zero log differ = absurd (differ refl)
get_other (x ∷ xs) zero (suc n) log differ = refl
get_other (x ∷ xs) (suc m) zero log differ = refl
get_other (x ∷ xs) (suc m) (suc n) log differ = get_other xs m n log (λ e. differ (ap suc e))

in_set : (logs : List LogValue) (i : ℤ) (log : LogValue) → is_some (log_in i logs) ≡ true → log_in i (logs_with logs i log) ≡ Some log
in_set logs (pos n) log h = get_set logs n log h
in_set logs (negsuc n) log h = absurd (let clash : false ≡ true = h in cc)

in_other : (logs : List LogValue) (i j : ℤ) (log : LogValue) → (i ≡ j → ⊥) → log_in j (logs_with logs i log) ≡ log_in j logs
in_other logs (pos m) (pos n) log differ = get_other logs m n log (λ e. differ (ap pos e))
in_other logs (pos m) (negsuc n) log differ = refl
in_other logs (negsuc m) j log differ = refl

number_is : (i j : ℤ) → int_eq i j ≡ true → i ≡ j
number_is i j h = (Decides-int_eq i j).0 h

text_is : (a b : List ℕ) → bytes_eq a b ≡ true → a ≡ b
text_is a b h = (bytes_eq-Decides a b).0 h

differ_by : (i j : ℤ) → int_eq i j ≡ false → i ≡ j → ⊥
differ_by i j h e = let yes : int_eq i j ≡ true = (Decides-int_eq i j).1 e in let clash : true ≡ false = sym yes ∙ h in absurd cc

in_with : (logs : List LogValue) (i j : ℤ) (log : LogValue) → is_some (log_in i logs) ≡ true → log_in j (logs_with logs i log) ≡ cond (int_eq i j) (Some log) (log_in j logs)
in_with logs i j log there = by_same (int_eq i j) refl where
  by_same : (b : Bool) → int_eq i j ≡ b → log_in j (logs_with logs i log) ≡ cond b (Some log) (log_in j logs)
  by_same true e = ap (λ k. log_in k (logs_with logs i log)) (sym (number_is i j e)) ∙ in_set logs i log there
  by_same false e = in_other logs i j log (differ_by i j e)

-- ---- among topics

topic_with : (o : Option TopicValue) (i j : ℤ) (log : LogValue) → is_some (option_and_then (log_of i) o) ≡ true
    → option_and_then (log_of j) (option_map (λ (t : TopicValue). record { name = t.name; partitions = logs_with t.partitions i log }) o) ≡ cond (int_eq i j) (Some log) (option_and_then (log_of j) o)
topic_with None i j log there = absurd (let clash : false ≡ true = there in cc)
topic_with (Some t) i j log there = in_with t.partitions i j log there

-- the partition's log is the new one, and each other is as before
pub at_with : (topics : List TopicValue) (name : List ℕ) (i : ℤ) (log : LogValue) → is_some (log_at topics name i) ≡ true → (other : List ℕ) (j : ℤ) → log_at (with_log topics name i log) other j ≡ cond (bytes_eq name other && int_eq i j) (Some log) (log_at topics other j)
at_with topics name i log there other j = by_name (bytes_eq name other) refl where
  by_name : (b : Bool) → bytes_eq name other ≡ b → log_at (with_log topics name i log) other j ≡ cond (b && int_eq i j) (Some log) (log_at topics other j)
  by_name true e =
      let same = text_is name other e in
      ap (λ n. log_at (with_log topics name i log) n j) (sym same)
      ∙ ap (option_and_then (log_of j)) (find_same topics name i log)
      ∙ topic_with (find_topic topics name) i j log there
      ∙ ap (λ n. cond (int_eq i j) (Some log) (log_at topics n j)) same
  by_name false e = ap (option_and_then (log_of j)) (find_other topics name other i log e)

-- ---- entries

pub same_partition : (name other : List ℕ) (i j : ℤ) → (bytes_eq name other && int_eq i j) ≡ true → (name ≡ other) × (i ≡ j)
same_partition name other i j h = by_name (bytes_eq name other) refl h where
  by_name : (b : Bool) → bytes_eq name other ≡ b → (b && int_eq i j) ≡ true → (name ≡ other) × (i ≡ j)
  by_name true e h = (text_is name other e, number_is i j h)
  by_name false e h = absurd (let clash : false ≡ true = h in cc)

there_is : (o : Option LogValue) (log : LogValue) → o ≡ Some log → is_some o ≡ true
there_is o log e = ap is_some e

-- a log with one entry more, put in its partition's place
pub entries_with : (topics : List TopicValue) (gs : List GroupValue) (name : List ℕ) (i : ℤ) (old new : LogValue) (entry : Entry) → log_at topics name i ≡ Some old → map entry_of new ≡ map entry_of old ++ entry ∷ []
    → (target : Target) → entries_at (with_log topics name i new) gs target ≡ with_entry (entries_at topics gs) (partition_at name i) entry target
entries_with topics gs name i old new entry there goes_on (Group g) = refl
entries_with topics gs name i old new entry there goes_on (Partition q) = ap log_entries (at_with topics name i new (there_is (log_at topics name i) old there) q.topic q.index) ∙ by_same (bytes_eq name q.topic && int_eq i q.index) refl where
  by_same : (b : Bool) → (bytes_eq name q.topic && int_eq i q.index) ≡ b → log_entries (cond b (Some new) (log_at topics q.topic q.index)) ≡ cond b (log_entries (log_at topics q.topic q.index) ++ entry ∷ []) (log_entries (log_at topics q.topic q.index))
  by_same true e =
      let same = same_partition name q.topic i q.index e in
      let here : log_at topics q.topic q.index ≡ Some old = ap (λ n. log_at topics n q.index) (sym same.0) ∙ ap (log_at topics name) (sym same.1) ∙ there in
      goes_on ∙ ap (λ o. log_entries o ++ entry ∷ []) (sym here)
  by_same false e = refl

-- the same log put in its partition's place
pub entries_kept : (topics : List TopicValue) (gs : List GroupValue) (name : List ℕ) (i : ℤ) (log : LogValue) → log_at topics name i ≡ Some log → (target : Target) → entries_at (with_log topics name i log) gs target ≡ entries_at topics gs target
entries_kept topics gs name i log there (Group g) = refl
entries_kept topics gs name i log there (Partition q) = ap log_entries (at_with topics name i log (there_is (log_at topics name i) log there) q.topic q.index) ∙ by_same (bytes_eq name q.topic && int_eq i q.index) refl where
  by_same : (b : Bool) → (bytes_eq name q.topic && int_eq i q.index) ≡ b → log_entries (cond b (Some log) (log_at topics q.topic q.index)) ≡ log_entries (log_at topics q.topic q.index)
  by_same true e =
      let same = same_partition name q.topic i q.index e in
      ap log_entries (sym (ap (λ n. log_at topics n q.index) (sym same.0) ∙ ap (log_at topics name) (sym same.1) ∙ there))
  by_same false e = refl

-- no partition comes or goes
pub places_kept : (topics : List TopicValue) (name : List ℕ) (i : ℤ) (log : LogValue) → is_some (log_at topics name i) ≡ true → (target : Target) → is_there (with_log topics name i log) target ≡ is_there topics target
places_kept topics name i log there (Group g) = refl
places_kept topics name i log there (Partition q) = ap is_some (at_with topics name i log there q.topic q.index) ∙ by_same (bytes_eq name q.topic && int_eq i q.index) refl where
  by_same : (b : Bool) → (bytes_eq name q.topic && int_eq i q.index) ≡ b → is_some (cond b (Some log) (log_at topics q.topic q.index)) ≡ is_some (log_at topics q.topic q.index)
  by_same true e =
      let same = same_partition name q.topic i q.index e in
      sym (ap (λ n. is_some (log_at topics n q.index)) (sym same.0) ∙ ap (λ k. is_some (log_at topics name k)) (sym same.1) ∙ there)
  by_same false e = refl
