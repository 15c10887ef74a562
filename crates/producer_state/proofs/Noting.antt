-- What one batch or marker more changes.
use Rattle.std.proofs.Common.{◌≡◌, ℕ, ℤ, zero, suc, ◌≤◌, List, [], ◌∷◌, ◌++◌, append-nil, map, reverse, take, Option, Some, None, Bool, true, false, cond, refl, sym, ap, ◌∙◌, arith}
use Rattle.std.specs.Prelude.{◌<ℤ◌, int_lt, ◌&&◌}
use Rattle.std.specs.Ordering.{int_eq}
use Rattle.std.specs.Int.{int_max}
use Rattle.std.specs.List.{filter}
use Rattle.std.proofs.lemmas.Int.{ints, clamps}
use Rattle.std.proofs.lemmas.List.{reverse-append, map-append, take-map}
use Rattle.std.proofs.lemmas.List.Elements.{filter-append}
use Rattle.record_batch.specs.Batch.{BatchData}
use Rattle.producer_state.specs.declared.producer_entry.BatchMetadata.{BatchMetadata}
use Rattle.producer_state.specs.Sequences.{is_data, has_producer_id, is_written_by, epochs, greater_of, greatest_of, batches_written_by, latest_batches_by, expected_after, next_after}
use Rattle.producer_state.specs.State.{ProducerEntryValue, written_of, state_in, state_of, fresh_state, state_in_epoch, state_with_batch_if, state_after_batch}
use Rattle.producer_state.proofs.Numbers.{lt_is, lt_is_not, same_sym, differs}

abbrev pub epoch_of : BatchData → ℤ
epoch_of b = b.header.producer_epoch

-- ---- epochs

pub epochs_push : (id : ℤ) (log : List BatchData) (b : BatchData) → epochs id (log ++ b ∷ []) ≡ epochs id log ++ cond (has_producer_id id b) (epoch_of b ∷ []) []
epochs_push id log b =
    ap (map epoch_of) (filter-append (has_producer_id id) log (b ∷ []))
    ∙ map-append epoch_of (filter (has_producer_id id) log) (filter (has_producer_id id) (b ∷ []))
    ∙ ap (λ l. epochs id log ++ l) (by_test (has_producer_id id b)) where
      by_test : (t : Bool) → map epoch_of (cond t (b ∷ []) []) ≡ cond t (epoch_of b ∷ []) []
      by_test true = refl
      by_test false = refl

pub max_swap : (a x : ℤ) (o : Option ℤ) → greater_of a (Some (greater_of x o)) ≡ greater_of x (Some (greater_of a o))
max_swap a x None = omega (arith, ints, clamps)
max_swap a x (Some m) = omega (arith, ints, clamps)

pub greatest_push : (ns : List ℤ) (x : ℤ) → greatest_of (ns ++ x ∷ []) ≡ Some (greater_of x (greatest_of ns))
greatest_push [] x = refl
greatest_push (a ∷ ns) x = ap (λ o. Some (greater_of a o)) (greatest_push ns x) ∙ ap (λ n. Some n) (max_swap a x (greatest_of ns))

abbrev pub AllBelow : ℤ → List ℤ → Type 0
AllBelow high [] = Unit {0}
AllBelow high (n ∷ ns) = (n <ℤ high) × AllBelow high ns

some_is : (a b : ℤ) → Some a ≡ Some b → a ≡ b
some_is a b h = cc

below_parts : (n high : ℤ) (o : Option ℤ) → greater_of n o <ℤ high → (n <ℤ high) × ((m : ℤ) → o ≡ Some m → m <ℤ high)
below_parts n high None lt = (lt, λ m is. absurd (let clash : Some m ≡ None = sym is in cc))
below_parts n high (Some k) lt = (omega (arith, ints, clamps), λ m is. let same : k ≡ m = some_is k m is in omega (arith, ints, clamps))

pub all_below : (ns : List ℤ) (high : ℤ) → ((m : ℤ) → greatest_of ns ≡ Some m → m <ℤ high) → AllBelow high ns
all_below [] high h = tt
all_below (n ∷ ns) high h = let parts = below_parts n high (greatest_of ns) (h (greater_of n (greatest_of ns)) refl) in (parts.0, all_below ns high parts.1)

-- ---- data batches of an epoch

pub written_push : (id epoch : ℤ) (log : List BatchData) (b : BatchData) → batches_written_by id epoch (log ++ b ∷ []) ≡ batches_written_by id epoch log ++ cond (is_written_by id epoch b) (b ∷ []) []
written_push id epoch log b = filter-append (is_written_by id epoch) log (b ∷ [])

pub latest_push : (id epoch : ℤ) (log : List BatchData) (b : BatchData) → latest_batches_by id epoch (log ++ b ∷ []) ≡ cond (is_written_by id epoch b) (b ∷ latest_batches_by id epoch log) (latest_batches_by id epoch log)
latest_push id epoch log b = ap reverse (written_push id epoch log b) ∙ by_test (is_written_by id epoch b) where
  by_test : (t : Bool) → reverse (batches_written_by id epoch log ++ cond t (b ∷ []) []) ≡ cond t (b ∷ latest_batches_by id epoch log) (latest_batches_by id epoch log)
  by_test true = reverse-append (batches_written_by id epoch log) (b ∷ [])
  by_test false = ap reverse (append-nil (batches_written_by id epoch log))

pub and_false : (t : Bool) → (t && false) ≡ false
and_false true = refl
and_false false = refl

and_true : (t : Bool) → (t && true) ≡ t
and_true true = refl
and_true false = refl

-- an epoch above those that the log tells has no batches
pub none_above : (id high : ℤ) (log : List BatchData) → AllBelow high (epochs id log) → batches_written_by id high log ≡ []
none_above id high [] h = refl
none_above id high (b ∷ rest) h = by_id (has_producer_id id b) refl h (none_above id high rest) where
  skipped : (t : Bool) → t ≡ false → batches_written_by id high rest ≡ [] → cond t (b ∷ batches_written_by id high rest) (batches_written_by id high rest) ≡ []
  skipped t e more = ap (λ x. cond x (b ∷ batches_written_by id high rest) (batches_written_by id high rest)) e ∙ more

  by_id : (t : Bool) → has_producer_id id b ≡ t → AllBelow high (map epoch_of (cond t (b ∷ filter (has_producer_id id) rest) (filter (has_producer_id id) rest)))
      → (AllBelow high (epochs id rest) → batches_written_by id high rest ≡ [])
      → cond (is_written_by id high b) (b ∷ batches_written_by id high rest) (batches_written_by id high rest) ≡ []
  by_id true e below more = skipped (is_written_by id high b) (ap (λ t. is_data b && (has_producer_id id b && t)) (differs (epoch_of b) high below.0) ∙ ap (λ t. is_data b && t) (and_false (has_producer_id id b)) ∙ and_false (is_data b)) (more below.1)
  by_id false e below more = skipped (is_written_by id high b) (ap (λ t. is_data b && (t && int_eq (epoch_of b) high)) e ∙ and_false (is_data b)) (more below)

pub latest_none_above : (id high : ℤ) (log : List BatchData) → ((m : ℤ) → greatest_of (epochs id log) ≡ Some m → m <ℤ high) → latest_batches_by id high log ≡ []
latest_none_above id high log h = ap reverse (none_above id high log (all_below (epochs id log) high h))

-- ---- the state at an epoch

abbrev pub state_at : List BatchData → ℤ → ℤ → ProducerEntryValue
state_at log id epoch = record {
  epoch = epoch;
  expected = expected_after (latest_batches_by id epoch log);
  latest = map written_of (take 5 (latest_batches_by id epoch log));
}

abbrev state_from : ℤ → List BatchData → ProducerEntryValue
state_from epoch latest = record { epoch = epoch; expected = expected_after latest; latest = map written_of (take 5 latest) }

pub fresh_above : (id high : ℤ) (log : List BatchData) → ((m : ℤ) → greatest_of (epochs id log) ≡ Some m → m <ℤ high) → state_at log id high ≡ fresh_state high
fresh_above id high log h = ap (state_from high) (latest_none_above id high log h)

take_fewer : (n m : ℕ) (list : List BatchMetadata) → n ≤ m → take n (take m list) ≡ take n list
take_fewer zero m list le = refl
take_fewer (suc n) zero list le = absurd (omega arith)
take_fewer (suc n) (suc m) [] le = refl
take_fewer (suc n) (suc m) (k ∷ list) le = ap (λ l. k ∷ l) (take_fewer n m list (omega arith))

-- one batch more of the producer
pub at_push : (log : List BatchData) (id epoch : ℤ) (b : BatchData) → has_producer_id id b ≡ true → state_at (log ++ b ∷ []) id epoch ≡ state_with_batch_if (is_data b && int_eq epoch (epoch_of b)) (state_at log id epoch) b
at_push log id epoch b own = ap (state_from epoch) (latest_push id epoch log b ∙ ap (λ t. cond t (b ∷ latest_batches_by id epoch log) (latest_batches_by id epoch log)) test) ∙ by_test (is_data b && int_eq epoch (epoch_of b)) where
  test : is_written_by id epoch b ≡ (is_data b && int_eq epoch (epoch_of b))
  test = ap (λ t. is_data b && (t && int_eq (epoch_of b) epoch)) own ∙ ap (λ t. is_data b && t) (same_sym (epoch_of b) epoch)

  five : (list : List BatchData) → map written_of (take 5 (b ∷ list)) ≡ take 5 (written_of b ∷ map written_of (take 5 list))
  five list = ap (λ l. written_of b ∷ l) (sym (take-map written_of 4 list) ∙ sym (take_fewer 4 5 (map written_of list) (omega arith)) ∙ ap (take 4) (take-map written_of 5 list))

  by_test : (t : Bool) → state_from epoch (cond t (b ∷ latest_batches_by id epoch log) (latest_batches_by id epoch log)) ≡ state_with_batch_if t (state_at log id epoch) b
  by_test true = ap (λ l. record { epoch = epoch; expected = next_after b; latest = l }) (five (latest_batches_by id epoch log))
  by_test false = refl

-- the greatest epoch counts
pub told_is : (log : List BatchData) (id epoch : ℤ) → state_at log id (greater_of epoch (greatest_of (epochs id log))) ≡ state_in_epoch (state_of log id) epoch
told_is log id epoch = by_found (greatest_of (epochs id log)) (λ high h. fresh_above id high log h) where
  by_order : (m : ℤ) (t : Bool) → int_lt m epoch ≡ t → (((k : ℤ) → Some m ≡ Some k → k <ℤ epoch) → state_at log id epoch ≡ fresh_state epoch)
      → state_at log id (int_max epoch m) ≡ cond t (fresh_state epoch) (state_at log id m)
  by_order m true e above =
      let lt = lt_is m epoch e in
      let most : int_max epoch m ≡ epoch = omega (arith, ints, clamps) in
      ap (state_at log id) most ∙ above (λ k is. let same : m ≡ k = some_is m k is in omega (arith, ints))
  by_order m false e above =
      let le = lt_is_not m epoch e in
      let most : int_max epoch m ≡ m = omega (arith, ints, clamps) in
      ap (state_at log id) most

  by_found : (o : Option ℤ) → ((high : ℤ) → ((m : ℤ) → o ≡ Some m → m <ℤ high) → state_at log id high ≡ fresh_state high) → state_at log id (greater_of epoch o) ≡ state_in_epoch (state_in log id o) epoch
  by_found None above = above epoch (λ m is. absurd (let clash : Some m ≡ None = sym is in cc))
  by_found (Some m) above = by_order m (int_lt m epoch) refl (above epoch)

-- ---- the law

pub own_noted : (log : List BatchData) (id : ℤ) (b : BatchData) → has_producer_id id b ≡ true → state_of (log ++ b ∷ []) id ≡ Some (state_after_batch (state_of log id) b)
own_noted log id b own =
    ap (λ l. state_in (log ++ b ∷ []) id (greatest_of l)) (epochs_push id log b ∙ ap (λ t. epochs id log ++ cond t (epoch_of b ∷ []) []) own)
    ∙ ap (state_in (log ++ b ∷ []) id) (greatest_push (epochs id log) (epoch_of b))
    ∙ ap (λ s. Some s) (at_push log id (greater_of (epoch_of b) (greatest_of (epochs id log))) b own
    ∙ ap (λ (s : ProducerEntryValue). state_with_batch_if (is_data b && int_eq s.epoch (epoch_of b)) s b) (told_is log id (epoch_of b)))

pub other_noted : (log : List BatchData) (id : ℤ) (b : BatchData) → has_producer_id id b ≡ false → state_of (log ++ b ∷ []) id ≡ state_of log id
other_noted log id b other =
    ap (λ l. state_in (log ++ b ∷ []) id (greatest_of l)) (epochs_push id log b ∙ ap (λ t. epochs id log ++ cond t (epoch_of b ∷ []) []) other ∙ append-nil (epochs id log))
    ∙ by_found (greatest_of (epochs id log)) where
      same_latest : (epoch : ℤ) → latest_batches_by id epoch (log ++ b ∷ []) ≡ latest_batches_by id epoch log
      same_latest epoch = latest_push id epoch log b ∙ ap (λ t. cond t (b ∷ latest_batches_by id epoch log) (latest_batches_by id epoch log)) (ap (λ t. is_data b && (t && int_eq (epoch_of b) epoch)) other ∙ and_false (is_data b))

      by_found : (o : Option ℤ) → state_in (log ++ b ∷ []) id o ≡ state_in log id o
      by_found None = refl
      by_found (Some epoch) = ap (λ l. Some (state_from epoch l)) (same_latest epoch)
