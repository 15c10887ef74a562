-- How a log judges a batch of the latest epoch that it tells of the batch's producer.
use Rattle.std.proofs.Common.{◌≡◌, ◌<◌, ◌≤◌, ◌≤ℤ◌, ℕ, ℤ, pos, ◌+◌, ◌%◌, add-zero, add_assoc, Bool, true, false, ◌&&◌, cond, List, [], ◌∷◌, ◌++◌, append_assoc, map, length, reverse, take, Option, Some, None, refl, sym, ap, subst, ◌∙◌, arith}
use Rattle.std.specs.Prelude.{◌+ℤ◌, is_none}
use Rattle.std.specs.Int.{int_max, int_rem_euclid}
use Rattle.std.specs.List.{AllByRecursion, filter, find}
use Rattle.std.specs.Ordering.{int_eq}
use Rattle.std.proofs.Math.Nat.{mod-add-mod}
use Rattle.std.proofs.lemmas.Bool.{and_parts}
use Rattle.std.proofs.lemmas.Int.{ints, clamps}
use Rattle.std.proofs.lemmas.List.{reverse-append, reverse-reverse, length-reverse}
use Rattle.std.proofs.lemmas.List.Elements.{filter-append}
use Rattle.record_batch.specs.declared.transaction_result.TransactionResult.{TransactionResult}
use Rattle.record_batch.specs.Batch.{BatchData}
use Rattle.producer_state.specs.Laws.{IsInSequence, records_in}
use Rattle.producer_state.specs.Sequences.{next_sequence, next_after, last_of, has_producer_id, is_written_by, epochs, greater_of, greatest_of, batches_written_by, latest_batches_by, expected_after, has_same_sequences, repeat, judgment_by_repeat, judgment_of}
use Rattle.producer_state.proofs.Numbers.{between, same_is, same_refl}
use Rattle.producer_state.proofs.Noting.{epoch_of}
use Rattle.producer_state.proofs.Judging.{id_of, judged_at, gone_on_within}
use Rattle.producer_state.proofs.Accepting.{place}
use Rattle.api_laws.proofs.Lists.{all_reverse, find_past, find_none, found_among}

-- ---- the latest epoch

abbrev pub Below : ℤ → Option ℤ → Type 0
Below e None = Unit {0}
Below e (Some m) = m ≤ℤ e

greater_below : (e n : ℤ) (o : Option ℤ) → n ≤ℤ e → Below e o → greater_of n o ≤ℤ e
greater_below e n None le below = le
greater_below e n (Some m) le below = let most : m ≤ℤ e = below in omega (arith, ints, clamps)

below_parts : (e n : ℤ) (o : Option ℤ) → greater_of n o ≤ℤ e → (n ≤ℤ e) × Below e o
below_parts e n None le = (le, tt)
below_parts e n (Some m) le = (omega (arith, ints, clamps), omega (arith, ints, clamps))

-- no batch or marker of the producer tells a greater one
abbrev pub AreWithin : ℤ → ℤ → List BatchData → Type 0
AreWithin id e log = AllByRecursion (λ (x : BatchData). x.header.producer_id ≡ id → x.header.producer_epoch ≤ℤ e) log

pub epochs_below : (id e : ℤ) (log : List BatchData) → AreWithin id e log → Below e (greatest_of (epochs id log))
epochs_below id e [] all = tt
epochs_below id e (x ∷ log) all = by_test (has_producer_id id x) refl (epochs_below id e log all.1) where
  by_test : (t : Bool) → has_producer_id id x ≡ t → Below e (greatest_of (epochs id log)) → Below e (greatest_of (map epoch_of (cond t (x ∷ filter (has_producer_id id) log) (filter (has_producer_id id) log))))
  by_test true own rest = greater_below e (epoch_of x) (greatest_of (epochs id log)) (all.0 (same_is x.header.producer_id id own)) rest
  by_test false other rest = rest

pub is_own : (y : BatchData) (i : ℤ) → y.header.producer_id ≡ i → has_producer_id i y ≡ true
is_own y i same = ap (λ (z : ℤ). int_eq z i) same ∙ same_refl i

pub epochs_within : (id e : ℤ) (log : List BatchData) → Below e (greatest_of (epochs id log)) → AreWithin id e log
epochs_within id e [] below = tt
epochs_within id e (x ∷ log) below = by_test (has_producer_id id x) refl below (epochs_within id e log) where
  by_test : (t : Bool) → has_producer_id id x ≡ t → Below e (greatest_of (map epoch_of (cond t (x ∷ filter (has_producer_id id) log) (filter (has_producer_id id) log)))) → (Below e (greatest_of (epochs id log)) → AreWithin id e log) → AreWithin id e (x ∷ log)
  by_test true own here more = let parts = below_parts e (epoch_of x) (greatest_of (epochs id log)) here in ((λ same. parts.0), more parts.1)
  by_test false other here more = ((λ same. absurd (let clash : true ≡ false = sym (is_own x id same) ∙ other in cc)), more here)

-- this one is reached
abbrev pub IsReached : ℤ → ℤ → List BatchData → Type 0
IsReached id e log = (m : ℤ) × (greatest_of (epochs id log) ≡ Some m) × (e ≤ℤ m)

at_least : (n : ℤ) (o : Option ℤ) → n ≤ℤ greater_of n o
at_least n None = omega (arith, ints)
at_least n (Some m) = omega (arith, ints, clamps)

further : (e n m : ℤ) → e ≤ℤ m → e ≤ℤ int_max n m
further e n m le = omega (arith, ints, clamps)

pub epochs_reach : (id : ℤ) (before after : List BatchData) (b : BatchData) → has_producer_id id b ≡ true → IsReached id (epoch_of b) (before ++ b ∷ after)
epochs_reach id [] after b own = (
  greater_of (epoch_of b) (greatest_of (epochs id after)),
  ap (λ (t : Bool). greatest_of (map epoch_of (cond t (b ∷ filter (has_producer_id id) after) (filter (has_producer_id id) after)))) own,
  at_least (epoch_of b) (greatest_of (epochs id after)),
)
epochs_reach id (x ∷ before) after b own = by_test (has_producer_id id x) (epochs_reach id before after b own) where
  by_test : (t : Bool) → IsReached id (epoch_of b) (before ++ b ∷ after)
      → (m : ℤ) × (greatest_of (map epoch_of (cond t (x ∷ filter (has_producer_id id) (before ++ b ∷ after)) (filter (has_producer_id id) (before ++ b ∷ after)))) ≡ Some m) × (epoch_of b ≤ℤ m)
  by_test true there = (int_max (epoch_of x) there.0, ap (λ (o : Option ℤ). Some (greater_of (epoch_of x) o)) there.1, further (epoch_of b) (epoch_of x) there.0 there.2)
  by_test false there = there

pub greatest_at : (id e : ℤ) (log : List BatchData) → IsReached id e log → Below e (greatest_of (epochs id log)) → greatest_of (epochs id log) ≡ Some e
greatest_at id e log there below =
    let most : there.0 ≤ℤ e = subst (Below e) there.1 below in
    there.1 ∙ ap (λ (n : ℤ). Some n) (between there.0 e most there.2)

-- ---- batches of one producer and epoch

pub record IsOwn (id epoch : ℤ) (b : BatchData) : Type 0 where
  pub no_marker : b.marker ≡ None
  pub producer : b.header.producer_id ≡ id
  pub same_epoch : b.header.producer_epoch ≡ epoch

unmarked : (o : Option TransactionResult) → is_none o ≡ true → o ≡ None
unmarked None h = refl
unmarked (Some outcome) h = absurd (let clash : false ≡ true = h in cc)

pub own_is : (id epoch : ℤ) (b : BatchData) → is_written_by id epoch b ≡ true → IsOwn id epoch b
own_is id epoch b h =
    let data_alone = and_parts (is_none b.marker) (has_producer_id id b && int_eq b.header.producer_epoch epoch) h in
    let both = and_parts (has_producer_id id b) (int_eq b.header.producer_epoch epoch) data_alone.1 in
    record { no_marker = unmarked b.marker data_alone.0; producer = same_is b.header.producer_id id both.0; same_epoch = same_is b.header.producer_epoch epoch both.1 }

pub is_written : (id epoch : ℤ) (b : BatchData) → IsOwn id epoch b → is_written_by id epoch b ≡ true
is_written id epoch b own =
    ap (λ (o : Option TransactionResult). is_none o && (has_producer_id id b && int_eq b.header.producer_epoch epoch)) own.no_marker
    ∙ ap (λ (z : ℤ). int_eq z id && int_eq b.header.producer_epoch epoch) own.producer
    ∙ ap (λ (t : Bool). t && int_eq b.header.producer_epoch epoch) (same_refl id)
    ∙ ap (λ (z : ℤ). int_eq z epoch) own.same_epoch
    ∙ same_refl epoch

-- those of a log where one of them stands
pub own_split : (id epoch : ℤ) (log before after : List BatchData) (b : BatchData) → log ≡ before ++ b ∷ after → IsOwn id epoch b → batches_written_by id epoch log ≡ batches_written_by id epoch before ++ b ∷ batches_written_by id epoch after
own_split id epoch log before after b stands own =
    ap (batches_written_by id epoch) stands
    ∙ filter-append (is_written_by id epoch) before (b ∷ after)
    ∙ ap (λ (t : Bool). batches_written_by id epoch before ++ cond t (b ∷ batches_written_by id epoch after) (batches_written_by id epoch after)) (is_written id epoch b own)

-- ---- judging

pub le_refl : (a : ℤ) → a ≤ℤ a
le_refl a = omega (arith, ints)

pub judged_latest : (log : List BatchData) (b : BatchData) → pos 0 ≤ℤ id_of b → greatest_of (epochs (id_of b) log) ≡ Some (epoch_of b) → judgment_of log b ≡ judgment_by_repeat (expected_after (latest_batches_by (id_of b) (epoch_of b) log)) b (repeat log b)
judged_latest log b low is =
    judged_at log b (Some (epoch_of b)) low is
    ∙ gone_on_within (place log (id_of b) (epoch_of b)) b (repeat log b) (le_refl (epoch_of b)) (le_refl (epoch_of b))

-- ---- the last five

pub reversed : (xs ys : List BatchData) (b : BatchData) → reverse (xs ++ b ∷ ys) ≡ reverse ys ++ b ∷ reverse xs
reversed xs ys b =
    reverse-append xs (b ∷ ys)
    ∙ ap (λ (l : List BatchData). l ++ reverse xs) (reverse-append (b ∷ []) ys)
    ∙ append_assoc (reverse ys) (b ∷ []) (reverse xs)

alike : (b : BatchData) → has_same_sequences b b ≡ true
alike b = ap (λ (t : Bool). t && int_eq (last_of b) (last_of b)) (same_refl b.header.base_sequence) ∙ same_refl (last_of b)

pub found_again : (log earlier later : List BatchData) (b : BatchData) → batches_written_by (id_of b) (epoch_of b) log ≡ earlier ++ b ∷ later → length later ≤ 4 → AllByRecursion (λ (x : BatchData). has_same_sequences b x ≡ false) later → repeat log b ≡ Some b
found_again log earlier later b own few differ =
    let short : length (reverse later) < 5 = omega (arith, length-reverse later, few) in
    ap (λ (l : List BatchData). find (has_same_sequences b) (take 5 (reverse l))) own
    ∙ ap (λ (l : List BatchData). find (has_same_sequences b) (take 5 l)) (reversed earlier later b)
    ∙ find_past (has_same_sequences b) 5 (reverse later) (reverse earlier) b short (all_reverse (λ (x : BatchData). has_same_sequences b x ≡ false) later differ) (alike b)

pub not_found : (log earlier later : List BatchData) (b : BatchData) → batches_written_by (id_of b) (epoch_of b) log ≡ earlier ++ b ∷ later → 5 ≤ length later → AllByRecursion (λ (x : BatchData). has_same_sequences b x ≡ false) later → repeat log b ≡ None
not_found log earlier later b own many differ =
    let long : 5 ≤ length (reverse later) = omega (arith, length-reverse later, many) in
    ap (λ (l : List BatchData). find (has_same_sequences b) (take 5 (reverse l))) own
    ∙ ap (λ (l : List BatchData). find (has_same_sequences b) (take 5 l)) (reversed earlier later b)
    ∙ find_none (has_same_sequences b) 5 (reverse later) (b ∷ reverse earlier) long (all_reverse (λ (x : BatchData). has_same_sequences b x ≡ false) later differ)

-- what is found is one of the last five
pub record IsLate (log : List BatchData) (b old : BatchData) : Type 0 where
  pub earlier : List BatchData
  pub later : List BatchData
  pub own : batches_written_by (id_of b) (epoch_of b) log ≡ earlier ++ old ∷ later
  pub few : length later ≤ 4
  pub same : has_same_sequences b old ≡ true

pub found_late : (log : List BatchData) (b old : BatchData) → repeat log b ≡ Some old → IsLate log b old
found_late log b old h =
    let f = found_among (has_same_sequences b) 5 (latest_batches_by (id_of b) (epoch_of b) log) old h in
    let short : length (reverse f.0) ≤ 4 = omega (arith, length-reverse f.0, f.3) in
    record {
      earlier = reverse f.1;
      later = reverse f.0;
      own = sym (reverse-reverse (batches_written_by (id_of b) (epoch_of b) log)) ∙ ap (λ (l : List BatchData). reverse l) f.2 ∙ reversed f.0 f.1 old;
      few = short;
      same = f.4;
    }

-- ---- sequence numbers

pub record IsCounted (b : BatchData) : Type 0 where
  pub counted : b.header.record_count ≡ pos (length b.records)
  pub some : 0 < length b.records

pub next_is : (b : BatchData) (n : ℕ) → b.header.base_sequence ≡ pos (n % 2147483648) → IsCounted b → next_after b ≡ pos ((n + length b.records) % 2147483648)
unfolding next_sequence
next_is b n is c =
    ap (λ (x : ℤ). int_rem_euclid (x +ℤ b.header.record_count) (pos 2147483648)) is
    ∙ ap (λ (x : ℤ). int_rem_euclid (pos (n % 2147483648) +ℤ x) (pos 2147483648)) c.counted
    ∙ ap (λ (m : ℕ). pos m) (mod-add-mod n 2147483648 (length b.records))

-- in sequence, a batch begins as many numbers later as records stand before it
pub placed_at : (n : ℕ) (before after : List BatchData) (b : BatchData) → AllByRecursion IsCounted before → IsInSequence (pos (n % 2147483648)) (before ++ b ∷ after)
    → (b.header.base_sequence ≡ pos ((n + records_in before) % 2147483648)) × IsInSequence (next_after b) after
placed_at n [] after b all h = (h.0 ∙ ap (λ (m : ℕ). pos (m % 2147483648)) (sym (add-zero n)), h.1)
placed_at n (x ∷ before) after b all h =
    let next = next_is x n h.0 all.0 in
    let rest = placed_at (n + length x.records) before after b all.1 (subst (λ (first : ℤ). IsInSequence first (before ++ b ∷ after)) next h.1) in
    (rest.0 ∙ ap (λ (m : ℕ). pos (m % 2147483648)) (add_assoc n (length x.records) (records_in before)), rest.1)

pub pos_is : (a b : ℕ) → pos a ≡ pos b → a ≡ b
pos_is a b h = cc

pub apart : (m d : ℕ) → 0 < d → d < 2147483648 → (m + d) % 2147483648 ≡ m % 2147483648 → ⊥
apart m d some few same = omega (arith, same)

pub differ_by : (a b : ℤ) → (a ≡ b → ⊥) → int_eq a b ≡ false
differ_by a b differ = by_test (int_eq a b) refl where
  by_test : (t : Bool) → int_eq a b ≡ t → t ≡ false
  by_test true e = absurd (differ (same_is a b e))
  by_test false e = refl

-- of the batches from one on that have at most 2^31 records, no later one begins at its number
pub later_differ : (m d : ℕ) (batches : List BatchData) → AllByRecursion IsCounted batches → IsInSequence (pos ((m + d) % 2147483648)) batches → 0 < d → d + records_in batches ≤ 2147483648
    → AllByRecursion (λ (x : BatchData). int_eq x.header.base_sequence (pos (m % 2147483648)) ≡ false) batches
later_differ m d [] all h some few = tt
later_differ m d (x ∷ rest) all h some few =
    let c = all.0 in
    let enough : d + (length x.records + records_in rest) ≤ 2147483648 = few in
    let below : d < 2147483648 = omega (arith, enough, c.some) in
    let next : next_after x ≡ pos ((m + (d + length x.records)) % 2147483648) = next_is x (m + d) h.0 c ∙ ap (λ (k : ℕ). pos (k % 2147483648)) (add_assoc m d (length x.records)) in (
      differ_by x.header.base_sequence (pos (m % 2147483648)) (λ e. apart m d some below (pos_is ((m + d) % 2147483648) (m % 2147483648) (sym h.0 ∙ e))),
      later_differ m (d + length x.records) rest all.1 (subst (λ (first : ℤ). IsInSequence first rest) next h.1) (omega (arith, some)) (omega (arith, enough)),
    )
