-- The last stable offset is where the first unended batch stands, or the end.
use Rattle.std.proofs.Common.{◌≡◌, ◌⊎◌, inl, inr, ℤ, pos, List, [], ◌∷◌, ◌++◌, Option, Some, None, Bool, true, false, cond, refl, sym, ap, subst, ◌∙◌}
use Rattle.std.specs.Prelude.{◌&&◌, ◌≤ℤ◌, int_lt, is_none, is_some}
use Rattle.std.specs.List.{AllByRecursion}
use Rattle.std.proofs.lemmas.Bool.{and_parts}
use Rattle.std.proofs.lemmas.Bool.Decides.{Decides-int_eq}
use Rattle.record_batch.specs.declared.transaction_result.TransactionResult.{TransactionResult}
use Rattle.record_batch.specs.BatchHeader.{is_control, is_transactional}
use Rattle.record_batch.specs.Batch.{BatchData, IsBatch, IsMarked, next_offset}
use Rattle.producer_state.specs.Sequences.{has_producer_id}
use Rattle.partition_log.specs.Log.{last_stable_offset, IsGapless, end_of, is_transactional_data, first_marker, transaction_outcome, is_open, open_bases, lesser_of, least_of, or_else}
use Rattle.partition_log.proofs.Numbers.{IsLowest, lowest_here, lowest_there}
use Rattle.api_laws.specs.LastStable.{IsUnended, HasUnendedAt, LastStableIsExact}

-- ---- the batches of a log

pub batch_at : (first : ℤ) (before : List BatchData) (b : BatchData) (after : List BatchData) → IsGapless first (before ++ b ∷ after) → IsBatch b
batch_at first [] b after h = h.0
batch_at first (c ∷ before) b after h = batch_at (next_offset c) before b after h.2

gapless_after : (first : ℤ) (before : List BatchData) (b : BatchData) (after : List BatchData) → IsGapless first (before ++ b ∷ after) → IsGapless (next_offset b) after
gapless_after first [] b after h = h.2
gapless_after first (c ∷ before) b after h = gapless_after (next_offset c) before b after h.2

-- a batch is a control batch exactly where it marks an outcome
control_is : (b : BatchData) → IsBatch b → is_some b.marker ≡ is_control b.header
control_is b is = by_marker b.marker is.marked where
  by_marker : (m : Option TransactionResult) → IsMarked m b.header b.records → is_some m ≡ is_control b.header
  by_marker None h = sym h
  by_marker (Some o) h = sym h.0

none_by : {A : Type 0} (o : Option A) → is_some o ≡ false → is_none o ≡ true
none_by None h = refl
none_by (Some x) h = absurd (let clash : true ≡ false = h in cc)

some_by : {A : Type 0} (o : Option A) → is_none o ≡ true → is_some o ≡ false
some_by None h = refl
some_by (Some x) h = absurd (let clash : false ≡ true = h in cc)

none_is : {A : Type 0} (o : Option A) → is_none o ≡ true → o ≡ None
none_is None h = refl
none_is (Some x) h = absurd (let clash : false ≡ true = h in cc)

-- ---- what is open is unended

abbrev EndsNot : ℤ → BatchData → Type 0
EndsNot p m = is_control m.header ≡ true → m.header.producer_id ≡ p → ⊥

none_ended : (p first : ℤ) (xs : List BatchData) → IsGapless first xs → AllByRecursion (EndsNot p) xs → first_marker p xs ≡ None
none_ended p first [] h none = refl
none_ended p first (m ∷ xs) h none = by_test (is_some m.marker) (has_producer_id p m) refl refl (none_ended p (next_offset m) xs h.2 none.1) where
  by_test : (s o : Bool) → is_some m.marker ≡ s → has_producer_id p m ≡ o → first_marker p xs ≡ None → cond (s && o) m.marker (first_marker p xs) ≡ None
  by_test true true some own rest = absurd (none.0 (sym (control_is m h.0) ∙ some) ((Decides-int_eq m.header.producer_id p).0 own))
  by_test true false some own rest = rest
  by_test false o some own rest = rest

pub stands_open : (before after : List BatchData) (b : BatchData) → IsGapless (pos 0) (before ++ b ∷ after) → IsUnended b after → is_open b after ≡ true
stands_open before after b h is =
    let batch = batch_at (pos 0) before b after h in
    ap (λ t. (t && is_none b.marker) && is_none (transaction_outcome b after)) is.transactional
    ∙ ap (λ t. t && is_none (transaction_outcome b after)) (none_by b.marker (control_is b batch ∙ is.no_marker))
    ∙ ap is_none (none_ended b.header.producer_id (next_offset b) after (gapless_after (pos 0) before b after h) is.unended)

some_is_none : {A : Type 0} (o : Option A) → is_some o ≡ true → o ≡ None → ⊥
some_is_none None h e = let clash : false ≡ true = h in cc
some_is_none (Some x) h e = let clash : Some x ≡ None = e in cc

ended_none : (p first : ℤ) (xs : List BatchData) → IsGapless first xs → first_marker p xs ≡ None → AllByRecursion (EndsNot p) xs
ended_none p first [] h none = tt
ended_none p first (m ∷ xs) h none = by_test (is_some m.marker) (has_producer_id p m) refl refl none (ended_none p (next_offset m) xs h.2) where
  by_test : (s o : Bool) → is_some m.marker ≡ s → has_producer_id p m ≡ o → cond (s && o) m.marker (first_marker p xs) ≡ None → (first_marker p xs ≡ None → AllByRecursion (EndsNot p) xs) → AllByRecursion (EndsNot p) (m ∷ xs)
  by_test true true some own e rest = absurd (some_is_none m.marker some e)
  by_test true false some own e rest = (λ control same. (let clash : true ≡ false = sym ((Decides-int_eq m.header.producer_id p).1 same) ∙ own in cc), rest e)
  by_test false o some own e rest = (λ control same. (let clash : true ≡ false = sym control ∙ sym (control_is m h.0) ∙ some in cc), rest e)

is_unended : (before after : List BatchData) (b : BatchData) → IsGapless (pos 0) (before ++ b ∷ after) → is_open b after ≡ true → IsUnended b after
is_unended before after b h stands =
    let batch = batch_at (pos 0) before b after h in
    let parts = and_parts (is_transactional_data b) (is_none (transaction_outcome b after)) stands in
    let kinds = and_parts (is_transactional b.header) (is_none b.marker) parts.0 in
    record {
      transactional = kinds.0;
      no_marker = sym (control_is b batch) ∙ some_by b.marker kinds.1;
      unended = ended_none b.header.producer_id (next_offset b) after (gapless_after (pos 0) before b after h) (none_is (transaction_outcome b after) parts.1);
    }

-- ---- none stands below it

lowest : (before : List BatchData) (b : BatchData) (after : List BatchData) → is_open b after ≡ true → IsLowest b.header.base_offset (open_bases (before ++ b ∷ after))
lowest [] b after h = subst (λ (t : Bool). IsLowest b.header.base_offset (cond t (b.header.base_offset ∷ open_bases after) (open_bases after))) (sym h) (lowest_here b.header.base_offset (open_bases after))
lowest (c ∷ before) b after h = by_test (is_open c (before ++ b ∷ after)) (lowest before b after h) where
  by_test : (t : Bool) → IsLowest b.header.base_offset (open_bases (before ++ b ∷ after)) → IsLowest b.header.base_offset (cond t (c.header.base_offset ∷ open_bases (before ++ b ∷ after)) (open_bases (before ++ b ∷ after)))
  by_test true rest = lowest_there b.header.base_offset c.header.base_offset (open_bases (before ++ b ∷ after)) rest
  by_test false rest = rest

-- ---- one stands at it

record HasOpenAt (log : List BatchData) (offset : ℤ) : Type 0 where
  before : List BatchData
  batch : BatchData
  after : List BatchData
  parts : log ≡ before ++ batch ∷ after
  stands : is_open batch after ≡ true
  at : batch.header.base_offset ≡ offset

one_before : (b : BatchData) (after : List BatchData) (m : ℤ) → HasOpenAt after m → HasOpenAt (b ∷ after) m
one_before b after m h = record { before = b ∷ h.before; batch = h.batch; after = h.after; parts = ap (λ l. b ∷ l) h.parts; stands = h.stands; at = h.at }

here : (b : BatchData) (after : List BatchData) (m : ℤ) → is_open b after ≡ true → b.header.base_offset ≡ m → HasOpenAt (b ∷ after) m
here b after m stands at = record { before = []; batch = b; after = after; parts = refl; stands = stands; at = at }

some_is : (a b : ℤ) → Some a ≡ Some b → a ≡ b
some_is a b h = cc

found : (log : List BatchData) (m : ℤ) → least_of (open_bases log) ≡ Some m → HasOpenAt log m
found [] m h = absurd (let clash : None ≡ Some m = h in cc)
found (b ∷ after) m h = by_test (is_open b after) refl h (found after) where
  by_less : (k : ℤ) (t : Bool) → is_open b after ≡ true → least_of (open_bases after) ≡ Some k → cond t k b.header.base_offset ≡ m → ((n : ℤ) → least_of (open_bases after) ≡ Some n → HasOpenAt after n) → HasOpenAt (b ∷ after) m
  by_less k true stands e is more = one_before b after m (more m (e ∙ ap (λ n. Some n) is))
  by_less k false stands e is more = here b after m stands is

  by_rest : (o : Option ℤ) → least_of (open_bases after) ≡ o → is_open b after ≡ true → lesser_of b.header.base_offset o ≡ m → ((n : ℤ) → least_of (open_bases after) ≡ Some n → HasOpenAt after n) → HasOpenAt (b ∷ after) m
  by_rest None e stands is more = here b after m stands is
  by_rest (Some k) e stands is more = by_less k (int_lt k b.header.base_offset) stands e is more

  by_test : (t : Bool) → is_open b after ≡ t → least_of (cond t (b.header.base_offset ∷ open_bases after) (open_bases after)) ≡ Some m → ((n : ℤ) → least_of (open_bases after) ≡ Some n → HasOpenAt after n) → HasOpenAt (b ∷ after) m
  by_test true stands e more = by_rest (least_of (open_bases after)) refl stands (some_is _ m e) more
  by_test false stands e more = one_before b after m (more m e)

unended_at : (log : List BatchData) (offset : ℤ) → IsGapless (pos 0) log → HasOpenAt log offset → HasUnendedAt log offset
unended_at log offset h o = record {
  before = o.before;
  batch = o.batch;
  after = o.after;
  parts = o.parts;
  unended = is_unended o.before o.after o.batch (subst (IsGapless (pos 0)) o.parts h) o.stands;
  at = o.at;
}

-- ---- the law

pub last_stable : LastStableIsExact last_stable_offset
last_stable log h = record {
  below = λ before after b parts is.
      subst (λ l. or_else (least_of (open_bases l)) (end_of log) ≤ℤ b.header.base_offset) (sym parts) (lowest before b after (stands_open before after b (subst (IsGapless (pos 0)) parts h.gapless) is) (end_of log));
  reached = by_least (least_of (open_bases log)) refl;
} where
  by_least : (o : Option ℤ) → least_of (open_bases log) ≡ o → (or_else (least_of (open_bases log)) (end_of log) ≡ end_of log) ⊎ HasUnendedAt log (or_else (least_of (open_bases log)) (end_of log))
  by_least None e = inl (ap (λ o. or_else o (end_of log)) e)
  by_least (Some m) e = inr (subst (HasUnendedAt log) (sym (ap (λ o. or_else o (end_of log)) e)) (unended_at log m h.gapless (found log m e)))
