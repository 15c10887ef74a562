-- The entries of a table of rows: where the row of each partition stands, and what a call makes of that.
use Rattle.std.proofs.Common.{◌≡◌, ℕ, ℤ, zero, suc, ◌+◌, ◌<◌, ◌≤◌, List, [], ◌∷◌, ◌++◌, length, get_or, set, Option, Some, None, Bool, true, false, cond, refl, sym, subst, ap, ◌∙◌, arith}
use Rattle.std.specs.Prelude.{◌&&◌, not, slice_get, nat_eq, nat_lt, is_some, IfSome}
use Rattle.std.specs.Ordering.{int_eq}
use Rattle.std.specs.Cmp.Lexicographic.{nat_list_eq_equiv}
use Rattle.std.specs.List.{position, position_or_len, IsDistinct}
use Rattle.std.specs.Map.{lookup, keys_of, values_of}
use Rattle.std.specs.Option.{option_and_then}
use Rattle.std.specs.Str.{bytes_eq}
use Rattle.std.specs.String.{string_bytes, string_eq}
use Rattle.std.specs.declared.vec.Vec.{Vec}
use Rattle.std.specs.declared.alloc.Global.{Global}
use Rattle.std.proofs.lemmas.Bool.{and_parts}
use Rattle.std.proofs.lemmas.Bool.Decides.{nat_tests}
use Rattle.std.proofs.lemmas.Cmp.{int_eq_equiv}
use Rattle.std.proofs.lemmas.List.{length_push}
use Rattle.std.proofs.lemmas.List.Folds.{position_or_len_push}
use Rattle.std.proofs.lemmas.List.Quantifiers.{position-Some}
use Rattle.std.proofs.lemmas.List.Sums.{prefix_len-le-length}
use Rattle.std.proofs.lemmas.Map.Entries.{length-values_of, length-keys_of}
use Rattle.std.proofs.lemmas.Slice.Eq.{bytes_eq-Decides}
use Rattle.indexmap.specs.IndexMap.{IndexMap, insert_entry, insert_index, set_value_at}
use Rattle.indexmap.proofs.CallerLemmas.{insert_entry-new}
use Rattle.indexmap.proofs.MapLemmas.{value_index, some_index, Missing-position}
use Rattle.record_batch.specs.declared.transaction_result.TransactionResult.{TransactionResult}
use Rattle.group_offsets.specs.declared.event.PartitionOffset.{PartitionOffset}
use Rattle.group_offsets.specs.declared.event.OffsetEvent.{OffsetEvent}
use Rattle.group_offsets.specs.declared.event.OffsetEvent.TheVariants.{Put, Stage}
use Rattle.group_offsets.specs.declared.partition.Partition.{Partition}
use Rattle.group_offsets.specs.declared.row.Row.{Row}
use Rattle.group_offsets.specs.Laws.{or_else}
use Rattle.group_offsets.specs.Partitions.{is_key}
use Rattle.group_offsets.specs.Kept.{committed_at, waiting_at, rows_of, has_row, place_in, row_in, AreApart, AreOnce, IsTableOf, IsSameRow, IsStaged, IsDecided, AreDecided, HasMore, Tells, DescribesBy}
use Rattle.group_offsets.proofs.Reading.{same_number, set_here, SameRows, same_set, same_table, commit_table, stage_table, decided_more, distinct_none}
use Rattle.group_offsets.proofs.Describing.{StandsAt, is_new, new_is, push_table, push_described, place_last, same_described, commit_described, stage_described}

-- ---- one place for each partition

abbrev among : List Partition → List ℕ → ℤ → Option ℕ
among ks topic index = position (is_key topic index) ks

keys_apart : (ks : List Partition) → AreApart (among ks)
keys_apart [] topic other index number n h g = absurd (let clash : None ≡ Some n = h in cc)
keys_apart (k ∷ ks) topic other index number n h g =
    let a = position-Some (is_key topic index) (k ∷ ks) n k h in
    let b = position-Some (is_key other number) (k ∷ ks) n k g in
    let x : Partition = get_or (k ∷ ks) n k in
    let p = and_parts (bytes_eq topic (string_bytes x.topic)) (int_eq index x.index) a.1 in
    let q = and_parts (bytes_eq other (string_bytes x.topic)) (int_eq number x.index) b.1 in
    ((bytes_eq-Decides topic (string_bytes x.topic)).0 p.0 ∙ sym ((bytes_eq-Decides other (string_bytes x.topic)).0 q.0), same_number index x.index p.1 ∙ sym (same_number number x.index q.1))

-- ---- no rows

module _ (es : List (Partition × Row)) (staged : List (ℤ × Vec ℕ Global)) (empty : es ≡ []) (none : staged ≡ []) where
  no_place : (topic : List ℕ) (index : ℤ) → place_in es topic index ≡ None
  unfolding place_in
  no_place topic index = ap (λ (l : List (Partition × Row)). among (keys_of l) topic index) empty

  pub empty_table : IsTableOf (place_in es) (values_of es) staged
  unfolding place_in
  empty_table = record {
    within = λ topic index n h. absurd (let clash : None ≡ Some n = sym (no_place topic index) ∙ h in cc);
    apart = keys_apart (keys_of es);
    exact = λ p n. ap (λ (l : List (ℤ × Vec ℕ Global)). has_row l p n) none ∙ ap (λ (l : List (Partition × Row)). is_some (waiting_at (values_of l) p n)) (sym empty);
    once = λ p. subst (λ (l : List (ℤ × Vec ℕ Global)). IsDistinct nat_eq (rows_of l p)) (sym none) distinct_none;
  }

  pub empty_described : DescribesBy (place_in es) (values_of es) []
  empty_described = record {
    committed = λ topic index. subst (λ (o : Option ℕ). Tells [] (option_and_then (committed_at (values_of es)) o) None) (sym (no_place topic index)) tt;
    waiting = λ p topic index. subst (λ (o : Option ℕ). Tells [] (option_and_then (waiting_at (values_of es) p) o) None) (sym (no_place topic index)) tt;
  }

-- ---- a row that is looked up

-- what is found stands where the partition does
pub row_found : (es : List (Partition × Row)) (topic : List ℕ) (index : ℤ) → lookup (is_key topic index) es ≡ row_in (place_in es) (values_of es) topic index
unfolding place_in
row_found es topic index = by_place (among (keys_of es) topic index) (value_index (is_key topic index) es) (some_index (is_key topic index) es) where
  by_found : (f : Option Row) → false ≡ is_some f → f ≡ None
  by_found None e = refl
  by_found (Some r) e = absurd (let clash : false ≡ true = e in cc)

  by_place : (o : Option ℕ) → IfSome o (λ i. slice_get (values_of es) i ≡ lookup (is_key topic index) es) → is_some o ≡ is_some (lookup (is_key topic index) es)
      → lookup (is_key topic index) es ≡ option_and_then (slice_get (values_of es)) o
  by_place (Some n) h g = sym h
  by_place None h g = by_found (lookup (is_key topic index) es) g

-- ---- a row more

-- the first of the places at which a test holds, where one more is after them
after : (n l : ℕ) (last passes : Bool) → n ≤ l → nat_eq n l ≡ last
    → cond (nat_lt (cond last (l + cond passes 0 1) n) (l + 1)) (Some (cond last (l + cond passes 0 1) n)) None ≡ or_else (cond (nat_lt n l) (Some n) None) (cond passes (Some l) None)
after n l true true within e = grind (arith, nat_tests)
after n l true false within e = grind (arith, nat_tests)
after n l false passes within e = grind (arith, nat_tests)

position_push : {A : Type 0} (test : A → Bool) (xs : List A) (y : A) → position test (xs ++ y ∷ []) ≡ or_else (position test xs) (cond (test y) (Some (length xs)) None)
position_push test xs y =
    ap (λ (l : ℕ). cond (nat_lt (position_or_len test (xs ++ y ∷ [])) l) (Some (position_or_len test (xs ++ y ∷ []))) None) (length_push xs y)
    ∙ ap (λ (m : ℕ). cond (nat_lt m (length xs + 1)) (Some m) None) (position_or_len_push test xs y)
    ∙ after (position_or_len test xs) (length xs) (nat_eq (position_or_len test xs) (length xs)) (test y) (prefix_len-le-length (λ x. not (test x)) xs) refl

or_none : {A : Type 0} (o : Option A) → or_else o None ≡ o
or_none None = refl
or_none (Some a) = refl

keys_stand : (ks : List Partition) (k : Partition) (topic : List ℕ) (index : ℤ) → string_bytes k.topic ≡ topic → k.index ≡ index → among ks topic index ≡ None
    → StandsAt topic index (length ks) (among ks) (among (ks ++ k ∷ []))
keys_stand ks k topic index named numbered none other number = position_push (is_key other number) ks k ∙ by_new (is_new topic index other number) refl where
  key_is : is_key other number k ≡ is_new topic index other number
  key_is =
      (λ i. nat_list_eq_equiv.symm other (string_bytes k.topic) i && int_eq_equiv.symm number k.index i)
      ∙ (λ i. bytes_eq (named i) other && int_eq (numbered i) number)

  by_new : (b : Bool) → is_new topic index other number ≡ b
      → or_else (among ks other number) (cond (is_key other number k) (Some (length ks)) None) ≡ cond b (Some (length ks)) (among ks other number)
  by_new true e =
      let same = new_is topic other index number e in
      let nowhere : among ks other number ≡ None = ap (λ (t : List ℕ). among ks t number) (sym same.0) ∙ ap (among ks topic) (sym same.1) ∙ none in
      ap (λ (o : Option ℕ). or_else o (cond (is_key other number k) (Some (length ks)) None)) nowhere ∙ ap (λ (t : Bool). cond t (Some (length ks)) None) (key_is ∙ e)
  by_new false e = ap (λ (t : Bool). or_else (among ks other number) (cond t (Some (length ks)) None)) (key_is ∙ e) ∙ or_none (among ks other number)

keys_push : (es : List (Partition × Row)) (e : Partition × Row) → keys_of (es ++ e ∷ []) ≡ keys_of es ++ e.0 ∷ []
keys_push [] e = refl
keys_push (x ∷ xs) e = ap (λ (l : List Partition). x.0 ∷ l) (keys_push xs e)

values_push : (es : List (Partition × Row)) (e : Partition × Row) → values_of (es ++ e ∷ []) ≡ values_of es ++ e.1 ∷ []
values_push [] e = refl
values_push (x ∷ xs) e = ap (λ (l : List Row). x.1 ∷ l) (values_push xs e)

-- how keys are compared
abbrev pub same_key : Partition → Partition → Bool
same_key a b = string_eq a.topic b.topic && int_eq a.index b.index

-- the row of a partition that has none is entered, after all others
module _ {S : Type 0} (rows new : IndexMap Partition Row S) (k : Partition) (r : Row) (topic : List ℕ) (index : ℤ) (named : string_bytes k.topic ≡ topic) (numbered : k.index ≡ index)
    (none : place_in rows.entries topic index ≡ None) (made : new.entries ≡ insert_entry same_key rows.entries k r) where
  same_test : same_key k ≡ is_key topic index
  same_test = λ i x. bytes_eq (named i) (string_bytes x.topic) && int_eq (numbered i) x.index

  entered : new.entries ≡ rows.entries ++ (k, r) ∷ []
  entered =
      made
      ∙ insert_entry-new same_key rows k r
      (ap (λ (t : Partition → Bool). lookup t rows.entries) same_test ∙ row_found rows.entries topic index ∙ ap (option_and_then (slice_get (values_of rows.entries))) none)

  rows_are : values_of new.entries ≡ values_of rows.entries ++ r ∷ []
  rows_are = ap values_of entered ∙ values_push rows.entries (k, r)

  stands : StandsAt topic index (length (values_of rows.entries)) (place_in rows.entries) (place_in new.entries)
  unfolding place_in
  stands other number =
      ap (λ (ks : List Partition). among ks other number) (ap keys_of entered ∙ keys_push rows.entries (k, r))
      ∙ keys_stand (keys_of rows.entries) k topic index named numbered none other number
      ∙ ap (λ (n : ℕ). cond (is_new topic index other number) (Some n) (among (keys_of rows.entries) other number)) (length-keys_of rows.entries ∙ sym (length-values_of rows.entries))

  pub entered_table : (staged : List (ℤ × Vec ℕ Global)) → r.waiting.entries ≡ [] → IsTableOf (place_in rows.entries) (values_of rows.entries) staged → IsTableOf (place_in new.entries) (values_of new.entries) staged
  entered_table staged unknown_group_error t =
      subst (λ (l : List Row). IsTableOf (place_in new.entries) l staged) (sym rows_are) (push_table (place_in rows.entries) (place_in new.entries) (values_of rows.entries) staged r topic index stands unknown_group_error t)

  pub entered_described : (events : List OffsetEvent) → r.committed ≡ None → r.waiting.entries ≡ [] → DescribesBy (place_in rows.entries) (values_of rows.entries) events → DescribesBy (place_in new.entries) (values_of new.entries) events
  entered_described events nothing unknown_group_error d =
      subst (λ (l : List Row). DescribesBy (place_in new.entries) l events) (sym rows_are)
      (push_described (place_in rows.entries) (place_in new.entries) (values_of rows.entries) r topic index events none stands nothing unknown_group_error d)

  placed : insert_index same_key rows k ≡ length (values_of rows.entries)
  unfolding place_in
  placed = ap (λ (t : Partition → Bool). position_or_len t (keys_of rows.entries)) same_test ∙ (Missing-position (is_key topic index) rows.entries none).or_len ∙ sym (length-values_of rows.entries)

  pub entered_place : place_in new.entries topic index ≡ Some (insert_index same_key rows k)
  entered_place = place_last (place_in rows.entries) (place_in new.entries) (length (values_of rows.entries)) topic index stands ∙ ap (λ (n : ℕ). Some n) (sym placed)

-- ---- one row changes

pub table_moved : (es fs : List (Partition × Row)) (staged : List (ℤ × Vec ℕ Global)) → fs ≡ es → IsTableOf (place_in es) (values_of es) staged → IsTableOf (place_in fs) (values_of fs) staged
table_moved es fs staged same t = subst (λ (l : List (Partition × Row)). IsTableOf (place_in l) (values_of l) staged) (sym same) t

pub described_moved : (es fs : List (Partition × Row)) (events : List OffsetEvent) → fs ≡ es → DescribesBy (place_in es) (values_of es) events → DescribesBy (place_in fs) (values_of fs) events
described_moved es fs events same d = subst (λ (l : List (Partition × Row)). DescribesBy (place_in l) (values_of l) events) (sym same) d

values_set : (es : List (Partition × Row)) (at : ℕ) (r : Row) → values_of (set_value_at es at r) ≡ set (values_of es) at r
values_set [] at r = refl
values_set (e ∷ es) zero r = refl
values_set (e ∷ es) (suc at) r = ap (λ (l : List Row). e.1 ∷ l) (values_set es at r)

pub keys_set : (es : List (Partition × Row)) (at : ℕ) (r : Row) → keys_of (set_value_at es at r) ≡ keys_of es
keys_set [] at r = refl
keys_set (e ∷ es) zero r = refl
keys_set (e ∷ es) (suc at) r = ap (λ (l : List Partition). e.0 ∷ l) (keys_set es at r)

pub same_places : (es fs : List (Partition × Row)) → keys_of fs ≡ keys_of es → place_in fs ≡ place_in es
unfolding place_in
same_places es fs same = ap among same

places_set : (es : List (Partition × Row)) (at : ℕ) (r : Row) → place_in (set_value_at es at r) ≡ place_in es
places_set es at r = same_places es (set_value_at es at r) (keys_set es at r)

module _ (es : List (Partition × Row)) (at : ℕ) (r new : Row) (h : at < length es) (is : slice_get (values_of es) at ≡ Some r) where
  abbrev changed : List (Partition × Row)
  changed = set_value_at es at new

  within : at < length (values_of es)
  within = omega (arith, h, length-values_of es)

  same : IsSameRow r new → SameRows (values_of es) (set (values_of es) at new)
  same made = same_set (values_of es) at r new within is made

  table_set : (staged : List (ℤ × Vec ℕ Global)) → IsTableOf (place_in es) (set (values_of es) at new) staged → IsTableOf (place_in changed) (values_of changed) staged
  table_set staged t =
      subst (λ (find : List ℕ → ℤ → Option ℕ). IsTableOf find (values_of changed) staged) (sym (places_set es at new))
      (subst (λ (l : List Row). IsTableOf (place_in es) l staged) (sym (values_set es at new)) t)

  described_set : (events : List OffsetEvent) → DescribesBy (place_in es) (set (values_of es) at new) events → DescribesBy (place_in changed) (values_of changed) events
  described_set events d =
      subst (λ (find : List ℕ → ℤ → Option ℕ). DescribesBy find (values_of changed) events) (sym (places_set es at new))
      (subst (λ (l : List Row). DescribesBy (place_in es) l events) (sym (values_set es at new)) d)

  pub still_within : at < length changed
  still_within = omega (arith, h, length-keys_of es, length-keys_of changed, ap length (keys_set es at new))

  pub still_stands : (topic : List ℕ) (index : ℤ) → place_in es topic index ≡ Some at → place_in changed topic index ≡ Some at
  still_stands topic index stands = ap (λ (find : List ℕ → ℤ → Option ℕ). find topic index) (places_set es at new) ∙ stands

  -- what stands there then
  pub row_written : (x : Row) → slice_get (values_of changed) at ≡ Some x → x ≡ new
  row_written x found = let e : Some x ≡ Some new = sym found ∙ ap (λ (l : List Row). slice_get l at) (values_set es at new) ∙ set_here (values_of es) at new within in cc

  pub same_row_table : (staged : List (ℤ × Vec ℕ Global)) → IsSameRow r new → IsTableOf (place_in es) (values_of es) staged → IsTableOf (place_in changed) (values_of changed) staged
  same_row_table staged made t = table_set staged (same_table (place_in es) (values_of es) (set (values_of es) at new) staged (same made) t)

  pub same_row_described : (events : List OffsetEvent) → IsSameRow r new → DescribesBy (place_in es) (values_of es) events → DescribesBy (place_in changed) (values_of changed) events
  same_row_described events made d = described_set events (same_described (place_in es) (values_of es) (set (values_of es) at new) events (same made) d)

  pub committed_table : (staged : List (ℤ × Vec ℕ Global)) → new.waiting.entries ≡ r.waiting.entries → IsTableOf (place_in es) (values_of es) staged → IsTableOf (place_in changed) (values_of changed) staged
  committed_table staged waiting t = table_set staged (commit_table (place_in es) (values_of es) staged at r new within is waiting t)

  pub committed_described : (o : PartitionOffset) (events : List OffsetEvent) (place : ℕ) → AreApart (place_in es) → place_in es o.topic o.index ≡ Some at → new.committed ≡ Some place → new.waiting.entries ≡ r.waiting.entries → length events ≡ place
      → DescribesBy (place_in es) (values_of es) events → DescribesBy (place_in changed) (values_of changed) (events ++ Put o ∷ [])
  committed_described o events place apart stands made waiting last d =
      described_set (events ++ Put o ∷ []) (commit_described (place_in es) (values_of es) at r new o events place apart stands within is made waiting last d)

  pub staged_table : (staged more : List (ℤ × Vec ℕ Global)) (producer : ℤ) (place : ℕ) → IsStaged r new producer place → HasMore staged more producer at → AreOnce more
      → IsTableOf (place_in es) (values_of es) staged → IsTableOf (place_in changed) (values_of changed) more
  staged_table staged more producer place made has once t = table_set more (stage_table (place_in es) (values_of es) staged more at r new producer place within is made has once t)

  pub staged_described : (producer : ℤ) (o : PartitionOffset) (events : List OffsetEvent) (place : ℕ) → AreApart (place_in es) → place_in es o.topic o.index ≡ Some at → IsStaged r new producer place → length events ≡ place
      → DescribesBy (place_in es) (values_of es) events → DescribesBy (place_in changed) (values_of changed) (events ++ Stage producer o ∷ [])
  staged_described producer o events place apart stands made last d =
      described_set (events ++ Stage producer o ∷ []) (stage_described (place_in es) (values_of es) at r new producer o events place apart stands within is made last d)

  pub decided_row : (places : List ℕ) (producer : ℤ) (outcome : TransactionResult) (old : List Row) → IsDecided r new producer outcome → AreDecided places producer outcome old (values_of es)
      → AreDecided (places ++ at ∷ []) producer outcome old (values_of changed)
  decided_row places producer outcome old made so = subst (AreDecided (places ++ at ∷ []) producer outcome old) (sym (values_set es at new)) (decided_more places producer outcome old (values_of es) at r new within is made so)
