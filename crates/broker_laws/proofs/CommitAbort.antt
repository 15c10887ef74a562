-- From the client's word to what consumers are shown.
use Rattle.std.proofs.Common.{◌≡◌, ℕ, ℤ, pos, ◌+◌, List, [], ◌∷◌, ◌++◌, length, Option, Some, Bool, true, false, cond, refl, sym, ap, subst, ◌∙◌, inl, inr, ◌⊎◌, append_assoc, arith}
use Rattle.std.specs.Prelude.{◌+ℤ◌, ◌≤ℤ◌, ◌<ℤ◌, int_le, int_lt, ◌&&◌}
use Rattle.std.proofs.lemmas.Int.{ints}
use Rattle.record_batch.specs.declared.transaction_result.TransactionResult.{TransactionResult}
use Rattle.record_batch.specs.declared.record.Rec.{Rec}
use Rattle.record_batch.specs.declared.record.RecordAt.{RecordAt}
use Rattle.record_batch.specs.Batch.{BatchData, IsBatch, IsMarked, next_offset, placed_records, marker_record}
use Rattle.partition_log.specs.Log.{IsLog, IsGapless, is_commit, is_committed, records_within, committed_records, records_of}
use Rattle.partition_log.proofs.Fetched.{filtered_committed}
use Rattle.partition_log.proofs.Numbers.{lt_true, le_true}
use Rattle.txn_coordinator.specs.declared.target.TopicPartition.{TopicPartition}
use Rattle.group_offsets.specs.declared.event.OffsetEvent.{OffsetEvent}
use Rattle.group_offsets.specs.declared.event.OffsetEvent.TheVariants.{Decide}
use Rattle.group_offsets.specs.declared.event.PartitionOffset.{PartitionOffset}
use Rattle.group_offsets.specs.Offsets.{offset_of}
use Rattle.group_offsets.specs.Laws.{or_else, pending_offset}
use Rattle.txn_laws.specs.Sound.{IsAmong}
use Rattle.txn_laws.proofs.Base.{each_weaker}
use Rattle.broker_world.specs.World.{World, LogValue}
use Rattle.broker_world.specs.Logs.{HoldLogs}
use Rattle.broker_world.proofs.Held.{log_is}
use Rattle.txn_handlers.specs.EndTxn.{ending_of}
use Rattle.broker_laws.specs.Laws.{IsDecided, committed_after}
use Rattle.broker_laws.specs.LogEnds.{IsEndedLog, IsEndedAt}
use Rattle.broker_laws.specs.CommitAbort.{type_of, IsMarker, view_end, IsShownIf, EndsInLog, EndsInGroup, EndsAt, CommitsAreShown}
use Rattle.api_laws.proofs.LastStable.{batch_at, stands_open}
use Rattle.broker_laws.proofs.Trailing.{trail_tells, completes_over_a_trail}

-- ---- what is among what

among_left : {A : Type 0} (xs ys : List A) (x : A) → IsAmong xs x → IsAmong (xs ++ ys) x
among_left [] ys x h = absurd h
among_left (y ∷ xs) ys x (inl same) = inl same
among_left (y ∷ xs) ys x (inr more) = inr (among_left xs ys x more)

among_right : {A : Type 0} (xs ys : List A) (x : A) → IsAmong ys x → IsAmong (xs ++ ys) x
among_right [] ys x h = h
among_right (y ∷ xs) ys x h = inr (among_right xs ys x h)

among_either : {A : Type 0} (xs ys : List A) (x : A) → IsAmong (xs ++ ys) x → IsAmong xs x ⊎ IsAmong ys x
among_either [] ys x h = inr h
among_either (y ∷ xs) ys x (inl same) = inl (inl same)
among_either (y ∷ xs) ys x (inr more) = by_rest (among_either xs ys x more) where
  by_rest : IsAmong xs x ⊎ IsAmong ys x → IsAmong (y ∷ xs) x ⊎ IsAmong ys x
  by_rest (inl h) = inl (inr h)
  by_rest (inr h) = inr h

-- records with offsets in a range
among_within : (from to : ℤ) (rs : List RecordAt) (r : RecordAt) → IsAmong rs r → from ≤ℤ r.offset → r.offset <ℤ to → IsAmong (records_within from to rs) r
among_within from to [] r h low high = absurd h
among_within from to (y ∷ rs) r (inl same) low high =
    subst (λ (t : Bool). IsAmong (cond t (y ∷ records_within from to rs) (records_within from to rs)) r)
    (sym (ap (λ (z : RecordAt). int_le from z.offset && int_lt z.offset to) same ∙ ap (λ b. b && int_lt r.offset to) (le_true from r.offset low) ∙ lt_true r.offset to high))
    (inl same)
among_within from to (y ∷ rs) r (inr more) low high = by_test (int_le from y.offset && int_lt y.offset to) (among_within from to rs r more low high) where
  by_test : (t : Bool) → IsAmong (records_within from to rs) r → IsAmong (cond t (y ∷ records_within from to rs) (records_within from to rs)) r
  by_test true h = inr h
  by_test false h = h

within_among : (from to : ℤ) (rs : List RecordAt) (r : RecordAt) → IsAmong (records_within from to rs) r → IsAmong rs r
within_among from to [] r h = h
within_among from to (y ∷ rs) r h = by_test (int_le from y.offset && int_lt y.offset to) h (within_among from to rs r) where
  by_test : (t : Bool) → IsAmong (cond t (y ∷ records_within from to rs) (records_within from to rs)) r → (IsAmong (records_within from to rs) r → IsAmong rs r) → IsAmong (y ∷ rs) r
  by_test true (inl same) rest = inl same
  by_test true (inr more) rest = inr (rest more)
  by_test false h rest = inr (rest h)

-- ---- where records stand

record StandsIn (low high : ℤ) (r : RecordAt) : Type 0 where
  from : low ≤ℤ r.offset
  to : r.offset <ℤ high

placed_stand : (base : ℤ) (place : ℕ) (rs : List Rec) (r : RecordAt) → IsAmong (placed_records base place rs) r → StandsIn (base +ℤ pos place) (base +ℤ pos (place + length rs)) r
placed_stand base place [] r h = absurd h
placed_stand base place (x ∷ rs) r (inl same) = let at = ap (λ (z : RecordAt). z.offset) same in record { from = omega (arith, ints, at); to = omega (arith, ints, at) }
placed_stand base place (x ∷ rs) r (inr more) = let rest = placed_stand base (place + 1) rs r more in let low = rest.from in let high = rest.to in record { from = omega (arith, ints, low); to = omega (arith, ints, high) }

stand : (b : BatchData) → IsBatch b → (r : RecordAt) → IsAmong (records_of b) r → StandsIn b.header.base_offset (next_offset b) r
stand b is r h =
    let at = placed_stand b.header.base_offset 0 b.records r h in
    let low = at.from in let high = at.to in let some = is.some in let last = is.numbered in
    record { from = omega (arith, ints, low); to = omega (arith, ints, high, some, last) }

next_above : (b : BatchData) → IsBatch b → b.header.base_offset ≤ℤ next_offset b
next_above b is = let some = is.some in let last = is.numbered in omega (arith, ints, some, last)

-- each batch, and each committed record, stands at the first offset or after it
base_above : (first : ℤ) (before : List BatchData) (b : BatchData) (after : List BatchData) → IsGapless first (before ++ b ∷ after) → first ≤ℤ b.header.base_offset
base_above first [] b after h = let at = h.1 in omega (arith, ints, at)
base_above first (c ∷ before) b after h =
    let rest = base_above (next_offset c) before b after h.2 in let up = next_above c h.0 in let at = h.1 in
    omega (arith, ints, rest, up, at)

if_among : (t : Bool) (rs : List RecordAt) (r : RecordAt) → IsAmong (cond t rs []) r → IsAmong rs r
if_among true rs r h = h
if_among false rs r h = absurd h

record_above : (first from to : ℤ) (log : List BatchData) → IsGapless first log → (r : RecordAt) → IsAmong (committed_records log from to) r → first ≤ℤ r.offset
record_above first from to [] h r among = absurd among
record_above first from to (b ∷ after) h r among = by_part (among_either _ (committed_records after from to) r among) (record_above (next_offset b) from to after h.2 r) where
  by_part : IsAmong (cond (is_committed b after) (records_within from to (records_of b)) []) r ⊎ IsAmong (committed_records after from to) r → (IsAmong (committed_records after from to) r → next_offset b ≤ℤ r.offset) → first ≤ℤ r.offset
  by_part (inl own) rest =
      let at = (stand b h.0 r (within_among from to (records_of b) r (if_among (is_committed b after) _ r own))).from in let base = h.1 in
      omega (arith, ints, at, base)
  by_part (inr more) rest = let above = rest more in let up = next_above b h.0 in let base = h.1 in omega (arith, ints, above, up, base)

-- ---- a batch that is committed, and one that isn't

in_committed : (from to : ℤ) (before : List BatchData) (b : BatchData) (after : List BatchData) (r : RecordAt) → is_committed b after ≡ true → IsAmong (records_within from to (records_of b)) r → IsAmong (committed_records (before ++ b ∷ after) from to) r
in_committed from to [] b after r is h = among_left _ (committed_records after from to) r (subst (λ (t : Bool). IsAmong (cond t (records_within from to (records_of b)) []) r) (sym is) h)
in_committed from to (c ∷ before) b after r is h = among_right _ (committed_records (before ++ b ∷ after) from to) r (in_committed from to before b after r is h)

not_committed : (first from to : ℤ) (before : List BatchData) (b : BatchData) (after : List BatchData) (r x : RecordAt) → IsGapless first (before ++ b ∷ after) → is_committed b after ≡ false → IsAmong (records_of b) r
    → IsAmong (committed_records (before ++ b ∷ after) from to) x → x.offset ≡ r.offset → ⊥
not_committed first from to [] b after r x h is own among same =
    let rest : IsAmong (committed_records after from to) x = subst (λ (t : Bool). IsAmong (cond t (records_within from to (records_of b)) [] ++ committed_records after from to) x) is among in
    let above = record_above (next_offset b) from to after h.2 x rest in let within = (stand b h.0 r own).to in
    omega (arith, ints, above, within, same)
not_committed first from to (c ∷ before) b after r x h is own among same = by_part (among_either _ (committed_records (before ++ b ∷ after) from to) x among) (λ more. not_committed (next_offset c) from to before b after r x h.2 is own more same) where
  by_part : IsAmong (cond (is_committed c (before ++ b ∷ after)) (records_within from to (records_of c)) []) x ⊎ IsAmong (committed_records (before ++ b ∷ after) from to) x → (IsAmong (committed_records (before ++ b ∷ after) from to) x → ⊥) → ⊥
  by_part (inl front) rest =
      let below = (stand c h.0 x (within_among from to (records_of c) x (if_among (is_committed c (before ++ b ∷ after)) _ x front))).to in
      let base = base_above (next_offset c) before b after h.2 in
      let at = (stand b (batch_at (next_offset c) before b after h.2) r own).from in
      omega (arith, ints, below, base, at, same)
  by_part (inr more) rest = rest more

told_as : (c : Bool) (now : LogValue) (before after : List BatchData) (b : BatchData) → IsLog now → now ≡ before ++ b ∷ after → is_committed b after ≡ is_commit (Some (ending_of c)) → IsShownIf c now b
told_as true now before after b log parts is = λ offset budget forced r own low high.
    subst (λ l. IsAmong l r) (sym (filtered_committed now offset budget forced log))
    (subst (λ l. IsAmong (committed_records l offset (view_end now offset budget forced)) r) (sym parts)
    (in_committed offset (view_end now offset budget forced) before b after r is (among_within offset (view_end now offset budget forced) (records_of b) r own low high)))
told_as false now before after b log parts is = λ offset budget forced r x own shown same.
    not_committed (pos 0) offset (view_end now offset budget forced) before b after r x (subst (IsGapless (pos 0)) parts log.gapless) is own
    (subst (λ l. IsAmong (committed_records l offset (view_end now offset budget forced)) x) parts (subst (λ l. IsAmong l x) (filtered_committed now offset budget forced log) shown))
    same

gapless_front : (first : ℤ) (xs ys : List BatchData) → IsGapless first (xs ++ ys) → IsGapless first xs
gapless_front first [] ys h = tt
gapless_front first (x ∷ xs) ys h = (h.0, h.1, gapless_front (next_offset x) xs ys h.2)

-- ---- a log

key_is : (c : Bool) → (marker_record (ending_of c)).key ≡ Some (0 ∷ 0 ∷ 0 ∷ type_of c ∷ [])
key_is true = refl
key_is false = refl

marker_is : (p : ℤ) (c : Bool) (m : BatchData) → IsBatch m → m.header.producer_id ≡ p → m.marker ≡ Some (ending_of c) → IsMarker p c m
marker_is p c m is by ends =
    let marked = subst (λ (o : Option TransactionResult). IsMarked o m.header m.records) ends is.marked in
    record { by = by; control = marked.0; written = is; rec = marker_record (ending_of c); alone = marked.1; key = key_is c }

ends_in_log : (p : ℤ) (c : Bool) (old now : LogValue) → IsLog now → IsEndedLog p (ending_of c) old now → EndsInLog p c old now
ends_in_log p c old now log h =
    let after_it = h.between ++ h.marker ∷ h.after in
    let whole = subst (IsGapless (pos 0)) h.log log.gapless in
    let at_marker = subst (IsGapless (pos 0)) (sym (append_assoc old h.between (h.marker ∷ h.after))) whole in
    record {
      between = h.between;
      marker = h.marker;
      rest = h.after;
      log = h.log;
      first = h.nothing;
      is_marker = marker_is p c h.marker (batch_at (pos 0) (old ++ h.between) h.marker h.after at_marker) h.by h.ends;
      batches = λ before after b parts own is.
          let stands = stands_open before after b (subst (IsGapless (pos 0)) parts (gapless_front (pos 0) old after_it whole)) is in
          told_as c now before (after ++ after_it) b log (h.log ∙ ap (λ l. l ++ after_it) parts ∙ append_assoc before (b ∷ after) after_it) (h.opened before after b parts own stands).shown;
    }

ends_at : (w v : World) (p : ℤ) (c : Bool) → HoldLogs v.topics → (at : TopicPartition) → IsEndedAt p (ending_of c) w v at → EndsAt p c w v at
ends_at w v p c hold at h = record {
  log_before = h.log_before;
  log_after = h.log_then;
  before = h.before;
  after = h.then;
  ends = ends_in_log p c h.log_before h.log_then (log_is v.topics at.topic at.index h.log_then hold h.then) h.is_ended;
}

-- ---- a group

shown_as : (c : Bool) (waiting was : Option PartitionOffset) → committed_after (ending_of c) waiting was ≡ cond c (or_else waiting was) was
shown_as true waiting was = refl
shown_as false waiting was = refl

ends_in_group : (p : ℤ) (c : Bool) (old now : List OffsetEvent) → IsDecided p (ending_of c) old now → EndsInGroup p c old now
ends_in_group p c old now h = record {
  between = h.between;
  decision = Decide p (ending_of c);
  rest = h.after;
  events = h.events;
  offsets = λ topic index. h.shown topic index ∙ shown_as c (pending_offset old p topic index) (offset_of (old ++ h.between) topic index);
}

-- ---- the law

pub commits_are_shown : CommitsAreShown
commits_are_shown core is up before later x parts caller client r reply t event told none found ongoing enough =
    let by = (trail_tells core is before later x parts).ended caller client r reply t event told none found ongoing in
    let done = (completes_over_a_trail core is before later x parts _ t _ by enough).world up in
    record {
      logs = each_weaker _ _ (ends_at _ core.world t.pair.producer _ (is.logs up)) t.partitions done.logs;
      groups = each_weaker _ _ (λ g. ends_in_group t.pair.producer _ _ _) t.groups done.groups;
    }
