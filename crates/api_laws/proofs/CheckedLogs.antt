-- Each batch of a log that events reach was checked before it was appended, and stays so wherever it stands.
use Rattle.std.proofs.Common.{◌≡◌, ℕ, ℤ, pos, negsuc, ◌-◌, ◌≤◌, ◌≤ℤ◌, List, ◌++◌, append_assoc, length, drop, Option, Some, None, refl, sym, ap, subst, ◌∙◌, arith, lit<}
use Rattle.std.specs.Prelude.{FitsSigned}
use Rattle.std.specs.Int.{w32, w64, from_be_bytes, cast_signed}
use Rattle.std.specs.List.{AllByRecursion}
use Rattle.std.proofs.lemmas.Int.{ints}
use Rattle.wire_types.specs.Grammar.{IsInt}
use Rattle.wire_types.specs.NumberLaws.{wide32, int-canonical}
use Rattle.wire_types.specs.Schema.{int32, int64}
use Rattle.record_batch.specs.declared.header.BatchHeader.{BatchHeader}
use Rattle.record_batch.specs.declared.transaction_result.TransactionResult.{TransactionResult}
use Rattle.record_batch.specs.declared.record.Rec.{Rec}
use Rattle.record_batch.specs.BatchHeader.{header_at}
use Rattle.record_batch.specs.Crc.{crc32c}
use Rattle.record_batch.specs.Batch.{BatchData, IsBatch, IsMarked, bytes_with_offset, written_at}
use Rattle.record_batch.proofs.Kept.{batch_long}
use Rattle.record_batch.proofs.Lawful.{faultless_is_batch}
use Rattle.record_batch.proofs.Moved.{parts_of, bytes_with_offset-is, eight_bytes, same_length, same_after, written_at-is}
use Rattle.partition_log.specs.Log.{end_of, at_end}
use Rattle.broker_world.specs.World.{LogValue}
use Rattle.broker_world.specs.First.{non_negative}
use Rattle.broker_world.specs.Markers.{marker_batch}
use Rattle.api_dispatch.specs.Step.{world_after_events}
use Rattle.api_laws.specs.CheckedLogs.{IsChecked, LogsHoldCheckedBatches}
use Rattle.api_laws.proofs.EachLog.{IsSent, Stays, each_log}
use Rattle.api_laws.proofs.Lists.{all_push, all_parts}

-- ---- a batch at any offset, of 64 bits or not, is one whose offset is what its first bytes spell

abbrev moved : ℤ → ℤ → BatchData → BatchData
moved offset z b = record b { header = header_at z b.header; bytes = bytes_with_offset offset b.bytes }

marked_moved : (m : Option TransactionResult) (z : ℤ) (h : BatchHeader) (rs : List Rec) → IsMarked m h rs → IsMarked m (header_at z h) rs
marked_moved None z h rs is = is
marked_moved (Some outcome) z h rs is = is

moved_is : (offset z : ℤ) (b : BatchData) → IsInt w64 (int64.written offset) z → IsBatch b → IsBatch (moved offset z b)
moved_is offset z b spelled is =
    let h = is.headed in
    let t = h.4 in
    let u = t.4 in
    let p = parts_of b is in
    let zero_fits : FitsSigned w32 (pos 0) = record { sfits = lit< tt } in
    let front : List ℕ = int64.written offset ++ (t.0 ++ (int32.written (pos 0) ++ u.1)) in
    let regrouped : int64.written offset ++ (t.0 ++ (int32.written (pos 0) ++ (u.1 ++ is.body))) ≡ front ++ is.body = simp append_assoc in
    let same : length (bytes_with_offset offset b.bytes) ≡ length b.bytes = same_length offset b.bytes p in
    let covered : drop 21 (bytes_with_offset offset b.bytes) ≡ drop 21 b.bytes = same_after 21 offset b.bytes p (omega arith) in
    record {
      front = front;
      body = is.body;
      parts = bytes_with_offset-is offset b.bytes p ∙ regrouped;
      headed = (int64.written offset, _, refl, spelled, (t.0, _, refl, t.3, (int32.written (pos 0), u.1, refl, int-canonical w32 wide32 (pos 0) zero_fits, u.4)));
      recorded = is.recorded;
      some = is.some;
      counted = is.counted;
      numbered = is.numbered;
      ends = is.ends ∙ ap (λ (n : ℕ). pos (n - 12)) (sym same);
      summed = is.summed ∙ ap crc32c (sym covered);
      format = is.format;
      uncompressed = is.uncompressed;
      created = is.created;
      marked = marked_moved b.marker z b.header b.records is.marked;
    }

-- what the eight bytes of a base offset are read as
abbrev spelled_by : ℤ → ℤ
spelled_by offset = cast_signed w64 (from_be_bytes w64 (int64.written offset))

within : (n : ℕ) (z : ℤ) → 61 ≤ n → n ≤ non_negative z → pos n ≤ℤ z
within n (pos m) long small = omega (arith, ints, small)
within n (negsuc m) long small = absurd (omega (arith, long, small))

checked_at : (most offset : ℤ) (b : BatchData) → IsSent (non_negative most) b → IsChecked most (written_at offset b)
checked_at most offset b good =
    let same : length (bytes_with_offset offset b.bytes) ≡ length b.bytes = same_length offset b.bytes (parts_of b good.batch) in
    let small : length (bytes_with_offset offset b.bytes) ≤ non_negative most = omega (arith, same, good.small) in
    let long : 61 ≤ length (bytes_with_offset offset b.bytes) = omega (arith, same, batch_long b good.batch) in
    record {
      small = within (length (bytes_with_offset offset b.bytes)) most long small;
      faultless = (faultless_is_batch (non_negative most) (bytes_with_offset offset b.bytes)).1 (
        moved offset (spelled_by offset) b,
        refl,
        moved_is offset (spelled_by offset) b (eight_bytes offset, refl) good.batch,
        record { unmarked = good.data_alone.unmarked; producer = good.data_alone.producer },
        small,
      );
      batch = λ fits. written_at-is offset b fits good.batch;
    }

-- ---- in the logs

-- a batch that was sent, where it stands
pub record IsPlaced (most : ℕ) (b : BatchData) : Type 0 where
  pub sent : BatchData
  pub good : IsSent most sent
  pub offset : ℤ
  pub stands : b ≡ written_at offset sent

-- what isn't a marker was sent
abbrev pub IsPlacedData : ℕ → BatchData → Type 0
IsPlacedData most b = b.marker ≡ None → IsPlaced most b

pub all_placed : (most : ℕ) → Stays most (λ (log : LogValue). AllByRecursion (IsPlacedData most) log)
all_placed most = record {
  empty = tt;
  next = λ log b all good next. all_push (IsPlacedData most) log (at_end log b) all (λ unmarked. record { sent = b; good = good; offset = end_of log; stands = refl });
  marked = λ log m moment all. all_push (IsPlacedData most) log (at_end log (marker_batch m moment)) all (λ unmarked. absurd (let clash : Some m.outcome ≡ None = unmarked in cc));
}

pub logs_hold_checked_batches : LogsHoldCheckedBatches world_after_events
logs_hold_checked_batches s es name index log before after b there stands unmarked =
    let all = each_log s (λ (l : LogValue). AllByRecursion (IsPlacedData (non_negative s.max_batch)) l) (all_placed (non_negative s.max_batch)) es name index log there in
    let here = all_parts (IsPlacedData (non_negative s.max_batch)) before after b (subst (AllByRecursion (IsPlacedData (non_negative s.max_batch))) stands all) in
    let placed = here.1 unmarked in
    subst (IsChecked s.max_batch) (sym placed.stands) (checked_at s.max_batch placed.offset placed.sent placed.good)
