-- The offsets of a log that events reach count its records.
use Rattle.std.proofs.Common.{◌≡◌, ℕ, ℤ, pos, ◌+◌, add-zero, zero-add, add_assoc, ◌+ℤ◌, [], ◌∷◌, ◌++◌, length, refl, sym, ap, subst, ◌∙◌, arith}
use Rattle.record_batch.specs.Batch.{BatchData, next_offset}
use Rattle.producer_state.specs.Laws.{records_in}
use Rattle.partition_log.specs.Log.{end_from, end_of, at_end}
use Rattle.broker_world.specs.World.{LogValue}
use Rattle.broker_world.specs.First.{non_negative}
use Rattle.broker_world.specs.Markers.{marker_batch}
use Rattle.broker_world.proofs.OffsetsLeft.{next_at_end}
use Rattle.api_dispatch.specs.Step.{world_after_events}
use Rattle.api_laws.specs.CheckedLogs.{OffsetsCountRecords}
use Rattle.api_laws.proofs.EachLog.{Stays, each_log}

-- each one begins where so many records, and those before it, end
abbrev AreNumbered : ℕ → LogValue → Type 0
AreNumbered n [] = Unit {0}
AreNumbered n (b ∷ rest) = (b.header.base_offset ≡ pos n) × AreNumbered (n + length b.records) rest

numbered_push : (n : ℕ) (log : LogValue) (b : BatchData) → AreNumbered n log → b.header.base_offset ≡ pos (n + records_in log) → AreNumbered n (log ++ b ∷ [])
numbered_push n [] b all is = (is ∙ ap (λ (m : ℕ). pos m) (add-zero n), tt)
numbered_push n (x ∷ rest) b all is = (all.0, numbered_push (n + length x.records) rest b all.1 (is ∙ ap (λ (m : ℕ). pos m) (sym (add_assoc n (length x.records) (records_in rest)))))

numbered_at : (n : ℕ) (before after : LogValue) (b : BatchData) → AreNumbered n (before ++ b ∷ after) → b.header.base_offset ≡ pos (n + records_in before)
numbered_at n [] after b all = all.0 ∙ ap (λ (m : ℕ). pos m) (sym (add-zero n))
numbered_at n (x ∷ before) after b all = numbered_at (n + length x.records) before after b all.1 ∙ ap (λ (m : ℕ). pos m) (add_assoc n (length x.records) (records_in before))

end_push : (first : ℤ) (log : LogValue) (b : BatchData) → end_from first (log ++ b ∷ []) ≡ next_offset b
end_push first [] b = refl
end_push first (x ∷ rest) b = end_push (next_offset x) rest b

records_push : (log : LogValue) (b : BatchData) → records_in (log ++ b ∷ []) ≡ records_in log + length b.records
records_push [] b = omega arith
records_push (x ∷ rest) b = omega (arith, records_push rest b)

pub record IsNumbered (log : LogValue) : Type 0 where
  pub each : AreNumbered 0 log
  pub end : end_of log ≡ pos (records_in log)

-- a batch more, which is written at the end
one_more : (log : LogValue) (b : BatchData) → next_offset (at_end log b) ≡ end_of log +ℤ pos (length b.records) → IsNumbered log → IsNumbered (log ++ at_end log b ∷ [])
one_more log b ends is = record {
  each = numbered_push 0 log (at_end log b) is.each (is.end ∙ ap (λ (m : ℕ). pos m) (sym (zero-add (records_in log))));
  end =
      end_push (pos 0) log (at_end log b)
      ∙ ends
      ∙ ap (λ (z : ℤ). z +ℤ pos (length b.records)) is.end
      ∙ ap (λ (m : ℕ). pos m) (sym (records_push log (at_end log b)));
}

numbered : (most : ℕ) → Stays most IsNumbered
numbered most = record {
  empty = record { each = tt; end = refl };
  next = λ log b is good next. one_more log b (next_at_end log b good.batch) is;
  marked = λ log m moment is. one_more log (marker_batch m moment) refl is;
}

pub offsets_count_records : OffsetsCountRecords world_after_events
offsets_count_records s es name index log before after b there stands =
    let is = each_log s IsNumbered (numbered (non_negative s.max_batch)) es name index log there in
    numbered_at 0 before after b (subst (AreNumbered 0) stands is.each) ∙ ap (λ (m : ℕ). pos m) (zero-add (records_in before))
