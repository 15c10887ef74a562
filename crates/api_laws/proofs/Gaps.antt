-- What leaves a gap is out of order.
use Rattle.std.proofs.Common.{◌≡◌, ◌<ℤ◌, ◌≤ℤ◌, ℤ, pos, Bool, true, false, cond, List, [], ◌∷◌, reverse, Option, Some, None, refl, sym, ap, subst, ◌∙◌}
use Rattle.std.specs.Prelude.{int_lt}
use Rattle.std.specs.Ordering.{int_eq}
use Rattle.std.proofs.lemmas.Bool.{and_parts}
use Rattle.std.proofs.lemmas.List.{reverse-append, reverse-reverse}
use Rattle.wire_types.specs.declared.error_code.ErrorCode.TheVariants as codes
use Rattle.record_batch.specs.Batch.{BatchData}
use Rattle.producer_state.specs.declared.judgment.Judgment.TheVariants.{Next, Refused}
use Rattle.producer_state.specs.Sequences.{next_sequence, last_sequence, last_of, epochs, greatest_of, batches_written_by, latest_batches_by, expected_after, repeat, first_judgment, judgment_by_repeat, judgment_of as judged_by_log}
use Rattle.producer_state.proofs.Numbers.{lt_is, lt_is_not, between, same_is}
use Rattle.producer_state.proofs.Noting.{epoch_of, all_below, none_above}
use Rattle.producer_state.proofs.Judging.{id_of, judged_at, begun_above}
use Rattle.producer_state.proofs.Accepting.{place}
use Rattle.broker_world.specs.World.{LogValue}
use Rattle.api_laws.specs.Repeats.{LeavesGap}
use Rattle.api_laws.proofs.Latest.{Below, epochs_below, judged_latest, found_late, differ_by}

some_is : (a b : ℤ) → Some a ≡ Some b → a ≡ b
some_is a b h = cc

module _ (log : LogValue) (b : BatchData) (gap : LeavesGap log b) where
  -- no data batch of an epoch above those that the log tells
  none_written : ((m : ℤ) → greatest_of (epochs (id_of b) log) ≡ Some m → m <ℤ epoch_of b) → batches_written_by (id_of b) (epoch_of b) log ≡ []
  none_written above = none_above (id_of b) (epoch_of b) log (all_below (epochs (id_of b) log) (epoch_of b) above)

  late_begin : ((m : ℤ) → greatest_of (epochs (id_of b) log) ≡ Some m → m <ℤ epoch_of b) → first_judgment b ≡ Refused codes.OutOfOrderSequenceNumber
  late_begin above = ap (λ (t : Bool). cond t Next (Refused codes.OutOfOrderSequenceNumber)) (differ_by b.header.base_sequence (pos 0) (gap.not_first (none_written above)))

  not_again : (o : Option BatchData) → repeat log b ≡ o → o ≡ None
  unfolding last_sequence
  not_again None is = refl
  not_again (Some old) is =
      let late = found_late log b old is in
      let both = and_parts (int_eq old.header.base_sequence b.header.base_sequence) (int_eq (last_of old) (last_of b)) late.same in
      absurd (gap.new late.earlier late.later old late.own late.few (same_is old.header.base_sequence b.header.base_sequence both.0) (same_is (last_of old) (last_of b) both.1))

  not_expected : (l : List BatchData) → latest_batches_by (id_of b) (epoch_of b) log ≡ l → int_eq b.header.base_sequence (expected_after l) ≡ false
  unfolding next_sequence
  not_expected [] is =
      differ_by b.header.base_sequence (pos 0) (gap.not_first (sym (reverse-reverse (batches_written_by (id_of b) (epoch_of b) log)) ∙ ap (λ (k : List BatchData). reverse k) is))
  not_expected (x ∷ r) is =
      differ_by b.header.base_sequence (expected_after (x ∷ r)) (gap.not_next (reverse r) x (sym (reverse-reverse (batches_written_by (id_of b) (epoch_of b) log)) ∙ ap (λ (k : List BatchData). reverse k) is ∙ reverse-append (x ∷ []) r))

  within : greatest_of (epochs (id_of b) log) ≡ Some (epoch_of b) → judged_by_log log b ≡ Refused codes.OutOfOrderSequenceNumber
  within is =
      judged_latest log b gap.producer is
      ∙ ap (judgment_by_repeat (expected_after (latest_batches_by (id_of b) (epoch_of b) log)) b) (not_again (repeat log b) refl)
      ∙ ap (λ (t : Bool). cond t Next (Refused codes.OutOfOrderSequenceNumber)) (not_expected (latest_batches_by (id_of b) (epoch_of b) log) refl)

  pub gap_refused : judged_by_log log b ≡ Refused codes.OutOfOrderSequenceNumber
  gap_refused = by_found (greatest_of (epochs (id_of b) log)) refl (epochs_below (id_of b) (epoch_of b) log gap.latest) where
    by_order : (m : ℤ) (t : Bool) → int_lt m (epoch_of b) ≡ t → greatest_of (epochs (id_of b) log) ≡ Some m → m ≤ℤ epoch_of b → judged_by_log log b ≡ Refused codes.OutOfOrderSequenceNumber
    by_order m true e is le =
        judged_at log b (Some m) gap.producer is
        ∙ begun_above (place log (id_of b) m) b (repeat log b) (lt_is m (epoch_of b) e) le
        ∙ late_begin (λ k found. subst (λ (n : ℤ). n <ℤ epoch_of b) (some_is m k (sym is ∙ found)) (lt_is m (epoch_of b) e))
    by_order m false e is le = within (is ∙ ap (λ (n : ℤ). Some n) (between m (epoch_of b) le (lt_is_not m (epoch_of b) e)))

    by_found : (o : Option ℤ) → greatest_of (epochs (id_of b) log) ≡ o → Below (epoch_of b) o → judged_by_log log b ≡ Refused codes.OutOfOrderSequenceNumber
    by_found None is below = judged_at log b None gap.producer is ∙ late_begin (λ k found. absurd (let clash : Some k ≡ None = sym found ∙ is in cc))
    by_found (Some m) is below = by_order m (int_lt m (epoch_of b)) refl is below
