-- What a log takes for the next batch of a producer is its next one.
use Rattle.std.proofs.Common.{◌≡◌, ◌⊎◌, inl, inr, ◌<◌, ◌≤ℤ◌, ℤ, pos, Bool, true, ◌&&◌, List, [], ◌∷◌, ◌++◌, length, reverse, take, Option, Some, None, refl, sym, ap, subst, ◌∙◌, arith}
use Rattle.std.specs.Int.{int_max}
use Rattle.std.specs.List.{find}
use Rattle.std.specs.Ordering.{int_eq}
use Rattle.std.proofs.lemmas.Int.{ints, clamps}
use Rattle.std.proofs.lemmas.List.{reverse-append, reverse-reverse, length-reverse}
use Rattle.record_batch.specs.Batch.{BatchData}
use Rattle.producer_state.specs.declared.judgment.Judgment.TheVariants.{Next, Repeat}
use Rattle.producer_state.specs.Sequences.{next_sequence, last_sequence, last_of, is_written_by, epochs, greater_of, greatest_of, batches_written_by, latest_batches_by, expected_after, has_same_sequences, repeat, judgment_by_repeat, judgment_of as judged_by_log}
use Rattle.producer_state.proofs.Numbers.{same_here}
use Rattle.producer_state.proofs.Noting.{epoch_of}
use Rattle.producer_state.proofs.Judging.{id_of}
use Rattle.producer_state.proofs.Accepting.{next_expected, greatest_is}
use Rattle.broker_world.specs.World.{LogValue}
use Rattle.api_laws.specs.Acceptance.{same_writer, IsInLatestEpoch, IsNew, IsFirst, GoesOn}
use Rattle.api_laws.proofs.Lists.{kept_at, none_passes}
use Rattle.api_laws.proofs.Latest.{Below, is_own, epochs_within, IsReached, epochs_reach, greatest_at, own_is, judged_latest, reversed}

below_greatest : (e : ℤ) (o : Option ℤ) → greater_of e o ≡ e → Below e o
below_greatest e None is = tt
below_greatest e (Some m) is = let most : int_max e m ≡ e = is in omega (arith, ints, clamps, most)

module _ (log : LogValue) (b : BatchData) (low : pos 0 ≤ℤ id_of b) (next : judged_by_log log b ≡ Next) where
  below : Below (epoch_of b) (greatest_of (epochs (id_of b) log))
  below = below_greatest (epoch_of b) (greatest_of (epochs (id_of b) log)) (greatest_is log b low next)

  latest : IsInLatestEpoch log b
  latest = epochs_within (id_of b) (epoch_of b) log below

  -- where one of its epoch stands, none was found again
  told : (earlier : LogValue) (last : BatchData) → same_writer b log ≡ earlier ++ last ∷ [] → greatest_of (epochs (id_of b) log) ≡ Some (epoch_of b)
  told earlier last is =
      let k = kept_at (is_written_by (id_of b) (epoch_of b)) log earlier [] last is in
      let own = own_is (id_of b) (epoch_of b) last k.4 in
      let reached : IsReached (id_of b) (epoch_of b) log = subst (λ (l : LogValue). IsReached (id_of b) (epoch_of b) l) (sym k.2)
      (subst (λ (e : ℤ). IsReached (id_of b) e (k.0 ++ last ∷ k.1)) own.same_epoch (epochs_reach (id_of b) k.0 k.1 last (is_own last (id_of b) own.producer))) in
      greatest_at (id_of b) (epoch_of b) log reached below

  unrepeated : (expected : ℤ) (o : Option BatchData) → judgment_by_repeat expected b o ≡ Next → o ≡ None
  unrepeated expected None h = refl
  unrepeated expected (Some old) h = absurd (let clash : Repeat old.header.base_offset ≡ Next = h in cc)

  none_again : greatest_of (epochs (id_of b) log) ≡ Some (epoch_of b) → repeat log b ≡ None
  none_again is = unrepeated (expected_after (latest_batches_by (id_of b) (epoch_of b) log)) (repeat log b) (sym (judged_latest log b low is) ∙ next)

  new : greatest_of (epochs (id_of b) log) ≡ Some (epoch_of b) → IsNew log b
  unfolding last_sequence
  new is before after x own few begins ends =
      let short : length (reverse after) < 5 = omega (arith, length-reverse after, few) in
      let same : has_same_sequences b x ≡ true = ap (λ (t : Bool). t && int_eq (last_of x) (last_of b)) (same_here x.header.base_sequence b.header.base_sequence begins) ∙ same_here (last_of x) (last_of b) ends in
      none_passes (has_same_sequences b) 5 (reverse after) (reverse before) x
      (sym (ap (λ (l : List BatchData). find (has_same_sequences b) (take 5 l)) (ap (λ (l : List BatchData). reverse l) own ∙ reversed before after x)) ∙ none_again is) short same

  by_latest : (l : List BatchData) → latest_batches_by (id_of b) (epoch_of b) log ≡ l → IsFirst log b ⊎ GoesOn log b
  unfolding next_sequence
  by_latest [] is = inl (record {
    alone = sym (reverse-reverse (batches_written_by (id_of b) (epoch_of b) log)) ∙ ap (λ (k : List BatchData). reverse k) is;
    begins = next_expected log b low next ∙ ap expected_after is;
  })
  by_latest (x ∷ r) is =
      let own : same_writer b log ≡ reverse r ++ x ∷ [] = sym (reverse-reverse (batches_written_by (id_of b) (epoch_of b) log)) ∙ ap (λ (k : List BatchData). reverse k) is ∙ reverse-append (x ∷ []) r in
      inr (record { earlier = reverse r; last = x; own = own; follows = next_expected log b low next ∙ ap expected_after is; new = new (told (reverse r) x own) })

  pub only_next : IsInLatestEpoch log b × (IsFirst log b ⊎ GoesOn log b)
  only_next = (latest, by_latest (latest_batches_by (id_of b) (epoch_of b) log) refl)
