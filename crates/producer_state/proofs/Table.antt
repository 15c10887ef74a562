-- What is kept, row by row.
use Rattle.std.proofs.Common.{◌≡◌, ℤ, pos, List, [], ◌∷◌, ◌++◌, Option, Some, None, Bool, true, false, cond, refl, sym, subst, ap, ◌∙◌}
use Rattle.std.specs.Prelude.{◌≤ℤ◌, ◌&&◌}
use Rattle.std.specs.Ordering.{int_eq}
use Rattle.std.specs.Map.{lookup}
use Rattle.record_batch.specs.Batch.{BatchData, written_at}
use Rattle.producer_state.specs.Sequences.{is_data, has_producer_id}
use Rattle.producer_state.specs.State.{ProducerEntryValue, state_of, is_key, kept_state, Describes, fresh_state, state_in_epoch, state_with_batch_if, state_after_batch, IsMarkerOf, IsEntered}
use Rattle.producer_state.proofs.Numbers.{same_is}
use Rattle.producer_state.proofs.Noting.{own_noted, other_noted, epoch_of}
use Rattle.producer_state.proofs.Judging.{id_of}

-- ---- a producer's row

-- the row that is found under the producer's id
pub row_found : (table : List (ℤ × ProducerEntryValue)) (key id : ℤ) (k : ProducerEntryValue) → key ≡ id → Some k ≡ lookup (is_key key) table → Some k ≡ kept_state table id
row_found table key id k same is = is ∙ ap (kept_state table) same

pub row_entered : (table : List (ℤ × ProducerEntryValue)) (producer key id : ℤ) (k : ProducerEntryValue) (found : Option ProducerEntryValue) → key ≡ producer → found ≡ kept_state table id
    → cond (int_eq key id) (Some k) found ≡ cond (int_eq producer id) (Some k) (kept_state table id)
row_entered table producer key id k found is says = ap (λ i. cond (int_eq i id) (Some k) found) is ∙ ap (cond (int_eq producer id) (Some k)) says

pub told_none : (table : List (ℤ × ProducerEntryValue)) (id epoch : ℤ) (now : ProducerEntryValue) → kept_state table id ≡ None → now ≡ fresh_state epoch → now ≡ state_in_epoch (kept_state table id) epoch
told_none table id epoch now none says = says ∙ sym (ap (λ o. state_in_epoch o epoch) none)

pub told_found : (table : List (ℤ × ProducerEntryValue)) (id epoch : ℤ) (s now : ProducerEntryValue) → Some s ≡ kept_state table id → now ≡ state_in_epoch (Some s) epoch → now ≡ state_in_epoch (kept_state table id) epoch
told_found table id epoch s now is says = says ∙ ap (λ o. state_in_epoch o epoch) is

-- ---- one batch or marker more

-- a row of the producer of a batch or marker
describes_more : (table new : List (ℤ × ProducerEntryValue)) (log : List BatchData) (b : BatchData) → Describes table log
    → IsEntered table new (id_of b) (state_after_batch (kept_state table (id_of b)) b) → pos 0 ≤ℤ id_of b → Describes new (log ++ b ∷ [])
describes_more table new log b describes entered own id low = entered id ∙ by_id (int_eq (id_of b) id) refl where
  by_id : (t : Bool) → int_eq (id_of b) id ≡ t → cond t (Some (state_after_batch (kept_state table (id_of b)) b)) (kept_state table id) ≡ state_of (log ++ b ∷ []) id
  by_id true e =
      ap (λ o. Some (state_after_batch o b)) (describes (id_of b) own ∙ ap (state_of log) (same_is (id_of b) id e))
      ∙ sym (own_noted log id b e)
  by_id false e = describes id low ∙ sym (other_noted log id b e)

-- a batch that was appended at an offset; asked, asked_epoch, at and row are other spellings of the numbers
pub batch_noted : (table new : List (ℤ × ProducerEntryValue)) (log : List BatchData) (b : BatchData) (offset id epoch : ℤ) (was now : ProducerEntryValue) (asked asked_epoch at row : ℤ)
    → asked ≡ id → asked_epoch ≡ epoch → at ≡ offset → row ≡ id → id ≡ id_of b → epoch ≡ epoch_of b → pos 0 ≤ℤ id
    → was ≡ state_in_epoch (kept_state table asked) asked_epoch
    → now ≡ state_with_batch_if (is_data b && int_eq was.epoch (epoch_of b)) was (written_at at b)
    → IsEntered table new row now → Describes table log → Describes new (log ++ written_at offset b ∷ [])
batch_noted table new log b offset id epoch was now asked asked_epoch at row is_asked is_asked_epoch is_at is_row is_id is_epoch low tells adds entered describes =
    describes_more table new log (written_at offset b) describes (λ key. entered key ∙ by_row key) (subst (λ (i : ℤ). pos 0 ≤ℤ i) is_id low) where
      told_own : was ≡ state_in_epoch (kept_state table (id_of b)) (epoch_of b)
      told_own = tells ∙ ap (λ i. state_in_epoch (kept_state table i) asked_epoch) (is_asked ∙ is_id) ∙ ap (state_in_epoch (kept_state table (id_of b))) (is_asked_epoch ∙ is_epoch)

      state : now ≡ state_after_batch (kept_state table (id_of b)) (written_at offset b)
      state =
          adds
          ∙ ap (λ o. state_with_batch_if (is_data b && int_eq was.epoch (epoch_of b)) was (written_at o b)) is_at
          ∙ ap (λ (s : ProducerEntryValue). state_with_batch_if (is_data b && int_eq s.epoch (epoch_of b)) s (written_at offset b)) told_own

      by_row : (key : ℤ) → cond (int_eq row key) (Some now) (kept_state table key) ≡ cond (int_eq (id_of b) key) (Some (state_after_batch (kept_state table (id_of b)) (written_at offset b))) (kept_state table key)
      by_row key = ap (λ i. cond (int_eq i key) (Some now) (kept_state table key)) (is_row ∙ is_id) ∙ ap (λ s. cond (int_eq (id_of b) key) (Some s) (kept_state table key)) state

-- a marker, with the same spellings
pub marker_noted : (table new : List (ℤ × ProducerEntryValue)) (log : List BatchData) (marker : BatchData) (id epoch : ℤ) (now : ProducerEntryValue) (asked asked_epoch row : ℤ)
    → asked ≡ id → asked_epoch ≡ epoch → row ≡ id
    → IsMarkerOf id epoch marker → now ≡ state_in_epoch (kept_state table asked) asked_epoch → IsEntered table new row now
    → Describes table log → Describes new (log ++ marker ∷ [])
marker_noted table new log marker id epoch now asked asked_epoch row is_asked is_epoch is_row marks says entered describes key low =
    entered key ∙ ap (λ i. cond (int_eq i key) (Some now) (kept_state table key)) is_row ∙ by_id (int_eq id key) refl where
      tells : now ≡ state_in_epoch (kept_state table id) epoch
      tells = says ∙ ap (λ i. state_in_epoch (kept_state table i) asked_epoch) is_asked ∙ ap (state_in_epoch (kept_state table id)) is_epoch

      own : int_eq id key ≡ has_producer_id key marker
      own = ap (λ i. int_eq i key) (sym marks.producer)

      state : is_data marker ≡ false → state_after_batch (state_of log key) marker ≡ state_in_epoch (state_of log key) (epoch_of marker)
      state e = ap (λ x. state_with_batch_if (x && int_eq (state_in_epoch (state_of log key) (epoch_of marker)).epoch (epoch_of marker)) (state_in_epoch (state_of log key) (epoch_of marker)) marker) e

      by_id : (t : Bool) → int_eq id key ≡ t → cond t (Some now) (kept_state table key) ≡ state_of (log ++ marker ∷ []) key
      by_id true e =
          ap (λ s. Some s) (tells ∙ ap (λ i. state_in_epoch (kept_state table i) epoch) (same_is id key e) ∙ ap (λ o. state_in_epoch o epoch) (describes key low) ∙ ap (state_in_epoch (state_of log key)) (sym marks.epoch_told) ∙ sym (state marks.control))
          ∙ sym (own_noted log key marker (sym own ∙ e))
      by_id false e = describes key low ∙ sym (other_noted log key marker (sym own ∙ e))
