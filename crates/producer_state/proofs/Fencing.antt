-- A newer epoch fences the older ones.
use Rattle.std.proofs.Common.{◌≡◌, ℤ, List, [], ◌∷◌, ◌++◌, map, Option, Some, None, true, cond, refl, ap, ◌∙◌, arith}
use Rattle.std.specs.Prelude.{◌<ℤ◌}
use Rattle.std.specs.List.{filter}
use Rattle.std.proofs.lemmas.Int.{ints, clamps}
use Rattle.std.proofs.lemmas.List.{map-append}
use Rattle.std.proofs.lemmas.List.Elements.{filter-append}
use Rattle.record_batch.specs.Batch.{BatchData}
use Rattle.producer_state.specs.Sequences.{has_producer_id, epochs, greater_of, greatest_of, repeat}
use Rattle.producer_state.specs.Laws.{NewerFences}
use Rattle.producer_state.proofs.Numbers.{same_here}
use Rattle.producer_state.proofs.Noting.{epoch_of, max_swap}
use Rattle.producer_state.proofs.Judging.{id_of, judged_at, fenced_below}
use Rattle.producer_state.proofs.Accepting.{place}

greatest_among : (ns ms : List ℤ) (x : ℤ) → greatest_of (ns ++ x ∷ ms) ≡ Some (greater_of x (greatest_of (ns ++ ms)))
greatest_among [] ms x = refl
greatest_among (a ∷ ns) ms x = ap (λ o. Some (greater_of a o)) (greatest_among ns ms x) ∙ ap (λ n. Some n) (max_swap a x (greatest_of (ns ++ ms)))

above : (low x : ℤ) (o : Option ℤ) → low <ℤ x → low <ℤ greater_of x o
above low x None lt = lt
above low x (Some m) lt = omega (arith, ints, clamps)

epochs_among : (id : ℤ) (before after : List BatchData) (b : BatchData) → has_producer_id id b ≡ true → epochs id (before ++ b ∷ after) ≡ epochs id before ++ epoch_of b ∷ epochs id after
epochs_among id before after b own =
    ap (map epoch_of) (filter-append (has_producer_id id) before (b ∷ after))
    ∙ map-append epoch_of (filter (has_producer_id id) before) (filter (has_producer_id id) (b ∷ after))
    ∙ ap (λ t. epochs id before ++ map epoch_of (cond t (b ∷ filter (has_producer_id id) after) (filter (has_producer_id id) after))) own

-- the greatest epoch where this batch or marker stands
abbrev most : List BatchData → List BatchData → BatchData → ℤ → ℤ
most before after b id = greater_of (epoch_of b) (greatest_of (epochs id before ++ epochs id after))

pub fenced : NewerFences
fenced before after newer older same low lt =
    judged_at (before ++ newer ∷ after) older (Some (most before after newer (id_of older))) low
    (ap greatest_of (epochs_among (id_of older) before after newer (same_here (id_of newer) (id_of older) same)) ∙ greatest_among (epochs (id_of older) before) (epochs (id_of older) after) (epoch_of newer))
    ∙ fenced_below (place (before ++ newer ∷ after) (id_of older) (most before after newer (id_of older))) older (repeat (before ++ newer ∷ after) older)
    (above (epoch_of older) (epoch_of newer) (greatest_of (epochs (id_of older) before ++ epochs (id_of older) after)) lt)
