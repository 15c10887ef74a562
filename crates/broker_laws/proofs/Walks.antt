-- What holds of each part that a walk allows holds of the walk.
use Rattle.std.proofs.Common.{◌≡◌, ℕ, ◌+◌, List, [], ◌∷◌, ◌++◌, Option, Some, None, refl, sym, ap, ◌∙◌, arith}
use Rattle.authorizer.specs.declared.answer.Refusal.{Refusal}
use Rattle.authorizer.specs.Asking.{Rules}
use Rattle.wire_types.specs.declared.topic.Topic.{Topic}
use Rattle.walk.specs.Rule.{PartRule, refusal_of}
use Rattle.walk.specs.Codes.{refusal_code}
use Rattle.walk.specs.Steps.{answer_by, world_by, part_world, parts_world, parts_answers, topics_world, topics_answers}
use Rattle.txn_laws.specs.Small.{World as SmallWorld, Move, count_of_marks as small_marks}
use Rattle.txn_laws.specs.Sound.{Each}
use Rattle.txn_laws.specs.Kept.{kept_world_after_moves}
use Rattle.txn_laws.proofs.GroupsKeep.{kept_append}
use Rattle.broker_laws.specs.Moves.{unless_refused, part_moves, parts_moves, topics_moves}

-- ---- marks among moves

pub marks_append : (ms ns : List Move) → small_marks (ms ++ ns) ≡ small_marks ms + small_marks ns
marks_append [] ns = omega arith
marks_append (m ∷ ms) ns = omega (arith, marks_append ms ns)

pub unmarked_refusal : (o : Option Refusal) (ms : List Move) → small_marks ms ≡ 0 → small_marks (unless_refused o ms) ≡ 0
unmarked_refusal None ms h = h
unmarked_refusal (Some x) ms h = refl

-- ---- the walk leads where its moves do

module _ {P A W : Type 0} (api : PartRule P A W) (rules : Rules) (made : W → List ℕ → P → List Move) (at : W → SmallWorld) (one : (w : W) (name : List ℕ) (p : P) → at (api.after w name p) ≡ kept_world_after_moves (at w) (made w name p)) where
  part_moved : (w : W) (name : List ℕ) (p : P) → at (part_world api rules w name p) ≡ kept_world_after_moves (at w) (part_moves api rules made w name p)
  part_moved w name p = by_refusal (refusal_of api rules name p) where
    by_refusal : (o : Option Refusal) → at (world_by api o w name p) ≡ kept_world_after_moves (at w) (unless_refused o (made w name p))
    by_refusal (Some x) = refl
    by_refusal None = one w name p

  parts_moved : (w : W) (name : List ℕ) (ps : List P) → at (parts_world api rules w name ps) ≡ kept_world_after_moves (at w) (parts_moves api rules made w name ps)
  parts_moved w name [] = refl
  parts_moved w name (p ∷ ps) =
      let next = part_world api rules w name p in
      parts_moved next name ps
      ∙ ap (λ s. kept_world_after_moves s (parts_moves api rules made next name ps)) (part_moved w name p)
      ∙ sym (kept_append (at w) (part_moves api rules made w name p) (parts_moves api rules made next name ps))

  pub walk_moved : (w : W) (ts : List (Topic P)) → at (topics_world api rules w ts) ≡ kept_world_after_moves (at w) (topics_moves api rules made w ts)
  walk_moved w [] = refl
  walk_moved w (t ∷ ts) =
      let next = parts_world api rules w t.name t.partitions in
      walk_moved next ts
      ∙ ap (λ s. kept_world_after_moves s (topics_moves api rules made next ts)) (parts_moved w t.name t.partitions)
      ∙ sym (kept_append (at w) (parts_moves api rules made w t.name t.partitions) (topics_moves api rules made next ts))

-- ---- a walk without marks

module _ {P A W : Type 0} (api : PartRule P A W) (rules : Rules) (made : W → List ℕ → P → List Move) (none : (w : W) (name : List ℕ) (p : P) → small_marks (made w name p) ≡ 0) where
  unmarked_part : (w : W) (name : List ℕ) (p : P) → small_marks (part_moves api rules made w name p) ≡ 0
  unmarked_part w name p = unmarked_refusal (refusal_of api rules name p) (made w name p) (none w name p)

  unmarked_parts : (w : W) (name : List ℕ) (ps : List P) → small_marks (parts_moves api rules made w name ps) ≡ 0
  unmarked_parts w name [] = refl
  unmarked_parts w name (p ∷ ps) =
      let next = part_world api rules w name p in
      omega (arith, marks_append (part_moves api rules made w name p) (parts_moves api rules made next name ps), unmarked_part w name p, unmarked_parts next name ps)

  pub unmarked_walk : (w : W) (ts : List (Topic P)) → small_marks (topics_moves api rules made w ts) ≡ 0
  unmarked_walk w [] = refl
  unmarked_walk w (t ∷ ts) =
      let next = parts_world api rules w t.name t.partitions in
      omega (arith, marks_append (parts_moves api rules made w t.name t.partitions) (topics_moves api rules made next ts), unmarked_parts w t.name t.partitions, unmarked_walk next ts)

-- ---- what each part keeps is kept

module _ {P A W : Type 0} (api : PartRule P A W) (rules : Rules) (Goes : W → W → Type 0) (same : (w : W) → Goes w w) (joined : (u v w : W) → Goes u v → Goes v w → Goes u w) (one : (w : W) (name : List ℕ) (p : P) → Goes w (api.after w name p)) where
  part_goes : (w : W) (name : List ℕ) (p : P) → Goes w (part_world api rules w name p)
  part_goes w name p = by_refusal (refusal_of api rules name p) where
    by_refusal : (o : Option Refusal) → Goes w (world_by api o w name p)
    by_refusal (Some x) = same w
    by_refusal None = one w name p

  parts_go : (w : W) (name : List ℕ) (ps : List P) → Goes w (parts_world api rules w name ps)
  parts_go w name [] = same w
  parts_go w name (p ∷ ps) =
      let next = part_world api rules w name p in
      joined w next (parts_world api rules next name ps) (part_goes w name p) (parts_go next name ps)

  pub walk_goes : (w : W) (ts : List (Topic P)) → Goes w (topics_world api rules w ts)
  walk_goes w [] = same w
  walk_goes w (t ∷ ts) =
      let next = parts_world api rules w t.name t.partitions in
      joined w next (topics_world api rules next ts) (parts_go w t.name t.partitions) (walk_goes next ts)

-- ---- what each answer is

module _ {P A W : Type 0} (api : PartRule P A W) (rules : Rules) (Is : A → Type 0) (plain : (w : W) (name : List ℕ) (p : P) → Is (api.plain w name p)) (refused : (r : Refusal) (name : List ℕ) (p : P) → Is (api.refused (refusal_code r) name p)) where
  part_is : (w : W) (name : List ℕ) (p : P) → Is (answer_by api (refusal_of api rules name p) w name p)
  part_is w name p = by_refusal (refusal_of api rules name p) where
    by_refusal : (o : Option Refusal) → Is (answer_by api o w name p)
    by_refusal (Some r) = refused r name p
    by_refusal None = plain w name p

  parts_are : (w : W) (name : List ℕ) (ps : List P) → Each Is (parts_answers api rules w name ps)
  parts_are w name [] = tt
  parts_are w name (p ∷ ps) = (part_is w name p, parts_are (part_world api rules w name p) name ps)

  pub walk_is : (w : W) (ts : List (Topic P)) → Each (λ (t : Topic A). Each Is t.partitions) (topics_answers api rules w ts)
  walk_is w [] = tt
  walk_is w (t ∷ ts) = (parts_are w t.name t.partitions, walk_is (parts_world api rules w t.name t.partitions) ts)
