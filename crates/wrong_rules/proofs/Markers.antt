-- What is told as left is pending, and wrong ones tell of none.
use Rattle.std.proofs.Common.{◌≡◌, ℕ, pos, [], ◌∷◌, length, Option, Some, None, refl}
use Rattle.msg_admin.specs.declared.reply.Reply.TheVariants as replies
use Rattle.txn_coordinator.specs.declared.marker.PendingMarker.{PendingMarker}
use Rattle.txn_coordinator.specs.Warrants.{next_warrant}
use Rattle.broker_world.specs.World.{World}
use Rattle.txn_handlers.specs.Marks.{mark_by}
use Rattle.api_dispatch.specs.Step.{outcome}
use Rattle.wrong_rules.specs.Steps.{world_after, cluster_of_two, inits, adds, commits}
use Rattle.wrong_rules.specs.Markers.{TellsWhatIsPending, step_marking_the_last, step_ticking_without_markers}

same_marked : (a b : ℕ) → replies.Marked a ≡ replies.Marked b → a ≡ b
same_marked a b h = cc

same_ticked : (a b : ℕ) → replies.Ticked a ≡ replies.Ticked b → a ≡ b
same_ticked a b h = cc

marked_by : (w : World) (next : Option PendingMarker) (left : ℕ) → (mark_by w next).reply ≡ replies.Marked left → length (mark_by w next).world.coordinator.warrants ≡ left
marked_by w None left h = absurd (let clash : replies.Idle ≡ replies.Marked left = h in cc)
marked_by w (Some m) left h = same_marked (length (mark_by w (Some m)).world.coordinator.warrants) left h

pub tells_what_is_pending : TellsWhatIsPending outcome
tells_what_is_pending = record {
  marked = λ w left h. marked_by w (next_warrant w.coordinator) left h;
  ticked = λ w moment left h. same_ticked _ left h;
}

-- ---- wrong ones, where a transaction over two partitions was committed

abbrev prepared : World
prepared = world_after outcome cluster_of_two (inits (pos 1000) ∷ adds (pos 0) (pos 0 ∷ pos 1 ∷ []) ∷ commits (pos 0) ∷ [])

pub not_the_last : ¬ TellsWhatIsPending step_marking_the_last
not_the_last law = let clash : ◌≡◌ {A = ℕ} 1 0 = law.marked prepared 0 refl in cc

pub not_without : ¬ TellsWhatIsPending step_ticking_without_markers
not_without law = let clash : ◌≡◌ {A = ℕ} 2 0 = law.ticked prepared 0 0 refl in cc
