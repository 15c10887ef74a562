-- How many markers are told as pending (KIP-98, 'WriteTxnMarkersRequest'): the clock of a served
-- broker goes by that number.
use Rattle.std.specs.Prelude.{◌≡◌, ℕ, length}
use Rattle.msg_admin.specs.declared.reply.Reply.{Reply}
use Rattle.msg_admin.specs.declared.reply.Reply.TheVariants as replies
use Rattle.audit_trail.specs.declared.event.Event.TheVariants.{Mark, Tick}
use Rattle.broker_world.specs.World.{World}
use Rattle.api_dispatch.specs.Step.{outcome}
use Rattle.wrong_rules.specs.Steps.{StepRule, with_reply}

-- what a marker step and a tick tell as left is what is pending afterwards
pub record TellsWhatIsPending (rule : StepRule) : Type 0 where
  pub marked : (w : World) (left : ℕ) → (rule w Mark).reply ≡ replies.Marked left
      → length (rule w Mark).world.coordinator.warrants ≡ left
  pub ticked : (w : World) (moment left : ℕ) → (rule w (Tick moment)).reply ≡ replies.Ticked left
      → length (rule w (Tick moment)).world.coordinator.warrants ≡ left

-- ---- wrong

abbrev pub none_after_mark : Reply → Reply
none_after_mark (replies.Marked left) = replies.Marked 0
none_after_mark reply = reply

-- no marker is told as left after another
abbrev pub step_marking_the_last : StepRule
step_marking_the_last w e = with_reply none_after_mark (outcome w e)

abbrev pub none_after_tick : Reply → Reply
none_after_tick (replies.Ticked left) = replies.Ticked 0
none_after_tick reply = reply

-- no tick tells of a marker
abbrev pub step_ticking_without_markers : StepRule
step_ticking_without_markers w e = with_reply none_after_tick (outcome w e)
