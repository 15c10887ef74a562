-- What is printed for an event that the core took.
use Rattle.std.proofs.Common.{◌≡◌, ℕ, ℤ, List, [], ◌∷◌, ◌++◌, length, Some, true, nat_lt, refl, sym, ap, ◌∙◌}
use Rattle.std.specs.Prelude.{slice_get}
use Rattle.std.proofs.lemmas.List.{length-map}
use Rattle.std.proofs.lemmas.Bool.Decides.{Decides-ltb}
use Rattle.audit_trail.specs.declared.event.Event.{Event}
use Rattle.audit_trail.specs.declared.trail.Entry.{Entry}
use Rattle.request_handlers.specs.Receipt.{ReceiptValue}
use Rattle.request_handlers.specs.Core.{CoreValue, IsReady, trail_limit, events_of}
use Rattle.request_handlers.specs.Headline.{state_after, reference_entry, StepIsRight}
use Rattle.request_handlers.proofs.Histories.{events_push}
use Rattle.request_handlers.specs.Events.{reference_step}
use Rattle.audit_trail.specs.Line.{audit_lines}
use Rattle.commands.specs.Replay.{goes, step_transition, event_text, reply_line, refusals_in, refusals_at, IsUp}

last_kept : {A : Type 0} (xs : List A) (x : A) → slice_get (xs ++ x ∷ []) (length xs) ≡ Some x
last_kept [] x = refl
last_kept (y ∷ ys) x = last_kept ys x

events_number : (core : CoreValue) → length (events_of core.trail) ≡ length core.trail
events_number core = length-map core.trail (λ (x : Entry). x.event)

module _ (core : CoreValue) (correlation : ℤ) (e : Event) where
  abbrev before : List Event
  before = events_of core.trail

  -- a core that can take an event takes it
  ready_turn : IsReady core → step_transition core.settings before correlation e ≡ goes (before ++ e ∷ []) (event_text correlation (reference_step (state_after core.settings before) e))
  ready_turn ready = rw room refl where
    room : nat_lt (length before) (trail_limit core.settings) ≡ true
    room = ap (λ (n : ℕ). nat_lt n (trail_limit core.settings)) (events_number core) ∙ (Decides-ltb (length core.trail) (trail_limit core.settings)).1 ready.room

  pub printed : (new : CoreValue) (receipt : ReceiptValue) (text : List ℕ)
      → IsReady core → StepIsRight core e receipt new
      → text ≡ reply_line correlation receipt.reply ++ audit_lines (refusals_at new.trail receipt.place)
      → (step_transition core.settings before correlation e ≡ goes (events_of new.trail) text) × IsUp core.settings new
  printed new receipt text ready is shown = (ready_turn ready ∙ (λ i. goes (sym events i) (sym whole i)), (is.settings, is.up)) where
    events : events_of new.trail ≡ before ++ e ∷ []
    events = ap events_of is.entry ∙ events_push core.trail (reference_entry (state_after core.settings before) e)

    kept : refusals_at new.trail receipt.place ≡ (reference_step (state_after core.settings before) e).refusals
    kept =
        ap (λ (n : ℕ). refusals_at new.trail n) (is.answered.place ∙ events_number core)
        ∙ ap (λ (l : List Entry). refusals_at l (length core.trail)) is.entry
        ∙ ap refusals_in (last_kept core.trail (reference_entry (state_after core.settings before) e))

    whole : text ≡ event_text correlation (reference_step (state_after core.settings before) e)
    whole = shown ∙ (λ i. reply_line correlation (is.answered.reply i) ++ audit_lines (kept i))
