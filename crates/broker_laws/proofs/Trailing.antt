-- Where a trail's entries, and the events of a run, lead.
use Rattle.std.proofs.Common.{◌≡◌, ℕ, ◌≤◌, List, [], ◌∷◌, ◌++◌, length, Option, Some, None, false, refl, sym, ap, subst, ◌∙◌, inl, inr, append_assoc, arith}
use Rattle.std.specs.Prelude.{slice_get}
use Rattle.std.proofs.lemmas.List.{map-append, length-map}
use Rattle.record_batch.specs.declared.transaction_result.TransactionResult.{TransactionResult}
use Rattle.record_batch.specs.declared.transaction_result.TransactionResult.TheVariants.{Abort}
use Rattle.msg_admin.specs.declared.request.Request.TheVariants.{InitProducerId, EndTxn}
use Rattle.msg_admin.specs.declared.reply.Reply.TheVariants as replies
use Rattle.audit_trail.specs.declared.event.Event.{Event}
use Rattle.audit_trail.specs.declared.event.Event.TheVariants.{Ask, Mark}
use Rattle.audit_trail.specs.declared.trail.Entry.{Entry}
use Rattle.request_handlers.specs.Receipt.{ReceiptValue}
use Rattle.txn_coordinator.specs.declared.transaction.Transaction.{Transaction}
use Rattle.txn_coordinator.specs.declared.marker.PendingMarker.{PendingMarker}
use Rattle.txn_coordinator.specs.Warrants.{with_front_written}
use Rattle.txn_laws.specs.Sound.{Each}
use Rattle.txn_laws.specs.Laws.{up_to_last}
use Rattle.txn_laws.proofs.Base.{each_append}
use Rattle.broker_world.specs.World.{World}
use Rattle.broker_world.specs.First.{first_world}
use Rattle.txn_handlers.specs.EndTxn.{ending_id, ending_outcome}
use Rattle.txn_handlers.specs.Marks.{mark_by}
use Rattle.api_dispatch.specs.Step.{step, reply_to, refusals_of, world_after_events}
use Rattle.request_handlers.specs.declared.stop.Stop.{Stop}
use Rattle.request_handlers.specs.Core.{CoreValue, IsHistory, IsRun, entry_of, history, events_of, core_after}
use Rattle.request_handlers.proofs.Histories.{stopped, stopped_trail, stopped_world}
use Rattle.broker_laws.specs.Moves.{count_of_mark_events}
use Rattle.broker_laws.specs.Laws.{IsPreparedBy, IsCompletedBy, HasIdAndEpoch, IsShutOut, FencedWriteNothing}
use Rattle.broker_laws.specs.Trails.{IsCompleted, IsUnrefusedMark, IsCompletedIn, world_after_entries, TrailTells, CompletesOverATrail, CompletesBeforeIdle, CompletesOverARun, FencedOverATrail, FencedOverARun}
use Rattle.broker_laws.proofs.Reading.{marks_are_not_refused}
use Rattle.broker_laws.proofs.Reached.{IsGood, good_step, good_reached, good}
use Rattle.broker_laws.proofs.Completing.{prepared_completes}
use Rattle.broker_laws.proofs.Deciding.{prepared_decides}
use Rattle.broker_laws.proofs.LogEnds.{prepared_ends}
use Rattle.broker_laws.proofs.Ending.{ends, enough}
use Rattle.broker_laws.proofs.Preparing.{prepares}
use Rattle.broker_laws.proofs.Fencing.{fenced_write_nothing}
use Rattle.broker_laws.proofs.Cores.{in_cores}

-- ---- a world

-- what is prepared in a good world is completed where enough marker steps lead
completed : (w : World) → IsGood w → (e : Event) (id : List ℕ) (t : Transaction) (o : TransactionResult) (later : List Event) → IsPreparedBy step w e id t o → up_to_last (step w e).coordinator.warrants id ≤ count_of_mark_events later → IsCompleted w (world_after_events (step w e) later) e t o
completed w good e id t o later by enough = record {
  markers = prepared_completes w good e id t o later by enough;
  logs = prepared_ends w good e id t o later by enough;
  groups = prepared_decides w good e id t o later by enough;
}

complete_record : (w : World) → IsGood w → (e : Event) (id : List ℕ) (t : Transaction) (o : TransactionResult) (later : List Event) → IsPreparedBy step w e id t o → up_to_last (step w e).coordinator.warrants id ≤ count_of_mark_events later → IsCompletedBy (step w e) later id o
complete_record w good e id t o later by enough = ends later (step w e) (good_step w e good) id by.transaction o by.after by.waits enough

completed_in : (core : CoreValue) (w : World) → IsGood w → (e : Event) (id : List ℕ) (t : Transaction) (o : TransactionResult) (later : List Event) → (core.down ≡ false → core.world ≡ world_after_events (step w e) later) → Each IsUnrefusedMark core.trail → IsPreparedBy step w e id t o
    → up_to_last (step w e).coordinator.warrants id ≤ count_of_mark_events later → IsCompletedIn core w e later id t o
completed_in core w good e id t o later leads unrefused by enough = record {
  world = λ up. subst (λ v. IsCompleted w v e t o) (sym (leads up)) (completed w good e id t o later by enough);
  record_complete = complete_record w good e id t o later by enough;
  unrefused = unrefused;
}

-- ---- the trail

reached_append : (w : World) (xs ys : List Event) → world_after_events w (xs ++ ys) ≡ world_after_events (world_after_events w xs) ys
reached_append w [] ys = refl
reached_append w (x ∷ xs) ys = reached_append (step w x) xs ys

history_unrefused : (w : World) (es : List Event) → Each IsUnrefusedMark (history w es)
history_unrefused w [] = tt
history_unrefused w (e ∷ es) = (λ is. ap (refusals_of w) is ∙ marks_are_not_refused w, history_unrefused (step w e) es)

trail_unrefused : (core : CoreValue) → IsHistory core → Each IsUnrefusedMark core.trail
trail_unrefused core h = subst (Each IsUnrefusedMark) (sym h.entries) (history_unrefused (first_world core.settings) (events_of core.trail))

trail_leads : (core : CoreValue) → IsHistory core → (before later : List Entry) (x : Entry) → core.trail ≡ before ++ x ∷ later → core.down ≡ false → core.world ≡ world_after_events (step (world_after_entries core before) x.event) (events_of later)
trail_leads core h before later x parts up =
    let first = first_world core.settings in
    h.world up
    ∙ ap (λ l. world_after_events first (events_of l)) parts
    ∙ ap (world_after_events first) (map-append (λ (y : Entry). y.event) before (x ∷ later))
    ∙ reached_append first (events_of before) (x.event ∷ events_of later)

pub completes_over_a_trail : CompletesOverATrail
completes_over_a_trail core is before later x parts id t o by enough =
    completed_in core (world_after_entries core before) (good core.settings (events_of before)) x.event id t o (events_of later)
    (trail_leads core is.history before later x parts)
    (trail_unrefused core is.history)
    by enough

-- ---- an entry

history_at : (w : World) (before later : List Event) (e : Event) → slice_get (history w (before ++ e ∷ later)) (length before) ≡ Some (entry_of (world_after_events w before) e)
history_at w [] later e = refl
history_at w (x ∷ xs) later e = history_at (step w x) xs later e

get_at : (before later : List Entry) (x : Entry) → slice_get (before ++ x ∷ later) (length before) ≡ Some x
get_at [] later x = refl
get_at (y ∷ ys) later x = get_at ys later x

-- it is what is kept of its event, in the world in which that was taken
entry_is : (core : CoreValue) → IsHistory core → (before later : List Entry) (x : Entry) → core.trail ≡ before ++ x ∷ later → x ≡ entry_of (world_after_entries core before) x.event
entry_is core h before later x parts =
    let first = first_world core.settings in
    let events = ap events_of parts ∙ map-append (λ (y : Entry). y.event) before (x ∷ later) in
    let place : length before ≡ length (events_of before) = sym (length-map before (λ (y : Entry). y.event)) in
    let told : slice_get core.trail (length before) ≡ Some (entry_of (world_after_entries core before) x.event) =
    ap (λ l. slice_get l (length before)) (h.entries ∙ ap (history first) events)
    ∙ ap (slice_get (history first (events_of before ++ x.event ∷ events_of later))) place
    ∙ history_at first (events_of before) (events_of later) x.event in
    let twice : Some x ≡ Some (entry_of (world_after_entries core before) x.event) = sym (ap (λ l. slice_get l (length before)) parts ∙ get_at before later x) ∙ told in
    cc

reply_is : (core : CoreValue) → IsHistory core → (before later : List Entry) (x : Entry) → core.trail ≡ before ++ x ∷ later → (e : Event) → x.event ≡ e → x.reply ≡ reply_to (world_after_entries core before) e
reply_is core h before later x parts e is = ap (λ (y : Entry). y.reply) (entry_is core h before later x parts) ∙ ap (reply_to (world_after_entries core before)) is

pub trail_tells : TrailTells
trail_tells core is before later x parts =
    let w = world_after_entries core before in
    record {
      ended = λ caller client r reply t event told none found ongoing.
          let e = Ask caller client (EndTxn r) in
          subst (λ y. IsPreparedBy step w y (ending_id r) t (ending_outcome r)) (sym event) ((prepares w).ended caller client r reply t found ongoing (sym (reply_is core is.history before later x parts e event) ∙ told) none);
      taken_over = λ caller client r id t event own reply found ongoing.
          let e = Ask caller client (InitProducerId r) in
          subst (λ y. IsPreparedBy step w y id t Abort) (sym event) ((prepares w).taken_over caller client r id t own found ongoing (sym (reply_is core is.history before later x parts e event) ∙ reply));
      timed_out = λ told id t event found due. subst (λ y. IsPreparedBy step w y id t Abort) (sym event) ((prepares w).timed_out told id t found due);
    }

-- ---- a marker step that finds nothing to write

none_owed : (w : World) (ws : List PendingMarker) → (mark_by w (slice_get ws 0)).reply ≡ replies.Idle → ws ≡ []
none_owed w [] h = refl
none_owed w (m ∷ ws) h = absurd (let clash : replies.Marked (length (with_front_written w.coordinator).warrants) ≡ replies.Idle = h in cc)

marks_append : (xs ys : List Event) → count_of_mark_events xs ≤ count_of_mark_events (xs ++ ys)
marks_append [] ys = omega arith
marks_append (x ∷ xs) ys = let rest = marks_append xs ys in omega (arith, rest)

pub completes_before_idle : CompletesBeforeIdle
completes_before_idle core is before between rest x y parts id t o by event reply =
    let w = world_after_entries core before in
    let here = good core.settings (events_of before) in
    let then = world_after_events (step w x.event) (events_of between) in
    let longer : core.trail ≡ (before ++ x ∷ between) ++ y ∷ rest = parts ∙ sym (append_assoc before (x ∷ between) (y ∷ rest)) in
    let leads : world_after_entries core (before ++ x ∷ between) ≡ then =
    ap (world_after_events (first_world core.settings)) (map-append (λ (z : Entry). z.event) before (x ∷ between)) ∙ reached_append (first_world core.settings) (events_of before) (x.event ∷ events_of between) in
    let idle : reply_to then Mark ≡ replies.Idle = ap (λ v. reply_to v Mark) (sym leads) ∙ sym (reply_is core is.history (before ++ x ∷ between) rest y longer Mark event) ∙ reply in
    let none : then.coordinator.warrants ≡ [] = none_owed then then.coordinator.warrants idle in
    let few = enough (events_of between) (step w x.event) (good_step w x.event here) id by.transaction o by.after by.waits none in
    let all : count_of_mark_events (events_of between) ≤ count_of_mark_events (events_of (between ++ y ∷ rest)) =
    subst (λ l. count_of_mark_events (events_of between) ≤ count_of_mark_events l) (sym (map-append (λ (z : Entry). z.event) between (y ∷ rest))) (marks_append (events_of between) (events_of (y ∷ rest))) in
    completes_over_a_trail core is before (between ++ y ∷ rest) x parts id t o by (omega (arith, few, all))

-- ---- a run

ran_unrefused : (old new : CoreValue) (es : List Event) (rs : List ReceiptValue) (stop : Option Stop) → IsRun old es rs stop new → Each IsUnrefusedMark old.trail → Each IsUnrefusedMark new.trail
ran_unrefused old new [] [] None run h = subst (λ (c : CoreValue). Each IsUnrefusedMark c.trail) (sym run) h
ran_unrefused old new [] [] (Some stop) run h = absurd run
ran_unrefused old new [] (r ∷ rs) stop run h = absurd run
ran_unrefused old new (e ∷ es) [] None run h = absurd run
ran_unrefused old new (e ∷ es) [] (Some stop) run h = subst (Each IsUnrefusedMark) (sym (stopped_trail old new (stopped stop old e new run))) h
ran_unrefused old new (e ∷ es) (r ∷ rs) stop run h =
    ran_unrefused (core_after old e) new es rs stop run.3
    (each_append IsUnrefusedMark old.trail _ h (λ is. ap (refusals_of old.world) is ∙ marks_are_not_refused old.world, tt))

same_first : (x y : Event) (xs ys : List Event) → x ∷ xs ≡ y ∷ ys → x ≡ y
same_first x y xs ys h = cc

same_rest : (x y : Event) (xs ys : List Event) → x ∷ xs ≡ y ∷ ys → xs ≡ ys
same_rest x y xs ys h = cc

-- the events with a receipt lead to the new world
ran_leads : (old new : CoreValue) (es : List Event) (rs : List ReceiptValue) (stop : Option Stop) → IsRun old es rs stop new → (taken rest : List Event) → es ≡ taken ++ rest → length rs ≡ length taken → new.down ≡ false → new.world ≡ world_after_events old.world taken
ran_leads old new [] [] None run [] rest parts same up = ap (λ (c : CoreValue). c.world) run
ran_leads old new [] [] None run (x ∷ taken) rest parts same up = absurd (omega (arith, same))
ran_leads old new [] [] (Some stop) run taken rest parts same up = absurd run
ran_leads old new [] (r ∷ rs) stop run taken rest parts same up = absurd run
ran_leads old new (e ∷ es) [] None run taken rest parts same up = absurd run
ran_leads old new (e ∷ es) [] (Some stop) run [] rest parts same up = stopped_world old new (stopped stop old e new run) up
ran_leads old new (e ∷ es) [] (Some stop) run (x ∷ taken) rest parts same up = absurd (omega (arith, same))
ran_leads old new (e ∷ es) (r ∷ rs) stop run [] rest parts same up = absurd (omega (arith, same))
ran_leads old new (e ∷ es) (r ∷ rs) stop run (x ∷ taken) rest parts same up =
    ran_leads (core_after old e) new es rs stop run.3 taken rest (same_rest e x es (taken ++ rest) parts) (omega (arith, same)) up
    ∙ ap (λ y. world_after_events (step old.world y) taken) (same_first e x es (taken ++ rest) parts)

-- a core that took an event was up
ran_up : (old new : CoreValue) (es : List Event) (rs : List ReceiptValue) (stop : Option Stop) → IsRun old es rs stop new → (before later : List Event) (e : Event) → length rs ≡ length (before ++ e ∷ later) → old.down ≡ false
ran_up old new [] (r ∷ rs) stop run before later e same = absurd run
ran_up old new (x ∷ es) (r ∷ rs) stop run before later e same = run.0.up
ran_up old new es [] stop run [] later e same = absurd (omega (arith, same))
ran_up old new es [] stop run (y ∷ before) later e same = absurd (omega (arith, same))

pub completes_over_a_run : CompletesOverARun
completes_over_a_run old new es rs stop is (inr none) before later rest e parts same id t o by enough = absurd (no_receipt none.0 before later e same) where
  no_receipt : rs ≡ [] → (before later : List Event) (e : Event) → length rs ≡ length (before ++ e ∷ later) → ⊥
  no_receipt none [] later e same = let zero = ap length none in omega (arith, same, zero)
  no_receipt none (x ∷ before) later e same = let zero = ap length none in omega (arith, same, zero)
completes_over_a_run old new es rs stop is (inl run) before later rest e parts same id t o by enough =
    let up = ran_up old new es rs stop run before later e same in
    let here : IsGood old.world = subst IsGood (sym (is.history.world up)) (good old.settings (events_of old.trail)) in
    completed_in new (world_after_events old.world before) (good_reached old.world before here) e id t o later
    (λ now. ran_leads old new es rs stop run (before ++ e ∷ later) rest (parts ∙ sym (append_assoc before (e ∷ later) rest)) same now ∙ reached_append old.world before (e ∷ later))
    (ran_unrefused old new es rs stop run (trail_unrefused old is.history))
    by enough

-- ---- fencing

pub fenced_over_a_trail : FencedOverATrail
fenced_over_a_trail core is before between after rest parts id pair had left =
    let first = first_world core.settings in
    let here = world_after_entries core before in
    let gone : world_after_entries core (before ++ between) ≡ world_after_events here (events_of between) =
    ap (world_after_events first) (map-append (λ (x : Entry). x.event) before between) ∙ reached_append first (events_of before) (events_of between) in
    let later : world_after_entries core (before ++ (between ++ after)) ≡ world_after_events (world_after_events here (events_of between)) (events_of after) =
    ap (world_after_events first) (map-append (λ (x : Entry). x.event) before (between ++ after) ∙ ap (λ l. events_of before ++ l) (map-append (λ (x : Entry). x.event) between after))
    ∙ reached_append first (events_of before) (events_of between ++ events_of after) ∙ reached_append here (events_of between) (events_of after) in
    let out = fenced_write_nothing core.settings (events_of before) (events_of between) (events_of after) id pair had (λ has. left (subst (λ (w : World). HasIdAndEpoch w id pair) (sym gone) has)) in
    subst (λ (w : World). IsShutOut pair w (world_after_entries core (before ++ (between ++ after)))) (sym gone) (subst (IsShutOut pair (world_after_events here (events_of between))) (sym later) out)

pub fenced_over_a_run : FencedOverARun
fenced_over_a_run old new es rs stop is (inr none) before after rest parts same up id pair had left now = absurd (nothing before same left) where
  nothing : (before : List Event) → length rs ≡ length (before ++ after) → (HasIdAndEpoch (world_after_events old.world before) id pair → ⊥) → ⊥
  nothing [] same left = left had
  nothing (x ∷ before) same left = let zero = ap length none.0 in omega (arith, same, zero)
fenced_over_a_run old new es rs stop is (inl run) before after rest parts same up id pair had left now =
    let here : FencedWriteNothing old.world = in_cores FencedWriteNothing fenced_write_nothing old is up in
    let leads : new.world ≡ world_after_events (world_after_events old.world before) after =
    ran_leads old new es rs stop run (before ++ after) rest (parts ∙ sym (append_assoc before after rest)) same now ∙ reached_append old.world before after in
    subst (IsShutOut pair (world_after_events old.world before)) (sym leads) (here before after id pair had left)
