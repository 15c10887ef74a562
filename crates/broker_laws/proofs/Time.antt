-- A tick ends what is over, and nothing else.
use Rattle.std.proofs.Common.{◌≡◌, ◌⊎◌, inl, inr, ℕ, ◌+◌, ◌<◌, ◌≤◌, ◌&&◌, Bool, true, false, cond, List, length, map, max, min, Option, Some, None, refl, sym, ap, ◌∙◌, arith}
use Rattle.std.specs.Prelude.{slice_get, nat_lt}
use Rattle.std.specs.Option.{option_map}
use Rattle.std.proofs.lemmas.Bool.{true≢false, ltb-true, ltb-false, lt-ltb, and_parts}
use Rattle.std.proofs.lemmas.List.{length-map}
use Rattle.std.proofs.lemmas.Option.{slice_get-map}
use Rattle.txn_coordinator.specs.declared.transaction.Transaction.{Transaction}
use Rattle.txn_coordinator.specs.declared.transaction.TransactionState.{TransactionState}
use Rattle.txn_coordinator.specs.declared.transaction.TransactionState.TheVariants.{Empty, Ongoing, PrepareCommit, PrepareAbort, CompleteCommit, CompleteAbort}
use Rattle.txn_coordinator.specs.Words.{is_ongoing}
use Rattle.txn_coordinator.specs.Preparing.{fenced_transaction}
use Rattle.txn_coordinator.specs.Expiry.{is_due, fenced_if_due}
use Rattle.group_offsets.specs.declared.group.Group.{Group}
use Rattle.group_offsets.specs.declared.member.Member.{Member}
use Rattle.group_offsets.specs.Group.{is_lapsed, without_member, without_lapsed as group_expired}
use Rattle.audit_trail.specs.declared.event.Event.TheVariants.{Tick}
use Rattle.broker_world.specs.World.{World}
use Rattle.broker_world.specs.Clock.{last_moment}
use Rattle.api_dispatch.specs.Step.{step}
use Rattle.broker_laws.specs.Time.{ShowsMoment, IsOver, EndsTransactions, IsLapsed, EndsMembers, TicksEndWhatIsOver}

-- ---- one of a list that is changed in turn

same_some : {A : Type 0} (a b : A) → Some a ≡ Some b → a ≡ b
same_some a b h = cc

changed_at : {A : Type 0} (change : A → A) (xs : List A) (i : ℕ) (a : A) → slice_get xs i ≡ Some a → slice_get (map change xs) i ≡ Some (change a)
changed_at change xs i a h = slice_get-map change xs i ∙ ap (option_map change) h

-- ---- the moment

at_most : (m told : ℕ) → (max m (min told last_moment) ≡ m) ⊎ (max m (min told last_moment) ≤ told)
at_most m told = by_test (nat_lt m (min told last_moment)) refl where
  by_test : (b : Bool) → nat_lt m (min told last_moment) ≡ b → (max m (min told last_moment) ≡ m) ⊎ (max m (min told last_moment) ≤ told)
  by_test true h = inr (omega (arith, ltb-true m (min told last_moment) h))
  by_test false h = inl (omega (arith, ltb-false m (min told last_moment) h))

shows : (w : World) (told : ℕ) → ShowsMoment w told (step w (Tick told))
shows w told = record {
  never_back = omega arith;
  no_further = at_most w.moment told;
  told_is = λ low. omega (arith, low);
}

-- ---- transactions

is_open : (p : TransactionState) → is_ongoing p ≡ true → p ≡ Ongoing
is_open Ongoing h = refl
is_open Empty h = absurd (true≢false (sym h))
is_open PrepareCommit h = absurd (true≢false (sym h))
is_open PrepareAbort h = absurd (true≢false (sym h))
is_open CompleteCommit h = absurd (true≢false (sym h))
is_open CompleteAbort h = absurd (true≢false (sym h))

due_is : (moment : ℕ) (t : Transaction) → IsOver moment t → is_due moment t ≡ true
due_is moment t over = (λ i. is_ongoing (over.ongoing i) && lt-ltb (t.start + t.timeout) moment over.end i)

over_is : (moment : ℕ) (t : Transaction) → is_due moment t ≡ true → IsOver moment t
over_is moment t due =
    let parts = and_parts (is_ongoing t.state) (nat_lt (t.start + t.timeout) moment) due in
    record { ongoing = is_open t.state parts.0; end = ltb-true (t.start + t.timeout) moment parts.1 }

is_fenced : (moment : ℕ) (t : Transaction) → IsOver moment t → fenced_if_due moment t ≡ fenced_transaction t
is_fenced moment t over = ap (λ (b : Bool). cond b (fenced_transaction t) t) (due_is moment t over)

stays : (moment : ℕ) (t : Transaction) → (IsOver moment t → ⊥) → fenced_if_due moment t ≡ t
stays moment t other = by_test (is_due moment t) refl where
  by_test : (b : Bool) → is_due moment t ≡ b → cond b (fenced_transaction t) t ≡ t
  by_test true due = absurd (other (over_is moment t due))
  by_test false due = refl

transactions : (w v : World) → v.coordinator.transactions ≡ map (fenced_if_due v.moment) w.coordinator.transactions → EndsTransactions w v
transactions w v is = record {
  as_many = ap length is ∙ length-map w.coordinator.transactions (fenced_if_due v.moment);
  over = λ i t u before after over.
      let changed : Some u ≡ Some (fenced_if_due v.moment t) = sym after ∙ ap (λ (l : List Transaction). slice_get l i) is ∙ changed_at (fenced_if_due v.moment) w.coordinator.transactions i t before in
      ap (λ (x : Transaction). x.state) (same_some u (fenced_if_due v.moment t) changed ∙ is_fenced v.moment t over);
  others = λ i t before other. ap (λ (l : List Transaction). slice_get l i) is ∙ changed_at (fenced_if_due v.moment) w.coordinator.transactions i t before ∙ ap (λ (x : Transaction). Some x) (stays v.moment t other);
}

-- ---- members

lapsed_is : (moment : ℕ) (o : Option Member) (m : Member) → o ≡ Some m → m.heard + m.session_timeout < moment → is_lapsed moment o ≡ true
lapsed_is moment o m has silent = ap (is_lapsed moment) has ∙ lt-ltb (m.heard + m.session_timeout) moment silent

is_let_go : (moment : ℕ) (g : Group) → IsLapsed moment g → group_expired moment g ≡ without_member g
is_let_go moment g h = ap (λ (b : Bool). cond b (without_member g) g) (lapsed_is moment g.member h.member h.has h.silent)

silent_is : (moment : ℕ) (g : Group) (o : Option Member) → g.member ≡ o → is_lapsed moment o ≡ true → IsLapsed moment g
silent_is moment g None has h = absurd (true≢false (sym h))
silent_is moment g (Some m) has h = record { member = m; has = has; silent = ltb-true (m.heard + m.session_timeout) moment h }

group_stays : (moment : ℕ) (g : Group) → (IsLapsed moment g → ⊥) → group_expired moment g ≡ g
group_stays moment g other = by_test (is_lapsed moment g.member) refl where
  by_test : (b : Bool) → is_lapsed moment g.member ≡ b → cond b (without_member g) g ≡ g
  by_test true h = absurd (other (silent_is moment g g.member refl h))
  by_test false h = refl

members : (w v : World) → v.groups ≡ map (group_expired v.moment) w.groups → EndsMembers w v
members w v is = record {
  as_many = ap length is ∙ length-map w.groups (group_expired v.moment);
  lapsed = λ i g h before after lapsed.
      let changed : Some h ≡ Some (group_expired v.moment g) = sym after ∙ ap (λ (l : List Group). slice_get l i) is ∙ changed_at (group_expired v.moment) w.groups i g before in
      ap (λ (x : Group). x.member) (same_some h (group_expired v.moment g) changed ∙ is_let_go v.moment g lapsed);
  others = λ i g before other. ap (λ (l : List Group). slice_get l i) is ∙ changed_at (group_expired v.moment) w.groups i g before ∙ ap (λ (x : Group). Some x) (group_stays v.moment g other);
}

pub ends : TicksEndWhatIsOver step
ends w told = record {
  moment = shows w told;
  transactions = transactions w (step w (Tick told)) refl;
  members = members w (step w (Tick told)) refl;
  logs = refl;
  bindings = refl;
}
