-- What others ask is unseen.
use Rattle.std.proofs.Common.{◌≡◌, ℕ, ◌+◌, Bool, true, false, cond, List, [], ◌∷◌, map, Some, refl, sym, ap, ◌∙◌}
use Rattle.std.specs.Option.{option_map}
use Rattle.std.specs.Str.{bytes_eq}
use Rattle.acl_binding.specs.declared.words.Kind.{Kind}
use Rattle.acl_binding.specs.declared.words.Kind.TheVariants.{Topic, Group, Cluster, TransactionalId}
use Rattle.audit_trail.specs.declared.event.Event.{Event}
use Rattle.audit_trail.specs.declared.event.Event.TheVariants.{Ask, Mark, Tick}
use Rattle.txn_coordinator.specs.declared.transaction.Transaction.{Transaction}
use Rattle.txn_coordinator.specs.Coordinator.{id_record}
use Rattle.txn_coordinator.specs.Preparing.{fenced_transaction}
use Rattle.txn_coordinator.specs.Expiry.{is_due, fenced_if_due}
use Rattle.group_offsets.specs.Group.{without_lapsed as group_expired}
use Rattle.group_offsets.specs.Groups.{find_group}
use Rattle.group_offsets.proofs.Apart.{find_expired}
use Rattle.broker_world.specs.World.{World}
use Rattle.broker_world.specs.Clock.{moment_after}
use Rattle.api_dispatch.specs.Step.{step}
use Rattle.request_handlers.specs.Core.{entry_of}
use Rattle.api_laws.specs.Tenants.{SameOn}
use Rattle.tenant_laws.specs.Laws.{SameButForBook, AgreeAmong}
use Rattle.tenant_laws.specs.Runs.{Round, Round as rounds, first_run_entries, second_run_entries, IsWithin, AreApart, OthersAreUnseen}
use Rattle.tenant_laws.proofs.Within.{told_alike, agree_after}
use Rattle.tenant_laws.proofs.Marked.{marks_agree}
use Rattle.tenant_laws.proofs.Resources.{same_then, same_back}

-- ---- a tick

expired_id : (moment : ℕ) (t : Transaction) → (fenced_if_due moment t).id ≡ t.id
expired_id moment t = by_due (is_due moment t) where
  by_due : (b : Bool) → (cond b (fenced_transaction t) t).id ≡ t.id
  by_due true = refl
  by_due false = refl

recorded_expired : (moment : ℕ) (ts : List Transaction) (id : List ℕ) → id_record (map (fenced_if_due moment) ts) id ≡ option_map (fenced_if_due moment) (id_record ts id)
recorded_expired moment [] id = refl
recorded_expired moment (t ∷ ts) id =
    ap (λ (own : List ℕ). cond (bytes_eq own id) (Some (fenced_if_due moment t)) (id_record (map (fenced_if_due moment) ts) id)) (expired_id moment t)
    ∙ by_id (bytes_eq t.id id) (recorded_expired moment ts id) where
      by_id : (b : Bool) → id_record (map (fenced_if_due moment) ts) id ≡ option_map (fenced_if_due moment) (id_record ts id) → cond b (Some (fenced_if_due moment t)) (id_record (map (fenced_if_due moment) ts) id) ≡ option_map (fenced_if_due moment) (cond b (Some t) (id_record ts id))
      by_id true rest = refl
      by_id false rest = rest

module _ (v w : World) (told : ℕ) (base : SameButForBook v w) where
  same_moment : moment_after v.moment told ≡ moment_after w.moment told
  same_moment = ap (λ (n : ℕ). moment_after n told) base.moment

  tick_base : SameButForBook (step v (Tick told)) (step w (Tick told))
  tick_base = record { node = base.node; supers = base.supers; moment = same_moment; events = ap (λ (n : ℕ). n + 1) base.events; given = base.given }

  tick_on : (kind : Kind) (name : List ℕ) → SameOn v w kind name → SameOn (step v (Tick told)) (step w (Tick told)) kind name
  tick_on Topic name same = same
  tick_on Group name same =
      find_expired (moment_after v.moment told) v.groups name
      ∙ ap (option_map (group_expired (moment_after v.moment told))) same
      ∙ ap (λ (n : ℕ). option_map (group_expired n) (find_group w.groups name)) same_moment
      ∙ sym (find_expired (moment_after w.moment told) w.groups name)
  tick_on Cluster name same = same
  tick_on TransactionalId name same =
      recorded_expired (moment_after v.moment told) v.coordinator.transactions name
      ∙ ap (option_map (fenced_if_due (moment_after v.moment told))) same
      ∙ ap (λ (n : ℕ). option_map (fenced_if_due n) (id_record w.coordinator.transactions name)) same_moment
      ∙ sym (recorded_expired (moment_after w.moment told) w.coordinator.transactions name)

-- ---- the rounds

module _ (among : Kind → List ℕ → Bool) where
  asked_entry : (v w : World) (e : Event) → AgreeAmong among v w → IsWithin among v w e → entry_of v e ≡ entry_of w e
  asked_entry v w (Ask caller client request) agree within = told_alike among v w caller client request agree within
  asked_entry v w Mark agree within = absurd within
  asked_entry v w (Tick told) agree within = absurd within

  asked_on : (v w : World) (e : Event) → AgreeAmong among v w → IsWithin among v w e → AgreeAmong among (step v e) (step w e)
  asked_on v w (Ask caller client request) agree within = agree_after among v w caller client request agree within
  asked_on v w Mark agree within = absurd within
  asked_on v w (Tick told) agree within = absurd within

  unseen : (v w : World) (rs : List Round) → AgreeAmong among v w → AreApart among v w rs → first_run_entries v rs ≡ second_run_entries w rs
  unseen v w [] agree apart = refl
  unseen v w (rounds.Asks e ∷ rs) agree apart =
      let entry = asked_entry v w e agree apart.0 in
      let rest = unseen (step v e) (step w e) rs (asked_on v w e agree apart.0) apart.1 in
      λ i. entry i ∷ rest i
  unseen v w (rounds.Others e f ∷ rs) agree apart =
      unseen (step v e) (step w f) rs
      (record {
        base = apart.2;
        resources = λ kind name is.
            same_then (step v e) v (step w f) kind name (same_back v (step v e) kind name (apart.0 kind name is))
            (same_then v w (step w f) kind name (agree.resources kind name is) (apart.1 kind name is));
      })
      apart.3
  unseen v w (rounds.Ticks told ∷ rs) agree apart =
      unseen (step v (Tick told)) (step w (Tick told)) rs
      (record { base = tick_base v w told agree.base; resources = λ kind name is. tick_on v w told agree.base kind name (agree.resources kind name is) })
      apart
  unseen v w (rounds.Marks ∷ rs) agree apart = unseen (step v Mark) (step w Mark) rs (marks_agree among v w agree apart.0) apart.1

pub others_are_unseen : OthersAreUnseen
others_are_unseen among v w rs agree apart = unseen among v w rs agree apart
