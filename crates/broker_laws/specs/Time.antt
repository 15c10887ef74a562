-- What a tick does, in words of its own (KIP-98, 'transaction.timeout.ms'; KIP-62,
-- 'session.timeout.ms').
use Rattle.std.specs.Prelude.{◌≡◌, ◌⊎◌, ℕ, ◌+◌, ◌<◌, ◌≤◌, length, slice_get, Some, None}
use Rattle.txn_coordinator.specs.declared.transaction.Transaction.{Transaction}
use Rattle.txn_coordinator.specs.declared.transaction.TransactionState.TheVariants.{Ongoing, PrepareAbort}
use Rattle.group_offsets.specs.declared.group.Group.{Group}
use Rattle.group_offsets.specs.declared.member.Member.{Member}
use Rattle.audit_trail.specs.declared.event.Event.TheVariants.{Tick}
use Rattle.broker_world.specs.World.{World}
use Rattle.broker_laws.specs.Rules.{WorldRule}

-- the moment never falls, and is what was told where that is later: up to 2^62 - 1 milliseconds
pub record ShowsMoment (w : World) (told : ℕ) (v : World) : Type 0 where
  pub never_back : w.moment ≤ v.moment
  pub no_further : (v.moment ≡ w.moment) ⊎ (v.moment ≤ told)
  pub told_is : told ≤ 4611686018427387903 → told ≤ v.moment

-- the time of a transaction that is open is over: the moment is after its end
pub record IsOver (moment : ℕ) (t : Transaction) : Type 0 where
  pub ongoing : t.state ≡ Ongoing
  pub end : t.start + t.timeout < moment

-- each transaction whose time is over is to be aborted, and all others are as before; in their
-- places
pub record EndsTransactions (w v : World) : Type 0 where
  pub as_many : length v.coordinator.transactions ≡ length w.coordinator.transactions
  pub over : (i : ℕ) (t u : Transaction) → slice_get w.coordinator.transactions i ≡ Some t
      → slice_get v.coordinator.transactions i ≡ Some u → IsOver v.moment t → u.state ≡ PrepareAbort
  pub others : (i : ℕ) (t : Transaction) → slice_get w.coordinator.transactions i ≡ Some t
      → (IsOver v.moment t → ⊥) → slice_get v.coordinator.transactions i ≡ Some t

-- nothing was heard of the group's member for longer than its session timeout
pub record IsLapsed (moment : ℕ) (g : Group) : Type 0 where
  pub member : Member
  pub has : g.member ≡ Some member
  pub silent : member.heard + member.session_timeout < moment

-- each such member is let go, and all other groups are as before; in their places
pub record EndsMembers (w v : World) : Type 0 where
  pub as_many : length v.groups ≡ length w.groups
  pub lapsed : (i : ℕ) (g h : Group) → slice_get w.groups i ≡ Some g → slice_get v.groups i ≡ Some h
      → IsLapsed v.moment g → h.member ≡ None
  pub others : (i : ℕ) (g : Group) → slice_get w.groups i ≡ Some g → (IsLapsed v.moment g → ⊥)
      → slice_get v.groups i ≡ Some g

pub record TickEnds (w : World) (told : ℕ) (v : World) : Type 0 where
  pub moment : ShowsMoment w told v
  pub transactions : EndsTransactions w v
  pub members : EndsMembers w v
  pub logs : v.topics ≡ w.topics
  pub bindings : v.book ≡ w.book

-- whatever the world is, a tick moves the clock on, and ends what is over
abbrev pub TicksEndWhatIsOver : WorldRule → Type 0
TicksEndWhatIsOver step = (w : World) (told : ℕ) → TickEnds w told (step w (Tick told))
