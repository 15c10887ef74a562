-- Which timeout a transactional id has (KIP-98, `transaction.timeout.ms`).
use Rattle.std.specs.Prelude.{◌≡◌, ℕ, ℤ, pos, List, [], ◌∷◌, map, Option, Some, None}
use Rattle.std.specs.Option.{option_map}
use Rattle.wire_types.specs.declared.error_code.ErrorCode.TheVariants as codes
use Rattle.msg_txn.specs.declared.end_txn.EndTxnReply.TheVariants as versions
use Rattle.msg_admin.specs.declared.reply.Reply.TheVariants as replies
use Rattle.audit_trail.specs.declared.event.Event.TheVariants.{Tick}
use Rattle.txn_coordinator.specs.declared.transaction.Transaction.{Transaction}
use Rattle.txn_coordinator.specs.Transition.{Transition, Stays, Puts}
use Rattle.txn_coordinator.specs.Coordinator.{CoordinatorValue, id_record, transition_code, apply_transition}
use Rattle.txn_coordinator.specs.InitProducerId.{init}
use Rattle.api_dispatch.specs.Step.{outcome}
use Rattle.wrong_rules.specs.Steps.{StepRule, reply_after, with_coordinator, cluster, inits, adds, commits}

-- what an InitProducerId comes to: by the coordinator, the id, the timeout that is asked for, and
-- the greatest one
abbrev pub InitRule : Type 0
InitRule = CoordinatorValue → List ℕ → ℤ → ℤ → Transition

-- the timeout of an id, if it has a record
abbrev pub timeout_of : CoordinatorValue → List ℕ → Option ℕ
timeout_of c id = option_map (λ (t : Transaction). t.timeout) (id_record c.transactions id)

-- where an InitProducerId is answered no error, the id has the timeout that it asked for
abbrev pub TakesTheTimeout : InitRule → Type 0
TakesTheTimeout rule =
    (c : CoordinatorValue) (id : List ℕ) (n : ℕ) (greatest : ℤ)
    → transition_code (rule c id (pos n) greatest) ≡ codes.None
    → timeout_of (apply_transition c (rule c id (pos n) greatest)) id ≡ Some n

-- an id asks for a second, and later for a minute: two seconds on, its transaction is still open,
-- and is committed
abbrev pub LaterTimeoutCounts : StepRule → Type 0
LaterTimeoutCounts rule =
    reply_after rule cluster
    (inits (pos 1000) ∷ inits (pos 60000) ∷ adds (pos 1) (pos 0 ∷ []) ∷ Tick 2000 ∷ [])
    (commits (pos 1))
    ≡ replies.EndTxn (versions.Version1 (record { throttle = pos 0; error = codes.None }))

-- ---- wrong

-- the right one, but for the timeout of the record that it puts
abbrev pub with_timeout : ℕ → Transition → Transition
with_timeout n (Stays code) = Stays code
with_timeout n (Puts code t given owed) = Puts code (record t { timeout = n }) given owed

abbrev pub with_timeout_of : Option ℕ → Transition → Transition
with_timeout_of None transition = transition
with_timeout_of (Some n) transition = with_timeout n transition

-- an id keeps its first timeout
abbrev pub init_keeping_first : InitRule
init_keeping_first c id timeout greatest =
    with_timeout_of (timeout_of c id) (init c id timeout greatest)

-- every id has so many milliseconds, whatever it asks for
abbrev pub init_with : ℕ → InitRule
init_with n c id timeout greatest = with_timeout n (init c id timeout greatest)

abbrev pub keep_timeout : Option ℕ → Transaction → Transaction
keep_timeout None t = t
keep_timeout (Some n) t = record t { timeout = n }

abbrev pub keep_timeouts : CoordinatorValue → CoordinatorValue → CoordinatorValue
keep_timeouts old c =
    record c { transactions = map (λ t. keep_timeout (timeout_of old t.id) t) c.transactions }

-- every id keeps its first timeout
abbrev pub step_keeping_timeouts : StepRule
step_keeping_timeouts w e = with_coordinator (keep_timeouts w.coordinator) (outcome w e)
