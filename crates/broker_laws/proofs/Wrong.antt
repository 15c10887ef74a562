-- The wrong rules are refuted, each in a worked case.
use Rattle.std.proofs.Common.{◌≡◌, inl, ℕ, ◌≤◌, pos, List, [], ◌∷◌, length, Option, Some, None, refl, codes as bytes, ap, arith}
use Rattle.acl_binding.specs.declared.words.Kind.TheVariants as kinds
use Rattle.acl_binding.specs.declared.words.Pattern.TheVariants as patterns
use Rattle.acl_binding.specs.declared.words.Operation.TheVariants as operations
use Rattle.acl_binding.specs.declared.words.Permission.TheVariants as permissions
use Rattle.acl_binding.specs.declared.binding.Binding.{Binding}
use Rattle.settings.specs.declared.settings.Settings.{Settings}
use Rattle.txn_coordinator.specs.declared.transaction.Transaction.{Transaction}
use Rattle.txn_coordinator.specs.declared.transaction.TransactionState.{TransactionState}
use Rattle.txn_coordinator.specs.declared.transaction.TransactionState.TheVariants.{Empty, Ongoing, PrepareAbort}
use Rattle.group_offsets.specs.declared.group.Group.{Group}
use Rattle.group_offsets.specs.declared.member.Member.{Member}
use Rattle.broker_world.specs.World.{World}
use Rattle.broker_world.specs.First.{first_world}
use Rattle.broker_laws.specs.FirstWorld.{FirstWorldIsTheSettings}
use Rattle.broker_laws.specs.Time.{TicksEndWhatIsOver}
use Rattle.broker_laws.specs.Wrong.{first_for_everybody, first_without_acls, step_going_back, step_without_lapses, step_ending_early}

-- ---- settings without a topic, with one ACL

abbrev acl : Binding
acl = record { kind = kinds.Topic; name = bytes "a"; pattern = patterns.Literal; principal = bytes "User:ann"; host = bytes "*"; operation = operations.Read; permission = permissions.Allow }

abbrev settings : Settings
settings = record { node_id = pos 0; host = bytes "h"; port = pos 9092; trail_limit = pos 1; max_batch = pos 61; max_txn_timeout = pos 1; topics = []; acls = acl ∷ []; supers = [] }

pub not_for_everybody : ¬ FirstWorldIsTheSettings first_for_everybody
not_for_everybody law = let clash : ◌≡◌ {A = ℕ} 1 0 = ap (λ (l : List (List ℕ)). length l) (law settings refl).supers in cc

pub not_without_acls : ¬ FirstWorldIsTheSettings first_without_acls
not_without_acls law = (law settings refl).bindings.all acl (inl refl)

-- ---- ticks

abbrev w : World
w = first_world settings

pub not_going_back : ¬ TicksEndWhatIsOver step_going_back
not_going_back law = let low : 5 ≤ 3 = (law (record w { moment = 5 }) 3).moment.never_back in omega (arith, low)

abbrev member : Member
member = record { id = bytes "m"; session_timeout = 10; heard = 0 }

abbrev group : Group
group = record { name = bytes "g"; member = Some member; generation = pos 1; assignment = None; offsets = [] }

pub not_without_lapses : ¬ TicksEndWhatIsOver step_without_lapses
not_without_lapses law =
    let clash : Some member ≡ None = (law (record w { groups = group ∷ [] }) 20).members.lapsed 0 group group refl refl (record { member = member; has = refl; silent = omega arith }) in cc

-- its time ends at 10
abbrev transaction : Transaction
transaction = record { id = bytes "t"; pair = record { producer = pos 0; epoch = pos 0 }; timeout = 10; start = 0; state = Ongoing; partitions = []; groups = []; kept = None }

abbrev with_transaction : World
with_transaction = record w { coordinator = record { transactions = transaction ∷ []; given = Some (bytes "t") ∷ []; warrants = [] } }

state_of : Option Transaction → TransactionState
state_of None = Empty
state_of (Some t) = t.state

pub not_early : ¬ TicksEndWhatIsOver step_ending_early
unfolding state_of
not_early law =
    let clash : PrepareAbort ≡ Ongoing = ap state_of ((law with_transaction 10).transactions.others 0 transaction refl (λ over. let late = over.end in omega (arith, late))) in cc
