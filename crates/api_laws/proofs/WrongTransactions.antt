-- Wrong rules of transactions and groups are refuted, each in a worked case.
use Rattle.std.proofs.Common.{◌≡◌, ℕ, ℤ, pos, negsuc, Bool, true, false, List, [], ◌∷◌, length, Option, Some, None, refl, codes as bytes, ap, sym, ◌∙◌}
use Rattle.std.specs.Str.{bytes_eq}
use Rattle.acl_binding.specs.declared.words.Kind.{Kind}
use Rattle.acl_binding.specs.declared.words.Kind.TheVariants as kinds
use Rattle.acl_binding.specs.declared.words.Operation.TheVariants as operations
use Rattle.acl_binding.specs.declared.words.Pattern.TheVariants as patterns
use Rattle.acl_binding.specs.declared.words.Permission.TheVariants as permissions
use Rattle.acl_binding.specs.declared.binding.Binding.{Binding}
use Rattle.acl_binding.specs.declared.question.Verdict.{Verdict}
use Rattle.acl_binding.specs.declared.question.Verdict.TheVariants.{Yes, Nothing}
use Rattle.authorizer.specs.declared.answer.Refusal.{Refusal}
use Rattle.wire_types.specs.declared.topic.Topic.{Topic}
use Rattle.wire_types.specs.ErrorCode.{number_of}
use Rattle.msg_txn.specs.declared.init_producer_id.InitProducerIdRequest.{InitProducerIdRequest}
use Rattle.msg_txn.specs.declared.add_partitions.AddPartitionsToTxnRequest.{AddPartitionsToTxnRequest}
use Rattle.msg_txn.specs.declared.end_txn.EndTxnRequest.{EndTxnRequest}
use Rattle.msg_txn.specs.declared.end_txn.EndTxnRequest.TheVariants as versions
use Rattle.msg_group.specs.declared.join_group.JoinGroupRequest.{JoinGroupRequest}
use Rattle.msg_admin.specs.declared.request.Request.TheVariants as requests
use Rattle.msg_admin.specs.declared.reply.Reply.{Reply}
use Rattle.msg_admin.specs.declared.reply.Reply.TheVariants as replies
use Rattle.txn_coordinator.specs.declared.producer_id.ProducerIdOwner.TheVariants.{Never, Free}
use Rattle.txn_coordinator.specs.declared.transaction.Transaction.{Transaction}
use Rattle.txn_coordinator.specs.declared.transaction.TransactionState.TheVariants.{Ongoing}
use Rattle.txn_coordinator.specs.Coordinator.{CoordinatorValue}
use Rattle.broker_world.specs.World.{World}
use Rattle.txn_handlers.specs.InitProducerId.{init_producer_id_outcome}
use Rattle.txn_handlers.specs.AddPartitions.{add_partitions_outcome}
use Rattle.txn_handlers.specs.EndTxn.{end_txn_outcome}
use Rattle.api_laws.specs.Tenants.{SameBase}
use Rattle.api_laws.specs.ProducerLaws.{InitsOnce, InitDependsOnGrants}
use Rattle.api_laws.specs.TxnLaws.{AddsAllOrNone, TransactionsDependOnGrants, TransactionsKeepTheRest}
use Rattle.api_laws.specs.ToldErrors.{PartitionAt, error_at, errors_itself}
use Rattle.api_laws.specs.KeptOut.{RefusedKeepsOut}
use Rattle.api_laws.specs.Unchanged.{ErrorsChangeNothing}
use Rattle.api_laws.specs.Wrong.{initing_again, initing_unasked, adding_what_is_there, adding_nothing, adding_unasked, ending_unasked, ending_keeping_one, step_adding_the_others, step_telling_missing_as_untried, step_beginning_groups}
use Rattle.api_laws.proofs.Wrong.{w, root, ann}
use Rattle.api_laws.proofs.WrongReads.{a, in_epoch}

pub unasked : Nothing ≡ Yes → ⊥
unasked h = let clash : ◌≡◌ {A = Verdict} Nothing Yes = h in cc

-- how many refusals there are
abbrev pub count : List Refusal → ℕ
count rs = length rs

-- ---- `x` has an open transaction of producer 0 in epoch 3; or it has no record, and the producer was given out to it

abbrev pub x : List ℕ
x = bytes "x"

abbrev pub open_x : World
open_x = record w { coordinator = in_epoch }

abbrev pub unrecorded_x : World
unrecorded_x = record w { coordinator = record { transactions = []; given = Some x ∷ []; warrants = [] } }

pub same_but_x : SameBase open_x unrecorded_x
same_but_x = record { node = refl; rules = refl; moment = refl; events = refl; given = refl }

-- ---- InitProducerId

abbrev inits : Option (List ℕ) → InitProducerIdRequest
inits id = record { transactional_id = id; timeout = pos 1000 }

pub not_initing_again : ¬ InitsOnce initing_again
not_initing_again law =
    let fresh = law.fresh w root (inits None) refl refl in
    let clash : Never ≡ Free = sym fresh.never ∙ fresh.now in cc

pub not_initing_unasked : ¬ InitsOnce initing_unasked
not_initing_unasked law = let clash : ◌≡◌ {A = ℕ} 0 1 = ap count (law.refused w ann (inits (Some x)) _ refl).refusals in cc

epoch_told : Reply → ℤ
epoch_told (replies.InitProducerId reply) = reply.epoch
epoch_told reply = pos 0

pub not_telling_epochs : ¬ InitDependsOnGrants initing_unasked
unfolding epoch_told
not_telling_epochs law = let clash : negsuc 0 ≡ pos 0 = ap epoch_told (law.same open_x unrecorded_x ann (inits (Some x)) same_but_x ((λ yes. absurd (unasked yes)), tt)).reply in cc

-- ---- AddPartitionsToTxn

abbrev adds : List (Topic ℤ) → AddPartitionsToTxnRequest
adds topics = record { transactional_id = x; producer = pos 0; epoch = pos 3; topics = topics }

partitions_of_first : List Transaction → ℕ
partitions_of_first [] = 0
partitions_of_first (t ∷ ts) = length t.partitions

abbrev added : World → ℕ
added v = partitions_of_first v.coordinator.transactions

pub not_what_is_there : ¬ AddsAllOrNone adding_what_is_there
unfolding partitions_of_first
not_what_is_there law =
    let clash : ◌≡◌ {A = ℕ} 1 0 = ap added (law.none open_x root (adds (record { name = a; partitions = pos 0 ∷ pos 7 ∷ [] } ∷ [])) (λ all. absurd (let missing : true ≡ false = all.0.1.0.there in cc))).world in cc

pub not_adding_nothing : ¬ AddsAllOrNone adding_nothing
unfolding partitions_of_first
not_adding_nothing law =
    let clash : ◌≡◌ {A = ℕ} 0 1 = ap (λ (c : CoordinatorValue). partitions_of_first c.transactions) (law.all open_x root (adds (record { name = a; partitions = pos 0 ∷ [] } ∷ [])) ((record { granted = refl; there = refl }, tt), tt)).coordinator in cc

-- ---- EndTxn

abbrev ends : EndTxnRequest
ends = versions.Version2 (record { transactional_id = x; producer = pos 0; epoch = pos 3; committed = true })

pub not_ending_unasked : ¬ TransactionsDependOnGrants ending_unasked add_partitions_outcome
unfolding number_of
not_ending_unasked law =
    let clash : pos 0 ∷ [] ≡ pos 49 ∷ [] = ap errors_itself (law.ends open_x unrecorded_x ann ends same_but_x ((λ yes. absurd (unasked yes)), tt)).reply in cc

pub not_adding_unasked : ¬ TransactionsDependOnGrants end_txn_outcome adding_unasked
unfolding number_of
not_adding_unasked law =
    let clash : ◌≡◌ {A = Option ℤ} (Some (pos 0)) (Some (pos 49)) = ap (λ (r : Reply). error_at r (PartitionAt 0 0)) (law.adds open_x unrecorded_x ann (adds (record { name = a; partitions = pos 0 ∷ [] } ∷ [])) same_but_x ((((λ yes. absurd (unasked yes)), ((λ yes. absurd (unasked yes)), tt)), tt), tt)).reply in cc

-- ---- `y` has an open transaction too

abbrev two_open : World
two_open = record w {
  coordinator = record in_epoch {
    transactions = record { id = x; pair = record { producer = pos 0; epoch = pos 3 }; timeout = 10; start = 0; state = Ongoing; partitions = []; groups = []; kept = None } ∷ record { id = bytes "y"; pair = record { producer = pos 1; epoch = pos 0 }; timeout = 10; start = 0; state = Ongoing; partitions = []; groups = []; kept = None } ∷ [];
  };
}

is_recorded : Option Transaction → Bool
is_recorded None = false
is_recorded (Some t) = true

pub not_keeping_one : ¬ TransactionsKeepTheRest init_producer_id_outcome add_partitions_outcome ending_keeping_one
unfolding is_recorded
not_keeping_one law =
    let clash : false ≡ true = ap is_recorded ((law.ends two_open root ends).others (bytes "y") (λ h. absurd (let other : false ≡ true = ap (bytes_eq x) h in cc))) in cc

pub not_ended_unasked : ¬ TransactionsKeepTheRest init_producer_id_outcome add_partitions_outcome ending_unasked
not_ended_unasked law = let clash : ◌≡◌ {A = ℕ} 0 1 = ap count (law.refused_end open_x ann ends _ refl).refusals in cc

-- ---- ann may write with `x`, and to `a`, and to nothing else

abbrev lets_write : Kind → List ℕ → Binding
lets_write kind name = record { kind = kind; name = name; pattern = patterns.Literal; principal = bytes "User:ann"; host = bytes "*"; operation = operations.Write; permission = permissions.Allow }

abbrev writing : World
writing = record open_x { book = record { entries = record { number = 1; binding = lets_write kinds.TransactionalId x } ∷ record { number = 2; binding = lets_write kinds.Topic a } ∷ []; next = 3 } }

abbrev adds_both : ℤ → AddPartitionsToTxnRequest
adds_both index = adds (record { name = a; partitions = index ∷ [] } ∷ record { name = bytes "b"; partitions = pos 0 ∷ [] } ∷ [])

pub not_adding_the_others : ¬ RefusedKeepsOut step_adding_the_others
unfolding partitions_of_first
not_adding_the_others law = let clash : ◌≡◌ {A = ℕ} 1 0 = ap added (law.unchanged writing ann None (adds_both (pos 0)) (PartitionAt 1 0) refl) in cc

pub not_missing_as_untried : ¬ RefusedKeepsOut step_telling_missing_as_untried
unfolding number_of
not_missing_as_untried law =
    let clash : ◌≡◌ {A = Option ℤ} (Some (pos 55)) (Some (pos 3)) = law.others writing ann None (adds_both (pos 7)) (PartitionAt 1 0) refl 0 0 _ (pos 7) refl refl refl in cc

pub not_adding_beside_errors : ¬ ErrorsChangeNothing step_adding_the_others
unfolding partitions_of_first number_of
not_adding_beside_errors law =
    let clash : ◌≡◌ {A = ℕ} 1 0 = ap added (law.adds writing ann None (adds_both (pos 0)) (PartitionAt 1 0) (pos 29) refl (λ h. absurd (let none : pos 29 ≡ pos 0 = h in cc))) in cc

-- ---- a JoinGroup that is refused

abbrev pub joins : JoinGroupRequest
joins = record { group = bytes "g"; session_timeout = pos 10000; rebalance_timeout = pos 10000; member = []; protocol_type = bytes "consumer"; protocols = record { name = bytes "range"; metadata = [] } ∷ [] }

pub not_beginning_groups : ¬ ErrorsChangeNothing step_beginning_groups
unfolding number_of
not_beginning_groups law =
    let clash : ◌≡◌ {A = ℕ} 1 0 = ap (λ (v : World). length v.groups) (law.whole w ann None (requests.JoinGroup joins) refl (λ h. absurd (let none : pos 30 ∷ [] ≡ pos 0 ∷ [] = h in cc))) in cc
