-- An EndTxn 5 whose answer was lost is sent once more, with the epoch that it ended (KIP-890): it
-- is answered as before, until its transactional id goes on.
use Rattle.std.specs.Prelude.{◌≡◌, ℤ, pos, List, [], ◌∷◌, ◌++◌, map, Option, Some, None}
use Rattle.wire_types.specs.ErrorCode.{number_of}
use Rattle.msg_txn.specs.EndTxn.{error_of}
use Rattle.msg_txn.specs.declared.end_txn.EndTxnReply.TheVariants as versions
use Rattle.wire_types.specs.declared.error_code.ErrorCode.TheVariants as codes
use Rattle.msg_admin.specs.declared.request.Request.TheVariants as requests
use Rattle.msg_admin.specs.declared.reply.Reply.{Reply}
use Rattle.msg_admin.specs.declared.reply.Reply.TheVariants as replies
use Rattle.audit_trail.specs.declared.event.Event.{Event}
use Rattle.audit_trail.specs.declared.event.Event.TheVariants.{Ask, Mark}
use Rattle.txn_coordinator.specs.declared.producer_id.ProducerIdAndEpoch.{ProducerIdAndEpoch}
use Rattle.txn_coordinator.specs.declared.transaction.Transaction.{Transaction}
use Rattle.txn_coordinator.specs.Coordinator.{CoordinatorValue, id_record}
use Rattle.api_dispatch.specs.Step.{outcome}
use Rattle.wrong_rules.specs.Steps.{StepRule, reply_after, with_coordinator, cluster, inits, adds, commits_in_5}

-- a transaction is committed by an EndTxn 5 in epoch 0, and its marker is written
abbrev pub committed_in_0 : List Event
committed_in_0 = inits (pos 1000) ∷ adds (pos 0) (pos 0 ∷ []) ∷ commits_in_5 (pos 0) ∷ Mark ∷ []

abbrev pub IsEndedWith : Reply → ℤ → Type 0
IsEndedWith (replies.EndTxn reply) code = number_of (error_of reply) ≡ code
IsEndedWith reply code = ⊥

-- a retry is told what the first was told; and after the id has gone on, that it is fenced
pub record RetriesAreAnswered (rule : StepRule) : Type 0 where
  -- the retry is told what the first was told: no error, and the next epoch
  pub again : reply_after rule cluster committed_in_0 (commits_in_5 (pos 0))
      ≡ replies.EndTxn
      (versions.Version5
      (record { throttle = pos 0; error = codes.None; producer = pos 0; epoch = pos 1 }))
  -- after an InitProducerId it comes from a producer that is fenced
  pub after_init : IsEndedWith
      (reply_after rule cluster (committed_in_0 ++ inits (pos 1000) ∷ []) (commits_in_5 (pos 0)))
      (pos 90)
  -- and so it does once the next transaction has begun
  pub after_next : IsEndedWith
      (reply_after rule cluster (committed_in_0 ++ adds (pos 1) (pos 0 ∷ []) ∷ [])
      (commits_in_5 (pos 0)))
      (pos 90)

-- ---- wrong

abbrev pub or_kept : Option ProducerIdAndEpoch → Option Transaction → Option ProducerIdAndEpoch
or_kept (Some pair) old = Some pair
or_kept None None = None
or_kept None (Some old) = old.kept

-- each id keeps the pair that it had kept, where it keeps none now
abbrev pub keep_pairs : CoordinatorValue → CoordinatorValue → CoordinatorValue
keep_pairs old c =
    record c {
      transactions = map
          (λ (t : Transaction). record t {
            kept = or_kept t.kept (id_record old.transactions t.id);
          })
          c.transactions;
    }

abbrev pub forget_pairs : CoordinatorValue → CoordinatorValue
forget_pairs c =
    record c { transactions = map (λ (t : Transaction). record t { kept = None }) c.transactions }

-- an InitProducerId leaves the pair that was kept
abbrev pub step_keeping_over_init : StepRule
step_keeping_over_init w (Ask caller client (requests.InitProducerId r)) =
    with_coordinator (keep_pairs w.coordinator)
    (outcome w (Ask caller client (requests.InitProducerId r)))
step_keeping_over_init w e = outcome w e

-- an AddPartitionsToTxn leaves the pair that was kept
abbrev pub step_keeping_over_add : StepRule
step_keeping_over_add w (Ask caller client (requests.AddPartitionsToTxn r)) =
    with_coordinator (keep_pairs w.coordinator)
    (outcome w (Ask caller client (requests.AddPartitionsToTxn r)))
step_keeping_over_add w e = outcome w e

-- no pair is ever kept: a retry is told that it is fenced
abbrev pub step_keeping_no_pair : StepRule
step_keeping_no_pair w e = with_coordinator forget_pairs (outcome w e)
