-- One refused partition of an AddPartitionsToTxn keeps all others out (KIP-98,
-- 'AddPartitionsToTxnRequest').
use Rattle.std.specs.Prelude.{◌≡◌, ℕ, ℤ, pos, true, is_some, List, Option, Some, None}
use Rattle.acl_binding.specs.declared.question.Caller.{Caller}
use Rattle.wire_types.specs.declared.topic.Topic.{Topic}
use Rattle.msg_txn.specs.declared.add_partitions.AddPartitionsToTxnRequest.{AddPartitionsToTxnRequest}
use Rattle.msg_admin.specs.declared.request.Request.TheVariants.{AddPartitionsToTxn}
use Rattle.audit_trail.specs.declared.event.Event.{Event}
use Rattle.audit_trail.specs.declared.event.Event.TheVariants.{Ask}
use Rattle.walk.specs.Headline.{element_at}
use Rattle.broker_world.specs.World.{World, LogValue}
use Rattle.broker_world.specs.Logs.{log_at}
use Rattle.broker_world.specs.HandlerResult.{HandlerResult}
use Rattle.api_laws.specs.ToldErrors.{Place, PartitionAt, error_at}
use Rattle.api_laws.specs.AskedTable.{rows_at, first_refused}

-- OPERATION_NOT_ATTEMPTED, or UNKNOWN_TOPIC_OR_PARTITION where there is no such partition
abbrev pub not_attempted_code : Option LogValue → ℤ
not_attempted_code (Some log) = pos 55
not_attempted_code None = pos 3

-- what an event comes to in a world
abbrev pub StepRule : Type 0
StepRule = World → Event → HandlerResult

-- where the partition at some place is refused, nothing changes, and each one that isn't refused
-- itself is told so
pub record RefusedKeepsOut (outcome : StepRule) : Type 0 where
  pub unchanged : (w : World) (caller : Caller) (client : Option (List ℕ))
      (r : AddPartitionsToTxnRequest) (place : Place)
      → is_some (first_refused w caller (rows_at (AddPartitionsToTxn r) place)) ≡ true
      → (outcome w (Ask caller client (AddPartitionsToTxn r))).world ≡ w
  pub others : (w : World) (caller : Caller) (client : Option (List ℕ))
      (r : AddPartitionsToTxnRequest) (place : Place)
      → is_some (first_refused w caller (rows_at (AddPartitionsToTxn r) place)) ≡ true
      → (i j : ℕ) (t : Topic ℤ) (index : ℤ) → element_at r.topics i ≡ Some t
      → element_at t.partitions j ≡ Some index
      → first_refused w caller (rows_at (AddPartitionsToTxn r) (PartitionAt i j)) ≡ None
      → error_at (outcome w (Ask caller client (AddPartitionsToTxn r))).reply (PartitionAt i j)
      ≡ Some (not_attempted_code (log_at w.topics t.name index))
