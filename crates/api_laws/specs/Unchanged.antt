-- What a request leaves that is told an error.
use Rattle.std.specs.Prelude.{◌≡◌, ℕ, ℤ, pos, Bool, true, false, List, [], ◌∷◌, Option, Some}
use Rattle.std.specs.List.{AllByRecursion}
use Rattle.acl_binding.specs.declared.question.Caller.{Caller}
use Rattle.msg_txn.specs.declared.add_partitions.AddPartitionsToTxnRequest.{AddPartitionsToTxnRequest}
use Rattle.msg_txn.specs.declared.init_producer_id.InitProducerIdRequest.{InitProducerIdRequest}
use Rattle.msg_admin.specs.declared.request.Request.{Request}
use Rattle.msg_admin.specs.declared.request.Request.TheVariants as requests
use Rattle.audit_trail.specs.declared.event.Event.TheVariants.{Ask}
use Rattle.broker_world.specs.World.{World}
use Rattle.api_laws.specs.KeptOut.{StepRule}
use Rattle.api_laws.specs.ToldErrors.{errors_itself, Place, error_at, all_errors}

-- the requests about one group, and those that add a group to a transaction or end it
abbrev pub is_all_or_nothing : Request → Bool
is_all_or_nothing (requests.JoinGroup r) = true
is_all_or_nothing (requests.Heartbeat r) = true
is_all_or_nothing (requests.LeaveGroup r) = true
is_all_or_nothing (requests.SyncGroup r) = true
is_all_or_nothing (requests.AddOffsetsToTxn r) = true
is_all_or_nothing (requests.EndTxn r) = true
is_all_or_nothing request = false

-- those that append or commit part by part
abbrev pub is_by_parts : Request → Bool
is_by_parts (requests.Produce r) = true
is_by_parts (requests.OffsetCommit r) = true
is_by_parts (requests.TxnOffsetCommit r) = true
is_by_parts request = false

abbrev pub IsError : ℤ → Type 0
IsError error = error ≡ pos 0 → ⊥

-- a request that is told one error for all changes nothing, and neither does one of which each part
-- is told an error; but with CONCURRENT_TRANSACTIONS an open transaction may have been aborted
pub record ErrorsChangeNothing (outcome : StepRule) : Type 0 where
  -- told another error than 0, one of them leaves the world as it was
  pub whole : (w : World) (caller : Caller) (client : Option (List ℕ)) (request : Request)
      → is_all_or_nothing request ≡ true
      → (errors_itself (outcome w (Ask caller client request)).reply ≡ pos 0 ∷ [] → ⊥)
      → (outcome w (Ask caller client request)).world ≡ w
  -- an InitProducerId too, but for CONCURRENT_TRANSACTIONS (51): with that it may have aborted the
  -- open transaction of its id
  pub init : (w : World) (caller : Caller) (client : Option (List ℕ)) (r : InitProducerIdRequest)
      → (errors_itself (outcome w (Ask caller client (requests.InitProducerId r))).reply
      ≡ pos 0 ∷ []
      → ⊥)
      → (errors_itself (outcome w (Ask caller client (requests.InitProducerId r))).reply
      ≡ pos 51 ∷ []
      → ⊥)
      → (outcome w (Ask caller client (requests.InitProducerId r))).world ≡ w
  -- where each part of the answer is told an error, nothing was appended or committed
  pub parts : (w : World) (caller : Caller) (client : Option (List ℕ)) (request : Request)
      → is_by_parts request ≡ true
      → AllByRecursion IsError (all_errors (outcome w (Ask caller client request)).reply)
      → (outcome w (Ask caller client request)).world ≡ w
  -- where one partition is told an error, none was added to the transaction
  pub adds : (w : World) (caller : Caller) (client : Option (List ℕ))
      (r : AddPartitionsToTxnRequest) (place : Place) (error : ℤ)
      → error_at (outcome w (Ask caller client (requests.AddPartitionsToTxn r))).reply place
      ≡ Some error
      → IsError error
      → (outcome w (Ask caller client (requests.AddPartitionsToTxn r))).world ≡ w
