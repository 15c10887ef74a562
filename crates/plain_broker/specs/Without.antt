-- What the binding list doesn't allow changes nothing.
use Rattle.std.specs.Prelude.{◌≡◌, ℕ, List, Option}
use Rattle.acl_binding.specs.declared.question.Caller.{Caller}
use Rattle.wire_types.specs.declared.error_code.ErrorCode.{ErrorCode}
use Rattle.msg_txn.specs.declared.add_partitions.AddPartitionsToTxnRequest.{AddPartitionsToTxnRequest}
use Rattle.msg_admin.specs.declared.request.Request.{Request}
use Rattle.audit_trail.specs.declared.event.Event.TheVariants.{Ask}
use Rattle.broker_world.specs.World.{World, rules_of}
use Rattle.api_dispatch.specs.Step.{with_event_counted, step}
use Rattle.plain_broker.specs.Allowed.{Rest, Cut, Nothing, allowed_part}

pub record RefusedChangesNothing : Type 0 where
  -- a request leaves the world that it leaves without its refused parts
  pub rest : (w : World) (caller : Caller) (client : Option (List ℕ)) (request rest : Request)
      → allowed_part (rules_of w) caller request ≡ Rest rest
      → step w (Ask caller client request) ≡ step w (Ask caller client rest)
  -- where it is cut, or refused itself, the world is one event older and else the same
  pub cut : (w : World) (caller : Caller) (client : Option (List ℕ)) (request : Request)
      (cut : AddPartitionsToTxnRequest)
      → allowed_part (rules_of w) caller request ≡ Cut cut
      → step w (Ask caller client request) ≡ with_event_counted w
  pub nothing : (w : World) (caller : Caller) (client : Option (List ℕ)) (request : Request)
      (code : ErrorCode)
      → allowed_part (rules_of w) caller request ≡ Nothing code
      → step w (Ask caller client request) ≡ with_event_counted w
