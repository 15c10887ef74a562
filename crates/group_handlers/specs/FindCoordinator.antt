-- FindCoordinator: the one node coordinates every group and every transactional id (Kafka protocol
-- guide, "FindCoordinator API (Key: 10)").
use Rattle.std.specs.Prelude.{ℕ, ℤ, pos, negsuc, List, [], ◌∷◌, Option, Some, None, if◌then◌else◌}
use Rattle.std.specs.Ordering.{int_eq}
use Rattle.acl_binding.specs.declared.question.Caller.{Caller}
use Rattle.acl_binding.specs.declared.question.Question.{Question}
use Rattle.acl_binding.specs.declared.words.Kind.{Kind}
use Rattle.acl_binding.specs.declared.words.Kind.TheVariants as kinds
use Rattle.acl_binding.specs.declared.words.Operation.TheVariants as operations
use Rattle.acl_binding.specs.Verdict.{question_of}
use Rattle.wire_types.specs.declared.error_code.ErrorCode.{ErrorCode}
use Rattle.wire_types.specs.declared.error_code.ErrorCode.TheVariants as codes
use Rattle.msg_txn.specs.declared.find_coordinator.FindCoordinatorRequest.{FindCoordinatorRequest}
use Rattle.msg_txn.specs.declared.find_coordinator.FindCoordinatorReply.{FindCoordinatorReply}
use Rattle.msg_admin.specs.declared.reply.Reply.TheVariants as replies
use Rattle.broker_world.specs.declared.node.Node.{Node}
use Rattle.broker_world.specs.World.{World}
use Rattle.broker_world.specs.HandlerResult.{HandlerResult}
use Rattle.broker_world.specs.Whole.{whole_outcome}

-- what is coordinated: a group by 0, a transactional id by 1, and nothing by any other number
abbrev pub kind_of : ℤ → Option Kind
kind_of number =
    if int_eq number (pos 0) then Some kinds.Group
    else if int_eq number (pos 1) then Some kinds.TransactionalId else None

-- to describe it
abbrev pub find_questions : Caller → Option Kind → List ℕ → List Question
find_questions caller None key = []
find_questions caller (Some kind) key = question_of caller operations.Describe kind key ∷ []

abbrev pub found_node : Node → FindCoordinatorReply
found_node node =
    record {
      throttle = pos 0;
      error = codes.None;
      message = None;
      node = node.node_id;
      host = node.host;
      port = node.port;
    }

abbrev pub find_error : ErrorCode → FindCoordinatorReply
find_error code =
    record {
      throttle = pos 0;
      error = code;
      message = None;
      node = negsuc 0;
      host = [];
      port = negsuc 0;
    }

abbrev pub find_reply : Option Kind → Node → FindCoordinatorReply
find_reply None node = find_error codes.InvalidRequest
find_reply (Some kind) node = found_node node

abbrev pub find_coordinator_outcome : World → Caller → FindCoordinatorRequest → HandlerResult
find_coordinator_outcome w caller r =
    whole_outcome w (find_questions caller (kind_of r.key_type) r.key)
    (λ code. replies.FindCoordinator (find_error code))
    (record { world = w; reply = replies.FindCoordinator (find_reply (kind_of r.key_type) w.node) })
