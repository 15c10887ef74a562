-- One node is the whole cluster (Kafka protocol guide, "Metadata API (Key: 3)" and "FindCoordinator
-- API (Key: 10)").
use Rattle.std.specs.Prelude.{◌≡◌, ◌⊎◌, ℕ, ℤ, pos, negsuc, List, [], ◌∷◌, slice_get, Option, Some, None}
use Rattle.acl_binding.specs.declared.question.Caller.{Caller}
use Rattle.settings.specs.declared.settings.Settings.{Settings}
use Rattle.wire_types.specs.ErrorCode.{number_of}
use Rattle.msg_data.specs.declared.metadata.MetadataRequest.{MetadataRequest}
use Rattle.msg_data.specs.declared.metadata.MetadataReply.{MetadataReply}
use Rattle.msg_data.specs.declared.metadata.TopicInfo.{TopicInfo}
use Rattle.msg_data.specs.declared.metadata.PartitionInfo.{PartitionInfo}
use Rattle.msg_txn.specs.declared.find_coordinator.FindCoordinatorRequest.{FindCoordinatorRequest}
use Rattle.msg_txn.specs.declared.find_coordinator.FindCoordinatorReply.{FindCoordinatorReply}
use Rattle.msg_admin.specs.declared.request.Request.TheVariants.{Metadata, FindCoordinator}
use Rattle.msg_admin.specs.declared.reply.Reply.TheVariants as replies
use Rattle.audit_trail.specs.declared.event.Event.TheVariants.{Ask}
use Rattle.broker_world.specs.World.{World}
use Rattle.broker_world.specs.First.{first_world}
use Rattle.api_laws.specs.AskedTable.{AnswerRule}

-- ---- Metadata

-- the partition at this place is led and kept by the node
pub record IsLed (node : ℤ) (place : ℕ) (p : PartitionInfo) : Type 0 where
  pub error : number_of p.error ≡ pos 0
  pub index : p.index ≡ pos place
  pub leader : p.leader ≡ node
  pub replicas : p.replicas ≡ node ∷ []
  pub in_sync : p.in_sync ≡ node ∷ []

-- the node is the only broker, the controller, and leads each partition that is told of
pub record ListsTheNode (w : World) (reply : MetadataReply) : Type 0 where
  pub brokers : reply.brokers
      ≡ record { node = w.node.node_id; host = w.node.host; port = w.node.port; rack = None } ∷ []
  pub controller : reply.controller ≡ w.node.node_id
  pub partitions : (i j : ℕ) (t : TopicInfo) (p : PartitionInfo) → slice_get reply.topics i ≡ Some t
      → slice_get t.partitions j ≡ Some p → IsLed w.node.node_id j p

-- ---- FindCoordinator

pub record IsTheNode (w : World) (reply : FindCoordinatorReply) : Type 0 where
  pub node : reply.node ≡ w.node.node_id
  pub host : reply.host ≡ w.node.host
  pub port : reply.port ≡ w.node.port

pub record IsNoNode (reply : FindCoordinatorReply) : Type 0 where
  pub node : reply.node ≡ negsuc 0
  pub host : reply.host ≡ []
  pub port : reply.port ≡ negsuc 0

-- without an error it is the node, and with one it is none; 42 is told exactly where the key is of
-- another type than a group's (0) and a transactional id's (1)
pub record FindsTheNode (w : World) (r : FindCoordinatorRequest) (reply : FindCoordinatorReply)
    : Type 0 where
  pub found : number_of reply.error ≡ pos 0 → IsTheNode w reply
  pub failed : (number_of reply.error ≡ pos 0 → ⊥) → IsNoNode reply
  pub typed : (r.key_type ≡ pos 0) ⊎ (r.key_type ≡ pos 1) → number_of reply.error ≡ pos 42 → ⊥
  pub untyped : (r.key_type ≡ pos 0 → ⊥) → (r.key_type ≡ pos 1 → ⊥) → number_of reply.error ≡ pos 42

-- ---- the law

-- the node is that of the settings
pub record IsNodeOf (s : Settings) (w : World) : Type 0 where
  pub id : w.node.node_id ≡ s.node_id
  pub host : w.node.host ≡ s.host
  pub port : w.node.port ≡ s.port

-- the node of the settings leads everything, whatever the world is and whoever asks
pub record OneNodeIsAll (reply_to : AnswerRule) : Type 0 where
  pub first : (s : Settings) → IsNodeOf s (first_world s)
  pub listed : (w : World) (caller : Caller) (client : Option (List ℕ)) (m : MetadataRequest)
      (reply : MetadataReply)
      → reply_to w (Ask caller client (Metadata m)) ≡ replies.Metadata reply → ListsTheNode w reply
  pub found : (w : World) (caller : Caller) (client : Option (List ℕ)) (r : FindCoordinatorRequest)
      (reply : FindCoordinatorReply)
      → reply_to w (Ask caller client (FindCoordinator r)) ≡ replies.FindCoordinator reply
      → FindsTheNode w r reply
