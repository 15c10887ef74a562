-- What an AddPartitionsToTxn and a marker step leave.
use Rattle.std.proofs.Common.{◌≡◌, Bool, true, false, cond, List, Option, Some, None, refl}
use Rattle.acl_binding.specs.declared.question.Caller.{Caller}
use Rattle.msg_txn.specs.declared.add_partitions.AddPartitionsToTxnRequest.{AddPartitionsToTxnRequest}
use Rattle.txn_coordinator.specs.Coordinator.{CoordinatorValue}
use Rattle.txn_coordinator.specs.declared.marker.PendingMarker.{PendingMarker}
use Rattle.txn_coordinator.specs.Warrants.{next_warrant}
use Rattle.group_offsets.specs.declared.group.Group.{Group}
use Rattle.broker_world.specs.World.{World, TopicValue, rules_of}
use Rattle.txn_handlers.specs.AddPartitions.{is_cut, cut_outcome, added_outcome, add_partitions_outcome}
use Rattle.txn_handlers.specs.Marks.{mark_by, mark_outcome}

-- an AddPartitionsToTxn touches the coordinator alone
pub add_keeps : {A : Type 0} (of : World → A) → ((w : World) (c : CoordinatorValue) → of (record w { coordinator = c }) ≡ of w) → (w : World) (caller : Caller) (r : AddPartitionsToTxnRequest) → of (add_partitions_outcome w caller r).world ≡ of w
add_keeps of same w caller r = by_cut (is_cut caller r.transactional_id w.topics (rules_of w) r.topics) where
  by_cut : (b : Bool) → of (cond b (cut_outcome w caller r) (added_outcome w r)).world ≡ of w
  by_cut true = refl
  by_cut false = same w _

-- a marker step touches the topics, the groups and the coordinator
pub mark_keeps : {A : Type 0} (of : World → A) → ((w : World) (topics : List TopicValue) (groups : List Group) (c : CoordinatorValue) → of (record w { topics = topics; groups = groups; coordinator = c }) ≡ of w) → (w : World) → of (mark_outcome w).world ≡ of w
mark_keeps of same w = by_front (next_warrant w.coordinator) where
  by_front : (o : Option PendingMarker) → of (mark_by w o).world ≡ of w
  by_front None = refl
  by_front (Some m) = same w _ _ _
