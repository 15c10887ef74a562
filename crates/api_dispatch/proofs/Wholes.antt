-- What a request that only reads leaves, and what is promised of equal requests.
use Rattle.std.proofs.Common.{◌≡◌, ℤ, true, false, List, [], ◌∷◌, Option, Some, None, Result, Ok, Err, OnErr, refl, sym, subst}
use Rattle.std.specs.declared.alloc.AllocError.{AllocError}
use Rattle.acl_binding.specs.declared.question.Caller.{Caller}
use Rattle.authorizer.specs.declared.answer.Refusal.{Refusal}
use Rattle.authorizer.specs.Asking.{part_refusal}
use Rattle.wire_types.specs.declared.error_code.ErrorCode.{ErrorCode}
use Rattle.msg_acl.specs.declared.describe_acls.DescribeAclsRequest.{DescribeAclsRequest}
use Rattle.msg_admin.specs.declared.reply.Reply.{Reply}
use Rattle.msg_admin.specs.declared.request.Request.{Request}
use Rattle.msg_admin.specs.declared.request.Request.TheVariants.{Produce, Fetch, ListOffsets, Metadata, OffsetCommit, OffsetFetch, FindCoordinator, JoinGroup, Heartbeat, LeaveGroup, SyncGroup, SaslHandshake, ApiVersions, InitProducerId, AddPartitionsToTxn, AddOffsetsToTxn, EndTxn, TxnOffsetCommit, DescribeAcls, CreateAcls, DeleteAcls, SaslAuthenticate}
use Rattle.audit_trail.specs.declared.event.Event.{Event}
use Rattle.audit_trail.specs.declared.event.Event.TheVariants.{Ask, Mark, Tick}
use Rattle.broker_world.specs.declared.handler_result.HandlerResult.{HandlerResult as Told}
use Rattle.broker_world.specs.HandlerResult.{HandlerMeets}
use Rattle.broker_world.specs.World.{World, rules_of}
use Rattle.broker_world.specs.Whole.{whole_outcome_by}
use Rattle.acl_handlers.specs.DescribeAcls.{describe_acls_questions, describe_acls_outcome}
use Rattle.wire_types.specs.declared.topic.Topic.{Topic}
use Rattle.msg_group.specs.declared.offset_fetch.OffsetFetchRequest.{OffsetFetchRequest}
use Rattle.msg_txn.specs.declared.find_coordinator.FindCoordinatorRequest.{FindCoordinatorRequest}
use Rattle.group_handlers.specs.FindCoordinator.{kind_of, find_questions, find_coordinator_outcome}
use Rattle.group_handlers.specs.OffsetFetch.{group_question, offsets_of, fetched_outcome, offset_fetch_by, offset_fetch_outcome}
use Rattle.api_dispatch.specs.Questions.{asks_itself, parts_walked}
use Rattle.api_dispatch.specs.Step.{request_outcome, outcome, is_reading}

pub on_err : {T E P : Type 0} (r : Result T E) → P → OnErr r P
on_err (Ok x) p = tt
on_err (Err e) p = p

-- ---- what only reads changes nothing

whole_keeps : (o : Option Refusal) (w : World) (refused : ErrorCode → Reply) (reply : Reply) → (whole_outcome_by o w refused (record { world = w; reply = reply })).world ≡ w
whole_keeps None w refused reply = refl
whole_keeps (Some r) w refused reply = refl

pub describe_keeps : (w : World) (caller : Caller) (r : DescribeAclsRequest) → (describe_acls_outcome w caller r).world ≡ w
describe_keeps w caller r = whole_keeps (part_refusal (rules_of w) (describe_acls_questions caller)) w _ _

pub find_keeps : (w : World) (caller : Caller) (r : FindCoordinatorRequest) → (find_coordinator_outcome w caller r).world ≡ w
find_keeps w caller r = whole_keeps (part_refusal (rules_of w) (find_questions caller (kind_of r.key_type) r.key)) w _ _

pub offsets_keep : (w : World) (caller : Caller) (r : OffsetFetchRequest) → (offset_fetch_outcome w caller r).world ≡ w
offsets_keep w caller r = by_refusal (part_refusal (rules_of w) (group_question caller r.group ∷ [])) where
  by_topics : (o : Option (List (Topic ℤ))) → (fetched_outcome w caller (offsets_of w r.group) r.require_stable o).world ≡ w
  by_topics None = refl
  by_topics (Some ts) = refl

  by_refusal : (o : Option Refusal) → (offset_fetch_by o w caller r).world ≡ w
  by_refusal None = by_topics r.topics
  by_refusal (Some refusal) = refl

pub reading_keeps : (w : World) (e : Event) → is_reading e ≡ true → (outcome w e).world ≡ w
reading_keeps w (Ask caller client (Produce r)) reads = absurd (let clash : false ≡ true = reads in cc)
reading_keeps w (Ask caller client (Fetch r)) reads = refl
reading_keeps w (Ask caller client (ListOffsets r)) reads = refl
reading_keeps w (Ask caller client (Metadata r)) reads = refl
reading_keeps w (Ask caller client (OffsetCommit r)) reads = absurd (let clash : false ≡ true = reads in cc)
reading_keeps w (Ask caller client (JoinGroup r)) reads = absurd (let clash : false ≡ true = reads in cc)
reading_keeps w (Ask caller client (Heartbeat r)) reads = absurd (let clash : false ≡ true = reads in cc)
reading_keeps w (Ask caller client (LeaveGroup r)) reads = absurd (let clash : false ≡ true = reads in cc)
reading_keeps w (Ask caller client (SyncGroup r)) reads = absurd (let clash : false ≡ true = reads in cc)
reading_keeps w (Ask caller client (OffsetFetch r)) reads = offsets_keep w caller r
reading_keeps w (Ask caller client (FindCoordinator r)) reads = find_keeps w caller r
reading_keeps w (Ask caller client (InitProducerId r)) reads = absurd (let clash : false ≡ true = reads in cc)
reading_keeps w (Ask caller client (AddPartitionsToTxn r)) reads = absurd (let clash : false ≡ true = reads in cc)
reading_keeps w (Ask caller client (AddOffsetsToTxn r)) reads = absurd (let clash : false ≡ true = reads in cc)
reading_keeps w (Ask caller client (EndTxn r)) reads = absurd (let clash : false ≡ true = reads in cc)
reading_keeps w (Ask caller client (TxnOffsetCommit r)) reads = absurd (let clash : false ≡ true = reads in cc)
reading_keeps w (Ask caller client (SaslHandshake r)) reads = refl
reading_keeps w (Ask caller client ApiVersions) reads = refl
reading_keeps w (Ask caller client (SaslAuthenticate r)) reads = refl
reading_keeps w (Ask caller client (DescribeAcls r)) reads = describe_keeps w caller r
reading_keeps w (Ask caller client (CreateAcls r)) reads = absurd (let clash : false ≡ true = reads in cc)
reading_keeps w (Ask caller client (DeleteAcls r)) reads = absurd (let clash : false ≡ true = reads in cc)
reading_keeps w Mark reads = absurd (let clash : false ≡ true = reads in cc)
reading_keeps w (Tick told) reads = absurd (let clash : false ≡ true = reads in cc)

-- ---- what is promised of a request is promised of an equal one

pub request_met : (old new : World) (caller : Caller) (result : Result Told AllocError) (q r : Request) → q ≡ r
    → HandlerMeets old new (request_outcome old caller r) (asks_itself (rules_of old) caller r) (parts_walked old caller r) result
    → HandlerMeets old new (request_outcome old caller q) (asks_itself (rules_of old) caller q) (parts_walked old caller q) result
request_met old new caller result q r is met =
    subst (λ (x : Request). HandlerMeets old new (request_outcome old caller x) (asks_itself (rules_of old) caller x) (parts_walked old caller x) result) (sym is) met
