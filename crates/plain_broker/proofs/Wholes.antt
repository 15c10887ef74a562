-- The apis whose request is one part.
use Rattle.std.proofs.Common.{◌≡◌, ℕ, List, [], ◌∷◌, Option, Some, None, Bool, true, false, cond, refl, sym, ap, ◌∙◌}
use Rattle.acl_binding.specs.declared.question.Caller.{Caller}
use Rattle.acl_binding.specs.declared.question.Question.{Question}
use Rattle.acl_binding.specs.declared.words.Kind.{Kind}
use Rattle.authorizer.specs.declared.answer.Refusal.{Refusal}
use Rattle.authorizer.specs.Asking.{Rules, part_refusal}
use Rattle.wire_types.specs.declared.error_code.ErrorCode.{ErrorCode}
use Rattle.msg_admin.specs.declared.request.Request.{Request}
use Rattle.msg_admin.specs.declared.request.Request.TheVariants.{FindCoordinator, JoinGroup, Heartbeat, LeaveGroup, SyncGroup, InitProducerId, AddOffsetsToTxn, EndTxn, DescribeAcls, CreateAcls, DeleteAcls}
use Rattle.msg_admin.specs.declared.reply.Reply.{Reply}
use Rattle.msg_admin.specs.declared.reply.Reply.TheVariants as replies
use Rattle.msg_txn.specs.declared.find_coordinator.FindCoordinatorRequest.{FindCoordinatorRequest}
use Rattle.msg_txn.specs.declared.init_producer_id.InitProducerIdRequest.{InitProducerIdRequest}
use Rattle.msg_txn.specs.declared.add_offsets.AddOffsetsToTxnRequest.{AddOffsetsToTxnRequest}
use Rattle.msg_txn.specs.declared.end_txn.EndTxnRequest.{EndTxnRequest}
use Rattle.msg_group.specs.declared.join_group.JoinGroupRequest.{JoinGroupRequest}
use Rattle.msg_group.specs.declared.heartbeat.HeartbeatRequest.{HeartbeatRequest}
use Rattle.msg_group.specs.declared.leave_group.LeaveGroupRequest.{LeaveGroupRequest}
use Rattle.msg_group.specs.declared.sync_group.SyncGroupRequest.{SyncGroupRequest}
use Rattle.msg_acl.specs.declared.describe_acls.DescribeAclsRequest.{DescribeAclsRequest}
use Rattle.msg_acl.specs.declared.create_acls.CreateAclsRequest.{CreateAclsRequest}
use Rattle.msg_acl.specs.declared.delete_acls.DeleteAclsRequest.{DeleteAclsRequest}
use Rattle.broker_world.specs.World.{World, rules_of}
use Rattle.broker_world.specs.HandlerResult.{HandlerResult}
use Rattle.broker_world.specs.Whole.{Served, whole_outcome_by, whole_outcome}
use Rattle.group_handlers.specs.FindCoordinator.{kind_of, find_questions}
use Rattle.broker_world.specs.Questions.{read_question}
use Rattle.txn_handlers.specs.EndTxn.{end_questions}
use Rattle.txn_handlers.specs.InitProducerId.{init_question, is_waived, init_questions, init_error, served_init}
use Rattle.txn_handlers.specs.AddOffsets.{add_offsets_questions}
use Rattle.acl_handlers.specs.DescribeAcls.{describe_acls_questions}
use Rattle.acl_handlers.specs.CreateAcls.{alter_questions}
use Rattle.api_dispatch.specs.Step.{request_outcome, with_event_counted}
use Rattle.plain_broker.specs.Allowed.{allowed_part, rest_or_nothing}
use Rattle.plain_broker.specs.PutBack.{reply_with_refused, refused_whole}
use Rattle.plain_broker.specs.Plain.{unrestricted_world, plain_outcome, with_refusals, IsPlainOfAllowed}
use Rattle.plain_broker.proofs.Freed.{freed}

-- the request is served whole or refused whole, by these questions, and served alike in the plain broker's world
pub record IsWhole (w : World) (caller : Caller) (request : Request) (questions : List Question) (refused : ErrorCode → Reply) (served free : Served) : Type 0 where
  pub here : request_outcome w caller request ≡ whole_outcome w questions refused served
  pub there : plain_outcome w caller request ≡ whole_outcome (unrestricted_world w caller) questions refused free
  pub granted : part_refusal (rules_of (unrestricted_world w caller)) questions ≡ None
  pub same : served ≡ record { world = record free.world { supers = w.supers }; reply = free.reply }
  pub by_parts : allowed_part (rules_of w) caller request ≡ rest_or_nothing request (part_refusal (rules_of w) questions)
  pub told : (code : ErrorCode) → refused code ≡ refused_whole code request
  pub put : (reply : Reply) → reply_with_refused (rules_of w) caller request reply ≡ reply

module _ (w : World) (caller : Caller) (client : Option (List ℕ)) where
  module _ (request : Request) (questions : List Question) (refused : ErrorCode → Reply) (served free : Served) (is : IsWhole w caller request questions refused served free) where
    plain_is : plain_outcome w caller request ≡ record { world = free.world; reply = free.reply; refusals = [] }
    plain_is = is.there ∙ ap (λ (o : Option Refusal). whole_outcome_by o (unrestricted_world w caller) refused free) is.granted

    put_is : (o : Option Refusal) → record { world = (whole_outcome_by o w refused served).world; reply = (whole_outcome_by o w refused served).reply } ≡ with_refusals w caller request (rest_or_nothing request o)
    put_is (Some r) = ap (λ (reply : Reply). record { world = w; reply = reply }) (is.told _)
    put_is None =
        is.same
        ∙ sym (ap (λ (reply : Reply). record { world = record free.world { supers = w.supers }; reply = reply }) (is.put free.reply))
        ∙ sym (ap (λ (o : HandlerResult). record { world = record o.world { supers = w.supers }; reply = reply_with_refused (rules_of w) caller request o.reply }) plain_is)

    told_is : record { world = (request_outcome w caller request).world; reply = (request_outcome w caller request).reply } ≡ with_refusals w caller request (allowed_part (rules_of w) caller request)
    told_is =
        ap (λ (o : HandlerResult). record { world = o.world; reply = o.reply }) is.here
        ∙ put_is (part_refusal (rules_of w) questions)
        ∙ ap (with_refusals w caller request) (sym is.by_parts)

    by_whole : IsPlainOfAllowed w caller client request
    by_whole = record { reply = ap (λ (s : Served). s.reply) told_is; world = ap (λ (s : Served). with_event_counted s.world) told_is }

  pub find_freed : (o : Option Kind) (key : List ℕ) → part_refusal (rules_of (unrestricted_world w caller)) (find_questions caller o key) ≡ None
  find_freed None key = refl
  find_freed (Some kind) key = freed w caller (find_questions caller (Some kind) key) (refl, tt)

  -- whatever rules say what is asked
  pub init_freed : (rules : Rules) (id : Option (List ℕ)) → part_refusal (rules_of (unrestricted_world w caller)) (init_questions rules caller id) ≡ None
  init_freed rules None = by_waiver (is_waived rules caller) where
    by_waiver : (b : Bool) → part_refusal (rules_of (unrestricted_world w caller)) (cond b [] (init_question caller None ∷ [])) ≡ None
    by_waiver true = refl
    by_waiver false = freed w caller (init_question caller None ∷ []) (refl, tt)
  init_freed rules (Some id) = freed w caller (init_question caller (Some id) ∷ []) (refl, tt)

  pub finds : (r : FindCoordinatorRequest) → IsPlainOfAllowed w caller client (FindCoordinator r)
  finds r = by_whole (FindCoordinator r) (find_questions caller (kind_of r.key_type) r.key) _ _ _ (record { here = refl; there = refl; granted = find_freed (kind_of r.key_type) r.key; same = refl; by_parts = refl; told = λ code. refl; put = λ reply. refl })

  pub joins : (r : JoinGroupRequest) → IsPlainOfAllowed w caller client (JoinGroup r)
  joins r = by_whole (JoinGroup r) (read_question caller r.group ∷ []) _ _ _ (record { here = refl; there = refl; granted = freed w caller (read_question caller r.group ∷ []) (refl, tt); same = refl; by_parts = refl; told = λ code. refl; put = λ reply. refl })

  pub beats : (r : HeartbeatRequest) → IsPlainOfAllowed w caller client (Heartbeat r)
  beats r = by_whole (Heartbeat r) (read_question caller r.group ∷ []) _ _ _ (record { here = refl; there = refl; granted = freed w caller (read_question caller r.group ∷ []) (refl, tt); same = refl; by_parts = refl; told = λ code. refl; put = λ reply. refl })

  pub leaves : (r : LeaveGroupRequest) → IsPlainOfAllowed w caller client (LeaveGroup r)
  leaves r = by_whole (LeaveGroup r) (read_question caller r.group ∷ []) _ _ _ (record { here = refl; there = refl; granted = freed w caller (read_question caller r.group ∷ []) (refl, tt); same = refl; by_parts = refl; told = λ code. refl; put = λ reply. refl })

  pub syncs : (r : SyncGroupRequest) → IsPlainOfAllowed w caller client (SyncGroup r)
  syncs r = by_whole (SyncGroup r) (read_question caller r.group ∷ []) _ _ _ (record { here = refl; there = refl; granted = freed w caller (read_question caller r.group ∷ []) (refl, tt); same = refl; by_parts = refl; told = λ code. refl; put = λ reply. refl })

  pub inits : (r : InitProducerIdRequest) → IsPlainOfAllowed w caller client (InitProducerId r)
  inits r = by_whole (InitProducerId r) (init_questions (rules_of w) caller r.transactional_id) (λ code. replies.InitProducerId (init_error code)) _ (served_init (unrestricted_world w caller) r) (record {
    here = refl;
    there = ap (λ (o : Option Refusal). whole_outcome_by o (unrestricted_world w caller) (λ code. replies.InitProducerId (init_error code)) (served_init (unrestricted_world w caller) r)) (init_freed (rules_of (unrestricted_world w caller)) r.transactional_id ∙ sym (init_freed (rules_of w) r.transactional_id));
    granted = init_freed (rules_of w) r.transactional_id;
    same = refl;
    by_parts = refl;
    told = λ code. refl;
    put = λ reply. refl;
  })

  pub adds_offsets : (r : AddOffsetsToTxnRequest) → IsPlainOfAllowed w caller client (AddOffsetsToTxn r)
  adds_offsets r = by_whole (AddOffsetsToTxn r) (add_offsets_questions caller r.transactional_id r.group) _ _ _ (record { here = refl; there = refl; granted = freed w caller (add_offsets_questions caller r.transactional_id r.group) (refl, (refl, tt)); same = refl; by_parts = refl; told = λ code. refl; put = λ reply. refl })

  pub ends : (r : EndTxnRequest) → IsPlainOfAllowed w caller client (EndTxn r)
  ends r = by_whole (EndTxn r) (end_questions caller r) _ _ _ (record { here = refl; there = refl; granted = freed w caller (end_questions caller r) (refl, tt); same = refl; by_parts = refl; told = λ code. refl; put = λ reply. refl })

  pub describes : (r : DescribeAclsRequest) → IsPlainOfAllowed w caller client (DescribeAcls r)
  describes r = by_whole (DescribeAcls r) (describe_acls_questions caller) _ _ _ (record { here = refl; there = refl; granted = freed w caller (describe_acls_questions caller) (refl, tt); same = refl; by_parts = refl; told = λ code. refl; put = λ reply. refl })

  pub creates : (r : CreateAclsRequest) → IsPlainOfAllowed w caller client (CreateAcls r)
  creates r = by_whole (CreateAcls r) (alter_questions caller) _ _ _ (record { here = refl; there = refl; granted = freed w caller (alter_questions caller) (refl, tt); same = refl; by_parts = refl; told = λ code. refl; put = λ reply. refl })

  pub deletes : (r : DeleteAclsRequest) → IsPlainOfAllowed w caller client (DeleteAcls r)
  deletes r = by_whole (DeleteAcls r) (alter_questions caller) _ _ _ (record { here = refl; there = refl; granted = freed w caller (alter_questions caller) (refl, tt); same = refl; by_parts = refl; told = λ code. refl; put = λ reply. refl })
