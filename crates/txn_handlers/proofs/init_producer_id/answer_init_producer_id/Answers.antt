use Rattle.std.proofs.Common.{◌≡◌, List, [], ◌∷◌, Some, None, refl, sym, ap, subst, ◌∙◌, rules}
use Rattle.wire_types.specs.declared.error_code.ErrorCode.{ErrorCode}
use Rattle.acl_binding.specs.declared.question.Question.{Question}
use Rattle.authorizer.specs.Asking.{part_refusal, policy_rules}
use Rattle.msg_admin.specs.declared.reply.Reply.{Reply}
use Rattle.msg_admin.specs.declared.reply.Reply.TheVariants as replies
use Rattle.broker_world.specs.World.{rules_of}
use Rattle.broker_world.specs.HandlerResult.{HandlerMeets}
use Rattle.broker_world.specs.Whole.{whole_outcome}
use Rattle.broker_world.proofs.Wholes.{refused_met}
use Rattle.txn_handlers.specs.InitProducerId.{init_question, init_error, served_init}
use Rattle.txn_handlers.proofs.Waived.{granted, same_asked, waived, asked_refused}
use Rattle.txn_handlers.proofs.init_producer_id.answer_init_producer_id.Goals as goal

pub returns-in_ok-spent-in-Ok : goal.returns-in_ok-spent-in-Ok
returns-in_ok-spent-in-Ok c =
    let yes : part_refusal (rules_of c.args.state.now) (init_question c.args.caller.now c.args.request.now.transactional_id ∷ []) ≡ None =
    rw (← c.state.view_is, ← c.in_ok-question.ensures) c.in-Ok.ensures.yes in
    let allowed = granted (rules_of c.args.state.now) c.args.caller.now c.args.request.now.transactional_id yes in
    let asked = same_asked (rules_of c.args.state.now) c.args.caller.now c.args.request.now.transactional_id yes in
    record {
      world = search (rules, allowed);
      reply = search (rules, allowed);
      refusals = search (rules, allowed);
      paid = search (rules, allowed, asked);
      spent = search rules;
    }

pub returns-in_ok-reply-in-Err : goal.returns-in_ok-reply-in-Err
returns-in_ok-reply-in-Err c =
    let refused : part_refusal (rules_of c.args.state.now) (init_question c.args.caller.now c.args.request.now.transactional_id ∷ []) ≡ Some c.in-Err.field-0 =
    rw (← c.state.view_is, ← c.in_ok-question.ensures) c.in-Err.ensures.refused in
    let none = waived (rules_of c.args.state.now) c.args.caller.now c.args.request.now.transactional_id c.in-Err.field-0 refused (sym c.any_topic_suffices.ensures ∙ c.if-any_topic_suffices.true) in
    record {
      world = search (rules, none);
      reply = search (rules, none);
      refusals = search (rules, none);
      paid = search (rules, none);
      spent = search rules;
    }

pub returns-in_ok-reply-in-Err-2 : goal.returns-in_ok-reply-in-Err-2
returns-in_ok-reply-in-Err-2 c =
    let w = c.args.state.now in
    let r = c.args.request.now in
    let refused : ErrorCode → Reply = λ code. replies.InitProducerId (init_error code) in
    let asked = asked_refused (rules_of w) c.args.caller.now r.transactional_id (sym c.any_topic_suffices.ensures ∙ c.if-any_topic_suffices.false) in
    let told = c.in_ok-reply-in-Err-2.ensures ∙ ap refused c.refusal_code.ensures in
    subst (λ (qs : List Question). HandlerMeets w w (whole_outcome w qs refused (served_init w r)) qs [] c.refused_whole.result) asked
    (refused_met w w (policy_rules c.state.inside.policy) _ _ refused (served_init w r) _ _ _ refl (ap rules_of (sym c.state.view_is)) c.in_ok-question.ensures c.in-Err.ensures.refused told c.refused_whole.ensures)
