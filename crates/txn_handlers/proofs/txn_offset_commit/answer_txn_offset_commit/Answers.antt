use Rattle.std.proofs.Common.{rules, ap, ◌∙◌}
use Rattle.msg_txn.specs.declared.txn_offset_commit.TxnOffsetCommitReply.{TxnOffsetCommitReply}
use Rattle.msg_admin.specs.declared.reply.Reply.TheVariants as replies
use Rattle.broker_world.specs.contracts.state.State.{the_view}
use Rattle.broker_world.specs.declared.handler_result.HandlerResult.{HandlerResult as Told}
use Rattle.broker_world.specs.World.{World}
use Rattle.txn_handlers.specs.TxnOffsetCommit.{txn_offset_commit_outcome}
use Rattle.txn_handlers.proofs.StagedParts.{staged_groups, staged_reply}
use Rattle.txn_handlers.proofs.txn_offset_commit.answer_txn_offset_commit.Goals as goal

pub returns : goal.returns
returns c =
    let told = rw c.in_ok-refusal.ensures at c.in_ok-walked.ensures.refusals in
    record {
      world =
          staged_groups (the_view c.state.inside) c.args.caller.now c.args.request.now c.in_ok-refusal.refusal c.in_ok-refusal.ensures c.stage_all.new.groups c.in_ok-walked.ensures.groups
          ∙ ap (λ (w : World). (txn_offset_commit_outcome w c.args.caller.now c.args.request.now).world) c.state.view_is;
      reply =
          ap (λ (o : Told). o.reply) c.served_in_parts.ensures
          ∙ ap (λ (body : TxnOffsetCommitReply). replies.TxnOffsetCommit body) c.in_ok-new.ensures
          ∙ staged_reply (the_view c.state.inside) c.args.caller.now c.args.request.now c.in_ok-refusal.refusal c.in_ok-refusal.ensures c.in_ok-walked.walked.topics c.in_ok-walked.ensures.answers
          ∙ ap (λ (w : World). (txn_offset_commit_outcome w c.args.caller.now c.args.request.now).reply) c.state.view_is;
      refusals = search (rules, told);
      paid = search rules;
      spent = search rules;
    }
