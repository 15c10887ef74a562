use Rattle.std.proofs.Common.{List, map, ap, sym, ◌∙◌, rules}
use Rattle.msg_acl.specs.declared.entries.FilterEntry.{FilterEntry}
use Rattle.msg_admin.specs.declared.reply.Reply.TheVariants as replies
use Rattle.authorizer.specs.Asking.{policy_rules}
use Rattle.walk.specs.Codes.{refusal_code}
use Rattle.broker_world.specs.World.{rules_of}
use Rattle.acl_handlers.specs.DeleteAcls.{deletion_error, delete_acls_reply}
use Rattle.broker_world.proofs.Wholes.{refused_met}
use Rattle.acl_handlers.proofs.delete_acls.answer_delete_acls.Goals as goal

pub returns-in_ok-reply-in-Err : goal.returns-in_ok-reply-in-Err
returns-in_ok-reply-in-Err c =
    let listed = ap (λ (es : List FilterEntry). replies.DeleteAcls (delete_acls_reply (map (λ (e : FilterEntry). deletion_error (refusal_code c.in-Err.refusal)) es))) c.as_slice-filters.ensures in
    refused_met c.args.state.now _ (policy_rules c.state.inside.policy) _ _ _ _ _ _ _ (search rules) (ap rules_of (sym c.state.view_is)) c.in_ok-question.ensures c.in-Err.ensures.refused (c.in_ok-reply-in-Err.ensures ∙ listed) c.refused_whole.ensures
