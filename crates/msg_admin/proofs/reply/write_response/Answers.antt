use Rattle.std.proofs.Common.{ℤ, sym, subst, w32}
use Rattle.std.proofs.lemmas.Int.{to_z-of_z}
use Rattle.msg_txn.specs.declared.end_txn.EndTxnReply.{EndTxnReply}
use Rattle.msg_admin.specs.declared.reply.Reply.{Reply}
use Rattle.msg_admin.specs.declared.reply.Reply.TheVariants as replies
use Rattle.msg_admin.specs.Response.{GivesReply}
use Rattle.msg_admin.proofs.reply.write_response.Goals as goal

pub returns-in-EndTxn : goal.returns-in-EndTxn
returns-in-EndTxn c =
    let r = c.write_ended.result in
    let here = subst (λ (z : ℤ). GivesReply z (replies.EndTxn c.value.result.now) r) (to_z-of_z w32 c.args.correlation c.ranges.correlation) c.write_ended.ensures in
    let told = subst (λ (a : EndTxnReply). GivesReply c.args.correlation (replies.EndTxn a) r) c.value.ensures here in
    subst (λ (reply : Reply). GivesReply c.args.correlation reply r) (sym c.in-EndTxn.is) told
