use Rattle.std.proofs.Common.{ℤ, subst, w32}
use Rattle.std.proofs.lemmas.Int.{to_z-of_z}
use Rattle.msg_admin.specs.Response.{GivesReply}
use Rattle.msg_admin.proofs.Replies.{within, refused_long}
use Rattle.msg_admin.proofs.reply.write_reply.Goals as goal

pub returns-clause-within : goal.returns-clause-within
returns-clause-within c =
    let given = subst (λ (z : ℤ). GivesReply z c.args.reply.now c.write_response.result) (to_z-of_z w32 c.args.correlation c.ranges.correlation) c.write_response.ensures in
    within c.args.correlation c.args.reply.now c.write_response.result given

pub returns-clause-too_long : goal.returns-clause-too_long
returns-clause-too_long c =
    let given = subst (λ (z : ℤ). GivesReply z c.args.reply.now c.write_response.result) (to_z-of_z w32 c.args.correlation c.ranges.correlation) c.write_response.ensures in
    refused_long c.args.correlation c.args.reply.now c.write_response.result given
