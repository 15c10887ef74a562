use Rattle.msg_admin.proofs.MessageLaws.{one_reply}
use Rattle.msg_admin.proofs.laws.one_reply.Goals as goal

pub returns : goal.returns
returns c = one_reply
