use Rattle.msg_admin.proofs.Replies.{sendable_is_short}
use Rattle.msg_admin.proofs.laws.sendable_is_short.Goals as goal

pub returns : goal.returns
returns c = sendable_is_short
