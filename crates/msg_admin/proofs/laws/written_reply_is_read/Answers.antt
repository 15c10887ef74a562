use Rattle.msg_admin.proofs.MessageLaws.{written_reply_is_read}
use Rattle.msg_admin.proofs.laws.written_reply_is_read.Goals as goal

pub returns : goal.returns
returns c = written_reply_is_read
