use Rattle.msg_admin.proofs.MessageLaws.{one_request}
use Rattle.msg_admin.proofs.laws.one_request.Goals as goal

pub returns : goal.returns
returns c = one_request
