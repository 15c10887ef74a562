use Rattle.msg_admin.proofs.MessageLaws.{one_response}
use Rattle.msg_admin.proofs.laws.one_response.Goals as goal

pub returns : goal.returns
returns c = one_response
