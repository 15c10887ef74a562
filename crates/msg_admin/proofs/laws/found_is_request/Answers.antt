use Rattle.msg_admin.proofs.MessageLaws.{found_is_request}
use Rattle.msg_admin.proofs.laws.found_is_request.Goals as goal

pub returns : goal.returns
returns c = found_is_request
