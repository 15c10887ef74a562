use Rattle.std.proofs.Common.{rules}
use Rattle.msg_admin.proofs.request.write_request.Goals as goal

pub returns-in-EndTxn : goal.returns-in-EndTxn
returns-in-EndTxn c = search rules
