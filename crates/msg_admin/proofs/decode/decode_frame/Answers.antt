use Rattle.std.proofs.Common.{◌∙◌}
use Rattle.std.proofs.lemmas.Result.{IfOk-weaker}
use Rattle.msg_admin.proofs.Decoded.{request_is, versions_are}
use Rattle.msg_admin.proofs.decode.decode_frame.Goals as goal

pub returns-clause-request : goal.returns-clause-request
returns-clause-request c = λ h r i. IfOk-weaker c.decode.result _ _ (λ f e. e ∙ request_is c.args.frame.now h r i) c.decode.ensures.exact

pub returns-clause-versions : goal.returns-clause-versions
returns-clause-versions c = λ correlation i. IfOk-weaker c.decode.result _ _ (λ f e. e ∙ versions_are c.args.frame.now correlation i) c.decode.ensures.exact
