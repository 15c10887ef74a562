use Rattle.std.proofs.Common.{subst}
use Rattle.msg_admin.specs.Request.{Answers}
use Rattle.message_words.proofs.Responses.{found, response_again}
use Rattle.message_words.proofs.reading.read_reply.Goals as goal

pub returns-clause-found : goal.returns-clause-found
returns-clause-found c = found c.args.api c.args.response.now c.read_whole.result c.read_whole.ensures

pub returns-clause-only : goal.returns-clause-only
returns-clause-only c = λ correlation r i. subst (λ f. Answers f c.read_whole.result) (response_again c.args.api c.args.response.now correlation r i) c.read_whole.ensures
