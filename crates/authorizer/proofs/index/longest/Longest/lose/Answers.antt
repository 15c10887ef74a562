use Rattle.std.proofs.Common.{arith}
use Rattle.authorizer.proofs.Longest.{shorter_left, one_left}
use Rattle.authorizer.proofs.index.longest.Longest.lose.Goals as goal

pub returns-then-bytes-self-clause-left : goal.returns-then-bytes-self-clause-left
returns-then-bytes-self-clause-left c = λ ns left gone is _. shorter_left c.args.self.now c.args.bytes ns left gone c.if-bytes-self.true is

pub returns-clause-left : goal.returns-clause-left
returns-clause-left c = λ ns left gone is _. one_left c.args.self.now c.args.bytes _ ns left gone (omega arith) (omega arith) (omega arith) is
