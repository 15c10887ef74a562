use Rattle.std.proofs.Common.{◌+◌, ℕ, ◌++◌, ◌∷◌, [], subst, sym, arith}
use Rattle.authorizer.specs.Longest.{IsLongest}
use Rattle.authorizer.proofs.Longest.{raised, joined, below_it}
use Rattle.authorizer.proofs.index.longest.Longest.add.Goals as goal

pub returns-then-bytes-self : goal.returns-then-bytes-self
returns-then-bytes-self c = λ ns is. raised c.args.self.now c.args.bytes ns c.if-bytes-self.true is

pub returns-then-bytes-self-2 : goal.returns-then-bytes-self-2
returns-then-bytes-self-2 c = λ ns is. subst (λ (n : ℕ). IsLongest (record { bytes = c.args.self.now.bytes; names = c.args.self.now.names + 1 }) (ns ++ n ∷ [])) (sym c.if-bytes-self-2.true) (joined c.args.self.now ns is)

pub returns-else-bytes-self-2 : goal.returns-else-bytes-self-2
returns-else-bytes-self-2 c = λ ns is. below_it c.args.self.now c.args.bytes ns (omega arith) is
