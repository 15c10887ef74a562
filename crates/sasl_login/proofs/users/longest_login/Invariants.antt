use Rattle.std.proofs.Common.{◌≡◌, ◌-◌, ◌^◌, drop}
use Rattle.std.specs.Prelude.{max, min}
use Rattle.sasl_login.specs.LoginMessage.{longest_login}
use Rattle.sasl_login.proofs.users.longest_login.Given as goal

-- the longest so far, or the longest of the rest where that is longer
abbrev pub invariant-loop-user : goal.invariant-loop-user
invariant-loop-user l = max l.longest (min (longest_login (drop l.user-index l.users)) (2 ^ 64 - 1)) ≡ min (longest_login l.users) (2 ^ 64 - 1)
