use Rattle.std.proofs.Common.{◌≡◌, drop, option_map}
use Rattle.std.proofs.Common.{find}
use Rattle.sasl_login.specs.LoginMessage.{is_user}
use Rattle.sasl_login.proofs.Found.{or_else}
use Rattle.sasl_login.proofs.users.find_user.Given as goal

-- the one found so far, or else the first among the rest
abbrev pub invariant-loop-user : goal.invariant-loop-user
invariant-loop-user l = or_else (option_map (λ u. u.now) l.found) (find (is_user l.name l.password) (drop l.user-index l.users)) ≡ find (is_user l.name l.password) l.users
