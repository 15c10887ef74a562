use Rattle.std.proofs.Common.{arith, length, refl}
use Rattle.sasl_login.proofs.Longest.{too_long}
use Rattle.sasl_login.proofs.login_message.user_of.Goals as goal

pub returns-then-longest_login-message : goal.returns-then-longest_login-message
returns-then-longest_login-message c = too_long c.args.users.now c.args.message.now c.longest_login.result (length c.args.message.now) 18446744073709551615 c.longest_login.ensures refl (omega arith) c.if-longest_login-message.true
