use Rattle.std.proofs.Common.{◌≡◌, ◌++◌, drop, map}
use Rattle.sasl_login.specs.Listed.{from_zero}
use Rattle.sasl_login.proofs.listed.all_from_zero.Given as goal

-- those so far, and then those that are left
abbrev pub invariant-loop-served : goal.invariant-loop-served
invariant-loop-served l = l.listed ++ map from_zero (drop l.served-index l.apis) ≡ map from_zero l.apis
