use Rattle.std.proofs.Common.{◌≡◌, ◌++◌, drop, map}
use Rattle.msg_admin.specs.Versions.{served_in}
use Rattle.msg_admin.proofs.versions.all_served.Given as goal

-- those so far, and then those that are left
abbrev pub invariant-loop-key : goal.invariant-loop-key
invariant-loop-key l = l.served ++ map served_in (drop l.key-index l.keys) ≡ map served_in l.keys
