use Rattle.std.proofs.Common.{◌≡◌, drop}
use Rattle.group_offsets.specs.Group.{given_to}
use Rattle.group_offsets.proofs.group.given_to.Given as goal

abbrev pub invariant-loop-one : goal.invariant-loop-one
invariant-loop-one l = given_to l.member (drop l.one-index l.given) ≡ given_to l.member l.given
