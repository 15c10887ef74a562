use Rattle.std.proofs.Common.{◌≡◌, ◌+◌, ◌≤◌, length, drop}
use Rattle.sasl_login.specs.Compared.{differences}
use Rattle.sasl_login.proofs.compare.differences.Given as goal

-- those so far, and then those of what is left
abbrev pub invariant-loop-byte : goal.invariant-loop-byte
invariant-loop-byte l = record {
  few : l.count ≤ l.byte-index;
  within : length l.rest ≤ length l.kept;
  are : l.count + differences (drop l.byte-index l.told) l.rest ≡ differences l.told l.kept;
}
