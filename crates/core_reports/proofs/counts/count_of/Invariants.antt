use Rattle.std.proofs.Common.{◌≡◌, ◌+◌, drop, length}
use Rattle.audit_trail.specs.Trail.{refusal_count}
use Rattle.core_reports.specs.Counts.{entries_of}
use Rattle.core_reports.proofs.counts.count_of.Given as goal

-- what was counted, and then what is left
abbrev pub invariant-loop-place : goal.invariant-loop-place
invariant-loop-place l =
    (l.counted.events + length (entries_of l.kind (drop l.place l.trail)) ≡ length (entries_of l.kind l.trail))
    × (l.counted.refusals + refusal_count (entries_of l.kind (drop l.place l.trail)) ≡ refusal_count (entries_of l.kind l.trail))
