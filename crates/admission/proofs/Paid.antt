-- Until when users have paid, as a table keeps it.
use Rattle.std.proofs.Common.{ℕ, List, Some, refl, sym, ◌∙◌}
use Rattle.admission.specs.declared.pace.Rate.{Rate}
use Rattle.admission.specs.Quota.{counts_of}
use Rattle.admission.specs.Pace.{PaceValue, HasPaid}
use Rattle.admission.proofs.Counts.{Table, Puts, connections_seen, here_after, other_after}

abbrev pub kept : {S : Type 0} → Rate → Table S → PaceValue
kept rate table = record { rate = rate; paid = counts_of table.entries }

pub has_paid : {S : Type 0} (rate : Rate) (m n : Table S) (user : List ℕ) (paid : ℕ) → Puts m n user (Some paid) → HasPaid (kept rate m) (kept rate n) user paid
has_paid rate m n user paid puts = record {
  rate = refl;
  here = connections_seen 0 n user ∙ here_after m n user (Some paid) puts;
  others = λ other apart. connections_seen 0 n other ∙ other_after m n user (Some paid) puts other apart ∙ sym (connections_seen 0 m other);
}
