-- Lines name the binding that denied, and wrong ones name another or none.
use Rattle.std.proofs.Common.{◌≡◌, ℕ, List, length, refl, ap}
use Rattle.std.specs.Fmt.{digits}
use Rattle.audit_trail.specs.Line.{line_of, escaped}
use Rattle.wrong_rules.specs.Lines.{LinesNameTheBinding, line_by_the_first, line_unmatched}

pub named : LinesNameTheBinding line_of
unfolding escaped digits
named = record { denied = refl; unmatched = refl }

pub not_the_first : ¬ LinesNameTheBinding line_by_the_first
unfolding escaped digits
not_the_first law = let clash : ◌≡◌ {A = ℕ} 41 42 = ap (λ (l : List ℕ). length l) law.denied in cc

pub not_unmatched : ¬ LinesNameTheBinding line_unmatched
unfolding escaped digits
not_unmatched law = let clash : ◌≡◌ {A = ℕ} 39 42 = ap (λ (l : List ℕ). length l) law.denied in cc
