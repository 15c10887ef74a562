-- Bytes that are read as a value spell no other.
use Rattle.std.proofs.Common.{ℕ, List, [], ap, sym, ◌∙◌}
use Rattle.wire_types.specs.Grammar.{Grammar}
use Rattle.wire_types.specs.Laws.{OneValue}
use Rattle.wire_types.specs.NumberLaws.{ok_is}

pub is_one_value : {A : Type 0} (g : Grammar A) → OneValue g
is_one_value {A} g text x y h k =
    ap (λ (p : A × List ℕ). p.0) (ok_is (x, []) (y, []) (sym (g.complete text [] x h) ∙ g.complete text [] y k))
