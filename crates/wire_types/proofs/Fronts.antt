-- What stands at the front stays there, whatever is put after it.
use Rattle.std.proofs.Common.{◌≡◌, ℕ, List, sym, subst}
use Rattle.std.specs.Io.{StartsWith}
use Rattle.std.proofs.Transfers.{starts_with_trans, starts_with_of_append}
use Rattle.wire_types.specs.Grammar.{Grammar}

pub after_put : {A : Type 0} (g : Grammar A) (front bytes : List ℕ) (x : A) → StartsWith bytes front → StartsWith (g.put bytes x) front
after_put g front bytes x is = starts_with_trans (g.put bytes x) bytes front (starts_with_of_append (g.put bytes x) bytes (g.written x) (g.puts bytes x)) is

-- what was written after it
pub after_spelling : {A : Type 0} (g : Grammar A) (front old new : List ℕ) (x : A) → new ≡ g.put old x → StartsWith old front → StartsWith new front
after_spelling g front old new x there is = subst (λ (bytes : List ℕ). StartsWith bytes front) (sym there) (after_put g front old x is)
