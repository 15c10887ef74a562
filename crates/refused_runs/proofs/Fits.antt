-- One element more, after those of which something holds.
use Rattle.std.proofs.Common.{List, [], ◌∷◌, ◌++◌}
use Rattle.std.specs.List.{AllByRecursion}

pub fits_more : {A : Type 0} (P : A → Type 0) (xs : List A) (x : A) → AllByRecursion P xs → P x → AllByRecursion P (xs ++ x ∷ [])
fits_more P [] x all fits = (fits, tt)
fits_more P (y ∷ ys) x all fits = (all.0, fits_more P ys x all.1 fits)
