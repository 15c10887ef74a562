-- When an operator is told that the trail is nearly full: nine tenths of what it can take are
-- there.
use Rattle.std.specs.Prelude.{ℕ, ◌*◌, Bool, nat_le}

abbrev pub is_nearly_full : ℕ → ℕ → Bool
is_nearly_full len limit = nat_le (9 * limit) (10 * len)
