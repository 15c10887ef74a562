-- The broker's clock, in milliseconds.
use Rattle.std.specs.Prelude.{ℕ, max, min}

-- in milliseconds: 2^62 - 1
abbrev pub last_moment : ℕ
last_moment = 4611686018427387903

-- it never goes back, and stays at the last moment
abbrev pub moment_after : ℕ → ℕ → ℕ
moment_after moment told = max moment (min told last_moment)
