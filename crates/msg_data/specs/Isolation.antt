-- The isolation levels of the Kafka protocol guide (Fetch and ListOffsets, isolation_level).
use Rattle.std.specs.Prelude.{◌≡◌, ℤ, pos, negsuc, suc, zero, Option, Some, None, refl}
use Rattle.wire_types.specs.Grammar.{Grammar}
use Rattle.wire_types.specs.Schema.{int8}
use Rattle.msg_data.specs.declared.isolation.Isolation.{Isolation}
use Rattle.msg_data.specs.declared.isolation.Isolation.TheVariants as levels
use Rattle.wire_types.specs.Coded.{coded_value}

abbrev pub level_of : Isolation → ℤ
level_of levels.ReadUncommitted = pos 0
level_of levels.ReadCommitted = pos 1

unfoldable pub isolation_of : ℤ → Option Isolation
isolation_of (pos zero) = Some levels.ReadUncommitted
isolation_of (pos (suc zero)) = Some levels.ReadCommitted
isolation_of (pos (suc (suc n))) = None
isolation_of (negsuc n) = None

pub isolation_of-level_of : (level : Isolation) → isolation_of (level_of level) ≡ Some level
unfolding isolation_of
isolation_of-level_of levels.ReadUncommitted = refl
isolation_of-level_of levels.ReadCommitted = refl

pub level_of-isolation_of : (number : ℤ) (level : Isolation) → isolation_of number ≡ Some level
    → level_of level ≡ number
unfolding isolation_of
level_of-isolation_of (pos zero) levels.ReadUncommitted e = refl
level_of-isolation_of (pos zero) levels.ReadCommitted e = absurd cc
level_of-isolation_of (pos (suc zero)) levels.ReadCommitted e = refl
level_of-isolation_of (pos (suc zero)) levels.ReadUncommitted e = absurd cc
level_of-isolation_of (pos (suc (suc n))) level e = absurd cc
level_of-isolation_of (negsuc n) level e = absurd cc

-- INT8
abbrev pub isolation : Grammar Isolation
isolation = coded_value level_of isolation_of isolation_of-level_of level_of-isolation_of int8
