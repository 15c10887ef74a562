-- The definitions computed on worked cases.
use Rattle.std.specs.Prelude.{◌≡◌, None, refl}
use Rattle.wire_types.specs.declared.error_code.ErrorCode.TheVariants as codes
use Rattle.broker_world.specs.Clock.{last_moment, moment_after}
use Rattle.broker_world.specs.Codes.{code_unless_none}

-- ---- the moment: it goes on, never back, and stays at the last one

goes_on : moment_after 5 1001 ≡ 1001
goes_on = refl

never_back : moment_after 1001 5 ≡ 1001
never_back = refl

stays_at_the_last : moment_after 7 18446744073709551615 ≡ last_moment
stays_at_the_last = refl

-- ---- a code

no_error_refuses_nothing : code_unless_none codes.None ≡ None
no_error_refuses_nothing = refl
