-- Texts of which it is known what they ask for.
use Rattle.std.proofs.Common.{◌≡◌, [], codes, Some, None, refl}
use Rattle.broker_keeping.specs.declared.control_command.ControlCommand.TheVariants.{Tick, Mark, Marks, Audit, State, End}
use Rattle.broker_keeping.specs.ControlCommand.{command_in}

pub each_word : (command_in (codes "mark") ≡ Some Mark) × (command_in (codes "marks") ≡ Some Marks) × (command_in (codes "audit") ≡ Some Audit) × (command_in (codes "state") ≡ Some State) × (command_in (codes "end") ≡ Some End)
each_word = (refl, refl, refl, refl, refl)

-- the last one that 64 bits hold, and the one after it
pub a_moment : (command_in (codes "tick 60001") ≡ Some (Tick 60001)) × (command_in (codes "tick 18446744073709551615") ≡ Some (Tick 18446744073709551615)) × (command_in (codes "tick 18446744073709551616") ≡ None)
a_moment = (refl, refl, refl)

pub no_moment : (command_in (codes "tick") ≡ None) × (command_in (codes "tick ") ≡ None) × (command_in (codes "tick  5") ≡ None) × (command_in (codes "tick -5") ≡ None) × (command_in (codes "tick 5 ") ≡ None)
no_moment = (refl, refl, refl, refl, refl)

pub no_word : (command_in [] ≡ None) × (command_in (codes "MARK") ≡ None) × (command_in (codes "mark 2") ≡ None) × (command_in (codes "state\r") ≡ None)
no_word = (refl, refl, refl, refl)
