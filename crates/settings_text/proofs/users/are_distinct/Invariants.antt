use Rattle.std.proofs.Common.{◌≡◌, true, take}
use Rattle.settings_text.specs.Users.{are_distinct}
use Rattle.settings_text.proofs.UserNames.{AreNamesOf}
use Rattle.settings_text.proofs.users.are_distinct.Given as goal

-- the users so far are distinct, and the set has their names
abbrev pub invariant-loop-user : goal.invariant-loop-user
invariant-loop-user l = (are_distinct (take l.user-index l.users) ≡ true) × AreNamesOf (take l.user-index l.users) l.names
