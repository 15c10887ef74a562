-- No bytes are too few.
use Rattle.std.proofs.Common.{◌≡◌, [], true, refl}
use Rattle.wire_types.specs.Reading.{nat_at, int_at}
use Rattle.msg_admin.specs.Request.{request_at}
use Rattle.message_words.specs.FaultPlace.{is_short}

pub nothing_is_short : is_short [] ≡ true
unfolding request_at nat_at int_at
nothing_is_short = refl
