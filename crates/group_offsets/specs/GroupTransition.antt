-- What a call on a group comes to.
use Rattle.std.specs.Prelude.{Result, Ok, Err}
use Rattle.wire_types.specs.declared.error_code.ErrorCode.{ErrorCode}
use Rattle.group_offsets.specs.declared.group.Group.{Group}

-- it is refused by a code and changes nothing, or is answered and leaves the group like this
pub data GroupTransition (A : Type 0) : Type 0 where
  Stays : ErrorCode → GroupTransition A
  Puts : A → Group → GroupTransition A

abbrev pub answer_of : {A : Type 0} → GroupTransition A → Result A ErrorCode
answer_of (Stays code) = Err code
answer_of (Puts answer g) = Ok answer

-- the group after the transition
abbrev pub group_after : {A : Type 0} → Group → GroupTransition A → Group
group_after g (Stays code) = g
group_after g (Puts answer new) = new
