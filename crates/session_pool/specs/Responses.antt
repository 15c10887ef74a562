-- What follows the front of a response.
use Rattle.std.specs.Prelude.{ℕ, List, [], Option, Some, None}
use Rattle.msg_admin.specs.declared.reply.Reply.{Reply}
use Rattle.frame_streams.specs.Responses.{topics_of}

-- the topics of the answer that is written part after part, if it is one
abbrev pub rest_of : Option Reply → List ℕ
rest_of None = []
rest_of (Some r) = topics_of r
