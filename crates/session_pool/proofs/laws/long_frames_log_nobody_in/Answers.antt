use Rattle.session_pool.proofs.Unread.{no_password}
use Rattle.session_pool.proofs.laws.long_frames_log_nobody_in.Goals as goal

pub returns : goal.returns
returns c = λ users frame long who tells. no_password users frame who long tells
