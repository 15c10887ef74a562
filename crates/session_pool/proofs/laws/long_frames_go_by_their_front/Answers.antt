use Rattle.session_pool.proofs.Unread.{goes_by_front}
use Rattle.session_pool.proofs.laws.long_frames_go_by_their_front.Goals as goal

pub returns : goal.returns
returns c = goes_by_front
