use Rattle.broker_server.proofs.Counting.{nothing_asked}
use Rattle.broker_server.proofs.server.serve_clocked.Goals as goal

pub returns : goal.returns
returns g c = nothing_asked _ _ _ _ _ c.serve_connections.ensures
