use Rattle.ipx_tunnels.proofs.Back.{back}
use Rattle.ipx_tunnels.proofs.laws.peer_strips_what_was_put.Goals as goal

pub returns : goal.returns
returns c = back
