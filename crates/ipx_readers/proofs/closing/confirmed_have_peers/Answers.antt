use Rattle.ipx_readers.proofs.ConfirmedTold.{have_peers}
use Rattle.ipx_readers.proofs.closing.confirmed_have_peers.Goals as goal

pub returns : goal.returns
returns c = have_peers c.args.net.now c.holds.ensures
