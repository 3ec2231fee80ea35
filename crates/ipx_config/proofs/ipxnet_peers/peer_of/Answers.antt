use Rattle.std.proofs.Common.{inr, refl}
use Rattle.toml.specs.View.{view}
use Rattle.ipx_config.proofs.PeerTexts.{no_peer}
use Rattle.ipx_config.proofs.ipxnet_peers.peer_of.Goals as goal

pub returns-in-Some-2 : goal.returns-in-Some-2
returns-in-Some-2 c =
    let reads = c.in_ok-name.ensures in
    let is = rw c.in-Some-2.is at reads in inr (c.in-Some-2.name, refl, is)

pub returns-in-None : goal.returns-in-None
returns-in-None c =
    let reads = c.in_ok-name.ensures in
    let none = rw c.in-None.is at reads in no_peer (view c.args.value.now) c.in_default.ensures none
