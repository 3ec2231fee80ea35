use Rattle.std.proofs.Common.{List, ◌++◌, drop}
use Rattle.toml.specs.View.{items_view}
use Rattle.ipx_config.specs.declared.ipxnet_port.Peer.{Peer}
use Rattle.ipx_config.specs.IpxnetPeers.{IsPeer}
use Rattle.ipx_config.specs.Values.{AreEach}
use Rattle.ipx_config.proofs.ipxnet_peers.each_of.Given as goal

-- the remaining values join those read so far; if all can be read, so can the remaining ones
abbrev pub invariant-loop-value : goal.invariant-loop-value
invariant-loop-value l =
    ((rest : List Peer) → AreEach IsPeer (items_view (drop l.value-index l.values)) rest
    → AreEach IsPeer (items_view l.values) (l.peers.items ++ rest))
    × ((all : List Peer) → AreEach IsPeer (items_view l.values) all
    → (rest : List Peer) × AreEach IsPeer (items_view (drop l.value-index l.values)) rest)
