use Rattle.std.proofs.Common.{List, ◌++◌, drop}
use Rattle.toml.specs.View.{items_view}
use Rattle.ipx_config.specs.EthernetValues.{IsEthernetEnd}
use Rattle.ipx_config.specs.Values.{AreEach}
use Rattle.std.specs.declared.net.socket_addr.SocketAddrV4.{SocketAddrV4}
use Rattle.ipx_config.proofs.ethernet_values.places_of.Given as goal

-- the remaining values join those read so far; if all can be read, so can the remaining ones
abbrev pub invariant-loop-value : goal.invariant-loop-value
invariant-loop-value l =
    ((rest : List SocketAddrV4) → AreEach (IsEthernetEnd l.usual) (items_view (drop l.value-index l.values)) rest
    → AreEach (IsEthernetEnd l.usual) (items_view l.values) (l.ends.items ++ rest))
    × ((all : List SocketAddrV4) → AreEach (IsEthernetEnd l.usual) (items_view l.values) all
    → (rest : List SocketAddrV4) × AreEach (IsEthernetEnd l.usual) (items_view (drop l.value-index l.values)) rest)
