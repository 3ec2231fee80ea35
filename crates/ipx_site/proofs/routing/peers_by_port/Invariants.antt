use Rattle.std.proofs.Common.{◌≡◌, take}
use Rattle.ipx_carrier.specs.Turns.{peers_of}
use Rattle.ipx_config.specs.PortLists.{datagram_ports}
use Rattle.ipx_config.specs.SitePorts.{site_peers}
use Rattle.ipx_site.proofs.routing.peers_by_port.Given as goal

abbrev pub invariant-loop-port : goal.invariant-loop-port
invariant-loop-port l = peers_of l.lists.items ≡ site_peers (datagram_ports (take l.port-index l.ports))
