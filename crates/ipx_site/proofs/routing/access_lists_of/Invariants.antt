use Rattle.std.proofs.Common.{take}
use Rattle.ipx_config.specs.PortLists.{datagram_ports}
use Rattle.ipx_sockets.specs.AccessLists.{AccessListPorts}
use Rattle.ipx_site.proofs.routing.access_lists_of.Given as goal

abbrev pub invariant-loop-port : goal.invariant-loop-port
invariant-loop-port l = AccessListPorts (datagram_ports (take l.port-index l.ports)) l.access_lists.items
