use Rattle.std.proofs.Common.{◌≡◌, ◌≤◌, length, take}
use Rattle.ipx_config.specs.PortLists.{datagram_ports, ipxnet_ports, ethernet_ports}
use Rattle.ipx_site.specs.KindPorts.{port_indices_of}
use Rattle.ipx_site.proofs.routing.port_indices_of.Given as goal

abbrev pub invariant-loop-port : goal.invariant-loop-port
invariant-loop-port l = (l.port_indices.items ≡ port_indices_of (take l.port-index l.ports))
    × (l.datagrams ≡ length (datagram_ports (take l.port-index l.ports))) × (l.ethernet ≡ length (ethernet_ports (take l.port-index l.ports)))
    × (l.servers ≡ length (ipxnet_ports (take l.port-index l.ports)))
    × (l.datagrams ≤ l.port-index) × (l.ethernet ≤ l.port-index) × (l.servers ≤ l.port-index)
