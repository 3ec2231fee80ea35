use Rattle.std.proofs.Common.{◌≡◌, map, take}
use Rattle.ipx_config.specs.PortLists.{ipxnet_ports}
use Rattle.ipx_site.specs.KindPorts.{server_of_port}
use Rattle.ipx_site.proofs.ipxnet_ports.servers_of_ports.Given as goal

abbrev pub invariant-loop-port : goal.invariant-loop-port
invariant-loop-port l = l.servers.items ≡ map (server_of_port l.kept.secret l.kept.clients.items) (ipxnet_ports (take l.port-index l.ports))
