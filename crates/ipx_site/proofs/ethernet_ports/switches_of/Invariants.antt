use Rattle.std.proofs.Common.{◌≡◌, map, take}
use Rattle.ipx_site.specs.KindPorts.{switch_of}
use Rattle.ipx_config.specs.PortLists.{ethernet_ports}
use Rattle.ipx_site.proofs.ethernet_ports.switches_of.Given as goal

abbrev pub invariant-loop-port : goal.invariant-loop-port
invariant-loop-port l = l.switches.items ≡ map switch_of (ethernet_ports (take l.port-index l.ports))
