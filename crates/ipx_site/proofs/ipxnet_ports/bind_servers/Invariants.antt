use Rattle.std.proofs.Common.{◌≡◌, [], map, take, true}
use Rattle.ipx_ipxnet_ports.specs.ServerAddresses.{bound_places, prefixes_heard, server_events}
use Rattle.ipx_config.specs.PortLists.{ipxnet_places, ipxnet_ports}
use Rattle.ipx_site.specs.Registering.{MayRegisterAt}
use Rattle.ipx_site.proofs.ipxnet_ports.bind_servers.Given as goal

abbrev pub invariant-loop-place : goal.invariant-loop-place
invariant-loop-place g l =
    (bound_places l.sockets.sockets.items ≡ ipxnet_places (ipxnet_ports (take l.place l.ports)))
    × MayRegisterAt (ipxnet_ports (take l.place l.ports)) (map prefixes_heard l.sockets.sockets.items)
    × (server_events l.sockets.sockets.items ≡ map (λ p. []) (ipxnet_ports (take l.place l.ports)))
    × (l.sockets.marks ≡ map (λ p. true) (ipxnet_ports (take l.place l.ports)))
