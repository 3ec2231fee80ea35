-- What a router logs of the IP addresses that register again and again at its ipxnet ports. Defined by this project.
use Rattle.std.specs.Prelude.{ℕ, List, map, slice_get, Option, Some, None}
use Rattle.ipxnet_server.specs.ServerHears.{ServerView}
use Rattle.ipx_site.specs.declared.router_ports.PortIndex.{PortIndex}
use Rattle.ipx_site.specs.declared.router_ports.PortIndex.TheVariants.{Datagrams, Ethernet, IpxnetServer}

-- how often an ipxnet server was to tell one, if there is a server
abbrev pub server_repeats : Option ServerView → ℕ
server_repeats None = 0
server_repeats (Some l) = l.attempts.repeats.count

-- the same of the port at an index; never if it is no ipxnet port
abbrev pub port_repeats : List ServerView → PortIndex → ℕ
port_repeats servers (Datagrams place) = 0
port_repeats servers (Ethernet place) = 0
port_repeats servers (IpxnetServer place) = server_repeats (slice_get servers place)

-- the same of each port
abbrev pub repeats_of_ports : List ServerView → List PortIndex → List ℕ
repeats_of_ports servers port_indices = map (port_repeats servers) port_indices
