-- What a router counts at its Ethernet ports and at its ports for ipxnet. Defined by this project. The entry
-- points are `ethernet_ports` and `ipxnet_ports`.
use Rattle.std.specs.Prelude.{ℕ, List, Option, None, length, option_map, slice_get}
use Rattle.std.specs.List.{enumerate_from, filter_map}
use Rattle.ipx_ethernet.specs.Heard.{SwitchView}
use Rattle.ipxnet_server.specs.ServerHears.{ServerView}
use Rattle.ipx_site.specs.declared.frame_metrics.EthernetPortMetrics.{EthernetPortMetrics}
use Rattle.ipx_site.specs.declared.ipxnet_metrics.IpxnetPortMetrics.{IpxnetPortMetrics}
use Rattle.ipx_site.specs.declared.router_ports.PortIndex.{PortIndex}
use Rattle.ipx_site.specs.declared.router_ports.PortIndex.TheVariants.{Datagrams, Ethernet, IpxnetServer}

-- the switch of a port; None for a port of another kind
abbrev pub switch_at : List SwitchView → PortIndex → Option SwitchView
switch_at switches (Datagrams place) = None
switch_at switches (Ethernet place) = slice_get switches place
switch_at switches (IpxnetServer place) = None

-- what the Ethernet port with this number counts
abbrev pub switch_metrics : ℕ → SwitchView → EthernetPortMetrics
switch_metrics number s =
    record { number = number; frames = s.counts; passed = s.passed; refused = s.refused }

-- what each Ethernet port counts, with its number among all ports of the router
abbrev pub ethernet_ports : List SwitchView → List PortIndex → List EthernetPortMetrics
ethernet_ports switches port_indices =
    filter_map (λ p. option_map (switch_metrics p.0) (switch_at switches p.1)) (enumerate_from 1 port_indices)

-- the ipxnet server of a port; None for a port of another kind
abbrev pub server_at : List ServerView → PortIndex → Option ServerView
server_at servers (Datagrams place) = None
server_at servers (Ethernet place) = None
server_at servers (IpxnetServer place) = slice_get servers place

-- what the port for ipxnet with this number counts
abbrev pub server_metrics : ℕ → ServerView → IpxnetPortMetrics
server_metrics number s = record { number = number; clients = length s.clients; drops = s.counts }

-- what each port for ipxnet counts, with its number among all ports of the router
abbrev pub ipxnet_ports : List ServerView → List PortIndex → List IpxnetPortMetrics
ipxnet_ports servers port_indices =
    filter_map (λ p. option_map (server_metrics p.0) (server_at servers p.1)) (enumerate_from 1 port_indices)
