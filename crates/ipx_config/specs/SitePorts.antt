-- The ports of the router that a file describes, and which senders are accepted there. Defined by this
-- project.
use Rattle.std.specs.Prelude.{Vec, ℕ, List, Option, Some, None, map}
use Rattle.std.specs.Global.{Global}
use Rattle.std.specs.Option.{option_map}
use Rattle.ipx_router.specs.declared.port.Port.{Port}
use Rattle.ipx_carrier.specs.Device.{Access}
use Rattle.ipx_carrier.specs.Mapping.{node_at}
use Rattle.ipx_config.specs.declared.site.Accept.{Accept}
use Rattle.ipx_config.specs.declared.site.Accept.TheVariants.{Any, Peers}
use Rattle.ipx_config.specs.declared.site.PortConfig.{PortConfig}
use Rattle.ipx_config.specs.declared.site.PortConfig.TheVariants.{Rfc1234, Ethernet, Ipxnet}
use Rattle.ipx_config.specs.declared.site.Rfc1234PortConfig.{Rfc1234PortConfig}

-- a port of a file as one of the router: its node is two zero bytes and the IP address
abbrev pub router_port_of : Rfc1234PortConfig → Port
router_port_of p = record { network = p.network; node = node_at p.address; cost = p.cost }

-- a port of any kind: the node of an Ethernet or ipxnet port is what its file gives
abbrev pub router_port_of_kind : PortConfig → Port
router_port_of_kind (Rfc1234 p) = router_port_of p
router_port_of_kind (Ethernet p) = record { network = p.network; node = p.node; cost = p.cost }
router_port_of_kind (Ipxnet p) = record { network = p.network; node = p.node; cost = p.cost }

abbrev pub router_ports : List PortConfig → List Port
router_ports ports = map router_port_of_kind ports

-- the UDP port of each port, which its peers use too
abbrev pub udp_ports : List Rfc1234PortConfig → List ℕ
udp_ports ports = map (λ p. p.udp_port) ports

-- the peers of each port
abbrev pub site_peers : List Rfc1234PortConfig → List (List (List ℕ))
site_peers ports = map (λ p. p.peers.items) ports

-- the IP addresses of a list
abbrev pub named : Option (Vec (List ℕ) Global) → Option (List (List ℕ))
named ips = option_map (λ v. v.items) ips

-- the senders that are accepted at a port: its peers, or all
abbrev pub heard_at_port : Accept → List (List ℕ) → Option (List (List ℕ))
heard_at_port Any peers = None
heard_at_port Peers peers = Some peers

-- the senders that are treated as routers at a port: those that its file names, or otherwise its peers
abbrev pub routers_at_port : Option (Vec (List ℕ) Global) → List (List ℕ) → List (List ℕ)
routers_at_port None peers = peers
routers_at_port (Some routers) peers = routers.items

-- the network of a port, the IP addresses that it sends to, those that it accepts, and those of routers: as
-- its file says, and as its access list says
abbrev pub access_of : Rfc1234PortConfig → Access
access_of p = record {
  network = p.network;
  sends = Some p.peers.items;
  hears = heard_at_port p.accept p.peers.items;
  routers = Some (routers_at_port p.routers p.peers.items);
}
