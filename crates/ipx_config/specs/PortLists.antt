-- The ports of a file by their kinds: RFC 1234, Ethernet and ipxnet, and where each is bound. Defined by this
-- project.
use Rattle.std.specs.Prelude.{List, [], ◌∷◌, Bool, false, true, map}
use Rattle.std.specs.List.{flat_map}
use Rattle.std.specs.declared.net.socket_addr.SocketAddrV4.{SocketAddrV4}
use Rattle.ipx_carrier.specs.Traces.{v4_at}
use Rattle.ipx_config.specs.declared.site.EthernetPortConfig.{EthernetPortConfig}
use Rattle.ipx_config.specs.declared.ipxnet_port.IpxnetPortConfig.{IpxnetPortConfig}
use Rattle.ipx_config.specs.declared.site.PortConfig.{PortConfig}
use Rattle.ipx_config.specs.declared.site.PortConfig.TheVariants.{Rfc1234, Ethernet, Ipxnet}
use Rattle.ipx_config.specs.declared.site.RemotesConfig.{RemotesConfig}
use Rattle.ipx_config.specs.declared.site.RemotesConfig.TheVariants.{Listed, Learned}
use Rattle.ipx_config.specs.declared.site.Rfc1234PortConfig.{Rfc1234PortConfig}

-- a port, if it is of that kind
abbrev pub datagrams_in : PortConfig → List Rfc1234PortConfig
datagrams_in (Rfc1234 p) = p ∷ []
datagrams_in (Ethernet p) = []
datagrams_in (Ipxnet p) = []

abbrev pub ethernet_ports_in : PortConfig → List EthernetPortConfig
ethernet_ports_in (Rfc1234 p) = []
ethernet_ports_in (Ethernet p) = p ∷ []
ethernet_ports_in (Ipxnet p) = []

abbrev pub ipxnet_in : PortConfig → List IpxnetPortConfig
ipxnet_in (Rfc1234 p) = []
ipxnet_in (Ethernet p) = []
ipxnet_in (Ipxnet p) = p ∷ []

-- those of each kind, in order
abbrev pub datagram_ports : List PortConfig → List Rfc1234PortConfig
datagram_ports ports = flat_map datagrams_in ports

abbrev pub ethernet_ports : List PortConfig → List EthernetPortConfig
ethernet_ports ports = flat_map ethernet_ports_in ports

abbrev pub ipxnet_ports : List PortConfig → List IpxnetPortConfig
ipxnet_ports ports = flat_map ipxnet_in ports

-- where the ports of each kind are bound
abbrev pub datagram_places : List Rfc1234PortConfig → List SocketAddrV4
datagram_places ports = map (λ p. v4_at p.address p.udp_port) ports

abbrev pub ethernet_places : List EthernetPortConfig → List SocketAddrV4
ethernet_places ports = map (λ p. v4_at p.address p.udp_port) ports

abbrev pub ipxnet_places : List IpxnetPortConfig → List SocketAddrV4
ipxnet_places ports = map (λ p. v4_at p.address p.udp_port) ports

-- the places that are listed for remotes, and whether there is one remote whose place is learned
abbrev pub listed_places : RemotesConfig → List SocketAddrV4
listed_places (Listed ends) = ends.items
listed_places Learned = []

abbrev pub learns_place : RemotesConfig → Bool
learns_place (Listed ends) = false
learns_place Learned = true

-- the places that are listed for the remotes of each, and which of them learn the place of theirs
abbrev pub end_places : List EthernetPortConfig → List (List SocketAddrV4)
end_places ports = map (λ p. listed_places p.remotes) ports

abbrev pub learning_ports : List EthernetPortConfig → List Bool
learning_ports ports = map (λ p. learns_place p.remotes) ports
