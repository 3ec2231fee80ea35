-- What the file gives for a port of any kind. Defined by this project.
use Rattle.std.specs.declared.net.socket_addr.SocketAddrV4.{SocketAddrV4}
use Rattle.ipx_wire.specs.declared.address.Network.{Network}
use Rattle.ipx_carrier.specs.Traces.{v4_at}
use Rattle.ipx_config.specs.declared.site.Directed.{Directed}
use Rattle.ipx_config.specs.declared.site.Kind.{Kind}
use Rattle.ipx_config.specs.declared.site.Kind.TheVariants as Of
use Rattle.ipx_config.specs.declared.site.PortConfig.{PortConfig}
use Rattle.ipx_config.specs.declared.site.PortConfig.TheVariants.{Rfc1234, Ethernet, Ipxnet}

-- the network that it is on
abbrev pub network_of_kind : PortConfig → Network
network_of_kind (Rfc1234 p) = p.network
network_of_kind (Ethernet p) = p.network
network_of_kind (Ipxnet p) = p.network

-- where it is bound
abbrev pub place_of_kind : PortConfig → SocketAddrV4
place_of_kind (Rfc1234 p) = v4_at p.address p.udp_port
place_of_kind (Ethernet p) = v4_at p.address p.udp_port
place_of_kind (Ipxnet p) = v4_at p.address p.udp_port

abbrev pub kind_of_port : PortConfig → Kind
kind_of_port (Rfc1234 p) = Of.Rfc1234
kind_of_port (Ethernet p) = Of.Ethernet
kind_of_port (Ipxnet p) = Of.Ipxnet

-- which directed broadcasts leave by it
abbrev pub directed_of_kind : PortConfig → Directed
directed_of_kind (Rfc1234 p) = p.directed
directed_of_kind (Ethernet p) = p.directed
directed_of_kind (Ipxnet p) = p.directed
