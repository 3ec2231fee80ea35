-- The ports of a running router, of all kinds: how a packet is sent at each, and what is dropped before the
-- core. Defined by this project.
use Rattle.std.specs.Prelude.{◌<◌, ℕ, List, Option, Some, None, option_map, map, slice_get}
use Rattle.ipx_carrier.specs.Device.{Datagram}
use Rattle.ipx_carrier.specs.Turns.{Given, Peers, Ways, by_ip}
use Rattle.ipx_ethernet.specs.declared.ethernet_port.EthernetPort.{EthernetPort}
use Rattle.ipx_ipxnet_ports.specs.OnServers.{by_servers}
use Rattle.ipx_ethernet_ports.specs.OnEthernet.{SentFrameCopy, by_frames}
use Rattle.ipx_site.specs.declared.router_ports.PortIndex.{PortIndex}
use Rattle.ipx_site.specs.declared.router_ports.PortIndex.TheVariants.{Datagrams, Ethernet, IpxnetServer}

-- how a packet is sent: as a datagram to an IP address, as an Ethernet frame, or through an ipxnet server
pub data PortCopy : Type 0 where
  ByDatagram : Datagram → PortCopy
  ByFrame : SentFrameCopy → PortCopy
  ByServer : Given → PortCopy

-- a packet for another port
abbrev pub given_at : ℕ → Given → Given
given_at port p = record p { port = port }

-- how a packet is sent, by its port's index
abbrev pub way_at : Ways Datagram → Ways SentFrameCopy → Option PortIndex → Given → Option (List PortCopy)
way_at ips frames None p = None
way_at ips frames (Some (Datagrams k)) p = option_map (map ByDatagram) (ips (given_at k p))
way_at ips frames (Some (Ethernet k)) p = option_map (map ByFrame) (frames (given_at k p))
way_at ips frames (Some (IpxnetServer k)) p = option_map (map ByServer) (by_servers (given_at k p))

-- at ports of all kinds: an RFC 1234 port sends to IP addresses, an Ethernet port sends frames, and an ipxnet
-- port sends through its server
abbrev pub by_kind : Peers → List EthernetPort → List PortIndex → Ways PortCopy
by_kind peers ports port_indices p = way_at (by_ip peers) (by_frames ports) (slice_get port_indices p.port) p

-- a port's index among those of its kind, and how many of these there are
abbrev pub port_index_place : PortIndex → ℕ
port_index_place (Datagrams k) = k
port_index_place (Ethernet k) = k
port_index_place (IpxnetServer k) = k

abbrev pub count_at : ℕ → ℕ → ℕ → PortIndex → ℕ
count_at datagrams ethernet servers (Datagrams k) = datagrams
count_at datagrams ethernet servers (Ethernet k) = ethernet
count_at datagrams ethernet servers (IpxnetServer k) = servers

-- the index is valid
abbrev pub fits : ℕ → ℕ → ℕ → PortIndex → Type 0
fits datagrams ethernet servers port_index = port_index_place port_index < count_at datagrams ethernet servers port_index
