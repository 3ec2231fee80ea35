-- The ports of a router's file by their kinds: RFC 1234, Ethernet and ipxnet, and their indices among those.
-- Defined by this project.
use Rattle.std.specs.Prelude.{◌≡◌, ℕ, List, [], ◌∷◌, ◌++◌, length, map, Bool, true, false}
use Rattle.ipx_ethernet.specs.declared.ethernet_port.EthernetPort.{EthernetPort}
use Rattle.ipx_ethernet.specs.Heard.{SwitchView, new_switch}
use Rattle.ipx_carrier.specs.Turns.{peers_of}
use Rattle.ipxnet_server.specs.ServerHears.{ServerView, joined_server}
use Rattle.ipxnet_server.specs.Restarts.{server_noting_all}
use Rattle.ipxnet_server.specs.declared.port.Secret.{Secret}
use Rattle.ipx_table_dump.specs.declared.client_places.ClientPlace.{ClientPlace}
use Rattle.ipx_site.specs.KnownPlaces.{places_known}
use Rattle.ipxnet_server.specs.declared.port.ServerPort.{ServerPort}
use Rattle.ipx_ipxnet_ports.specs.ServerAddresses.{bound_places as bound_servers, prefixes_heard, server_events}
use Rattle.ipx_ethernet_ports.specs.EthernetAddresses.{bound_places, ethernet_events, learning_sockets, remote_drops, remote_places, remote_tunnels}
use Rattle.ipx_ethernet_ports.specs.TunnelDrops.{no_drops}
use Rattle.ipx_carrier.specs.declared.datagrams.Datagrams as OfDevice
use Rattle.ipx_ipxnet_ports.specs.declared.place_sockets.PlaceSockets as OfPlaces
use Rattle.ipx_ipxnet_ports.specs.declared.sockets.ServerSockets.{ServerSockets}
use Rattle.ipx_ethernet_ports.specs.declared.end_sockets.EndSockets as OfSockets
use Rattle.ipx_ethernet_ports.specs.declared.sockets.EthernetSockets.{EthernetSockets}
use Rattle.ipx_sockets.specs.declared.source_filter.SourceFilter.{SourceFilter}
use Rattle.ipx_sockets.specs.declared.sockets.UdpSockets.{UdpSockets}
use Rattle.ipx_sockets.specs.Senders.{udp_events}
use Rattle.ipx_site.specs.PortsView.{SitePortsRun}
use Rattle.ipx_site.specs.Registering.{MayRegisterAt}
use Rattle.ipx_site.specs.declared.router_ports.PortIndex.{PortIndex}
use Rattle.ipx_site.specs.declared.router_ports.PortIndex.TheVariants.{Datagrams, Ethernet, IpxnetServer}
use Rattle.ipx_config.specs.declared.site.EthernetPortConfig.{EthernetPortConfig}
use Rattle.ipx_config.specs.declared.ipxnet_port.IpxnetPortConfig.{IpxnetPortConfig}
use Rattle.ipx_config.specs.declared.site.PortConfig.{PortConfig}
use Rattle.ipx_config.specs.declared.site.PortConfig.TheVariants.{Rfc1234, Ipxnet}
use Rattle.ipx_config.specs.declared.site.PortConfig.TheVariants as configs
use Rattle.ipx_sockets.specs.AccessLists.{AccessListPorts}
use Rattle.ipx_config.specs.SitePorts.{site_peers, udp_ports, router_port_of_kind}
use Rattle.ipx_source_checks.specs.declared.failed_check.CheckedPort.{CheckedPort}
use Rattle.ipx_config.specs.PortLists.{datagram_ports, ethernet_ports, ipxnet_ports, datagram_places, ethernet_places, ipxnet_places, end_places, learning_ports}

-- the index of a port among those of its kind, starting at 0, after earlier ports
abbrev pub port_index_after : List PortConfig → PortConfig → PortIndex
port_index_after earlier (Rfc1234 p) = Datagrams (length (datagram_ports earlier))
port_index_after earlier (configs.Ethernet p) = Ethernet (length (ethernet_ports earlier))
port_index_after earlier (Ipxnet p) = IpxnetServer (length (ipxnet_ports earlier))

abbrev pub port_indices_after : List PortConfig → List PortConfig → List PortIndex
port_indices_after earlier [] = []
port_indices_after earlier (p ∷ ps) = port_index_after earlier p ∷ port_indices_after (earlier ++ p ∷ []) ps

-- the index of each port
abbrev pub port_indices_of : List PortConfig → List PortIndex
port_indices_of ports = port_indices_after [] ports

-- the Ethernet port of a file's port, and its switch before any frame came
abbrev pub ethernet_port_of : EthernetPortConfig → EthernetPort
ethernet_port_of p = record { own = p.node; network = p.network; encapsulation = p.encapsulation }

abbrev pub switch_of : EthernetPortConfig → SwitchView
switch_of p = new_switch (ethernet_port_of p) p.switched

-- the server port of a file's ipxnet port, and its server before any client registered
abbrev pub client_port_of : Secret → IpxnetPortConfig → ServerPort
client_port_of secret p = record { network = p.network; own = p.node; secret = secret }

-- it is joined to the servers of the routers that the file names, and has noted the clients of before
abbrev pub server_of_port : Secret → List ClientPlace → IpxnetPortConfig → ServerView
server_of_port secret known p =
    server_noting_all 0 (places_known p.network known)
    (joined_server (client_port_of secret p) p.clients p.join.items)

-- the ports of a file as those of a router. An RFC 1234 port has its peers, its access list, and a socket
-- with the UDP port of its peers. An Ethernet port has its switch, and a socket with its tunnel and the places of
-- its remotes, or one that learns the place of its remote, and has dropped nothing. An ipxnet port has its server,
-- with this secret and notes of these clients, and a socket that accepts those that may register. Each socket is
-- bound where the file says, was asked nothing yet, and is marked: the first turn asks it
pub record ArePortsBound {gd : OfDevice.Ghosts (SourceFilter UdpSockets)} {ge : OfSockets.Ghosts EthernetSockets} {gl : OfPlaces.Ghosts ServerSockets} (secret : Secret) (known : List ClientPlace) (ports : List PortConfig) (r : SitePortsRun gd ge gl) : Type 0 where
  pub port_indices : r.port_indices.items ≡ port_indices_of ports
  pub peers : peers_of r.datagrams.peers.items ≡ site_peers (datagram_ports ports)
  pub access_lists : AccessListPorts (datagram_ports ports) r.datagrams.device.access_lists.items
  pub sockets : map (λ s. s.udp_port) r.datagrams.device.device.sockets.items ≡ udp_ports (datagram_ports ports)
  pub bound : map (λ s. s.socket.at) r.datagrams.device.device.sockets.items ≡ datagram_places (datagram_ports ports)
  pub switches : r.ethernet.switches.items ≡ map switch_of (ethernet_ports ports)
  pub ends : remote_places r.ethernet.sockets.ethernet.items ≡ end_places (ethernet_ports ports)
  pub learned : learning_sockets r.ethernet.sockets.ethernet.items ≡ learning_ports (ethernet_ports ports)
  pub tunnels : remote_tunnels r.ethernet.sockets.ethernet.items ≡ map (λ p. p.tunnel) (ethernet_ports ports)
  pub drops : remote_drops r.ethernet.sockets.ethernet.items ≡ map (λ p. no_drops) (ethernet_ports ports)
  pub ethernet_bound : bound_places r.ethernet.sockets.ethernet.items ≡ ethernet_places (ethernet_ports ports)
  pub servers : r.servers.servers.items ≡ map (server_of_port secret known) (ipxnet_ports ports)
  pub ipxnet_bound : bound_servers r.servers.sockets.sockets.items ≡ ipxnet_places (ipxnet_ports ports)
  pub registering : MayRegisterAt (ipxnet_ports ports) (map prefixes_heard r.servers.sockets.sockets.items)
  pub fresh : udp_events r.datagrams.device.device.sockets.items ≡ map (λ p. []) (datagram_ports ports)
  pub ethernet_fresh : ethernet_events r.ethernet.sockets.ethernet.items ≡ map (λ p. []) (ethernet_ports ports)
  pub ipxnet_fresh : server_events r.servers.sockets.sockets.items ≡ map (λ p. []) (ipxnet_ports ports)
  pub marks : r.datagrams.device.device.marks ≡ map (λ p. true) (datagram_ports ports)
  pub ethernet_marks : r.ethernet.sockets.marks ≡ map (λ p. true) (ethernet_ports ports)
  pub ipxnet_marks : r.servers.sockets.marks ≡ map (λ p. true) (ipxnet_ports ports)

-- the ports for source checks: which of them are Ethernet ports
abbrev pub is_ethernet : PortConfig → Bool
is_ethernet (Rfc1234 p) = false
is_ethernet (configs.Ethernet p) = true
is_ethernet (Ipxnet p) = false

abbrev pub checked_port_of_kind : PortConfig → CheckedPort
checked_port_of_kind p = record { port = router_port_of_kind p; ethernet = is_ethernet p }

abbrev pub checked_ports : List PortConfig → List CheckedPort
checked_ports ports = map checked_port_of_kind ports
