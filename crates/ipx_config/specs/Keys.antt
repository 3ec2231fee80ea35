-- The keys of a site's files, as they are written there. Defined by this project.
use Rattle.std.specs.Prelude.{codes, ℕ, List, [], ◌∷◌, Bool, Option, Some, None, if◌then◌else◌, nat_eq}
use Rattle.std.specs.List.{list_any}
use Rattle.std.specs.Cmp.Lexicographic.{pointwise}
use Rattle.toml.specs.Data.{Members, no_members, member}
use Rattle.ipx_config.specs.declared.key.Key.{Key}
use Rattle.ipx_config.specs.declared.key.Key.TheVariants.{MetricsFile, TablesFile, SecretFile, Port, Network, Address, UdpPort, Cost, Peers, Routers, Accept, Router, Socket, Buffers, Allow, Kind, Encapsulation, Remotes, Node, Switch, Clients, Join, Directed, Tunnel, Vni, Session, PeerSession, Cookie, PeerCookie, Sublayer, Route, Service, NextHop, Hops, Ticks, ServiceType, Name, IpxAddress}
use Rattle.ipx_config.specs.declared.site.Kind.{Kind as PortKind}
use Rattle.ipx_config.specs.declared.site.Kind.TheVariants as Of
use Rattle.ipx_config.specs.declared.tunnel_kind.TunnelKind.{TunnelKind}
use Rattle.ipx_config.specs.declared.tunnel_kind.TunnelKind.TheVariants as By

-- how a key is written
abbrev pub key_text : Key → List ℕ
key_text MetricsFile = codes "metrics_file"
key_text TablesFile = codes "tables_file"
key_text SecretFile = codes "secret_file"
key_text Port = codes "port"
key_text Network = codes "network"
key_text Address = codes "address"
key_text UdpPort = codes "udp_port"
key_text Cost = codes "cost"
key_text Peers = codes "peers"
key_text Routers = codes "routers"
key_text Accept = codes "accept"
key_text Router = codes "router"
key_text Socket = codes "socket"
key_text Buffers = codes "buffers"
key_text Allow = codes "allow"
key_text Kind = codes "kind"
key_text Encapsulation = codes "encapsulation"
key_text Remotes = codes "remotes"
key_text Node = codes "node"
key_text Switch = codes "switch"
key_text Clients = codes "clients"
key_text Join = codes "join"
key_text Directed = codes "directed"
key_text Tunnel = codes "tunnel"
key_text Vni = codes "vni"
key_text Session = codes "session"
key_text PeerSession = codes "peer_session"
key_text Cookie = codes "cookie"
key_text PeerCookie = codes "peer_cookie"
key_text Sublayer = codes "sublayer"
key_text Route = codes "route"
key_text Service = codes "service"
key_text NextHop = codes "next_hop"
key_text Hops = codes "hops"
key_text Ticks = codes "ticks"
key_text ServiceType = codes "type"
key_text Name = codes "name"
key_text IpxAddress = codes "ipx_address"

-- a text is this key, as it is written
abbrev pub is_text_of : List ℕ → Key → Bool
is_text_of text k = pointwise nat_eq (key_text k) text

-- a text is one of these keys
abbrev pub is_key : List Key → List ℕ → Bool
is_key keys text = list_any (is_text_of text) keys

-- the first name in a table that is none of these keys
abbrev pub first_unknown : List Key → Members → Option (List ℕ)
first_unknown keys no_members = None
first_unknown keys (member name d ms) =
    if is_key keys name then first_unknown keys ms else Some name

-- the keys of the tables, in the order in which their faults are reported
abbrev pub port_keys : List Key
port_keys = Kind ∷ Network ∷ Address ∷ UdpPort ∷ Cost ∷ Peers ∷ Routers ∷ Accept ∷ Directed ∷ []

abbrev pub ethernet_keys : List Key
ethernet_keys =
    Kind ∷ Network ∷ Encapsulation ∷ Address ∷ Tunnel ∷ Vni ∷ Session ∷ PeerSession ∷ Cookie ∷ PeerCookie ∷ Sublayer ∷ UdpPort
    ∷ Cost ∷ Remotes ∷ Node ∷ Switch ∷ Directed ∷ []

abbrev pub ipxnet_keys : List Key
ipxnet_keys =
    Kind ∷ Network ∷ Address ∷ UdpPort ∷ Cost ∷ Node ∷ Clients ∷ Accept ∷ Peers ∷ Join ∷ Directed ∷ []

-- the keys of a port of this kind, and the keys of other kinds that this kind does not have
abbrev pub keys_of_kind : PortKind → List Key
keys_of_kind Of.Rfc1234 = port_keys
keys_of_kind Of.Ethernet = ethernet_keys
keys_of_kind Of.Ipxnet = ipxnet_keys

abbrev pub keys_of_other_kinds : PortKind → List Key
keys_of_other_kinds Of.Rfc1234 =
    Encapsulation ∷ Tunnel ∷ Vni ∷ Session ∷ PeerSession ∷ Cookie ∷ PeerCookie ∷ Sublayer ∷ Remotes ∷ Node ∷ Switch ∷ Clients ∷ Join ∷ []
keys_of_other_kinds Of.Ethernet = Peers ∷ Routers ∷ Accept ∷ Clients ∷ Join ∷ []
keys_of_other_kinds Of.Ipxnet =
    Routers ∷ Encapsulation ∷ Tunnel ∷ Vni ∷ Session ∷ PeerSession ∷ Cookie ∷ PeerCookie ∷ Sublayer ∷ Remotes ∷ Switch ∷ []

-- the keys of the tunnels that a port does not have, if it has a tunnel of this kind, or none
abbrev pub keys_of_other_tunnels : Option TunnelKind → List Key
keys_of_other_tunnels None = Vni ∷ Session ∷ PeerSession ∷ Cookie ∷ PeerCookie ∷ Sublayer ∷ []
keys_of_other_tunnels (Some By.Vxlan) = Session ∷ PeerSession ∷ Cookie ∷ PeerCookie ∷ Sublayer ∷ []
keys_of_other_tunnels (Some By.L2tpv3) = Vni ∷ []

abbrev pub site_keys : List Key
site_keys = MetricsFile ∷ TablesFile ∷ SecretFile ∷ Port ∷ Route ∷ Service ∷ []

-- the keys of a static route and of a static service
abbrev pub route_keys : List Key
route_keys = Port ∷ NextHop ∷ Network ∷ Hops ∷ Ticks ∷ []

abbrev pub service_keys : List Key
service_keys = Port ∷ NextHop ∷ ServiceType ∷ Name ∷ IpxAddress ∷ Hops ∷ []

abbrev pub host_keys : List Key
host_keys =
    Network ∷ Address ∷ Router ∷ UdpPort ∷ Socket ∷ Buffers ∷ Peers ∷ Routers ∷ Allow ∷ Accept ∷ []
