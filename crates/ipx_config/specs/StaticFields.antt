-- What a table of a static route or service gives: its neighbour, and the network or service. Defined by this
-- project.
use Rattle.std.specs.Prelude.{◌≡◌, ◌≢◌, ◌⊎◌, ℕ, zero, suc, ◌+◌, ◌==◌, ◌&&◌, Bool, true, false, not, nat_le, List, ◌++◌, drop, length, position, replicate, Option, Some, None, slice_get, if◌then◌else◌}
use Rattle.std.specs.List.{list_all}
use Rattle.std.specs.Option.{option_and_then}
use Rattle.toml.specs.Data.{Data, Members, as_str}
use Rattle.ipx_wire.specs.AddressText.{spelled_network, spelled_node, spelled_socket}
use Rattle.ipx_wire.specs.Assigned.{all_networks, local_network}
use Rattle.ipx_wire.specs.declared.address.Address.{Address}
use Rattle.ipx_wire.specs.declared.address.Network.{Network}
use Rattle.ipx_wire.specs.declared.address.Node.{Node}
use Rattle.ipx_wire.specs.declared.address.Socket.{Socket}
use Rattle.ipx_router.specs.Classify.{is_node}
use Rattle.ipx_carrier.specs.Mapping.{node_at}
use Rattle.ipx_table_dump.specs.TableRead.{word_at, words_in}
use Rattle.ipx_config.specs.declared.fault.ConfigError.{ConfigError}
use Rattle.ipx_config.specs.declared.fault.ConfigError.TheVariants.{Twin, Wrong}
use Rattle.ipx_config.specs.declared.static_fields.NextHop.{NextHop}
use Rattle.ipx_config.specs.declared.key.Key.TheVariants as Key
use Rattle.ipx_config.specs.declared.site.PortConfig.{PortConfig}
use Rattle.ipx_config.specs.declared.site.PortConfig.TheVariants.{Rfc1234, Ethernet, Ipxnet}
use Rattle.ipx_config.specs.Fields.{Holds, IsFault}
use Rattle.ipx_config.specs.PortKinds.{network_of_kind}
use Rattle.ipx_config.specs.Values.{is_peer, IsCount, IsIpAddress, IsNetwork, IsSocket}
use Rattle.ipx_config.specs.SitePorts.{router_port_of_kind}
use Rattle.ipx_config.specs.EthernetValues.{IsStation, is_station}

-- ---- the neighbour: the next hop, and the port where it is

-- the port with this number, starting at 1
abbrev pub numbered_port : List PortConfig → ℕ → Option PortConfig
numbered_port ports zero = None
numbered_port ports (suc place) = slice_get ports place

-- a peer, by its IP address
abbrev pub IsPeerNode : List (List ℕ) → Members → Node → Type 0
IsPeerNode peers ms node = (ip : List ℕ) × Holds IsIpAddress Key.NextHop ms ip
    × (is_peer peers ip ≡ true) × (node ≡ node_at ip)

abbrev pub IsPeerNodeFault : List (List ℕ) → Members → ℕ → ConfigError → Type 0
IsPeerNodeFault peers ms table f = IsFault IsIpAddress Key.NextHop ms table f
    ⊎ ((f ≡ Wrong table Key.NextHop) × ((ip : List ℕ) × Holds IsIpAddress Key.NextHop ms ip
    × (is_peer peers ip ≡ false)))

-- at an RFC 1234 port a peer, at an Ethernet port a station; at an ipxnet port there is none
abbrev pub IsNamedNode : PortConfig → Members → Node → Type 0
IsNamedNode (Rfc1234 p) ms node = IsPeerNode p.peers.items ms node
IsNamedNode (Ethernet p) ms node = Holds IsStation Key.NextHop ms node
IsNamedNode (Ipxnet p) ms node = ⊥

abbrev pub IsNamedNodeFault : PortConfig → Members → ℕ → ConfigError → Type 0
IsNamedNodeFault (Rfc1234 p) ms table f = IsPeerNodeFault p.peers.items ms table f
IsNamedNodeFault (Ethernet p) ms table f = IsFault IsStation Key.NextHop ms table f
IsNamedNodeFault (Ipxnet p) ms table f = f ≡ Wrong table Key.Port

-- a node is the port's own
abbrev pub is_own_node : PortConfig → Node → Bool
is_own_node p node = is_node node (router_port_of_kind p).node

-- the same, and it is not the port's own node
abbrev pub IsNextNode : PortConfig → Members → Node → Type 0
IsNextNode p ms node = IsNamedNode p ms node × (is_own_node p node ≡ false)

abbrev pub IsNextNodeFault : PortConfig → Members → ℕ → ConfigError → Type 0
IsNextNodeFault p ms table f = IsNamedNodeFault p ms table f
    ⊎ ((f ≡ Wrong table Key.NextHop) × ((node : Node) × IsNamedNode p ms node
    × (is_own_node p node ≡ true)))

-- the port is one of the file, the node is on its network, and this is the cost of sending there
abbrev pub IsNear : List PortConfig → Members → NextHop → Type 0
IsNear ports ms near = Holds (IsCount 16) Key.Port ms near.by.port
    × ((p : PortConfig) × (numbered_port ports near.by.port ≡ Some p)
    × IsNextNode p ms near.by.neighbour × (near.cost ≡ (router_port_of_kind p).cost))

abbrev pub IsNearFault : List PortConfig → Members → ℕ → ConfigError → Type 0
IsNearFault ports ms table f = IsFault (IsCount 16) Key.Port ms table f
    ⊎ ((n : ℕ) × Holds (IsCount 16) Key.Port ms n
    × (((numbered_port ports n ≡ None) × (f ≡ Wrong table Key.Port))
    ⊎ ((p : PortConfig) × (numbered_port ports n ≡ Some p) × IsNextNodeFault p ms table f)))

-- ---- the network

-- the network of the default route: a router hears and advertises it like any other, and forwards no packet
-- for another network by it
abbrev pub default_route : ℕ
default_route = 0xffff_fffe

-- the index of the first port that is on a network
abbrev pub port_index_on : List PortConfig → Network → Option ℕ
port_index_on ports n = position (λ p. (network_of_kind p).0 == n.0) ports

-- a network that no port is on, and not the default route
abbrev pub IsRemoteNetwork : List PortConfig → Members → Network → Type 0
IsRemoteNetwork ports ms n = Holds IsNetwork Key.Network ms n × (n.0 ≢ default_route)
    × (port_index_on ports n ≡ None)

abbrev pub IsRemoteNetworkFault : List PortConfig → Members → ℕ → ConfigError → Type 0
IsRemoteNetworkFault ports ms table f = IsFault IsNetwork Key.Network ms table f
    ⊎ ((n : Network) × Holds IsNetwork Key.Network ms n
    × (((n.0 ≡ default_route) × (f ≡ Wrong table Key.Network))
    ⊎ ((n.0 ≢ default_route) × ((k : ℕ) × (port_index_on ports n ≡ Some k)
    × (f ≡ Twin table n (k + 1))))))

-- ---- the service

-- its type, written like a socket: neither 0 nor ffff, which asks for every type
abbrev pub IsServiceType : Members → ℕ → Type 0
IsServiceType ms kind = (s : Socket) × Holds IsSocket Key.ServiceType ms s × (s.0 ≡ kind) × (kind ≢ 0xffff)

abbrev pub IsServiceTypeFault : Members → ℕ → ConfigError → Type 0
IsServiceTypeFault ms table f = IsFault IsSocket Key.ServiceType ms table f
    ⊎ ((f ≡ Wrong table Key.ServiceType) × ((s : Socket) × Holds IsSocket Key.ServiceType ms s × (s.0 ≡ 0xffff)))

-- a byte that is printable, and no space
abbrev pub is_mark : ℕ → Bool
is_mark b = nat_le 0x21 b && nat_le b 0x7e

-- 1 to 47 of them
abbrev pub is_name_of_service : List ℕ → Bool
is_name_of_service text =
    list_all is_mark text && (not (length text == 0) && nat_le (length text) 47)

-- the 48 bytes of a name: its text followed by zero bytes
abbrev pub padded_name : List ℕ → List ℕ
padded_name text = text ++ drop (length text) (replicate 48 0)

abbrev pub IsServiceName : Data → List ℕ → Type 0
IsServiceName d name = (text : List ℕ) × (as_str d ≡ Some text) × (is_name_of_service text ≡ true)
    × (name ≡ padded_name text)

abbrev pub joined_place : Option Network → Option Node → Option Socket → Option Address
joined_place (Some network) (Some host) (Some socket) =
    Some (record { network = network; node = host; socket = socket })
joined_place (Some network) (Some host) None = None
joined_place (Some network) None socket = None
joined_place None host socket = None

-- three words are a network, a node and a socket in hex digits
abbrev pub place_in_words : List (List ℕ) → Option Address
place_in_words words =
    if length words == 3
    then joined_place (spelled_network (word_at words 0)) (spelled_node (word_at words 1))
    (spelled_socket (word_at words 2))
    else None

-- a string of three such words, separated by spaces
abbrev pub written_place : Data → Option Address
written_place d = option_and_then (λ text. place_in_words (words_in text)) (as_str d)

abbrev pub IsWrittenPlace : Data → Address → Type 0
IsWrittenPlace d a = written_place d ≡ Some a

-- a service can have this address: its network is named, its node is one station, and its socket is not 0
abbrev pub is_place_of_service : Address → Bool
is_place_of_service a =
    not (a.network.0 == local_network)
    && (not (a.network.0 == all_networks) && (is_station a.node && not (a.socket.0 == 0)))

abbrev pub IsServicePlace : Members → Address → Type 0
IsServicePlace ms a = Holds IsWrittenPlace Key.IpxAddress ms a × (is_place_of_service a ≡ true)

abbrev pub IsServicePlaceFault : Members → ℕ → ConfigError → Type 0
IsServicePlaceFault ms table f = IsFault IsWrittenPlace Key.IpxAddress ms table f
    ⊎ ((f ≡ Wrong table Key.IpxAddress) × ((a : Address) × Holds IsWrittenPlace Key.IpxAddress ms a
    × (is_place_of_service a ≡ false)))
