-- What the program prints of a port when a router starts, and of a file that it checks. Defined by this
-- project.
use Rattle.std.specs.Prelude.{Vec, ℕ, ◌+◌, List, [], ◌∷◌, ◌++◌, Bool, false, ◌&&◌, ◌||◌, ◌==◌, Option, Some, None, codes, drop, not, if◌then◌else◌, length, nat_eq, nat_le, slice_index, string_bytes, String}
use Rattle.std.specs.Global.{Global}
use Rattle.std.specs.Cmp.Lexicographic.{pointwise}
use Rattle.std.specs.Fmt.{decimal}
use Rattle.std.specs.Int.{w32, to_be_bytes}
use Rattle.std.specs.Net.Addr.{ipv4_octets}
use Rattle.std.specs.Net.Socket.{v4_ip, v4_port}
use Rattle.std.specs.declared.net.socket_addr.SocketAddrV4.{SocketAddrV4}
use Rattle.std.specs.List.{before_first, flat_map, list_any}
use Rattle.hex.specs.Hex.{encode_lower}
use Rattle.ip_prefixes.specs.Prefixes.{network_of}
use Rattle.ip_prefixes.specs.declared.prefix.Prefix.{Prefix as IpPrefix}
use Rattle.ipx_carrier.specs.Mapping.{node_at}
use Rattle.ipx_control.specs.declared.rip.packet.RipEntry.{RipEntry}
use Rattle.ipx_control.specs.declared.sap.packet.ServiceEntry.{ServiceEntry}
use Rattle.ipx_router.specs.Classify.{is_node}
use Rattle.ipx_tables.specs.declared.source.Source.{Source}
use Rattle.ipx_inspect.specs.ShowLine.{address_text, word_text}
use Rattle.ipx_table_dump.specs.TableText.{by_text, network_word}
use Rattle.ipx_config.specs.Destinations.{is_of_no_machine}
use Rattle.ipx_config.specs.declared.ipxnet_port.Peer.{Peer}
use Rattle.ipx_config.specs.declared.ipxnet_port.Peer.TheVariants.{Host, Prefix}
use Rattle.ipx_config.specs.declared.statics.StaticEntry.{StaticEntry}
use Rattle.ipx_config.specs.declared.statics.StaticItem.{StaticItem}
use Rattle.ipx_config.specs.declared.statics.StaticItem.TheVariants.{Route, Service}
use Rattle.ipx_config.specs.declared.site.Accept.{Accept}
use Rattle.ipx_config.specs.declared.site.Accept.TheVariants.{Any, Peers}
use Rattle.ipx_config.specs.declared.site.Directed.{Directed}
use Rattle.ipx_config.specs.declared.site.Directed.TheVariants.{Never, Few, Always}
use Rattle.ipx_config.specs.declared.site.EthernetPortConfig.{EthernetPortConfig}
use Rattle.ipx_config.specs.declared.ipxnet_port.IpxnetPortConfig.{IpxnetPortConfig}
use Rattle.ipx_config.specs.declared.site.PortConfig.{PortConfig}
use Rattle.ipx_config.specs.declared.site.PortConfig.TheVariants.{Rfc1234, Ethernet, Ipxnet}
use Rattle.ipx_config.specs.declared.site.RemotesConfig.{RemotesConfig}
use Rattle.ipx_config.specs.declared.site.RemotesConfig.TheVariants.{Listed, Learned}
use Rattle.ipx_config.specs.declared.site.RouterConfig.{RouterConfig}
use Rattle.ipx_config.specs.declared.site.Rfc1234PortConfig.{Rfc1234PortConfig}
use Rattle.ipx_config.specs.PortKinds.{network_of_kind, place_of_kind}
use Rattle.ipx_config.specs.Site.{is_any}
use Rattle.ipx_config.specs.StaticFields.{numbered_port}
use Rattle.ipx_config.specs.Values.{is_peer}
use Rattle.ipx_config.specs.EthernetValues.{frame_word, is_same_place, made_station}
use Rattle.ipx_tunnels.specs.declared.tunnel.Cookie.{Cookie}
use Rattle.ipx_tunnels.specs.declared.tunnel.Cookie.TheVariants.{Absent, Short, Long}
use Rattle.ipx_tunnels.specs.declared.tunnel.Session.{Session}
use Rattle.ipx_tunnels.specs.declared.tunnel.Tunnel.{Tunnel}
use Rattle.ipx_tunnels.specs.declared.tunnel.Tunnel.TheVariants.{Plain, Vxlan, L2tpv3}
use Rattle.ipx_tunnels.specs.declared.tunnel.Vni.{Vni}
use Rattle.ipx_wire.specs.Ipx.{number as number_at}
use Rattle.ipx_wire.specs.declared.address.Network.{Network}
use Rattle.ipx_wire.specs.declared.address.Node.{Node}

-- a byte of text from a file or neighbour: itself if it is printable ASCII, otherwise a dot
abbrev pub shown_byte : ℕ → List ℕ
shown_byte b = if nat_le 32 b && nat_le b 126 then b ∷ [] else 46 ∷ []

-- such a text: the bytes before its first zero byte
abbrev pub shown_text : List ℕ → List ℕ
shown_text text = flat_map shown_byte (before_first (λ b. b == 0) text)

-- an IP address in dotted-decimal form
abbrev pub dotted_text : List ℕ → List ℕ
dotted_text ip =
    decimal (slice_index ip 0) ++ (codes "." ++ (decimal (slice_index ip 1)
    ++ (codes "." ++ (decimal (slice_index ip 2) ++ (codes "." ++ decimal (slice_index ip 3))))))

-- the network and the node of a port, in 8 and 12 hex digits
abbrev pub place_text : Network → Node → List ℕ
place_text network node =
    codes "network " ++ (encode_lower (to_be_bytes w32 network.0)
    ++ (codes " node " ++ encode_lower node.0))

-- the IP address and the UDP port where it is reached
abbrev pub reached_text : List ℕ → ℕ → List ℕ
reached_text ip udp_port = dotted_text ip ++ (codes ":" ++ decimal udp_port)

-- whether others than its peers are accepted
abbrev pub others_text : Accept → List ℕ
others_text Any = codes " accept any"
others_text Peers = []

-- how many of its peers are routers, if the file names them
abbrev pub routers_text : Option (Vec (List ℕ) Global) → List ℕ
routers_text None = []
routers_text (Some routers) = codes " routers " ++ decimal (length routers.items)

-- which directed broadcasts leave by it, unless it is the default
abbrev pub directed_text : Directed → List ℕ
directed_text Never = codes " directed none"
directed_text Few = []
directed_text Always = codes " directed all"

-- its cost, how many peers it has, how many of them are routers, which senders are accepted, and which
-- directed broadcasts leave by it
abbrev pub dealings_text : Rfc1234PortConfig → List ℕ
dealings_text p =
    codes "cost " ++ (decimal p.cost ++ (codes " peers " ++ (decimal (length p.peers.items)
    ++ (routers_text p.routers ++ (others_text p.accept ++ directed_text p.directed)))))

-- an RFC 1234 port with its number
abbrev pub rfc1234_text : ℕ → Rfc1234PortConfig → List ℕ
rfc1234_text number p =
    codes "port " ++ (decimal number ++ (codes " " ++ (place_text p.network (node_at p.address)
    ++ (codes " udp " ++ (reached_text p.address p.udp_port ++ (codes " " ++ dealings_text p))))))

-- the place of a remote, after a space
abbrev pub ethernet_end_text : SocketAddrV4 → List ℕ
ethernet_end_text end = codes " " ++ reached_text (ipv4_octets (v4_ip end)) (v4_port end)

-- the word for a port that does not switch frames between its remotes
abbrev pub switch_text : Bool → List ℕ
switch_text switched = if switched then [] else codes " switch false"

-- the remotes of a port
abbrev pub remotes_text : RemotesConfig → List ℕ
remotes_text (Listed ends) = flat_map ethernet_end_text ends.items
remotes_text Learned = codes " any (learned by session and cookie)"

-- its cost, its remotes, whether it switches frames between them, and which directed broadcasts
-- leave by it
abbrev pub ethernet_fields_text : EthernetPortConfig → List ℕ
ethernet_fields_text p =
    codes "cost " ++ (decimal p.cost ++ (codes " remotes" ++ (remotes_text p.remotes
    ++ (switch_text p.switched ++ directed_text p.directed))))

-- the number of a VXLAN network
abbrev pub vni_text : Vni → List ℕ
vni_text vni = codes " vxlan vni " ++ decimal (number_at 3 0 vni.0)

-- how long a cookie is, after the words that say which one it is, if there is one
abbrev pub cookie_text : List ℕ → Cookie → List ℕ
cookie_text which Absent = []
cookie_text which (Short bytes) = which ++ codes " of 4 bytes"
cookie_text which (Long bytes) = which ++ codes " of 8 bytes"

-- the words for an L2TPv3 session with the default sublayer
abbrev pub sublayer_text : Bool → List ℕ
sublayer_text sublayer = if sublayer then codes " sublayer true" else []

-- the numbers of an L2TPv3 session, how long its cookies are, and whether it has the default sublayer
abbrev pub session_text : Session → List ℕ
session_text s =
    codes " l2tpv3 session " ++ (decimal s.id ++ (codes " peer_session " ++ (decimal s.peer_id
    ++ (cookie_text (codes " cookie") s.cookie ++ (cookie_text (codes " peer_cookie") s.peer_cookie ++ sublayer_text s.sublayer)))))

-- how a port carries its frames, unless each datagram is a frame
abbrev pub tunnel_text : Tunnel → List ℕ
tunnel_text Plain = []
tunnel_text (Vxlan vni) = vni_text vni
tunnel_text (L2tpv3 s) = session_text s

-- an Ethernet port with its number
abbrev pub ethernet_text : ℕ → EthernetPortConfig → List ℕ
ethernet_text number p =
    codes "port " ++ (decimal number ++ (codes " " ++ (place_text p.network p.node
    ++ (codes " ethernet " ++ (frame_word p.encapsulation ++ (tunnel_text p.tunnel ++ (codes " udp "
    ++ (reached_text p.address p.udp_port ++ (codes " " ++ ethernet_fields_text p)))))))))

-- the places of the routers that a port is joined to, if any
abbrev pub join_text : List SocketAddrV4 → List ℕ
join_text routers =
    if length routers == 0 then [] else codes " joined" ++ flat_map ethernet_end_text routers

-- its cost, how many clients it allows, how many peers may register, what it is joined to, and which directed
-- broadcasts leave by it
abbrev pub clients_text : IpxnetPortConfig → List ℕ
clients_text p =
    codes "cost " ++ (decimal p.cost ++ (codes " clients " ++ (decimal p.clients
    ++ (codes " peers " ++ (decimal (length p.peers.items)
    ++ (others_text p.accept ++ (join_text p.join.items ++ directed_text p.directed)))))))

-- an ipxnet port with its number
abbrev pub ipxnet_text : ℕ → IpxnetPortConfig → List ℕ
ipxnet_text number p =
    codes "port " ++ (decimal number ++ (codes " " ++ (place_text p.network p.node
    ++ (codes " ipxnet udp " ++ (reached_text p.address p.udp_port ++ (codes " " ++ clients_text p))))))

-- a port with its number, as a router prints it when it starts
abbrev pub port_text : ℕ → PortConfig → List ℕ
port_text number (Rfc1234 p) = rfc1234_text number p
port_text number (Ethernet p) = ethernet_text number p
port_text number (Ipxnet p) = ipxnet_text number p

-- the lines of ports, the first of which has this number
abbrev pub port_texts : ℕ → List PortConfig → List (List ℕ)
port_texts number [] = []
port_texts number (p ∷ ps) = port_text number p ∷ port_texts (number + 1) ps

-- ---- remarks on what a router can or cannot start with, and that is no fault of the file

-- the words before a remark about it
abbrev pub port_words : ℕ → List ℕ
port_words number = codes "port " ++ (decimal number ++ codes ": ")

-- the remark about a peer that is the port's own address, repeats an earlier peer, or can belong to no
-- machine; empty for any other peer. It begins with `whose`
abbrev pub peer_remark : List ℕ → List ℕ → List (List ℕ) → List ℕ → List ℕ
peer_remark whose address earlier peer =
    if pointwise nat_eq peer address
    then whose ++ (codes "peer " ++ (dotted_text peer ++ codes " is the local address\n"))
    else (if is_peer earlier peer
    then whose ++ (codes "peer " ++ (dotted_text peer ++ codes " is listed twice\n"))
    else (if is_of_no_machine peer
    then whose ++ (codes "peer " ++ (dotted_text peer ++ codes " is not a usable unicast address\n"))
    else []))

-- the remark about a joined router at the port's own place; empty for any other
abbrev pub joined_remark : List ℕ → SocketAddrV4 → SocketAddrV4 → List ℕ
joined_remark whose own router =
    if is_same_place own router
    then whose ++ (codes "joined" ++ (ethernet_end_text router ++ codes " is the port's own address\n"))
    else []

-- ---- all that is printed

-- what is printed of each item, which may depend on the items before it
abbrev pub each_after : {A : Type 0} → (List A → A → List ℕ) → List A → List A → List ℕ
each_after printed earlier [] = []
each_after printed earlier (x ∷ xs) =
    printed earlier x ++ each_after printed (earlier ++ x ∷ []) xs

-- the remark about an ipxnet port that lists peers and accepts any: its list is ignored; empty for any other
abbrev pub ignored_remark : List ℕ → Accept → ℕ → List ℕ
ignored_remark whose Peers count = []
ignored_remark whose Any count =
    if count == 0 then [] else whose ++ codes "peers is ignored, since accept is \"any\"\n"

-- the remark about an ipxnet port that is joined and whose node is made from the address 0.0.0.0, as at each such
-- port with this UDP port; empty for any other
abbrev pub node_remark : List ℕ → IpxnetPortConfig → List ℕ
node_remark whose p =
    if not (length p.join.items == 0) && (is_any p.address && is_node p.node (made_station p.address p.udp_port))
    then whose ++ codes "join with address \"any\" needs node: it must differ at each router\n" else []

-- a prefix by its first address
abbrev pub prefix_text : IpPrefix → List ℕ
prefix_text p = dotted_text (network_of p) ++ (codes "/" ++ decimal p.bits)

-- a line of it
abbrev pub network_line : List ℕ → IpPrefix → List ℕ
network_line whose p = whose ++ (codes "peers has all of " ++ (prefix_text p ++ codes "\n"))

-- what is printed of a peer of an ipxnet port: a line of a prefix, nothing of one IP address
abbrev pub prefix_line : List ℕ → IpPrefix → List ℕ
prefix_line whose p = if p.bits == 32 then [] else network_line whose p

-- a line of the name of a host
abbrev pub host_line : List ℕ → List ℕ → List ℕ
host_line whose name =
    whose ++ (codes "peers has " ++ (name ++ codes ", which is looked up when the router starts\n"))

abbrev pub peer_line : List ℕ → Peer → List ℕ
peer_line whose (Prefix p) = prefix_line whose p
peer_line whose (Host name) = host_line whose (string_bytes name)

-- the remarks about the addresses that a port sends to, each after the words that say which port it is
abbrev pub reached_remarks : List ℕ → PortConfig → List ℕ
reached_remarks whose (Rfc1234 p) = each_after (peer_remark whose p.address) [] p.peers.items
reached_remarks whose (Ethernet p) = []
reached_remarks whose (Ipxnet p) = flat_map (peer_line whose) p.peers.items
    ++ (ignored_remark whose p.accept (length p.peers.items)
    ++ (node_remark whose p ++ flat_map (joined_remark whose (place_of_kind (Ipxnet p))) p.join.items))

-- the line of a port that follows earlier ones, and the remarks about it
abbrev pub port_lines : List PortConfig → PortConfig → List ℕ
port_lines earlier p =
    let number = length earlier + 1 in
    port_text number p ++ (10 ∷ reached_remarks (port_words number) p)

abbrev pub count_text : ℕ → List ℕ
count_text count = if count == 1 then codes "1 port" else (decimal count ++ codes " ports")

abbrev pub status_text : Option (String Global) → List ℕ
status_text None = codes "no metrics_file"
status_text (Some text) = codes "metrics_file " ++ shown_text (string_bytes text)

-- the name of another file, after the words that say which one it is, if it is given
abbrev pub file_name_text : List ℕ → Option (String Global) → List ℕ
file_name_text which None = []
file_name_text which (Some name) = which ++ shown_text (string_bytes name)

-- the line of the file itself: how many ports it has, and the other files that it names
abbrev pub file_line : List ℕ → RouterConfig → List ℕ
file_line path s =
    path ++ (codes ": " ++ (count_text (length s.ports.items)
    ++ (codes ", " ++ (status_text s.metrics_file ++ (file_name_text (codes ", tables_file ") s.tables_file
    ++ (file_name_text (codes ", secret_file ") s.secret_file ++ 10 ∷ []))))))

-- ---- static routes and services, in the form of the table file

abbrev pub static_route_line : Source → RipEntry → List ℕ
static_route_line by r =
    codes "route " ++ (network_word r.network ++ (by_text by ++ (codes " hops "
    ++ (decimal r.hops ++ (codes " ticks " ++ (decimal r.ticks ++ codes "\n"))))))

abbrev pub service_words : ServiceEntry → List ℕ
service_words s = word_text s.kind ++ (codes " " ++ shown_text s.name)

abbrev pub static_service_line : Source → ServiceEntry → List ℕ
static_service_line by s =
    codes "service " ++ (service_words s ++ (codes " at " ++ (address_text s.at ++ (by_text by
    ++ (codes " hops " ++ (decimal s.hops ++ codes "\n"))))))

abbrev pub word_line : Source → StaticItem → List ℕ
word_line by (Route r) = static_route_line by r
word_line by (Service s) = static_service_line by s

abbrev pub static_line : StaticEntry → List ℕ
static_line e = word_line e.by e.word

-- ---- remarks on static routes and services

-- a list is given, and an IP address is not in it
abbrev pub is_left_out : Option (Vec (List ℕ) Global) → List ℕ → Bool
is_left_out None ip = false
is_left_out (Some ips) ip = not (is_peer ips.items ip)

-- a port names its routers, and an IP address is none of them
abbrev pub is_no_router : PortConfig → List ℕ → Bool
is_no_router (Rfc1234 p) ip = is_left_out p.routers ip
is_no_router (Ethernet p) ip = false
is_no_router (Ipxnet p) ip = false

abbrev pub is_no_router_at : Option PortConfig → List ℕ → Bool
is_no_router_at None ip = false
is_no_router_at (Some p) ip = is_no_router p ip

-- the IP address of a next hop on an RFC 1234 port: the last four bytes of its node
abbrev pub next_hop_ip : Source → List ℕ
next_hop_ip by = drop 2 by.neighbour.0

-- the remark about a static route whose next hop is none of the routers that its port names; empty for any
-- other. The port drops what such a next hop forwards
abbrev pub route_remark : List PortConfig → Source → RipEntry → List ℕ
route_remark ports by r =
    if is_no_router_at (numbered_port ports by.port) (next_hop_ip by)
    then codes "route " ++ (network_word r.network ++ (codes ": next_hop " ++ (dotted_text (next_hop_ip by)
    ++ (codes " is not in routers of port " ++ (decimal by.port
    ++ codes ": what it forwards is dropped\n")))))
    else []

-- an entry is a static route to a network
abbrev pub is_item_to : Network → StaticItem → Bool
is_item_to network (Route r) = r.network.0 == network.0
is_item_to network (Service s) = false

-- a network is that of some port, and that of some static route
abbrev pub is_of_port : List PortConfig → Network → Bool
is_of_port ports network = list_any (λ p. (network_of_kind p).0 == network.0) ports

abbrev pub is_of_route : List StaticEntry → Network → Bool
is_of_route entries network = list_any (λ e. is_item_to network e.word) entries

-- a port of the file or a static route in it leads to a network
abbrev pub is_led_to : RouterConfig → Network → Bool
is_led_to s network = is_of_port s.ports.items network || is_of_route s.statics.items network

-- the remark about a static service to whose network the file has no way: the service is advertised, but packets
-- for it are dropped while RIP has given no route
abbrev pub no_way_remark : ServiceEntry → List ℕ
no_way_remark s =
    codes "service " ++ (service_words s ++ (codes ": no port and no static route leads to network "
    ++ (network_word s.at.network ++ codes ": it must be learned by RIP\n")))

-- the remark about a static service, by whether the file has a way to its network; empty if it has
abbrev pub service_remark : Bool → ServiceEntry → List ℕ
service_remark has_way s = if has_way then [] else no_way_remark s

abbrev pub item_remark : RouterConfig → Source → StaticItem → List ℕ
item_remark s by (Route r) = route_remark s.ports.items by r
item_remark s by (Service v) = service_remark (is_led_to s v.at.network) v

-- the line of a static entry, and the remark about it
abbrev pub static_lines : RouterConfig → StaticEntry → List ℕ
static_lines s e = static_line e ++ item_remark s e.by e.word

-- all that is printed of a router's file: its ports, its static entries, and the file itself
abbrev pub site_lines : List ℕ → RouterConfig → List ℕ
site_lines path s =
    each_after port_lines [] s.ports.items
    ++ (flat_map (static_lines s) s.statics.items ++ file_line path s)
