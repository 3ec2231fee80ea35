-- What stays of ports with ipxnet servers as a server receives or sends.
use Rattle.std.proofs.Common.{◌≡◌, ℕ, Bool, true, false, List, [], ◌∷◌, ◌++◌, Option, Some, Result, Ok, Err, cond, filter, length, map, ap, refl, sym, ◌∙◌, subst}
use Rattle.std.specs.Prelude.{◌&&◌, IfOk, is_some, if◌then◌else◌, nat_lt, slice_get, slice_set}
use Rattle.std.specs.Str.{bytes_eq}
use Rattle.std.proofs.Math.Seq.{map-set_same}
use Rattle.std.proofs.lemmas.List.Elements.{All-map, All-weaker, filter_passes}
use Rattle.std.proofs.lemmas.Option.{get_or_from_slice_get}
use Rattle.ipx_wire.specs.Assigned.{broadcast_node}
use Rattle.ipx_wire.specs.Ipx.{PacketView}
use Rattle.ipx_wire.specs.declared.address.Node.{Node}
use Rattle.ipxnet_server.specs.declared.clients.Client.{Client}
use Rattle.ipxnet_server.specs.declared.drops.ServerDrop.{ServerDrop}
use Rattle.ipxnet_server.specs.declared.drops.ServerDrop.TheVariants.{TooLong}
use Rattle.ipxnet_server.specs.declared.disposition.Disposition.{Disposition}
use Rattle.std.specs.declared.net.socket_addr.SocketAddrV4.{SocketAddrV4}
use Rattle.ipxnet_server.specs.declared.port.ServerPort.{ServerPort}
use Rattle.ipxnet_server.specs.declared.recipients.Recipients.{Recipients}
use Rattle.ipxnet_server.specs.declared.recipients.Recipients.TheVariants.{Nobody}
use Rattle.ipxnet_server.specs.ServerClients.{client_at, client_of_node}
use Rattle.ipxnet_server.specs.ServerFloods.{limited_gives, packet_gives, server_giving}
use Rattle.ipxnet_server.specs.ServerHears.{ServerView, all_get, client_gets, is_from_server, is_joined_taker, is_taker, is_to_service, server_aged, server_gives, max_client_bytes, takers_join, takers_of, takers_reach}
use Rattle.ipxnet_server.specs.PeerServers.{is_joined_place}
use Rattle.ipxnet_server.proofs.Limits.{given_limited}
use Rattle.ipx_carrier.specs.declared.port_driver.PacketSent.{PacketSent}
use Rattle.ipx_carrier.specs.PortDrivers.{copies_count, count_in}
use Rattle.ipx_carrier.specs.Turns.{Given}
use Rattle.ipx_ipxnet_ports.specs.OnServers.{AreForClients, AreForRouters, HearsAtServer, ServersView, SendsThroughServer, by_servers, clients_reached, joined_sends, servers_view, server_ports, server_sends, packet_said, packet_sends, relayed_on, relayed_to, routers_reached, takers_given}
use Rattle.ipx_ipxnet_ports.specs.PlaceTraffic.{HandsOver, PlaceDatagram, PlaceTraffic, PlacesPass, place_datagram}
use Rattle.ipx_ipxnet_ports.proofs.Handing.{hands_after}

-- ---- a server keeps its port, and how many clients it may have

abbrev port_in : ServerView → ServerPort × ℕ
port_in l = (l.port, l.max_clients)

giving_stays : (given : Result Recipients ServerDrop) (now : ℕ) (l : ServerView) → port_in (server_giving given now l) ≡ port_in l
giving_stays (Ok takers) now l = refl
giving_stays (Err drop) now l = refl

ports_stay : (servers : List ServerView) (port : ℕ) (l after : ServerView) → slice_get servers port ≡ Some l → port_in after ≡ port_in l → map port_in (slice_set servers port after) ≡ map port_in servers
ports_stay servers port l after there same =
    map-set_same port_in servers port after l (same ∙ ap port_in (sym (get_or_from_slice_get servers port l l there)))

pub hearing_leaves_ports : (now most : ℕ) (d : PlaceDatagram) (came : List PlaceDatagram) (room : List ℕ) (up : Option ℕ) (old new : ServersView) → HearsAtServer now most d came room up old new → server_ports new.servers ≡ server_ports old.servers
hearing_leaves_ports now most d came room up old new r =
    ap (map port_in) r.servers ∙ ports_stay old.servers d.port r.server r.after r.at_port (ap (λ (p : ServerPort). (p, r.after.max_clients)) r.hears.stays.0 ∙ ap (λ (n : ℕ). (r.server.port, n)) r.hears.stays.1)

pub sending_leaves_ports : (now port : ℕ) (node : Node) (packet : List ℕ) (sent : PacketSent) (old new : ServersView) → SendsThroughServer now port node packet sent old new → server_ports new.servers ≡ server_ports old.servers
sending_leaves_ports now port node packet sent old new r =
    ap (map port_in) r.servers ∙ ports_stay old.servers port r.server r.after r.at_port (ap port_in r.becomes ∙ giving_stays r.given now (server_aged now r.server))

-- ---- what `send` returns for a packet follows from its copies

said_by : (b : Bool) (p : Given) → nat_lt max_client_bytes (length p.bytes) ≡ b → count_in (packet_said (length p.bytes)) ≡ copies_count by_servers p
said_by true p e = rw e refl
said_by false p e = rw e refl

pub said_of_packet : (sent : PacketSent) (p : Given) → sent ≡ packet_said (length p.bytes) → count_in sent ≡ copies_count by_servers p
said_of_packet sent p is = ap count_in is ∙ said_by (nat_lt max_client_bytes (length p.bytes)) p refl

-- ---- what is sent is for clients

both_true : (a b : Bool) → (a && b) ≡ true → a ≡ true
both_true true b e = refl
both_true false b e = cc

pub relays_known : (port : ℕ) (bytes : List ℕ) (l : ServerView) (takers : Recipients) → AreForClients l (relayed_to port bytes (clients_reached l takers))
relays_known port bytes l takers =
    let known : Client → Type 0 = λ c. is_some (client_at c.place l.clients) ≡ true in
    All-map (λ (d : PlaceDatagram). is_some (client_at d.place l.clients) ≡ true) (λ (c : Client). place_datagram port bytes c.place) (clients_reached l takers)
    (All-weaker (λ (c : Client). takers_reach l takers c.place ≡ true) known (λ c e. both_true (is_some (client_at c.place l.clients)) (is_taker takers c.place) e) (clients_reached l takers) (filter_passes (λ (c : Client). takers_reach l takers c.place) l.clients))

-- ---- what is sent on is for joined routers, and did not come from one

pub relays_joined : (port : ℕ) (bytes : List ℕ) (l : ServerView) (takers : Recipients) → AreForRouters l (relayed_on port bytes (routers_reached l takers))
relays_joined port bytes l takers =
    All-map (λ (d : PlaceDatagram). is_joined_place d.place l.routers ≡ true) (λ (r : SocketAddrV4). place_datagram port bytes r) (routers_reached l takers)
    (All-weaker (λ (r : SocketAddrV4). takers_join l takers r ≡ true) (λ (r : SocketAddrV4). is_joined_place r l.routers ≡ true) (λ r e. both_true (is_joined_place r l.routers) (is_joined_taker takers r) e) (routers_reached l takers) (filter_passes (λ (r : SocketAddrV4). takers_join l takers r) l.routers))

second_false : (a b : Bool) → b ≡ false → (a && b) ≡ false
second_false true b e = e
second_false false b e = refl

past_by : (r : SocketAddrV4) (kept : List SocketAddrV4) (b : Bool) → b ≡ false → cond b (r ∷ kept) kept ≡ kept
past_by r kept true e = cc
past_by r kept false e = refl

client_past : (c : Client) (kept : List Client) (b : Bool) → b ≡ false → cond b (c ∷ kept) kept ≡ kept
client_past c kept true e = cc
client_past c kept false e = refl

none_joined : (l : ServerView) (takers : Recipients) (rs : List SocketAddrV4) → ((place : SocketAddrV4) → is_joined_taker takers place ≡ false) → filter (λ r. takers_join l takers r) rs ≡ []
none_joined l takers [] ring = refl
none_joined l takers (r ∷ rs) ring =
    past_by r (filter (λ r. takers_join l takers r) rs) (takers_join l takers r) (second_false (is_joined_place r l.routers) (is_joined_taker takers r) (ring r)) ∙ none_joined l takers rs ring

none_reached : (l : ServerView) (cs : List Client) → filter (λ c. takers_reach l Nobody c.place) cs ≡ []
none_reached l [] = refl
none_reached l (c ∷ cs) =
    client_past c (filter (λ c. takers_reach l Nobody c.place) cs) (takers_reach l Nobody c.place) (second_false (is_some (client_at c.place l.clients)) false refl) ∙ none_reached l cs

-- ---- what the core advertises or asks to all nodes by RIP and SAP is sent to nobody

limited_to_nobody : (l : ServerView) (given : Result Recipients ServerDrop) (now : ℕ) → takers_given given ≡ Nobody → takers_given (limited_gives l given now) ≡ Nobody
limited_to_nobody l given now nobody =
    given_limited (λ (g : Result Recipients ServerDrop). takers_given g ≡ Nobody) l given now (λ drop. refl) nobody

given_to_nobody : (long broad : Bool) (drop : ServerDrop) (to_service : Bool) (rest : Result Recipients ServerDrop) → broad ≡ true → to_service ≡ true → takers_given (if long then Err drop else if broad then Ok (all_get to_service) else rest) ≡ Nobody
given_to_nobody true broad drop to_service rest e f = refl
given_to_nobody false true drop true rest e f = refl
given_to_nobody false true drop false rest e f = cc
given_to_nobody false false drop to_service rest e f = cc

is_broadcast : (node : List ℕ) → node ≡ broadcast_node → bytes_eq node broadcast_node ≡ true
is_broadcast node e = ap (λ (n : List ℕ). bytes_eq n broadcast_node) e ∙ refl

pub told_to_nobody : (port now : ℕ) (packet : List ℕ) (old after : ServerView) (node : Node) (p : PacketView) (given : Result Recipients ServerDrop) → is_to_service p.header ≡ true → node.0 ≡ broadcast_node
    → given ≡ packet_gives old node (Some p.header) (length packet) now → packet_sends port packet after (takers_given given) ≡ []
told_to_nobody port now packet old after node p given asks all is =
    let l : ServerView = server_aged now old in
    let nobody : takers_given given ≡ Nobody =
    ap takers_given is ∙ limited_to_nobody l (server_gives l node (Some p.header) (length packet)) now (given_to_nobody (nat_lt max_client_bytes (length packet)) (bytes_eq node.0 broadcast_node) (TooLong (length packet)) (is_to_service p.header) (client_gets l node (is_from_server l.port p.header) (client_of_node node l.clients)) (is_broadcast node.0 all) asks) in
    let first : relayed_to port packet (clients_reached after Nobody) ≡ [] = ap (relayed_to port packet) (none_reached after after.clients) in
    let second : relayed_on port packet (routers_reached after Nobody) ≡ [] = ap (relayed_on port packet) (none_joined after Nobody after.routers (λ place. refl)) in
    ap (packet_sends port packet after) nobody ∙ ap (λ (ds : List PlaceDatagram). ds ++ relayed_on port packet (routers_reached after Nobody)) first ∙ second

-- ---- what comes from the network of the port is sent to no joined router

abbrev pub StaysHere : Result Recipients ServerDrop → Type 0
StaysHere given = IfOk given (λ takers. (place : SocketAddrV4) → is_joined_taker takers place ≡ false)

none_given : (given : Result Recipients ServerDrop) → StaysHere given → (place : SocketAddrV4) → is_joined_taker (takers_given given) place ≡ false
none_given (Ok takers) stays = stays
none_given (Err drop) stays = λ place. refl

pub kept_from_routers : (port : ℕ) (packet : List ℕ) (after : ServerView) (given : Result Recipients ServerDrop) → StaysHere given → relayed_on port packet (routers_reached after (takers_given given)) ≡ []
kept_from_routers port packet after given stays =
    ap (relayed_on port packet) (none_joined after (takers_given given) after.routers (none_given given stays))

pub nothing_goes_round : (l : ServerView) (heard : Disposition) (d : PlaceDatagram) → ((place : SocketAddrV4) → is_joined_taker (takers_of heard) place ≡ false) → joined_sends l heard d ≡ []
nothing_goes_round l heard d ring =
    ap (relayed_on d.port d.bytes) (none_joined l (takers_of heard) l.routers ring)

-- ---- what is received after what the sockets returned

pub hears_after : (now most : ℕ) (d : PlaceDatagram) (room : List ℕ) (up : Option ℕ) (servers : List ServerView) (kept : ℕ) (s t : Option PlaceTraffic) (f f' : ℕ) (new : ServersView) → f' ≡ f → PlacesPass s t (d ∷ []) []
    → HearsAtServer now most d [] room up (servers_view servers kept t f') new → HearsAtServer now most d (d ∷ []) room up (servers_view servers kept s f) new
hears_after now most d room up servers kept s t f f' new as_often first r =
    let sends : List PlaceDatagram = server_sends r.after r.heard d r.onward.answer ++ joined_sends r.after r.heard d in
    let behind : HandsOver sends (d ∷ []) s new.traffic f' new.failed =
    hands_after sends (d ∷ []) s t new.traffic f' new.failed first r.onward.gone in
    record {
      server = r.server;
      after = r.after;
      heard = r.heard;
      at_port = r.at_port;
      hears = r.hears;
      onward = record {
        answer = r.onward.answer;
        answered = r.onward.answered;
        is_it = r.onward.is_it;
        gone = subst (λ (k : ℕ). HandsOver sends (d ∷ []) s new.traffic k new.failed) as_often behind;
        once = r.onward.once;
        back = r.onward.back;
      };
      known = r.known;
      answers = r.answers;
      joined = r.joined;
      ring = r.ring;
      no_longer = r.no_longer;
      core = r.core;
      servers = r.servers;
      counted = r.counted;
    }
