-- What holds of each packet, whatever becomes of it.
use Rattle.std.proofs.Common.{◌≡◌, ◌≤◌, ℕ, List, [], ◌∷◌, Bool, true, false, Option, Some, None, length, find, not, cond, arith, refl, sym, ap, subst, ◌∙◌}
use Rattle.std.specs.Prelude.{is_some, replicate, ◌==◌, ◌&&◌, ◌||◌, nat_lt, if◌then◌else◌}
use Rattle.std.specs.Str.{bytes_eq}
use Rattle.ipx_wire.specs.Assigned.{ipx_header_size}
use Rattle.ipx_wire.specs.Ipx.{PacketView}
use Rattle.ipx_wire.specs.declared.ipx.packet.IpxHeader.{IpxHeader}
use Rattle.ipxnet_server.specs.declared.clients.Client.{Client}
use Rattle.ipxnet_server.specs.declared.drops.ServerDrop.{ServerDrop}
use Rattle.ipxnet_server.specs.declared.drops.ServerDrop.TheVariants.{NodeTaken, FullOfAddress, Full, Unregistered, OtherSource, TooLong, NoSuchNode, ToItself, PingElsewhere, BroadcastElsewhere, FromElsewhere, Response, NotBehind, ForElsewhere}
use Rattle.ipxnet_server.specs.declared.disposition.Disposition.{Disposition}
use Rattle.ipxnet_server.specs.declared.disposition.Disposition.TheVariants.{Registered, Pinged, ToClient, ToOthers, ToOthersAndCore, ToCore, PingAnswered, ToJoined, FromJoined, Dropped}
use Rattle.std.specs.declared.net.socket_addr.SocketAddrV4.{SocketAddrV4}
use Rattle.ipxnet_server.specs.declared.port.ServerPort.{ServerPort}
use Rattle.ipxnet_server.specs.declared.peer_servers.RemoteClient.{RemoteClient}
use Rattle.ipxnet_server.specs.declared.recipients.Recipients.{Recipients}
use Rattle.ipxnet_server.specs.declared.recipients.Recipients.TheVariants.{One, Here, Joined, JoinedAt}
use Rattle.ipxnet_server.specs.ServerClients.{are_one_place, is_address_full, is_server_full, client_at, client_of_node, has_client_node, is_client_at, node_of_place}
use Rattle.ipxnet_server.specs.ServerHears.{IsAnswer, ServerView, all_hear, all_hear_joined, client_hears, core_hears, hear_remote, remote_source, goes_to_core, is_for_server, is_from_server, is_joined_taker, is_node_here, is_not_behind, is_of_client, is_of_joined, is_registration, is_taker, is_to_all_nodes, is_to_service, joined_hears, joined_takers, server_hears, server_hears_elsewhere, server_hears_from, server_hears_here, server_socket, may_reach_core, max_client_bytes, registration_drop, new_client_hears, one_hears_joined, ping_answer, registration_answer, registration_hears, router_hears, stranger_drop, stranger_hears, takers_of, tells_router, makes_client}
use Rattle.ipxnet_server.specs.PeerServers.{remote_client_of, is_joined_place}
use Rattle.ipxnet_server.specs.ServerInside.{IsSoundHearing, StaysAmongClients}
use Rattle.ipx_wire.specs.declared.address.Node.{Node}
use Rattle.ipx_wire.specs.Assigned.{broadcast_node}
use Rattle.std.proofs.lemmas.Bool.{eqb-true}
use Rattle.ipxnet_server.proofs.Once.{absurd_none, same_place, some_is}

-- a choice of two
pub either : (P : Disposition → Type 0) (b : Bool) (x y : Disposition) → P x → P y → P (if b then x else y)
either P true x y px py = px
either P false x y px py = py

-- the same, if what the test says of each is known
pub either_by : (P : Disposition → Type 0) (b : Bool) (x y : Disposition) → (b ≡ true → P x) → (b ≡ false → P y) → P (if b then x else y)
either_by P true x y px py = px refl
either_by P false x y px py = py refl

pub left_true : (a b : Bool) → (a && b) ≡ true → a ≡ true
left_true true b e = refl
left_true false b e = cc

right_false : (a b : Bool) → (a || b) ≡ false → b ≡ false
right_false true b e = cc
right_false false b e = e

first_none : (b : Bool) (d : ServerDrop) (o : Option ServerDrop) → (if b then Some d else o) ≡ None → b ≡ false
first_none true d o e = cc
first_none false d o e = refl

is_none : (o : Option Client) → is_some o ≡ false → o ≡ None
is_none None e = refl
is_none (Some c) e = cc

size_is : (h : IpxHeader) (size : ℕ) → is_registration h size ≡ true → size ≡ ipx_header_size
size_is h size e =
    eqb-true size ipx_header_size (left_true (size == ipx_header_size) (bytes_eq h.to.node.0 (replicate 6 0))
    (left_true ((size == ipx_header_size) && bytes_eq h.to.node.0 (replicate 6 0)) (bytes_eq h.from.node.0 (replicate 6 0))
    (left_true ((size == ipx_header_size) && bytes_eq h.to.node.0 (replicate 6 0) && bytes_eq h.from.node.0 (replicate 6 0)) (h.to.socket.0 == server_socket) e)))

-- a client that passes one test is found by another that it passes too
finds_by : (p q : Client → Bool) (x c : Client) (b d : Bool) (o r : Option Client) → q x ≡ d → q c ≡ true → (o ≡ Some c → is_some r ≡ true) → cond b (Some x) o ≡ Some c → is_some (cond d (Some x) r) ≡ true
finds_by p q x c b true o r is here rest found = refl
finds_by p q x c true false o r is here rest found = cc (ap q (some_is x c found))
finds_by p q x c false false o r is here rest found = rest found

pub found_finds : (p q : Client → Bool) (xs : List Client) (c : Client) → find p xs ≡ Some c → q c ≡ true → is_some (find q xs) ≡ true
found_finds p q [] c found here = cc
found_finds p q (x ∷ xs) c found here =
    finds_by p q x c (p x) (q x) (find p xs) (find q xs) refl here (λ e. found_finds p q xs c e here) found

known_there : (place : SocketAddrV4) (xs : List Client) (c : Client) → client_at place xs ≡ Some c → is_some (client_at place xs) ≡ true
known_there place xs c e = ap is_some e

-- the client of a node is the one at its address
pub taker_known : (node : Node) (place : SocketAddrV4) (xs : List Client) (c : Client) → client_of_node node xs ≡ Some c → c.place ≡ place → is_some (client_at place xs) ≡ true
taker_known node place xs c found is =
    found_finds (has_client_node node) (is_client_at place) xs c found (ap (λ (p : SocketAddrV4). are_one_place p place) is ∙ same_place place)

pub dropped_hears : (l : ServerView) (from : SocketAddrV4) (size : ℕ) (d : ServerDrop) → IsSoundHearing l from size (Dropped d)
dropped_hears l from size d = record {
  back = refl;
  as_many = λ header answer e a. cc;
  no_longer = λ answer a. absurd_none a.0 a.1;
  sender = λ e. cc;
  taker = λ place e. cc;
  joined = λ e. record { ring = λ place. refl; core = refl; answer = refl; client = refl };
  member = λ e. refl;
}

-- a registration is not refused: its node is no client's, and there is room
free_node : (l : ServerView) (from : SocketAddrV4) (now : ℕ) → registration_drop l from now ≡ None → client_of_node (node_of_place l.port from) l.clients ≡ None
free_node l from now e =
    let node : Node = node_of_place l.port from in
    let rest : Option ServerDrop = if is_address_full now from l.clients then Some FullOfAddress else if is_server_full l.max_clients now l.clients then Some Full else None in
    let here : is_node_here l.port l.clients node ≡ false = first_none (is_node_here l.port l.clients node) (NodeTaken node) rest e in
    is_none (client_of_node node l.clients) (right_false (bytes_eq node.0 l.port.own.0 || bytes_eq node.0 broadcast_node) (is_some (client_of_node node l.clients)) here)

rest_none : (b : Bool) (d : ServerDrop) (o : Option ServerDrop) → (if b then Some d else o) ≡ None → o ≡ None
rest_none true d o e = cc
rest_none false d o e = e

room_at : (l : ServerView) (from : SocketAddrV4) (now : ℕ) → registration_drop l from now ≡ None → (is_address_full now from l.clients ≡ false) × (is_server_full l.max_clients now l.clients ≡ false)
room_at l from now e =
    let last : Option ServerDrop = if is_server_full l.max_clients now l.clients then Some Full else None in
    let rest : Option ServerDrop = if is_address_full now from l.clients then Some FullOfAddress else last in
    let free : rest ≡ None = rest_none (is_node_here l.port l.clients (node_of_place l.port from)) (NodeTaken (node_of_place l.port from)) rest e in (
      first_none (is_address_full now from l.clients) FullOfAddress last free,
      first_none (is_server_full l.max_clients now l.clients) Full None (rest_none (is_address_full now from l.clients) FullOfAddress last free),
    )

module _ (l : ServerView) (from : SocketAddrV4) (size : ℕ) (thirty : ipx_header_size ≤ size) where
  abbrev Sound : Disposition → Type 0
  Sound heard = IsSoundHearing l from size heard

  size_of : (heard : Disposition) (answer : List ℕ) → IsAnswer heard answer → length answer ≡ ipx_header_size
  size_of heard answer a = omega (arith, a.2.size)

  short : (heard : Disposition) (answer : List ℕ) → IsAnswer heard answer → length answer ≤ size
  short heard answer a = omega (arith, size_of heard answer a, thirty)

  dropped : (d : ServerDrop) → Sound (Dropped d)
  dropped d = dropped_hears l from size d

  -- ---- what a client sent

  module _ (apart : is_joined_place from l.routers ≡ false) where
    stays : {heard : Disposition} → is_joined_place from l.routers ≡ true → StaysAmongClients heard
    stays e = cc

    registered : (answer : IpxHeader) → size ≡ ipx_header_size → Sound (Registered answer)
    registered answer is = record {
      back = refl;
      as_many = λ header bytes e a. size_of (Registered answer) bytes a ∙ sym is;
      no_longer = λ bytes a. short (Registered answer) bytes a;
      sender = λ e. cc;
      taker = λ place e. cc;
      joined = stays;
      member = λ e. refl;
    }

    no_client : (o : Option ServerDrop) → Sound (stranger_hears o)
    no_client None = dropped Unregistered
    no_client (Some d) = dropped d

    newcomer : (node : Node) (o : Option ServerDrop) → size ≡ ipx_header_size → Sound (new_client_hears l.port node o)
    newcomer node None is = registered (registration_answer l.port node) is
    newcomer node (Some d) is = dropped d

    registering : (now : ℕ) (o : Option Client) → size ≡ ipx_header_size → Sound (registration_hears l from now o)
    registering now None is = newcomer (node_of_place l.port from) (registration_drop l from now) is
    registering now (Some c) is = registered (registration_answer l.port c.node) is

    module _ (c : Client) (known : client_at from l.clients ≡ Some c) where
      -- to nobody, or to others than the sender, and not to a single client
      sent : (heard : Disposition) → is_taker (takers_of heard) from ≡ false → ((header : IpxHeader) → heard ≡ Registered header → ⊥) → ((place : SocketAddrV4) → takers_of heard ≡ One place → ⊥) → is_of_joined heard ≡ false → Sound heard
      sent heard back other none of = record {
        back = back;
        as_many = λ header answer e a. absurd (other header e);
        no_longer = λ answer a. short heard answer a;
        sender = λ e. known_there from l.clients c known;
        taker = λ place e. absurd (none place e);
        joined = stays;
        member = λ e. of;
      }

      to_core : Sound ToCore
      to_core = sent ToCore refl (λ header e. cc) (λ place e. cc) refl

      heard_only : Sound PingAnswered
      heard_only = sent PingAnswered refl (λ header e. cc) (λ place e. cc) refl

      to_others : Sound (ToOthers from)
      to_others = sent (ToOthers from) (ap not (same_place from)) (λ header e. cc) (λ place e. cc) refl

      to_both : Sound (ToOthersAndCore from)
      to_both = sent (ToOthersAndCore from) (ap not (same_place from)) (λ header e. cc) (λ place e. cc) refl

      pinged : (answer : IpxHeader) → Sound (Pinged from answer)
      pinged answer = sent (Pinged from answer) (ap not (same_place from)) (λ header e. cc) (λ place e. cc) refl

      to_joined : (o : Option RemoteClient) → Sound (ToJoined (joined_takers o))
      to_joined None = sent (ToJoined Joined) refl (λ header e. cc) (λ place e. cc) refl
      to_joined (Some f) = sent (ToJoined (JoinedAt f.router)) refl (λ header e. cc) (λ place e. cc) refl

      one_is : (a b : SocketAddrV4) → One a ≡ One b → a ≡ b
      one_is a b e = cc

      to_one : (node : Node) (k : Client) → client_of_node node l.clients ≡ Some k → are_one_place k.place from ≡ false → Sound (ToClient k.place)
      to_one node k found apart = record {
        back = apart;
        as_many = λ header answer e a. cc;
        no_longer = λ answer a. short (ToClient k.place) answer a;
        sender = λ e. known_there from l.clients c known;
        taker = λ place e. taker_known node place l.clients k found (one_is k.place place e);
        joined = stays;
        member = λ e. refl;
      }

      all : (p : PacketView) → Sound (all_hear l.port from p size)
      all p =
          either Sound (nat_lt max_client_bytes size) _ _ (dropped (TooLong size))
          (either Sound (p.header.to.socket.0 == server_socket) _ _ (pinged (ping_answer l.port p.header.from.node))
          (either Sound (is_to_service p.header && may_reach_core l.port p) _ _ to_both to_others))

      core : (p : PacketView) → Sound (core_hears l.port p)
      core p =
          either Sound (not (is_from_server l.port p.header)) _ _ (dropped (FromElsewhere p.header.from.network))
          (either Sound (tells_router p) _ _ (dropped Response) to_core)

      router : (p : PacketView) → Sound (router_hears l.port p)
      router p = either Sound (p.header.to.socket.0 == server_socket) _ _ heard_only (core p)

      far : (node : Node) → Sound (hear_remote l node size)
      far node =
          either Sound (length l.routers == 0) _ _ (dropped (NoSuchNode node))
          (either Sound (nat_lt max_client_bytes size) _ _ (dropped (TooLong size)) (to_joined (remote_client_of node l.far)))

      client : (h : IpxHeader) (o : Option Client) → client_of_node h.to.node l.clients ≡ o → Sound (client_hears l from h size o)
      client h None found = far h.to.node
      client h (Some k) found =
          either_by Sound (are_one_place k.place from) _ _ (λ e. dropped ToItself)
          (λ apart. either Sound (nat_lt max_client_bytes size) _ _ (dropped (TooLong size)) (to_one h.to.node k found apart))

      here : (p : PacketView) → Sound (server_hears_here l from p size)
      here p =
          either Sound (is_to_all_nodes p.header) _ _ (all p)
          (either Sound (bytes_eq p.header.to.node.0 l.port.own.0) _ _ (router p) (client p.header (client_of_node p.header.to.node l.clients) refl))

      elsewhere : (p : PacketView) → Sound (server_hears_elsewhere l.port p)
      elsewhere p =
          either Sound (p.header.to.socket.0 == server_socket) _ _ (dropped (PingElsewhere p.header.to.network))
          (either Sound (is_to_all_nodes p.header) _ _ (dropped (BroadcastElsewhere p.header.to.network)) (core p))

      known_hears : (p : PacketView) (now : ℕ) → Sound (server_hears_from l from p size now (Some c))
      known_hears p now =
          either Sound (not (bytes_eq p.header.from.node.0 c.node.0)) _ _ (dropped (OtherSource p.header.from.node))
          (either Sound (is_for_server l.port p.header) _ _ (here p) (elsewhere p))

    from_place : (p : PacketView) (now : ℕ) (o : Option Client) → client_at from l.clients ≡ o → Sound (server_hears_from l from p size now o)
    from_place p now None known = no_client (stranger_drop l from p.header now)
    from_place p now (Some c) known = known_hears c known p now

    from_client : (p : PacketView) (now : ℕ) → Sound (if is_registration p.header size then registration_hears l from now (client_at from l.clients) else server_hears_from l from p size now (client_at from l.clients))
    from_client p now =
        either_by Sound (is_registration p.header size) _ _ (λ e. registering now (client_at from l.clients) (size_is p.header size e))
        (λ e. from_place p now (client_at from l.clients) refl)

  -- ---- what a joined router sent

  module _ (is : is_joined_place from l.routers ≡ true) where
    entering : (told : Option Node) (takers : Recipients) → is_taker takers from ≡ false → ((place : SocketAddrV4) → is_joined_taker takers place ≡ false) → ((place : SocketAddrV4) → takers ≡ One place → is_some (client_at place l.clients) ≡ true) → Sound (FromJoined told takers)
    entering told takers back ring taker = record {
      back = back;
      as_many = λ header answer e a. cc;
      no_longer = λ answer a. short (FromJoined told takers) answer a;
      sender = λ e. cc;
      taker = taker;
      joined = λ e. record { ring = ring; core = refl; answer = refl; client = refl };
      member = λ e. cc;
    }

    place_is : (a b : SocketAddrV4) → One a ≡ One b → a ≡ b
    place_is a b e = cc

    one_enters : (h : IpxHeader) (o : Option Client) → client_of_node h.to.node l.clients ≡ o → Sound (one_hears_joined l.port from h size o)
    one_enters h None found = dropped (NoSuchNode h.to.node)
    one_enters h (Some k) found =
        either_by Sound (are_one_place k.place from) _ _ (λ e. dropped ToItself)
        (λ apart. either Sound (nat_lt max_client_bytes size) _ _ (dropped (TooLong size))
        (entering (remote_source l.port h) (One k.place) apart (λ place. refl) (λ place e. taker_known h.to.node place l.clients k found (place_is k.place place e))))

    all_enter : (h : IpxHeader) → Sound (all_hear_joined l.port from h size)
    all_enter h =
        either Sound (nat_lt max_client_bytes size) _ _ (dropped (TooLong size))
        (entering (remote_source l.port h) (Here from) (ap not (same_place from)) (λ place. refl) (λ place e. cc))

    enters : (h : IpxHeader) → Sound (joined_hears l from h size)
    enters h =
        either Sound (not (is_for_server l.port h)) _ _ (dropped (ForElsewhere h.to.network))
        (either Sound (is_from_server l.port h && is_not_behind l.port l.clients h.from.node) _ _ (dropped (NotBehind h.from.node))
        (either Sound (is_to_all_nodes h) _ _ (all_enter h) (one_enters h (client_of_node h.to.node l.clients) refl)))

  pub sound_hearing : (p : PacketView) (now : ℕ) → Sound (server_hears l from p size now)
  sound_hearing p now =
      either_by Sound (is_joined_place from l.routers) _ _ (λ is. enters is p.header) (λ apart. from_client apart p now)

-- ---- a sender that becomes a client

not_some : (o : Option ServerDrop) → not (is_some o) ≡ true → o ≡ None
not_some None e = refl
not_some (Some d) e = cc

not_known : (o : Option Client) → not (is_some o) ≡ true → o ≡ None
not_known None e = refl
not_known (Some c) e = cc

not_so : (b : Bool) → not b ≡ true → b ≡ false
not_so true e = cc
not_so false e = refl

all_true : (a b c d : Bool) → (a && b && c && d) ≡ true → (a ≡ true) × (c ≡ true) × (d ≡ true)
all_true true true true true e = (refl, refl, refl)
all_true true true true false e = cc
all_true true true false d e = cc
all_true true false c d e = cc
all_true false b c d e = cc

accepted : (b : Bool) (o : Option ServerDrop) → (if b then o else Some Unregistered) ≡ None → o ≡ None
accepted true o e = e
accepted false o e = cc

module _ (l : ServerView) (from : SocketAddrV4) (h : IpxHeader) (size now : ℕ) (makes : makes_client l from h size now ≡ true) where
  parts : (not (is_joined_place from l.routers) ≡ true) × (not (is_some (client_at from l.clients)) ≡ true) × (not (is_some (stranger_drop l from h now)) ≡ true)
  parts = all_true (not (is_joined_place from l.routers)) (not (is_registration h size)) (not (is_some (client_at from l.clients))) (not (is_some (stranger_drop l from h now))) makes

  pub makes_apart : is_joined_place from l.routers ≡ false
  makes_apart = not_so (is_joined_place from l.routers) parts.0

  pub makes_new : client_at from l.clients ≡ None
  makes_new = not_known (client_at from l.clients) parts.1

  makes_none : registration_drop l from now ≡ None
  makes_none =
      accepted (bytes_eq h.from.node.0 (node_of_place l.port from).0) (registration_drop l from now) (not_some (stranger_drop l from h now) parts.2)

  pub makes_free : client_of_node (node_of_place l.port from) l.clients ≡ None
  makes_free = free_node l from now makes_none

shown_by : (b : Bool) (o : Option ServerDrop) → (if b then o else Some Unregistered) ≡ None → b ≡ true
shown_by true o e = refl
shown_by false o e = cc

pub shows_it : (l : ServerView) (from : SocketAddrV4) (h : IpxHeader) (size now : ℕ) → makes_client l from h size now ≡ true → bytes_eq h.from.node.0 (node_of_place l.port from).0 ≡ true
shows_it l from h size now makes =
    let parts = all_true (not (is_joined_place from l.routers)) (not (is_registration h size)) (not (is_some (client_at from l.clients))) (not (is_some (stranger_drop l from h now))) makes in
    shown_by (bytes_eq h.from.node.0 (node_of_place l.port from).0) (registration_drop l from now) (not_some (stranger_drop l from h now) parts.2)

pub stranger_room : (l : ServerView) (from : SocketAddrV4) (h : IpxHeader) (now : ℕ) → is_some (stranger_drop l from h now) ≡ false → (is_address_full now from l.clients ≡ false) × (is_server_full l.max_clients now l.clients ≡ false)
stranger_room l from h now e =
    room_at l from now (accepted (bytes_eq h.from.node.0 (node_of_place l.port from).0) (registration_drop l from now) (not_some (stranger_drop l from h now) (ap not e)))

-- what shows a remote client came from a joined router
pub told_joined : (b : Bool) (heard : Disposition) (told : Option Node) (takers : Recipients) → (b ≡ false → is_of_joined heard ≡ false) → heard ≡ FromJoined told takers → b ≡ true
told_joined true heard told takers member e = refl
told_joined false heard told takers member e =
    let other : is_of_joined (FromJoined told takers) ≡ false = subst (λ (h : Disposition). is_of_joined h ≡ false) e (member refl) in
    cc

-- ---- what goes to the core is from the port's network, and advertises nothing

abbrev ReachesCore : ServerPort → PacketView → Disposition → Type 0
ReachesCore port p heard = goes_to_core heard ≡ true → may_reach_core port p ≡ true

right_true : (a b : Bool) → (a && b) ≡ true → b ≡ true
right_true true b e = e
right_true false b e = cc

is_so : (b : Bool) → not b ≡ false → b ≡ true
is_so true e = refl
is_so false e = cc

reaches_core : (port : ServerPort) (p : PacketView) → ReachesCore port p (core_hears port p)
reaches_core port p =
    either_by (ReachesCore port p) (not (is_from_server port p.header)) _ _ (λ e. λ goes. cc)
    (λ here. either_by (ReachesCore port p) (tells_router p) _ _ (λ e. λ goes. cc)
    (λ silent. λ goes. rw (is_so (is_from_server port p.header) here, silent) refl))

reaches_router : (port : ServerPort) (p : PacketView) → ReachesCore port p (router_hears port p)
reaches_router port p =
    either (ReachesCore port p) (p.header.to.socket.0 == server_socket) _ _ (λ goes. cc) (reaches_core port p)

reaches_stranger : (port : ServerPort) (p : PacketView) (o : Option ServerDrop) → ReachesCore port p (stranger_hears o)
reaches_stranger port p None = λ goes. cc
reaches_stranger port p (Some d) = λ goes. cc

reaches_all : (port : ServerPort) (from : SocketAddrV4) (p : PacketView) (size : ℕ) → ReachesCore port p (all_hear port from p size)
reaches_all port from p size =
    either (ReachesCore port p) (nat_lt max_client_bytes size) _ _ (λ goes. cc)
    (either (ReachesCore port p) (p.header.to.socket.0 == server_socket) _ _ (λ goes. cc)
    (either_by (ReachesCore port p) (is_to_service p.header && may_reach_core port p) _ _
    (λ e. λ goes. right_true (is_to_service p.header) (may_reach_core port p) e) (λ e. λ goes. cc)))

reaches_far : (l : ServerView) (node : Node) (p : PacketView) (size : ℕ) → ReachesCore l.port p (hear_remote l node size)
reaches_far l node p size =
    either (ReachesCore l.port p) (length l.routers == 0) _ _ (λ goes. cc)
    (either (ReachesCore l.port p) (nat_lt max_client_bytes size) _ _ (λ goes. cc) (λ goes. cc))

reaches_client : (l : ServerView) (from : SocketAddrV4) (p : PacketView) (size : ℕ) (o : Option Client) → ReachesCore l.port p (client_hears l from p.header size o)
reaches_client l from p size None = reaches_far l p.header.to.node p size
reaches_client l from p size (Some c) =
    either (ReachesCore l.port p) (are_one_place c.place from) _ _ (λ goes. cc)
    (either (ReachesCore l.port p) (nat_lt max_client_bytes size) _ _ (λ goes. cc) (λ goes. cc))

reaches_from : (l : ServerView) (from : SocketAddrV4) (p : PacketView) (size now : ℕ) (o : Option Client) → ReachesCore l.port p (server_hears_from l from p size now o)
reaches_from l from p size now None = reaches_stranger l.port p (stranger_drop l from p.header now)
reaches_from l from p size now (Some c) =
    either (ReachesCore l.port p) (not (bytes_eq p.header.from.node.0 c.node.0)) _ _ (λ goes. cc)
    (either (ReachesCore l.port p) (is_for_server l.port p.header) _ _
    (either (ReachesCore l.port p) (is_to_all_nodes p.header) _ _ (reaches_all l.port from p size)
    (either (ReachesCore l.port p) (bytes_eq p.header.to.node.0 l.port.own.0) _ _ (reaches_router l.port p)
    (reaches_client l from p size (client_of_node p.header.to.node l.clients))))
    (either (ReachesCore l.port p) (p.header.to.socket.0 == server_socket) _ _ (λ goes. cc)
    (either (ReachesCore l.port p) (is_to_all_nodes p.header) _ _ (λ goes. cc) (reaches_core l.port p))))

reaches_newcomer : (port : ServerPort) (node : Node) (p : PacketView) (o : Option ServerDrop) → ReachesCore port p (new_client_hears port node o)
reaches_newcomer port node p None = λ goes. cc
reaches_newcomer port node p (Some d) = λ goes. cc

reaches_registering : (l : ServerView) (from : SocketAddrV4) (p : PacketView) (now : ℕ) (o : Option Client) → ReachesCore l.port p (registration_hears l from now o)
reaches_registering l from p now None = reaches_newcomer l.port (node_of_place l.port from) p (registration_drop l from now)
reaches_registering l from p now (Some c) = λ goes. cc

reaches_joined_one : (l : ServerView) (from : SocketAddrV4) (p : PacketView) (size : ℕ) (o : Option Client) → ReachesCore l.port p (one_hears_joined l.port from p.header size o)
reaches_joined_one l from p size None = λ goes. cc
reaches_joined_one l from p size (Some c) =
    either (ReachesCore l.port p) (are_one_place c.place from) _ _ (λ goes. cc)
    (either (ReachesCore l.port p) (nat_lt max_client_bytes size) _ _ (λ goes. cc) (λ goes. cc))

reaches_joined : (l : ServerView) (from : SocketAddrV4) (p : PacketView) (size : ℕ) → ReachesCore l.port p (joined_hears l from p.header size)
reaches_joined l from p size =
    either (ReachesCore l.port p) (not (is_for_server l.port p.header)) _ _ (λ goes. cc)
    (either (ReachesCore l.port p) (is_from_server l.port p.header && is_not_behind l.port l.clients p.header.from.node) _ _ (λ goes. cc)
    (either (ReachesCore l.port p) (is_to_all_nodes p.header) _ _
    (either (ReachesCore l.port p) (nat_lt max_client_bytes size) _ _ (λ goes. cc) (λ goes. cc))
    (reaches_joined_one l from p size (client_of_node p.header.to.node l.clients))))

pub core_law : (l : ServerView) (from : SocketAddrV4) (p : PacketView) (size now : ℕ) → goes_to_core (server_hears l from p size now) ≡ true → may_reach_core l.port p ≡ true
core_law l from p size now =
    either (ReachesCore l.port p) (is_joined_place from l.routers) _ _ (reaches_joined l from p size)
    (either (ReachesCore l.port p) (is_registration p.header size) _ _ (reaches_registering l from p now (client_at from l.clients))
    (reaches_from l from p size now (client_at from l.clients)))

-- ---- what a client sent is no registration

abbrev IsNoClients : Disposition → Type 0
IsNoClients heard = is_of_client heard ≡ false

no_newcomer : (port : ServerPort) (node : Node) (o : Option ServerDrop) → IsNoClients (new_client_hears port node o)
no_newcomer port node None = refl
no_newcomer port node (Some d) = refl

no_registering : (l : ServerView) (from : SocketAddrV4) (now : ℕ) (o : Option Client) → IsNoClients (registration_hears l from now o)
no_registering l from now None = no_newcomer l.port (node_of_place l.port from) (registration_drop l from now)
no_registering l from now (Some c) = refl

no_joined_one : (port : ServerPort) (from : SocketAddrV4) (h : IpxHeader) (size : ℕ) (o : Option Client) → IsNoClients (one_hears_joined port from h size o)
no_joined_one port from h size None = refl
no_joined_one port from h size (Some c) =
    either IsNoClients (are_one_place c.place from) _ _ refl (either IsNoClients (nat_lt max_client_bytes size) _ _ refl refl)

no_joined : (l : ServerView) (from : SocketAddrV4) (h : IpxHeader) (size : ℕ) → IsNoClients (joined_hears l from h size)
no_joined l from h size =
    either IsNoClients (not (is_for_server l.port h)) _ _ refl
    (either IsNoClients (is_from_server l.port h && is_not_behind l.port l.clients h.from.node) _ _ refl
    (either IsNoClients (is_to_all_nodes h) _ _
    (either IsNoClients (nat_lt max_client_bytes size) _ _ refl refl)
    (no_joined_one l.port from h size (client_of_node h.to.node l.clients))))

pub registers_no_client : (l : ServerView) (from : SocketAddrV4) (p : PacketView) (size now : ℕ) → is_registration p.header size ≡ true → is_of_client (server_hears l from p size now) ≡ false
registers_no_client l from p size now is =
    either IsNoClients (is_joined_place from l.routers) _ _ (no_joined l from p.header size)
    (either_by IsNoClients (is_registration p.header size) _ _ (λ e. no_registering l from now (client_at from l.clients)) (λ e. cc (is, e)))

no_meeting : (a b c d : Bool) → b ≡ true → (not a && not b && c && d) ≡ false
no_meeting true true c d e = refl
no_meeting false true c d e = refl
no_meeting a false c d e = cc

pub registers_nobody : (l : ServerView) (from : SocketAddrV4) (h : IpxHeader) (size now : ℕ) → is_registration h size ≡ true → makes_client l from h size now ≡ false
registers_nobody l from h size now is =
    no_meeting (is_joined_place from l.routers) (is_registration h size) (not (is_some (client_at from l.clients))) (not (is_some (stranger_drop l from h now))) is
