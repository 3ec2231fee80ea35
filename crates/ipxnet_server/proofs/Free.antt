-- What comes from joined routers keeps nobody out.
use Rattle.std.proofs.Common.{◌≡◌, ◌∙◌, ℕ, List, [], ◌∷◌, Bool, true, false, not, Option, Some, None, length, map, refl, sym, ap}
use Rattle.std.specs.Prelude.{is_some, ◌==◌, ◌&&◌, ◌||◌, nat_lt, if◌then◌else◌}
use Rattle.std.specs.Str.{bytes_eq}
use Rattle.std.specs.declared.net.socket_addr.SocketAddrV4.{SocketAddrV4}
use Rattle.std.proofs.lemmas.Bool.{both_ways}
use Rattle.ipx_wire.specs.Ipx.{PacketView}
use Rattle.ipx_wire.specs.declared.address.Node.{Node}
use Rattle.ipx_wire.specs.declared.ipx.packet.IpxHeader.{IpxHeader}
use Rattle.ipxnet_server.specs.declared.clients.Client.{Client}
use Rattle.ipxnet_server.specs.declared.disposition.Disposition.{Disposition}
use Rattle.ipxnet_server.specs.declared.disposition.Disposition.TheVariants.{Registered, Pinged, ToClient, ToOthers, ToOthersAndCore, ToCore, PingAnswered, ToJoined, FromJoined, Dropped}
use Rattle.ipxnet_server.specs.declared.drops.ServerDrop.{ServerDrop}
use Rattle.ipxnet_server.specs.declared.port.ServerPort.{ServerPort}
use Rattle.ipxnet_server.specs.declared.recipients.Recipients.{Recipients}
use Rattle.ipxnet_server.specs.JoinedRuns.{JoinedRoutersKeepNobodyOut, call_here, registration_answered, run_here, server_here}
use Rattle.ipxnet_server.specs.NotedPlaces.{places_noted, places_noted_again}
use Rattle.ipxnet_server.specs.PeerServers.{is_joined_place}
use Rattle.ipxnet_server.specs.ServerClients.{client_at, client_of_node, node_of_place}
use Rattle.ipxnet_server.specs.ServerFloods.{limited_hears, packet_gives, packet_hears, server_unlimited, unlimited_hears}
use Rattle.ipxnet_server.specs.ServerHears.{ServerView, answer_of, attempts_noted, client_hears, hear_remote, is_for_server, is_from_server, is_not_behind, is_registration, is_to_all_nodes, joined_hears, makes_client, max_client_bytes, new_client_hears, one_hears_joined, registration_drop, registration_hears, server_admitting, server_aged, server_hearing, server_hears, server_hears_from, server_hears_here, server_learned, server_met, stranger_drop}
use Rattle.ipxnet_server.specs.ServerRuns.{Again, Datagram, NoPacket, OfCore, ServerCall, Turn, server_after, time_of}
use Rattle.ipxnet_server.proofs.Hears.{either, either_by}
use Rattle.ipxnet_server.proofs.Limits.{giving_keeps, limited, limiting_keeps}
use Rattle.ipxnet_server.proofs.Little.{after_routers}

-- ---- what becomes of a packet is the same here, whatever is known of the clients of joined routers

record AreSameHere (one other : Disposition) : Type 0 where
  server : (from : SocketAddrV4) (now : ℕ) (v : ServerView) → server_here (server_hearing one from now v) ≡ server_here (server_hearing other from now v)
  answer : answer_of one ≡ answer_of other

itself : (x : Disposition) → AreSameHere x x
itself x = record { server = λ from now v. refl; answer = refl }

joined_same : (x y : Recipients) → AreSameHere (ToJoined x) (ToJoined y)
joined_same x y = record { server = λ from now v. refl; answer = refl }

same_if : (b : Bool) (x x' y y' : Disposition) → AreSameHere x x' → AreSameHere y y' → AreSameHere (if b then x else y) (if b then x' else y')
same_if true x x' y y' first second = first
same_if false x x' y y' first second = second

module _ (l : ServerView) where
  remote : (node : Node) (size : ℕ) → AreSameHere (hear_remote (server_here l) node size) (hear_remote l node size)
  remote node size =
      same_if (length l.routers == 0) _ _ _ _ (itself _)
      (same_if (nat_lt max_client_bytes size) _ _ _ _ (itself _) (joined_same _ _))

  client : (from : SocketAddrV4) (h : IpxHeader) (size : ℕ) (o : Option Client) → AreSameHere (client_hears (server_here l) from h size o) (client_hears l from h size o)
  client from h size None = remote h.to.node size
  client from h size (Some c) = itself _

  here : (from : SocketAddrV4) (p : PacketView) (size : ℕ) → AreSameHere (server_hears_here (server_here l) from p size) (server_hears_here l from p size)
  here from p size =
      same_if (is_to_all_nodes p.header) _ _ _ _ (itself _)
      (same_if (bytes_eq p.header.to.node.0 l.port.own.0) _ _ _ _ (itself _) (client from p.header size (client_of_node p.header.to.node l.clients)))

  from_known : (from : SocketAddrV4) (p : PacketView) (size now : ℕ) (o : Option Client) → AreSameHere (server_hears_from (server_here l) from p size now o) (server_hears_from l from p size now o)
  from_known from p size now None = itself _
  from_known from p size now (Some c) =
      same_if (not (bytes_eq p.header.from.node.0 c.node.0)) _ _ _ _ (itself _)
      (same_if (is_for_server l.port p.header) _ _ _ _ (here from p size) (itself _))

  hears : (from : SocketAddrV4) (p : PacketView) (size now : ℕ) → AreSameHere (server_hears (server_here l) from p size now) (server_hears l from p size now)
  hears from p size now =
      same_if (is_joined_place from l.routers) _ _ _ _ (itself _)
      (same_if (is_registration p.header size) _ _ _ _ (itself _) (from_known from p size now (client_at from l.clients)))

-- ---- what a server is after a call, here

noting_here : (b : Bool) (from : SocketAddrV4) (now : ℕ) (v : ServerView)
    → server_here (if b then server_here v else record (server_here v) { noted = places_noted from now v.noted; attempts = attempts_noted from now v })
    ≡ server_here (if b then v else record v { noted = places_noted from now v.noted; attempts = attempts_noted from now v })
noting_here true from now v = refl
noting_here false from now v = refl

learned_leaves : (told : Option Node) (from : SocketAddrV4) (now : ℕ) (v : ServerView) → server_here (server_learned told from now v) ≡ server_here v
learned_leaves None from now v = refl
learned_leaves (Some node) from now v = refl

hearing_here : (heard : Disposition) (from : SocketAddrV4) (now : ℕ) (v : ServerView) → server_here (server_hearing heard from now (server_here v)) ≡ server_here (server_hearing heard from now v)
hearing_here (Registered answer) from now v = noting_here (is_some (client_at from v.clients)) from now v
hearing_here (Pinged giver answer) from now v = refl
hearing_here (ToClient place) from now v = refl
hearing_here (ToOthers giver) from now v = refl
hearing_here (ToOthersAndCore giver) from now v = refl
hearing_here ToCore from now v = refl
hearing_here PingAnswered from now v = refl
hearing_here (ToJoined takers) from now v = refl
hearing_here (FromJoined told takers) from now v = learned_leaves told from now (server_here v) ∙ sym (learned_leaves told from now v)
hearing_here (Dropped drop) from now v = refl

met_here : (b : Bool) (from : SocketAddrV4) (now : ℕ) (v : ServerView) → (if b then server_admitting from now (server_here v) else server_here v) ≡ server_here (if b then server_admitting from now v else v)
met_here true from now v = refl
met_here false from now v = refl

-- the server that a packet finds
found : ServerView → SocketAddrV4 → PacketView → ℕ → ℕ → ServerView
found l from p size now = server_met from p.header size now (server_aged now l)

found_here : (l : ServerView) (from : SocketAddrV4) (p : PacketView) (size now : ℕ) → found (server_here l) from p size now ≡ server_here (found l from p size now)
unfolding found
found_here l from p size now = met_here (makes_client (server_aged now l) from p.header size now) from now (server_aged now l)

unlimited_here : (l : ServerView) (from : SocketAddrV4) (p : PacketView) (size now : ℕ) → server_here (server_unlimited (server_here l) from p size now) ≡ server_here (server_unlimited l from p size now)
unfolding found
unlimited_here l from p size now =
    let met : ServerView = found l from p size now in
    ap (λ (v : ServerView). server_here (server_hearing (server_hears v from p size now) from now v)) (found_here l from p size now)
    ∙ hearing_here (server_hears (server_here met) from p size now) from now met
    ∙ (hears met from p size now).server from now met

limits_leave : (l : ServerView) (from : SocketAddrV4) (p : PacketView) (size now : ℕ) → server_here (server_after l (Datagram from p size now)) ≡ server_here (server_unlimited l from p size now)
limits_leave l from p size now =
    limiting_keeps (λ (v : ServerView). server_here v) (λ k f c d n. refl) (server_unlimited l from p size now) (unlimited_hears l from p size now) from now

gives_leave : (l : ServerView) (node : Node) (header : Option IpxHeader) (size now : ℕ) → server_here (server_after l (OfCore node header size now)) ≡ server_here (server_aged now l)
gives_leave l node header size now =
    giving_keeps (λ (v : ServerView). server_here v) (λ k f c d n. refl) (packet_gives l node header size now) now (server_aged now l)

again_here : (b : Bool) (place : SocketAddrV4) (now : ℕ) (l : ServerView)
    → server_here (if b then server_here l else record (server_here l) { noted = places_noted_again place now l.noted })
    ≡ server_here (if b then l else record l { noted = places_noted_again place now l.noted })
again_here true place now l = refl
again_here false place now l = refl

after_here : (l : ServerView) (call : ServerCall) → server_here (server_after (server_here l) call) ≡ server_here (server_after l call)
after_here l (Datagram from p size now) =
    limits_leave (server_here l) from p size now ∙ unlimited_here l from p size now ∙ sym (limits_leave l from p size now)
after_here l (NoPacket fault now) = refl
after_here l (OfCore node header size now) =
    gives_leave (server_here l) node header size now ∙ sym (gives_leave l node header size now)
after_here l (Turn now) = refl
after_here l (Again place now) =
    again_here (is_some (client_at place l.clients) || is_joined_place place l.routers) place now l

-- ---- what comes from a joined router changes nothing here, and has no answer

record ChangesNothing (heard : Disposition) : Type 0 where
  server : (from : SocketAddrV4) (now : ℕ) (v : ServerView) → server_here (server_hearing heard from now v) ≡ server_here v
  answer : answer_of heard ≡ None

dropped : (drop : ServerDrop) → ChangesNothing (Dropped drop)
dropped drop = record { server = λ from now v. refl; answer = refl }

entered : (told : Option Node) (takers : Recipients) → ChangesNothing (FromJoined told takers)
entered told takers = record { server = λ from now v. learned_leaves told from now v; answer = refl }

one_enters : (port : ServerPort) (from : SocketAddrV4) (h : IpxHeader) (size : ℕ) (o : Option Client) → ChangesNothing (one_hears_joined port from h size o)
one_enters port from h size None = dropped _
one_enters port from h size (Some c) =
    either ChangesNothing _ _ _ (dropped _) (either ChangesNothing (nat_lt max_client_bytes size) _ _ (dropped _) (entered _ _))

enters : (l : ServerView) (from : SocketAddrV4) (h : IpxHeader) (size : ℕ) → ChangesNothing (joined_hears l from h size)
enters l from h size =
    either ChangesNothing (not (is_for_server l.port h)) _ _ (dropped _)
    (either ChangesNothing (is_from_server l.port h && is_not_behind l.port l.clients h.from.node) _ _ (dropped _)
    (either ChangesNothing (is_to_all_nodes h) _ _ (either ChangesNothing (nat_lt max_client_bytes size) _ _ (dropped _) (entered _ _))
    (one_enters l.port from h size (client_of_node h.to.node l.clients))))

module _ (from : SocketAddrV4) (p : PacketView) (size now : ℕ) where
  enters_from : (l : ServerView) → is_joined_place from l.routers ≡ true → ChangesNothing (server_hears l from p size now)
  enters_from l is =
      either_by ChangesNothing (is_joined_place from l.routers) _ _ (λ e. enters l from p.header size) (λ apart. absurd (both_ways _ apart is))

  met_joined : (l : ServerView) → is_joined_place from l.routers ≡ true → server_met from p.header size now l ≡ l
  met_joined l is =
      ap (λ (b : Bool). if (not b && not (is_registration p.header size) && not (is_some (client_at from l.clients)) && not (is_some (stranger_drop l from p.header now))) then server_admitting from now l else l) is

  joined_leaves : (l : ServerView) → is_joined_place from l.routers ≡ true → server_here (server_after l (Datagram from p size now)) ≡ server_here (server_aged now l)
  joined_leaves l is =
      let aged : ServerView = server_aged now l in
      limits_leave l from p size now
      ∙ ap (λ (v : ServerView). server_here (server_hearing (server_hears v from p size now) from now v)) (met_joined aged is)
      ∙ (enters_from aged is).server from now aged

  joined_unanswered : (l : ServerView) → is_joined_place from l.routers ≡ true → answer_of (packet_hears l from p size now) ≡ None
  joined_unanswered l is =
      let aged : ServerView = server_aged now l in
      limited (λ (h : Disposition). answer_of h ≡ None) (server_unlimited l from p size now) (unlimited_hears l from p size now) from now (λ drop. refl)
      (ap (λ (v : ServerView). answer_of (server_hears v from p size now)) (met_joined aged is) ∙ (enters_from aged is).answer)

-- ---- no limit keeps a registration from its answer

record IsAnswered (heard : Disposition) : Type 0 where
  answer : (l : ServerView) (from : SocketAddrV4) (now : ℕ) → answer_of (limited_hears l heard from now) ≡ answer_of heard

new_answered : (port : ServerPort) (node : Node) (o : Option ServerDrop) → IsAnswered (new_client_hears port node o)
new_answered port node None = record { answer = λ l from now. refl }
new_answered port node (Some drop) = record { answer = λ l from now. refl }

registering : (v : ServerView) (from : SocketAddrV4) (now : ℕ) (o : Option Client) → IsAnswered (registration_hears v from now o)
registering v from now None = new_answered v.port (node_of_place v.port from) (registration_drop v from now)
registering v from now (Some c) = record { answer = λ l from now. refl }

unanswered : (heard : Disposition) → answer_of heard ≡ None → IsAnswered heard
unanswered heard none = record {
  answer = λ l from now. limited (λ (h : Disposition). answer_of h ≡ None) l heard from now (λ drop. refl) none ∙ sym none;
}

answers : (v : ServerView) (from : SocketAddrV4) (p : PacketView) (size now : ℕ) → is_registration p.header size ≡ true → IsAnswered (server_hears v from p size now)
answers v from p size now is =
    either IsAnswered (is_joined_place from v.routers) _ _ (unanswered _ (enters v from p.header size).answer)
    (either_by IsAnswered (is_registration p.header size) _ _ (λ e. registering v from now (client_at from v.clients)) (λ e. absurd (both_ways _ e is)))

-- ---- how a registration is answered

if_so : (b : Bool) (x y : Option IpxHeader) → (b ≡ true → x ≡ y) → (if b then x else None) ≡ (if b then y else None)
if_so true x y same = same refl
if_so false x y same = refl

if_none : (b : Bool) (x : Option IpxHeader) → x ≡ None → (if b then x else None) ≡ None
if_none true x none = none
if_none false x none = refl

packet_answered : (l : ServerView) (from : SocketAddrV4) (p : PacketView) (size now : ℕ) → is_registration p.header size ≡ true → answer_of (packet_hears (server_here l) from p size now) ≡ answer_of (packet_hears l from p size now)
unfolding found
packet_answered l from p size now is =
    let met : ServerView = found l from p size now in
    let other : ServerView = found (server_here l) from p size now in
    (answers other from p size now is).answer (server_unlimited (server_here l) from p size now) from now
    ∙ ap (λ (v : ServerView). answer_of (server_hears v from p size now)) (found_here l from p size now)
    ∙ (hears met from p size now).answer
    ∙ sym ((answers met from p size now is).answer (server_unlimited l from p size now) from now)

answered_here : (l : ServerView) (call : ServerCall) → registration_answered (server_here l) call ≡ registration_answered l call
answered_here l (Datagram from p size now) =
    if_so (is_registration p.header size) _ _ (packet_answered l from p size now)
answered_here l (NoPacket fault now) = refl
answered_here l (OfCore node header size now) = refl
answered_here l (Turn now) = refl
answered_here l (Again place now) = refl

-- ---- a call

abbrev pair : ServerView → Option IpxHeader → ServerView × Option IpxHeader
pair v x = (v, x)

-- what there is to see here of a call: of none only that there was one at this time
seen_by : ℕ → Option ServerCall → ServerView → ServerView × Option IpxHeader
seen_by now None v = (server_here (server_aged now v), None)
seen_by now (Some call) v = (server_here (server_after v call), registration_answered v call)

two : (v w : ServerView) (x y : Option IpxHeader) → v ≡ w → x ≡ y → pair v x ≡ pair w y
two v w x y e f = cc

seen_datagram : (b : Bool) (l : ServerView) (from : SocketAddrV4) (p : PacketView) (size now : ℕ) → is_joined_place from l.routers ≡ b
    → pair (server_here (server_after l (Datagram from p size now))) (registration_answered l (Datagram from p size now))
    ≡ seen_by now (if b then None else Some (Datagram from p size now)) (server_here l)
unfolding seen_by
seen_datagram true l from p size now is =
    two _ _ _ _ (joined_leaves from p size now l is) (if_none (is_registration p.header size) _ (joined_unanswered from p size now l is))
seen_datagram false l from p size now is =
    let call : ServerCall = Datagram from p size now in
    two _ _ _ _ (sym (after_here l call)) (sym (answered_here l call))

seen : (l : ServerView) (call : ServerCall) → pair (server_here (server_after l call)) (registration_answered l call) ≡ seen_by (time_of call) (call_here l.routers call) (server_here l)
unfolding seen_by
seen l (Datagram from p size now) = seen_datagram (is_joined_place from l.routers) l from p size now refl
seen l (NoPacket fault now) = refl
seen l (OfCore node header size now) = two _ _ _ _ (gives_leave l node header size now) refl
seen l (Turn now) = refl
seen l (Again place now) = two _ _ _ _ (sym (after_here l (Again place now))) refl

seen_same : (l m : ServerView) (call other : ServerCall) → server_here l ≡ server_here m → time_of call ≡ time_of other → call_here l.routers call ≡ call_here l.routers other
    → pair (server_here (server_after l call)) (registration_answered l call) ≡ pair (server_here (server_after m other)) (registration_answered m other)
seen_same l m call other same times calls =
    seen l call
    ∙ ap (λ (now : ℕ). seen_by now (call_here l.routers call) (server_here l)) times
    ∙ ap (λ (o : Option ServerCall). seen_by (time_of other) o (server_here l)) (calls ∙ ap (λ (v : ServerView). call_here v.routers other) same)
    ∙ ap (λ (v : ServerView). seen_by (time_of other) (call_here m.routers other) v) same
    ∙ sym (seen m other)

-- ---- any calls

first_same : {X : Type 0} (x y : X) (xs ys : List X) → x ∷ xs ≡ y ∷ ys → x ≡ y
first_same x y xs ys e = cc

rest_same : {X : Type 0} (x y : X) (xs ys : List X) → x ∷ xs ≡ y ∷ ys → xs ≡ ys
rest_same x y xs ys e = cc

list_same : {X : Type 0} (x y : X) (xs ys : List X) → x ≡ y → xs ≡ ys → x ∷ xs ≡ y ∷ ys
list_same x y xs ys e f = cc

kept_out_by : (routers : List SocketAddrV4) (l m : ServerView) (calls others : List ServerCall) → l.routers ≡ routers → server_here l ≡ server_here m
    → map time_of calls ≡ map time_of others → map (call_here routers) calls ≡ map (call_here routers) others → run_here l calls ≡ run_here m others
kept_out_by routers l m [] [] is same times kept = refl
kept_out_by routers l m [] (other ∷ others) is same times kept = cc
kept_out_by routers l m (call ∷ calls) [] is same times kept = cc
kept_out_by routers l m (call ∷ calls) (other ∷ others) is same times kept =
    let first = seen_same l m call other same (first_same _ _ _ _ times)
    (ap (λ (r : List SocketAddrV4). call_here r call) is ∙ first_same _ _ _ _ kept ∙ ap (λ (r : List SocketAddrV4). call_here r other) (sym is)) in
    list_same _ _ _ _ first
    (kept_out_by routers (server_after l call) (server_after m other) calls others (after_routers l call ∙ is) (ap (λ r. r.0) first) (rest_same _ _ _ _ times) (rest_same _ _ _ _ kept))

pub kept_out_by_nobody : JoinedRoutersKeepNobodyOut
kept_out_by_nobody l m calls others same times kept = kept_out_by l.routers l m calls others refl same times kept
