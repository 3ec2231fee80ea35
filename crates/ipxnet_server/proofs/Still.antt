-- Which clients are known, once one was heard.
use Rattle.std.proofs.Common.{◌≡◌, ◌+◌, ◌-◌, ℕ, List, [], ◌∷◌, ◌++◌, Bool, true, false, Option, Some, None, length, take, drop, filter, find, not, cond, ◌⊎◌, inl, inr, refl, sym, ap, subst, ◌∙◌, take-append-drop}
use Rattle.std.specs.Prelude.{is_some, IfOk, Ok, Err, Result, ◌==◌, ◌&&◌, ◌||◌, nat_lt, if◌then◌else◌}
use Rattle.std.specs.Option.{option_or}
use Rattle.std.specs.Net.Addr.{ipv4_octets}
use Rattle.std.specs.Net.Socket.{v4_ip, v4_port}
use Rattle.std.specs.Str.{bytes_eq}
use Rattle.std.proofs.lemmas.List.Folds.{find-append}
use Rattle.std.proofs.lemmas.Bool.{eqb-true}
use Rattle.std.proofs.lemmas.Slice.Eq.{bytes_eq-Decides}
use Rattle.ipxnet_server.specs.declared.clients.Client.{Client}
use Rattle.ipxnet_server.specs.declared.disposition.Disposition.{Disposition}
use Rattle.ipxnet_server.specs.declared.disposition.Disposition.TheVariants.{Registered, Pinged, ToClient, ToOthers, ToOthersAndCore, ToCore, PingAnswered, ToJoined, FromJoined, Dropped}
use Rattle.ipxnet_server.specs.declared.drops.ServerDrop.{ServerDrop}
use Rattle.ipxnet_server.specs.declared.drops.ServerDrop.TheVariants.{NoSuchNode, TooLong}
use Rattle.std.specs.declared.net.socket_addr.SocketAddrV4.{SocketAddrV4}
use Rattle.ipxnet_server.specs.declared.peer_servers.RemoteClient.{RemoteClient}
use Rattle.ipxnet_server.specs.declared.port.ServerPort.{ServerPort}
use Rattle.ipxnet_server.specs.declared.recipients.Recipients.{Recipients}
use Rattle.ipxnet_server.specs.declared.recipients.Recipients.TheVariants.{One}
use Rattle.ipx_wire.specs.Assigned.{broadcast_node}
use Rattle.ipx_wire.specs.declared.address.Node.{Node}
use Rattle.ipx_wire.specs.declared.ipx.packet.IpxHeader.{IpxHeader}
use Rattle.ipxnet_server.specs.ServerClients.{are_one_place, client_at, client_heard, client_of_node, client_that_goes, clients_but, clients_heard, clients_moved, clients_with, is_client_at, new_client, node_of_place}
use Rattle.ipxnet_server.specs.NotedPlaces.{places_noted}
use Rattle.ipxnet_server.specs.ServerHears.{BecameClient, ServerView, attempts_noted, all_get, client_gets, is_from_server, is_given_from_server, is_given_to_service, is_joined_taker, is_of_client, is_of_joined, is_to_service, joined_takers, server_gives, server_hearing, server_learned, max_client_bytes}
use Rattle.ipxnet_server.specs.PeerServers.{is_joined_place, remote_client_of}
use Rattle.ipxnet_server.specs.ServerInside.{MayKnow, Known, Same}
use Rattle.ipxnet_server.proofs.Hears.{taker_known}
use Rattle.ipxnet_server.proofs.Once.{found_passes, same_place}

-- ---- addresses

both_true : (a b : Bool) → (a && b) ≡ true → (a ≡ true) × (b ≡ true)
both_true true b e = (refl, e)
both_true false b e = cc

abbrev place_of : List ℕ → ℕ → SocketAddrV4
place_of octets port = record { ip = record { octets = octets }; port = port }

pub one_place : (a b : SocketAddrV4) → are_one_place a b ≡ true → a ≡ b
one_place a b e =
    let both = both_true (bytes_eq (ipv4_octets (v4_ip a)) (ipv4_octets (v4_ip b))) (v4_port a == v4_port b) e in
    let ip : ipv4_octets (v4_ip a) ≡ ipv4_octets (v4_ip b) = (bytes_eq-Decides (ipv4_octets (v4_ip a)) (ipv4_octets (v4_ip b))).0 both.0 in
    let port : v4_port a ≡ v4_port b = eqb-true (v4_port a) (v4_port b) both.1 in
    ap (λ (octets : List ℕ). place_of octets (v4_port a)) ip ∙ ap (place_of (ipv4_octets (v4_ip b))) port

-- ---- the clients that are removed, and those that stay

gone_by : (from : SocketAddrV4) (x : Client) (b : Bool) (rest : List Client) → is_client_at from x ≡ b → find (is_client_at from) rest ≡ None → find (is_client_at from) (cond (not b) (x ∷ rest) rest) ≡ None
gone_by from x true rest is none = none
gone_by from x false rest is none = rw is none

gone : (from : SocketAddrV4) (xs : List Client) → find (is_client_at from) (filter (λ c. not (is_client_at from c)) xs) ≡ None
gone from [] = refl
gone from (x ∷ xs) = gone_by from x (is_client_at from x) (filter (λ c. not (is_client_at from c)) xs) refl (gone from xs)

second_none : (a b : Option Client) → option_or a b ≡ None → b ≡ None
second_none None b e = e
second_none (Some x) b e = cc

none_behind : (test : Client → Bool) (n : ℕ) (xs : List Client) → find test xs ≡ None → find test (drop n xs) ≡ None
none_behind test n xs none =
    second_none (find test (take n xs)) (find test (drop n xs)) (sym (find-append test (take n xs) (drop n xs)) ∙ ap (find test) (take-append-drop n xs) ∙ none)

stays_by : (from place : SocketAddrV4) (x : Client) (b : Bool) (rest xs : List Client) → is_client_at from x ≡ b → (is_client_at from x ≡ true → is_client_at place x ≡ false) → find (is_client_at place) rest ≡ find (is_client_at place) xs
    → find (is_client_at place) (cond (not b) (x ∷ rest) rest) ≡ find (is_client_at place) (x ∷ xs)
stays_by from place x true rest xs is apart same = rw (apart is) same
stays_by from place x false rest xs is apart same = ap (λ (o : Option Client). cond (is_client_at place x) (Some x) o) same

elsewhere_by : (a b : SocketAddrV4) (d : Bool) → are_one_place a b ≡ d → are_one_place b a ≡ false → d ≡ false
elsewhere_by a b false is apart = refl
elsewhere_by a b true is apart = cc (ap (λ (p : SocketAddrV4). are_one_place b p) (one_place a b is) ∙ same_place b)

pub elsewhere : (a b : SocketAddrV4) → are_one_place b a ≡ false → are_one_place a b ≡ false
elsewhere a b apart = elsewhere_by a b (are_one_place a b) refl apart

is_elsewhere : (from place : SocketAddrV4) (x : Client) → are_one_place place from ≡ false → is_client_at from x ≡ true → is_client_at place x ≡ false
is_elsewhere from place x apart is = ap (λ (p : SocketAddrV4). are_one_place p place) (one_place x.place from is) ∙ elsewhere from place apart

pub stay : (from place : SocketAddrV4) (xs : List Client) → are_one_place place from ≡ false → find (is_client_at place) (filter (λ c. not (is_client_at from c)) xs) ≡ find (is_client_at place) xs
stay from place [] apart = refl
stay from place (x ∷ xs) apart =
    stays_by from place x (is_client_at from x) (filter (λ c. not (is_client_at from c)) xs) xs refl (is_elsewhere from place x apart) (stay from place xs apart)

none_filtered_by : (test keep : Client → Bool) (x : Client) (rest : List Client) (b : Bool) → test x ≡ false → find test rest ≡ None → find test (cond b (x ∷ rest) rest) ≡ None
none_filtered_by test keep x rest true isnt none = rw isnt none
none_filtered_by test keep x rest false isnt none = none

first_fails : (x : Client) (b : Bool) (o : Option Client) → cond b (Some x) o ≡ None → (b ≡ false) × (o ≡ None)
first_fails x true o none = cc
first_fails x false o none = (refl, none)

none_filtered : (test keep : Client → Bool) (xs : List Client) → find test xs ≡ None → find test (filter keep xs) ≡ None
none_filtered test keep [] none = refl
none_filtered test keep (x ∷ xs) none =
    let fails = first_fails x (test x) (find test xs) none in
    none_filtered_by test keep x (filter keep xs) (keep x) fails.0 (none_filtered test keep xs fails.1)

-- ---- the one that was heard

alone : (from : SocketAddrV4) (c : Client) → is_client_at from c ≡ true → find (is_client_at from) (c ∷ []) ≡ Some c
alone from c is = rw is refl

last_found : (from : SocketAddrV4) (xs : List Client) (c : Client) → find (is_client_at from) xs ≡ None → is_client_at from c ≡ true → client_at from (xs ++ c ∷ []) ≡ Some c
last_found from xs c none is =
    let test = is_client_at from in
    find-append test xs (c ∷ []) ∙ ap (λ (o : Option Client). option_or o (find test (c ∷ []))) none ∙ alone from c is

abbrev heard_now : ℕ → Client → Client
heard_now now c = record c { heard = now }

-- a client that is heard is then found as such
pub heard_found : (now : ℕ) (from : SocketAddrV4) (xs : List Client) (c : Client) → client_at from xs ≡ Some c → client_at from (clients_heard from now xs) ≡ Some (record c { heard = now })
heard_found now from xs c is =
    ap (λ (o : Option Client). client_at from (clients_moved from now xs o)) is
    ∙ last_found from (filter (λ k. not (is_client_at from k)) xs) (heard_now now c) (gone from xs) (found_passes (is_client_at from) xs c is)

but_none : (from : SocketAddrV4) (o : Option Client) (xs : List Client) → client_at from xs ≡ None → client_at from (clients_but o xs) ≡ None
but_none from None xs none = none
but_none from (Some c) xs none = none_filtered (is_client_at from) (λ k. not (is_client_at c.place k)) xs none

-- and so is a new one
pub new_found : (most now : ℕ) (node : Node) (from : SocketAddrV4) (xs : List Client) → client_at from xs ≡ None → client_at from (clients_with most node from now xs) ≡ Some (new_client node from now)
new_found most now node from xs none =
    let kept : List Client = clients_but (client_that_goes from xs) xs in
    let n = length kept + 1 - most in
    last_found from (drop n kept) (new_client node from now) (none_behind (is_client_at from) n kept (but_none from (client_that_goes from xs) xs none)) (same_place from)

known_heard : (now : ℕ) (node : Node) (from : SocketAddrV4) (xs : List Client) (o : Option Client) → client_at from xs ≡ o → is_some o ≡ true → client_at from (clients_heard from now xs) ≡ Some (client_heard node from now o)
known_heard now node from xs None is there = cc
known_heard now node from xs (Some c) is there = heard_found now from xs c is

heard_there : (now : ℕ) (node : Node) (from : SocketAddrV4) (xs : List Client) → is_some (client_at from xs) ≡ true → client_at from (clients_heard from now xs) ≡ Some (client_heard node from now (client_at from xs))
heard_there now node from xs there = known_heard now node from xs (client_at from xs) refl there

-- ---- the others

pub first_is : (a b : Option Client) → is_some a ≡ true → is_some (option_or a b) ≡ true
first_is None b e = cc
first_is (Some x) b e = refl

moved_stays : (now : ℕ) (from place : SocketAddrV4) (xs : List Client) (o : Option Client) → are_one_place place from ≡ false → is_some (client_at place xs) ≡ true → is_some (client_at place (clients_moved from now xs o)) ≡ true
moved_stays now from place xs None apart there = there
moved_stays now from place xs (Some c) apart there =
    let test = is_client_at place in
    let kept : List Client = filter (λ k. not (is_client_at from k)) xs in
    let stays : is_some (find test kept) ≡ true = ap is_some (stay from place xs apart) ∙ there in
    ap is_some (find-append test kept (heard_now now c ∷ [])) ∙ first_is (find test kept) (find test (heard_now now c ∷ [])) stays

still_by : (now : ℕ) (from place : SocketAddrV4) (xs : List Client) (b : Bool) → are_one_place place from ≡ b → is_some (client_at place xs) ≡ true → is_some (client_at place (clients_heard from now xs)) ≡ true
still_by now from place xs true is there =
    let same : place ≡ from = one_place place from is in
    let here : is_some (client_at from xs) ≡ true = subst (λ (p : SocketAddrV4). is_some (client_at p xs) ≡ true) same there in
    subst (λ (p : SocketAddrV4). is_some (client_at p (clients_heard from now xs)) ≡ true) (sym same) (ap is_some (heard_there now (record { 0 = [] }) from xs here))
still_by now from place xs false is there = moved_stays now from place xs (client_at from xs) is there

-- nobody is lost as one is heard
pub still_there : (now : ℕ) (from place : SocketAddrV4) (xs : List Client) → is_some (client_at place xs) ≡ true → is_some (client_at place (clients_heard from now xs)) ≡ true
still_there now from place xs there = still_by now from place xs (are_one_place place from) refl there

-- ---- a server after a datagram

pub hearing_clients : (heard : Disposition) (from : SocketAddrV4) (now : ℕ) (l : ServerView) → is_of_client heard ≡ true → (server_hearing heard from now l).clients ≡ clients_heard from now l.clients
hearing_clients (Registered answer) from now l e = cc
hearing_clients (Pinged giver answer) from now l e = refl
hearing_clients (ToClient place) from now l e = refl
hearing_clients (ToOthers giver) from now l e = refl
hearing_clients (ToOthersAndCore giver) from now l e = refl
hearing_clients ToCore from now l e = refl
hearing_clients PingAnswered from now l e = refl
hearing_clients (ToJoined takers) from now l e = refl
hearing_clients (FromJoined told takers) from now l e = cc
hearing_clients (Dropped d) from now l e = cc

noted_clients : (b : Bool) (l m : ServerView) → m.clients ≡ l.clients → (if b then l else m).clients ≡ l.clients
noted_clients true l m same = refl
noted_clients false l m same = same

told_clients : (told : Option Node) (from : SocketAddrV4) (now : ℕ) (l : ServerView) → (server_learned told from now l).clients ≡ l.clients
told_clients None from now l = refl
told_clients (Some node) from now l = refl

pub others_clients : (heard : Disposition) (from : SocketAddrV4) (now : ℕ) (l : ServerView) → is_of_client heard ≡ false → (server_hearing heard from now l).clients ≡ l.clients
others_clients (Registered answer) from now l e = noted_clients (is_some (client_at from l.clients)) l (record l { noted = places_noted from now l.noted; attempts = attempts_noted from now l }) refl
others_clients (Pinged giver answer) from now l e = cc
others_clients (ToClient place) from now l e = cc
others_clients (ToOthers giver) from now l e = cc
others_clients (ToOthersAndCore giver) from now l e = cc
others_clients ToCore from now l e = cc
others_clients PingAnswered from now l e = cc
others_clients (ToJoined takers) from now l e = cc
others_clients (FromJoined told takers) from now l e = told_clients told from now l
others_clients (Dropped d) from now l e = refl

clients_kept : (b : Bool) (heard : Disposition) (from place : SocketAddrV4) (now : ℕ) (l : ServerView) → is_of_client heard ≡ b → is_some (client_at place l.clients) ≡ true → is_some (client_at place (server_hearing heard from now l).clients) ≡ true
clients_kept true heard from place now l of there =
    ap (λ (known : List Client). is_some (client_at place known)) (hearing_clients heard from now l of)
    ∙ still_there now from place l.clients there
clients_kept false heard from place now l of there =
    ap (λ (known : List Client). is_some (client_at place known)) (others_clients heard from now l of) ∙ there

-- who is a client as a datagram is judged is one after that
pub client_kept : (heard : Disposition) (from place : SocketAddrV4) (now : ℕ) (l : ServerView) → is_some (client_at place l.clients) ≡ true → is_some (client_at place (server_hearing heard from now l).clients) ≡ true
client_kept heard from place now l there = clients_kept (is_of_client heard) heard from place now l refl there

noted_far : (b : Bool) (l m : ServerView) → m.far ≡ l.far → (if b then l else m).far ≡ l.far
noted_far true l m same = refl
noted_far false l m same = same

-- if no joined router sent it, no remote client changes
pub hearing_far : (heard : Disposition) (from : SocketAddrV4) (now : ℕ) (l : ServerView) → is_of_joined heard ≡ false → (server_hearing heard from now l).far ≡ l.far
hearing_far (Registered answer) from now l e = noted_far (is_some (client_at from l.clients)) l (record l { noted = places_noted from now l.noted; attempts = attempts_noted from now l }) refl
hearing_far (Pinged giver answer) from now l e = refl
hearing_far (ToClient place) from now l e = refl
hearing_far (ToOthers giver) from now l e = refl
hearing_far (ToOthersAndCore giver) from now l e = refl
hearing_far ToCore from now l e = refl
hearing_far PingAnswered from now l e = refl
hearing_far (ToJoined takers) from now l e = refl
hearing_far (FromJoined told takers) from now l e = cc
hearing_far (Dropped d) from now l e = refl

-- ---- a server whose sender became a client before its packet was judged

-- who is heard is found, by the node that it had or is given
pub met_heard : (from : SocketAddrV4) (now : ℕ) (l m : ServerView) → MayKnow from now l m → is_some (client_at from m.clients) ≡ true
    → client_at from (clients_heard from now m.clients) ≡ Some (client_heard (node_of_place l.port from) from now (client_at from l.clients))
met_heard from now l m (Same e) there =
    heard_there now (node_of_place l.port from) from m.clients there ∙ ap (λ (v : ServerView). Some (client_heard (node_of_place l.port from) from now (client_at from v.clients))) e
met_heard from now l m (Known apart none few room e) there =
    let node : Node = node_of_place l.port from in
    ap (λ (v : ServerView). client_at from (clients_heard from now v.clients)) e
    ∙ heard_found now from (clients_with l.max_clients node from now l.clients) (new_client node from now) (new_found l.max_clients now node from l.clients none)
    ∙ sym (ap (λ (o : Option Client). Some (client_heard node from now o)) none)

pub met_joined : (from : SocketAddrV4) (now : ℕ) (l m : ServerView) → MayKnow from now l m → is_joined_place from l.routers ≡ true → m ≡ l
met_joined from now l m (Same e) is = e
met_joined from now l m (Known apart none few room e) is = cc

-- only its clients, those of joined routers, and who is noted, can be others
pub met_rest : (from : SocketAddrV4) (now : ℕ) (l m : ServerView) → MayKnow from now l m → record m { clients = l.clients; far = l.far; noted = l.noted } ≡ l
met_rest from now l m (Same e) = ap (λ (v : ServerView). record v { clients = l.clients; far = l.far; noted = l.noted }) e
met_rest from now l m (Known apart none few room e) = ap (λ (v : ServerView). record v { clients = l.clients; far = l.far; noted = l.noted }) e

-- those of joined routers are others only if it became a client
pub met_far : (from : SocketAddrV4) (now : ℕ) (l m : ServerView) → MayKnow from now l m → (m.far ≡ l.far) ⊎ BecameClient from l m
met_far from now l m (Same e) = inl (ap (λ (v : ServerView). v.far) e)
met_far from now l m (Known apart none few room e) = inr (record {
  was = none;
  is = ap (λ (v : ServerView). is_some (client_at from v.clients)) e ∙ ap is_some (new_found l.max_clients now (node_of_place l.port from) from l.clients none);
  far = ap (λ (v : ServerView). v.far) e;
})

-- and so they are later, if nothing was learned
pub far_later : (from : SocketAddrV4) (l m after : ServerView) → after.far ≡ m.far → (is_some (client_at from m.clients) ≡ true → is_some (client_at from after.clients) ≡ true)
    → (m.far ≡ l.far) ⊎ BecameClient from l m → (after.far ≡ l.far) ⊎ BecameClient from l after
far_later from l m after same keeps (inl e) = inl (same ∙ e)
far_later from l m after same keeps (inr became) = inr (record { was = became.was; is = keeps became.is; far = same ∙ became.far })

-- ---- what no datagram changes

abbrev rest_of : ServerView → ServerPort × ℕ × List SocketAddrV4 × ℕ
rest_of l = (l.port, l.max_clients, l.routers, l.pinged)

told_rest : (told : Option Node) (from : SocketAddrV4) (now : ℕ) (l : ServerView) → rest_of (server_learned told from now l) ≡ rest_of l
told_rest None from now l = refl
told_rest (Some node) from now l = refl

noted_rest : (b : Bool) (l m : ServerView) → rest_of m ≡ rest_of l → rest_of (if b then l else m) ≡ rest_of l
noted_rest true l m same = refl
noted_rest false l m same = same

pub hearing_rest : (heard : Disposition) (from : SocketAddrV4) (now : ℕ) (l : ServerView) → rest_of (server_hearing heard from now l) ≡ rest_of l
hearing_rest (Registered answer) from now l = noted_rest (is_some (client_at from l.clients)) l (record l { noted = places_noted from now l.noted; attempts = attempts_noted from now l }) refl
hearing_rest (Pinged giver answer) from now l = refl
hearing_rest (ToClient place) from now l = refl
hearing_rest (ToOthers giver) from now l = refl
hearing_rest (ToOthersAndCore giver) from now l = refl
hearing_rest ToCore from now l = refl
hearing_rest PingAnswered from now l = refl
hearing_rest (ToJoined takers) from now l = refl
hearing_rest (FromJoined told takers) from now l = told_rest told from now l
hearing_rest (Dropped d) from now l = refl

-- ---- packets of the core

joined_not_one : (o : Option RemoteClient) (place : SocketAddrV4) {P : Type 0} → joined_takers o ≡ One place → P
joined_not_one None place e = cc
joined_not_one (Some f) place e = cc

none_gives : (alone : Bool) (node : Node) (f : Option RemoteClient) (place : SocketAddrV4) {P : Type 0} → (if alone then Err (NoSuchNode node) else Ok (joined_takers f)) ≡ Ok (One place) → P
none_gives true node f place e = cc
none_gives false node f place e = joined_not_one f place (cc e)

all_not_one : (to_service : Bool) (place : SocketAddrV4) {P : Type 0} → all_get to_service ≡ One place → P
all_not_one true place e = cc
all_not_one false place e = cc

gives_by : (long broad to_service from_here : Bool) (drop : ServerDrop) (l : ServerView) (node : Node) (o : Option Client) (place : SocketAddrV4) → client_of_node node l.clients ≡ o
    → (if long then Err drop else if broad then Ok (all_get to_service) else client_gets l node from_here o) ≡ Ok (One place) → is_some (client_at place l.clients) ≡ true
gives_by true broad to_service from_here drop l node o place found e = cc
gives_by false true to_service from_here drop l node o place found e = all_not_one to_service place (cc e)
gives_by false false to_service from_here drop l node None place found e = none_gives (length l.routers == 0 || from_here) node (remote_client_of node l.far) place e
gives_by false false to_service from_here drop l node (Some c) place found e = taker_known node place l.clients c found (cc e)

pub gives_client : (l : ServerView) (node : Node) (header : Option IpxHeader) (size : ℕ) (place : SocketAddrV4) → server_gives l node header size ≡ Ok (One place) → is_some (client_at place l.clients) ≡ true
gives_client l node header size place e =
    gives_by (nat_lt max_client_bytes size) (bytes_eq node.0 broadcast_node) (is_given_to_service header) (is_given_from_server l.port header) (TooLong size) l node (client_of_node node l.clients) place refl e

-- what comes from the network of the port goes to no joined router
abbrev pub StaysHere : Result Recipients ServerDrop → Type 0
StaysHere given = IfOk given (λ takers. (place : SocketAddrV4) → is_joined_taker takers place ≡ false)

all_stay : (to_service : Bool) → StaysHere (Ok (all_get to_service))
all_stay true = λ place. refl
all_stay false = λ place. refl

none_stay : (alone : Bool) (drop : ServerDrop) (given : Result Recipients ServerDrop) → StaysHere (if alone || true then Err drop else given)
none_stay true drop given = tt
none_stay false drop given = tt

gets_stay : (l : ServerView) (node : Node) (o : Option Client) → StaysHere (client_gets l node true o)
gets_stay l node None = none_stay (length l.routers == 0) (NoSuchNode node) (Ok (joined_takers (remote_client_of node l.far)))
gets_stay l node (Some c) = λ place. refl

stay_by : (long broad to_service from_here : Bool) (drop : ServerDrop) (l : ServerView) (node : Node) (o : Option Client) → from_here ≡ true
    → StaysHere (if long then Err drop else if broad then Ok (all_get to_service) else client_gets l node from_here o)
stay_by true broad to_service from_here drop l node o here = tt
stay_by false true to_service from_here drop l node o here = all_stay to_service
stay_by false false to_service true drop l node o here = gets_stay l node o
stay_by false false to_service false drop l node o here = cc

pub gives_stay : (l : ServerView) (node : Node) (h : IpxHeader) (size : ℕ) → is_from_server l.port h ≡ true → StaysHere (server_gives l node (Some h) size)
gives_stay l node h size here =
    stay_by (nat_lt max_client_bytes size) (bytes_eq node.0 broadcast_node) (is_to_service h) (is_from_server l.port h) (TooLong size) l node (client_of_node node l.clients) here
