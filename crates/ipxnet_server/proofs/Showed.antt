-- Who is a client has shown its node.
use Rattle.std.proofs.Common.{◌≡◌, ◌+◌, ◌-◌, ℕ, zero, suc, List, [], ◌∷◌, ◌++◌, Bool, true, false, Option, Some, None, length, drop, filter, find, not, cond, refl, sym, ap, subst, ◌∙◌}
use Rattle.std.specs.Prelude.{◌&&◌, ◌||◌, is_some, if◌then◌else◌}
use Rattle.std.specs.List.{list_any}
use Rattle.std.specs.Option.{option_or}
use Rattle.std.specs.Str.{bytes_eq}
use Rattle.std.specs.declared.net.socket_addr.SocketAddrV4.{SocketAddrV4}
use Rattle.std.proofs.lemmas.List.Folds.{find-append}
use Rattle.ipx_wire.specs.Ipx.{PacketView}
use Rattle.ipxnet_server.specs.declared.clients.Client.{Client}
use Rattle.ipxnet_server.specs.declared.disposition.Disposition.{Disposition}
use Rattle.ipxnet_server.specs.declared.port.ServerPort.{ServerPort}
use Rattle.ipxnet_server.specs.ServerClients.{are_one_place, client_at, client_that_goes, clients_but, clients_moved, forgotten_after, is_client_at, new_client, node_of_place, was_heard_within}
use Rattle.ipxnet_server.specs.ServerFloods.{packet_gives, server_unlimited, unlimited_hears}
use Rattle.ipxnet_server.specs.ServerHears.{ServerView, is_of_client, makes_client, server_admitting, server_aged, server_hearing, server_hears, server_met}
use Rattle.ipxnet_server.specs.NotedPlaces.{places_noted_again}
use Rattle.ipxnet_server.specs.PeerServers.{is_joined_place}
use Rattle.ipxnet_server.specs.ServerRuns.{Again, ClientsShowedTheirNodes, Datagram, NoPacket, OfCore, ServerCall, Turn, server_after, server_run, shows_node}
use Rattle.ipxnet_server.proofs.Hears.{found_finds, shows_it}
use Rattle.ipxnet_server.proofs.Limits.{giving_keeps, limiting_keeps}
use Rattle.ipxnet_server.proofs.Still.{hearing_clients, hearing_rest, one_place, others_clients}

-- ---- who is found in a part is found in the whole

has_by : (test : Client → Bool) (x : Client) (b : Bool) (rest xs : List Client) → (is_some (find test rest) ≡ true → is_some (find test xs) ≡ true) → is_some (cond b (Some x) (find test rest)) ≡ true → is_some (cond b (Some x) (find test xs)) ≡ true
has_by test x true rest xs more has = refl
has_by test x false rest xs more has = more has

more_by : (test : Client → Bool) (x : Client) (b : Bool) (xs : List Client) → is_some (find test xs) ≡ true → is_some (cond b (Some x) (find test xs)) ≡ true
more_by test x true xs has = refl
more_by test x false xs has = has

kept_by : (test : Client → Bool) (x : Client) (b : Bool) (rest xs : List Client) → (is_some (find test rest) ≡ true → is_some (find test xs) ≡ true) → is_some (find test (cond b (x ∷ rest) rest)) ≡ true → is_some (find test (x ∷ xs)) ≡ true
kept_by test x true rest xs more has = has_by test x (test x) rest xs more has
kept_by test x false rest xs more has = more_by test x (test x) xs (more has)

of_kept : (test keep : Client → Bool) (xs : List Client) → is_some (find test (filter keep xs)) ≡ true → is_some (find test xs) ≡ true
of_kept test keep [] has = has
of_kept test keep (x ∷ xs) has = kept_by test x (keep x) (filter keep xs) xs (of_kept test keep xs) has

of_rest : (test : Client → Bool) (n : ℕ) (xs : List Client) → is_some (find test (drop n xs)) ≡ true → is_some (find test xs) ≡ true
of_rest test zero xs has = has
of_rest test (suc n) [] has = has
of_rest test (suc n) (x ∷ xs) has = more_by test x (test x) xs (of_rest test n xs has)

of_but : (test : Client → Bool) (o : Option Client) (xs : List Client) → is_some (find test (clients_but o xs)) ≡ true → is_some (find test xs) ≡ true
of_but test None xs has = has
of_but test (Some c) xs has = of_kept test (λ k. not (is_client_at c.place k)) xs has

-- it is one of these, or the last
either_is : (a b : Option Client) → is_some (option_or a b) ≡ true → (is_some a || is_some b) ≡ true
either_is None b has = has
either_is (Some x) b has = refl

last_is : (test : Client → Bool) (c : Client) (b : Bool) → is_some (cond b (Some c) None) ≡ true → b ≡ true
last_is test c true has = refl
last_is test c false has = has

or_last : (test : Client → Bool) (xs : List Client) (c : Client) → is_some (find test (xs ++ c ∷ [])) ≡ true → (is_some (find test xs) || is_some (find test (c ∷ []))) ≡ true
or_last test xs c has = either_is (find test xs) (find test (c ∷ [])) (sym (ap is_some (find-append test xs (c ∷ []))) ∙ has)

split : {P : Type 0} (a b : Bool) → (a ≡ true → P) → (b ≡ true → P) → (a || b) ≡ true → P
split true b f g e = f refl
split false b f g e = g e

-- ---- each call

moved_has : (now : ℕ) (from place : SocketAddrV4) (xs : List Client) (o : Option Client) → client_at from xs ≡ o → is_some (client_at place (clients_moved from now xs o)) ≡ true → is_some (client_at place xs) ≡ true
moved_has now from place xs None is has = has
moved_has now from place xs (Some c) is has =
    let test = is_client_at place in
    let kept : List Client = filter (λ k. not (is_client_at from k)) xs in
    let d : Client = record c { heard = now } in
    split (is_some (find test kept)) (is_some (find test (d ∷ []))) (of_kept test (λ k. not (is_client_at from k)) xs)
    (λ e. found_finds (is_client_at from) test xs c is (last_is test d (test d) e)) (or_last test kept d has)

hearing_has : (b : Bool) (heard : Disposition) (from place : SocketAddrV4) (now : ℕ) (l : ServerView) → is_of_client heard ≡ b → is_some (client_at place (server_hearing heard from now l).clients) ≡ true → is_some (client_at place l.clients) ≡ true
hearing_has true heard from place now l is has =
    moved_has now from place l.clients (client_at from l.clients) refl (sym (ap (λ (known : List Client). is_some (client_at place known)) (hearing_clients heard from now l is)) ∙ has)
hearing_has false heard from place now l is has =
    sym (ap (λ (known : List Client). is_some (client_at place known)) (others_clients heard from now l is)) ∙ has

both : (a b : Bool) → a ≡ true → b ≡ true → (a && b) ≡ true
both true b e f = f
both false b e f = cc

right : (a b : Bool) → b ≡ true → (a || b) ≡ true
right true b e = refl
right false b e = e

left : (a b : Bool) → a ≡ true → (a || b) ≡ true
left true b e = refl
left false b e = cc

met_by : (b : Bool) (l : ServerView) (from place : SocketAddrV4) (p : PacketView) (size now : ℕ) → makes_client l from p.header size now ≡ b → is_some (client_at place (if b then server_admitting from now l else l).clients) ≡ true
    → (is_some (client_at place l.clients) || shows_node l.port place (Datagram from p size now)) ≡ true
met_by false l from place p size now makes has = left (is_some (client_at place l.clients)) (shows_node l.port place (Datagram from p size now)) has
met_by true l from place p size now makes has =
    let test = is_client_at place in
    let goes : Option Client = client_that_goes from l.clients in
    let kept : List Client = clients_but goes l.clients in
    let n = length kept + 1 - l.max_clients in
    let d : Client = new_client (node_of_place l.port from) from now in
    let shown = shows_node l.port place (Datagram from p size now) in
    split (is_some (find test (drop n kept))) (is_some (find test (d ∷ [])))
    (λ e. left (is_some (client_at place l.clients)) shown (of_but test goes l.clients (of_rest test n kept e)))
    (λ e.
    let at : are_one_place from place ≡ true = last_is test d (test d) e in
    let same : from ≡ place = one_place from place at in
    let node : bytes_eq p.header.from.node.0 (node_of_place l.port from).0 ≡ true = shows_it l from p.header size now makes in
    right (is_some (client_at place l.clients)) shown
    (both (are_one_place from place) (bytes_eq p.header.from.node.0 (node_of_place l.port place).0) at
    (subst (λ (q : SocketAddrV4). bytes_eq p.header.from.node.0 (node_of_place l.port q).0 ≡ true) same node)))
    (or_last test (drop n kept) d has)

again_clients : (b : Bool) (from : SocketAddrV4) (now : ℕ) (l : ServerView) → (if b then l else record l { noted = places_noted_again from now l.noted }).clients ≡ l.clients
again_clients true from now l = refl
again_clients false from now l = refl

again_port : (b : Bool) (from : SocketAddrV4) (now : ℕ) (l : ServerView) → (if b then l else record l { noted = places_noted_again from now l.noted }).port ≡ l.port
again_port true from now l = refl
again_port false from now l = refl

aged_has : (now : ℕ) (place : SocketAddrV4) (l : ServerView) → is_some (client_at place (server_aged now l).clients) ≡ true → is_some (client_at place l.clients) ≡ true
aged_has now place l has = of_kept (is_client_at place) (was_heard_within forgotten_after now) l.clients has

pub met_has : (l : ServerView) (from : SocketAddrV4) (p : PacketView) (size now : ℕ) (place : SocketAddrV4) → is_some (client_at place (server_met from p.header size now (server_aged now l)).clients) ≡ true
    → (is_some (client_at place l.clients) || shows_node l.port place (Datagram from p size now)) ≡ true
met_has l from p size now place there =
    let aged : ServerView = server_aged now l in
    let shown = shows_node l.port place (Datagram from p size now) in
    split (is_some (client_at place aged.clients)) shown (λ e. left (is_some (client_at place l.clients)) shown (aged_has now place l e))
    (right (is_some (client_at place l.clients)) shown) (met_by (makes_client aged from p.header size now) aged from place p size now refl there)

pub after_has : (l : ServerView) (call : ServerCall) (place : SocketAddrV4) → is_some (client_at place (server_after l call).clients) ≡ true → (is_some (client_at place l.clients) || shows_node l.port place call) ≡ true
after_has l (Datagram from p size now) place has =
    let aged : ServerView = server_aged now l in
    let met : ServerView = server_met from p.header size now aged in
    let heard : Disposition = server_hears met from p size now in
    let unlimited : ServerView = server_unlimited l from p size now in
    let same : unlimited.clients ≡ (server_after l (Datagram from p size now)).clients =
    sym (limiting_keeps (λ (v : ServerView). v.clients) (λ k f c d n. refl) unlimited (unlimited_hears l from p size now) from now) in
    let there : is_some (client_at place met.clients) ≡ true =
    hearing_has (is_of_client heard) heard from place now met refl (ap (λ (known : List Client). is_some (client_at place known)) same ∙ has) in
    met_has l from p size now place there
after_has l (NoPacket fault now) place has = left (is_some (client_at place l.clients)) false (aged_has now place l has)
after_has l (OfCore node header size now) place has =
    left (is_some (client_at place l.clients)) false
    (aged_has now place l (sym (ap (λ (known : List Client). is_some (client_at place known)) (giving_keeps (λ (v : ServerView). v.clients) (λ k f c d n. refl) (packet_gives l node header size now) now (server_aged now l))) ∙ has))
after_has l (Turn now) place has = left (is_some (client_at place l.clients)) false (aged_has now place l has)
after_has l (Again from now) place has =
    left (is_some (client_at place l.clients)) false
    (sym (ap (λ (known : List Client). is_some (client_at place known)) (again_clients (is_some (client_at from l.clients) || is_joined_place from l.routers) from now l)) ∙ has)

met_port : (b : Bool) (from : SocketAddrV4) (now : ℕ) (l : ServerView) → (if b then server_admitting from now l else l).port ≡ l.port
met_port true from now l = refl
met_port false from now l = refl

pub after_port : (l : ServerView) (call : ServerCall) → (server_after l call).port ≡ l.port
after_port l (Datagram from p size now) =
    let aged : ServerView = server_aged now l in
    let met : ServerView = server_met from p.header size now aged in
    limiting_keeps (λ (v : ServerView). v.port) (λ k f c d n. refl) (server_unlimited l from p size now) (unlimited_hears l from p size now) from now
    ∙ ap (λ r. r.0) (hearing_rest (server_hears met from p size now) from now met) ∙ met_port (makes_client aged from p.header size now) from now aged
after_port l (NoPacket fault now) = refl
after_port l (OfCore node header size now) =
    giving_keeps (λ (v : ServerView). v.port) (λ k f c d n. refl) (packet_gives l node header size now) now (server_aged now l)
after_port l (Turn now) = refl
after_port l (Again from now) = again_port (is_some (client_at from l.clients) || is_joined_place from l.routers) from now l

-- ---- any calls

or_more : (a b c : Bool) → (a || b) ≡ true → (a || (b || c)) ≡ true
or_more true b c e = refl
or_more false true c e = refl
or_more false false c e = cc

run_has : (l : ServerView) (calls : List ServerCall) (place : SocketAddrV4) → is_some (client_at place (server_run l calls).clients) ≡ true → (is_some (client_at place l.clients) || list_any (shows_node l.port place) calls) ≡ true
run_has l [] place has = left (is_some (client_at place l.clients)) false has
run_has l (call ∷ calls) place has =
    let next : ServerView = server_after l call in
    let first : Bool = is_some (client_at place l.clients) in
    let here : Bool = shows_node l.port place call in
    let later : Bool = list_any (shows_node l.port place) calls in
    split (is_some (client_at place next.clients)) later
    (λ e. or_more first here later (after_has l call place e))
    (λ e. right first (here || later) (right here later e))
    (subst (λ (port : ServerPort). (is_some (client_at place next.clients) || list_any (shows_node port place) calls) ≡ true) (after_port l call) (run_has next calls place has))

pub showed : ClientsShowedTheirNodes
showed port most routers calls place has =
    run_has _ calls place has
