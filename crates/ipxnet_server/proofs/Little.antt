-- Who shows nothing gets little.
use Rattle.std.proofs.Common.{◌≡◌, ◌≤◌, ◌∙◌, ℕ, zero, suc, ◌+◌, ◌-◌, ◌*◌, Bool, true, false, not, cond, List, [], ◌∷◌, ◌++◌, Option, Some, None, drop, filter, find, length, arith, refl, sym, ap, subst, ltb-true}
use Rattle.std.specs.Prelude.{◌&&◌, ◌||◌, Result, Ok, Err, count_by, is_some, nat_lt, if◌then◌else◌}
use Rattle.std.specs.List.{list_any}
use Rattle.std.proofs.lemmas.Bool.{both_ways, or_parts}
use Rattle.std.proofs.lemmas.List.Sums.{sum_by-cons}
use Rattle.std.specs.declared.net.socket_addr.SocketAddrV4.{SocketAddrV4}
use Rattle.ipx_wire.specs.Ipx.{PacketView}
use Rattle.ipx_wire.specs.declared.address.Node.{Node}
use Rattle.ipxnet_server.specs.declared.clients.Client.{Client}
use Rattle.ipxnet_server.specs.declared.disposition.Disposition.{Disposition}
use Rattle.ipxnet_server.specs.declared.disposition.Disposition.TheVariants.{Registered, Pinged, ToClient, ToOthers, ToOthersAndCore, ToCore, PingAnswered, ToJoined, FromJoined, Dropped}
use Rattle.ipxnet_server.specs.declared.drops.ServerDrop.{ServerDrop}
use Rattle.ipxnet_server.specs.declared.noted.Noted.{Noted}
use Rattle.ipxnet_server.specs.declared.port.ServerPort.{ServerPort}
use Rattle.ipxnet_server.specs.declared.recipients.Recipients.{Recipients}
use Rattle.ipxnet_server.specs.declared.ask_times.NoteCause.TheVariants.{Registration, Restart}
use Rattle.ipxnet_server.specs.AskTimes.{first_ask_of, second_ask_of}
use Rattle.ipxnet_server.specs.NotedPlaces.{has_note_room, is_noted, is_noted_at, is_to_be_asked, max_noted, note_that_goes, noted_again, noted_but, noted_with, places_noted, places_noted_again}
use Rattle.ipxnet_server.specs.PeerServers.{is_joined_place}
use Rattle.ipxnet_server.specs.Pings.{asks_by, is_asked, is_pinged}
use Rattle.ipxnet_server.specs.ServerClients.{are_one_place, client_at, is_client_at}
use Rattle.ipxnet_server.specs.ServerFloods.{limited_hears, packet_gives, packet_hears, server_heard, server_unlimited, unlimited_hears}
use Rattle.ipxnet_server.specs.ServerHears.{ServerView, attempts_noted, answer_of, is_joined_taker, is_registration, is_taker, joined_server, makes_client, registration_hears, joined_hears, server_admitting, server_aged, server_hearing, server_hears, server_hears_from, server_learned, server_met, server_pinging, stranger_drop, stranger_hears, takers_of}
use Rattle.ipxnet_server.specs.ServerRuns.{Again, Datagram, NoPacket, OfCore, ServerCall, Turn, server_after, shows_node, time_of}
use Rattle.ipxnet_server.specs.Unshown.{WhoShowsNothingGetsLittle, all_sent_to, given_to_place, is_again_at, one_if, reaches_place, registers_from, registrations_from, sent_to, times_again}
use Rattle.ipxnet_server.proofs.Asked.{InLine, from_start, heard_pinged, again_pinged, given_pinged}
use Rattle.ipxnet_server.proofs.Limits.{giving_keeps, limiting_keeps}
use Rattle.ipxnet_server.proofs.PingTimes.{asked_later, two_at_most}
use Rattle.ipxnet_server.proofs.Showed.{after_has, after_port, met_has}
use Rattle.ipxnet_server.proofs.Still.{hearing_rest, one_place}

-- ---- pings that notes at an address are due, after a turn at this time

due_of : Bool → ℕ → ℕ
due_of at asked = if at then 2 - asked else 0

due : SocketAddrV4 → ℕ → List Noted → ℕ
due place t [] = 0
due place t (n ∷ ns) = due_of (is_noted_at place n) (asks_by t n) + due place t ns

kept_due : (b : Bool) (place : SocketAddrV4) (t m : ℕ) (n : Noted) (ns : List Noted) → due place t ns ≤ m → due place t (cond b (n ∷ ns) ns) ≤ due_of (is_noted_at place n) (asks_by t n) + m
unfolding due
kept_due true place t m n ns le = omega (arith, le)
kept_due false place t m n ns le = omega (arith, le)

due_filter : (keep : Noted → Bool) (place : SocketAddrV4) (t : ℕ) (ns : List Noted) → due place t (filter keep ns) ≤ due place t ns
unfolding due
due_filter keep place t [] = omega arith
due_filter keep place t (n ∷ ns) = kept_due (keep n) place t (due place t ns) n (filter keep ns) (due_filter keep place t ns)

due_drop : (k : ℕ) (place : SocketAddrV4) (t : ℕ) (ns : List Noted) → due place t (drop k ns) ≤ due place t ns
unfolding due
due_drop zero place t ns = omega arith
due_drop (suc k) place t [] = omega arith
due_drop (suc k) place t (n ∷ ns) = omega (arith, due_drop k place t ns)

due_push : (place : SocketAddrV4) (t : ℕ) (n : Noted) (ns : List Noted) → due place t (ns ++ n ∷ []) ≡ due place t ns + due_of (is_noted_at place n) (asks_by t n)
unfolding due
due_push place t n [] = omega arith
due_push place t n (m ∷ ns) = omega (arith, due_push place t n ns)

two_due : (b : Bool) (asked : ℕ) → due_of b asked ≤ (if b then 2 else 0)
unfolding due_of
two_due true asked = omega arith
two_due false asked = omega arith

one_due : (b : Bool) (asked : ℕ) → due_of b asked ≤ 2 * (if b then 1 else 0)
unfolding due_of
one_due true asked = omega arith
one_due false asked = omega arith

due_but : (o : Option Noted) (place : SocketAddrV4) (t : ℕ) (ns : List Noted) → due place t (noted_but o ns) ≤ due place t ns
due_but None place t ns = omega arith
due_but (Some n) place t ns = due_filter (λ k. not (is_noted_at n.place k)) place t ns

-- an address that is noted is due two pings at most, and no other is due more
due_with : (from place : SocketAddrV4) (now t : ℕ) (ns : List Noted) → due place t (noted_with from now ns) ≤ due place t ns + (if are_one_place from place then 2 else 0)
due_with from place now t ns =
    let kept : List Noted = noted_but (note_that_goes from ns) ns in
    let k = length kept + 1 - max_noted in
    let new : Noted = record { place = from; since = now; cause = Registration } in
    omega (arith, due_push place t new (drop k kept), due_drop k place t kept, due_but (note_that_goes from ns) place t ns, two_due (are_one_place from place) (asks_by t new))

due_placed : (b : Bool) (from place : SocketAddrV4) (now t : ℕ) (ns : List Noted) → due place t (if b then ns else noted_with from now ns) ≤ due place t ns + (if are_one_place from place then 2 else 0)
due_placed true from place now t ns = omega arith
due_placed false from place now t ns = due_with from place now t ns

due_noting : (b : Bool) (from place : SocketAddrV4) (now t : ℕ) (l : ServerView) → due place t (if b then l else record l { noted = places_noted from now l.noted; attempts = attempts_noted from now l }).noted ≤ due place t l.noted + (if are_one_place from place then 2 else 0)
due_noting true from place now t l = omega arith
due_noting false from place now t l = due_placed (is_noted from l.noted) from place now t l.noted

due_last : (b room : Bool) (from place : SocketAddrV4) (now t : ℕ) (ns : List Noted) → due place t (if not b && room then noted_again from now ns else ns) ≤ due place t ns + 2 * (if are_one_place from place then 1 else 0)
due_last true room from place now t ns = omega arith
due_last false false from place now t ns = omega arith
due_last false true from place now t ns =
    let new : Noted = record { place = from; since = now; cause = Restart (length ns) } in
    omega (arith, due_push place t new ns, one_due (are_one_place from place) (asks_by t new))

due_again : (b : Bool) (from place : SocketAddrV4) (now t : ℕ) (l : ServerView) → due place t (if b then l else record l { noted = places_noted_again from now l.noted }).noted ≤ due place t l.noted + 2 * (if are_one_place from place then 1 else 0)
due_again true from place now t l = omega arith
due_again false from place now t l = due_last (is_noted from l.noted) (has_note_room from l.noted) from place now t l.noted

due_told : (told : Option Node) (from place : SocketAddrV4) (now t : ℕ) (l : ServerView) → due place t (server_learned told from now l).noted ≤ due place t l.noted + (if are_one_place from place then 2 else 0)
due_told None from place now t l = omega arith
due_told (Some node) from place now t l = omega arith

due_hearing : (heard : Disposition) (from place : SocketAddrV4) (now t : ℕ) (l : ServerView) → due place t (server_hearing heard from now l).noted ≤ due place t l.noted + (if are_one_place from place then 2 else 0)
due_hearing (Registered answer) from place now t l = due_noting (is_some (client_at from l.clients)) from place now t l
due_hearing (Pinged giver answer) from place now t l = omega arith
due_hearing (ToClient one) from place now t l = omega arith
due_hearing (ToOthers giver) from place now t l = omega arith
due_hearing (ToOthersAndCore giver) from place now t l = omega arith
due_hearing ToCore from place now t l = omega arith
due_hearing PingAnswered from place now t l = omega arith
due_hearing (ToJoined takers) from place now t l = omega arith
due_hearing (FromJoined told takers) from place now t l = due_told told from place now t l
due_hearing (Dropped d) from place now t l = omega arith

due_met : (b : Bool) (from place : SocketAddrV4) (now t : ℕ) (l : ServerView) → due place t (if b then server_admitting from now l else l).noted ≤ due place t l.noted
due_met true from place now t l = due_filter (λ n. not (is_noted_at from n)) place t l.noted
due_met false from place now t l = omega arith

abbrev noted_of : ServerView → List Noted
noted_of l = l.noted

-- ---- a turn

asked_of : (at : Bool) (a b : ℕ) (more : Bool) → nat_lt a b ≡ more → a ≤ b → b ≤ 2 → cond (at && more) 1 0 + due_of at b ≤ due_of at a
unfolding due_of
asked_of true a b true is le two = omega (arith, le, two, ltb-true a b is)
asked_of true a b false is le two = omega (arith, le, two)
asked_of false a b more is le two = omega arith

turn_due : (place : SocketAddrV4) (before now : ℕ) (ns : List Noted) → before ≤ now
    → count_by (λ n. is_noted_at place n && is_asked (record { before = before; now = now }) n) ns + due place now ns ≤ due place before ns
unfolding due
turn_due place before now [] le = omega arith
turn_due place before now (n ∷ ns) le =
    let more : asks_by before n ≤ asks_by now n = asked_later (first_ask_of n.cause) (second_ask_of n.cause) (before - n.since) (now - n.since) (omega (arith, le)) in
    let one = asked_of (is_noted_at place n) (asks_by before n) (asks_by now n) (nat_lt (asks_by before n) (asks_by now n)) refl more (two_at_most (first_ask_of n.cause) (second_ask_of n.cause) (now - n.since)) in
    let f : Noted → ℕ = λ k. cond (is_noted_at place k && is_asked (record { before = before; now = now }) k) 1 0 in
    omega (arith, one, turn_due place before now ns le, sum_by-cons f n ns)

none_by : (test q : Client → Bool) (x : Client) (b : Bool) (xs : List Client) → test x ≡ b → is_some (cond b (Some x) (find test xs)) ≡ false → (is_some (find test xs) ≡ false → count_by (λ c. test c && q c) xs ≡ 0)
    → cond (b && q x) 1 0 + count_by (λ c. test c && q c) xs ≡ 0
none_by test q x true xs is none rest = cc
none_by test q x false xs is none rest = omega (arith, rest none)

none_pinged : (test q : Client → Bool) (xs : List Client) → is_some (find test xs) ≡ false → count_by (λ c. test c && q c) xs ≡ 0
none_pinged test q [] none = refl
none_pinged test q (x ∷ xs) none =
    let f : Client → ℕ = λ c. cond (test c && q c) 1 0 in
    sum_by-cons f x xs ∙ none_by test q x (test x) xs refl none (none_pinged test q xs)

-- ---- who is no client gets nothing that is sent on, and an answer only to a registration

not_reached : (l : ServerView) (takers : Recipients) (place : SocketAddrV4) → is_some (client_at place l.clients) ≡ false → is_joined_place place l.routers ≡ false → reaches_place l takers place ≡ false
not_reached l takers place none apart =
    ap (λ (b : Bool). b && is_taker takers place || is_joined_place place l.routers && is_joined_taker takers place) none
    ∙ ap (λ (b : Bool). b && is_joined_taker takers place) apart

not_given : (l : ServerView) (given : Result Recipients ServerDrop) (place : SocketAddrV4) → is_some (client_at place l.clients) ≡ false → is_joined_place place l.routers ≡ false → given_to_place l given place ≡ false
not_given l (Ok takers) place none apart = not_reached l takers place none apart
not_given l (Err d) place none apart = refl

no_some : {A : Type 0} (o : Option A) → is_some o ≡ false → o ≡ None
no_some None e = refl
no_some (Some x) e = cc

dropped_stranger : (o : Option ServerDrop) → (d : ServerDrop) × (stranger_hears o ≡ Dropped d)
dropped_stranger None = (_, refl)
dropped_stranger (Some d) = (d, refl)

third : (a b : Bool) (x y z : Disposition) → a ≡ false → b ≡ false → (if a then x else if b then y else z) ≡ z
third true b x y z e f = cc
third false true x y z e f = cc
third false false x y z e f = refl

from_stranger : (l : ServerView) (from : SocketAddrV4) (p : PacketView) (size now : ℕ) → is_joined_place from l.routers ≡ false → is_some (client_at from l.clients) ≡ false → is_registration p.header size ≡ false
    → (d : ServerDrop) × (server_hears l from p size now ≡ Dropped d)
from_stranger l from p size now apart none other =
    let is = third (is_joined_place from l.routers) (is_registration p.header size) (joined_hears l from p.header size) (registration_hears l from now (client_at from l.clients)) (server_hears_from l from p size now (client_at from l.clients)) apart other in
    let out = dropped_stranger (stranger_drop l from p.header now) in
    (out.0, is ∙ ap (server_hears_from l from p size now) (no_some (client_at from l.clients) none) ∙ out.1)

-- ---- each call

-- nobody is a client at the address, no router is joined there, and the last turn was no later than this
abbrev IsStranger : SocketAddrV4 → ℕ → ServerView → Type 0
IsStranger place t l = (is_some (client_at place l.clients) ≡ false) × (is_joined_place place l.routers ≡ false) × (l.pinged ≤ t)

unshown : (a b c : Bool) → (c ≡ true → (a || b) ≡ true) → a ≡ false → b ≡ false → c ≡ false
unshown a b false more e f = refl
unshown a b true more e f = absurd (both_ways (a || b) (ap (λ (x : Bool). x || b) e ∙ f) (more refl))

still_none : (place : SocketAddrV4) (l : ServerView) (call : ServerCall) → is_some (client_at place l.clients) ≡ false → shows_node l.port place call ≡ false → is_some (client_at place (server_after l call).clients) ≡ false
still_none place l call none hidden =
    unshown (is_some (client_at place l.clients)) (shows_node l.port place call) (is_some (client_at place (server_after l call).clients)) (after_has l call place) none hidden

met_routers : (b : Bool) (from : SocketAddrV4) (now : ℕ) (l : ServerView) → (if b then server_admitting from now l else l).routers ≡ l.routers
met_routers true from now l = refl
met_routers false from now l = refl

again_routers : (b : Bool) (from : SocketAddrV4) (now : ℕ) (l : ServerView) → (if b then l else record l { noted = places_noted_again from now l.noted }).routers ≡ l.routers
again_routers true from now l = refl
again_routers false from now l = refl

pub after_routers : (l : ServerView) (call : ServerCall) → (server_after l call).routers ≡ l.routers
after_routers l (Datagram from p size now) =
    let aged : ServerView = server_aged now l in
    let met : ServerView = server_met from p.header size now aged in
    limiting_keeps (λ (v : ServerView). v.routers) (λ k f c d n. refl) (server_unlimited l from p size now) (unlimited_hears l from p size now) from now
    ∙ ap (λ r. r.2) (hearing_rest (server_hears met from p size now) from now met) ∙ met_routers (makes_client aged from p.header size now) from now aged
after_routers l (NoPacket fault now) = refl
after_routers l (OfCore node header size now) =
    giving_keeps (λ (v : ServerView). v.routers) (λ k f c d n. refl) (packet_gives l node header size now) now (server_aged now l)
after_routers l (Turn now) = refl
after_routers l (Again from now) = again_routers (is_some (client_at from l.clients) || is_joined_place from l.routers) from now l

after_pinged : (l : ServerView) (call : ServerCall) (t : ℕ) → l.pinged ≤ t → t ≤ time_of call → (server_after l call).pinged ≤ time_of call
after_pinged l (Datagram from p size now) t early le = omega (arith, early, le, heard_pinged l from p size now)
after_pinged l (NoPacket fault now) t early le = omega (arith, early, le)
after_pinged l (OfCore node header size now) t early le =
    omega (arith, early, le, given_pinged (packet_gives l node header size now) now (server_aged now l))
after_pinged l (Turn now) t early le = omega arith
after_pinged l (Again from now) t early le =
    omega (arith, early, le, again_pinged (is_some (client_at from l.clients) || is_joined_place from l.routers) from now l)

next_stranger : (place : SocketAddrV4) (t : ℕ) (l : ServerView) (call : ServerCall) → IsStranger place t l → t ≤ time_of call → shows_node l.port place call ≡ false → IsStranger place (time_of call) (server_after l call)
next_stranger place t l call (none, apart, early) le hidden = (
  still_none place l call none hidden,
  ap (is_joined_place place) (after_routers l call) ∙ apart,
  after_pinged l call t early le,
)

-- how many a datagram makes: none but an answer, and that only to a registration from there
answered : (at some : Bool) → one_if (at && some) ≤ one_if at
answered true true = omega arith
answered true false = omega arith
answered false some = omega arith

unlimited_due : (place : SocketAddrV4) (l : ServerView) (from : SocketAddrV4) (p : PacketView) (size now t : ℕ) → due place t (server_unlimited l from p size now).noted ≤ due place t l.noted + (if are_one_place from place then 2 else 0)
unlimited_due place l from p size now t =
    let aged : ServerView = server_aged now l in
    let met : ServerView = server_met from p.header size now aged in
    omega (arith, due_hearing (server_hears met from p size now) from place now t met, due_met (makes_client aged from p.header size now) from place now t aged, due_filter (is_to_be_asked l.pinged) place t l.noted)

same_noted : (l : ServerView) (from : SocketAddrV4) (p : PacketView) (size now : ℕ) → (server_heard l from p size now).noted ≡ (server_unlimited l from p size now).noted
same_noted l from p size now =
    limiting_keeps (λ (v : ServerView). v.noted) (λ k f c d n. refl) (server_unlimited l from p size now) (unlimited_hears l from p size now) from now

-- what it is, by whether it is from there, and whether it is a registration
Bound : SocketAddrV4 → ServerView → SocketAddrV4 → PacketView → ℕ → ℕ → Bool → Bool → Type 0
Bound place l from p size now at registers =
    one_if (at && is_some (answer_of (packet_hears l from p size now))) + due place l.pinged (server_unlimited l from p size now).noted
    ≤ due place l.pinged l.noted + 3 * one_if (at && registers)

-- the packet finds no client there either
met_none : (place : SocketAddrV4) (l : ServerView) (from : SocketAddrV4) (p : PacketView) (size now : ℕ) → is_some (client_at place l.clients) ≡ false → shows_node l.port place (Datagram from p size now) ≡ false
    → is_some (client_at place (server_met from p.header size now (server_aged now l)).clients) ≡ false
met_none place l from p size now none hidden =
    let aged : ServerView = server_aged now l in
    let met : ServerView = server_met from p.header size now aged in
    unshown (is_some (client_at place l.clients)) (shows_node l.port place (Datagram from p size now)) (is_some (client_at place met.clients)) (met_has l from p size now place) none hidden

bounded : (place : SocketAddrV4) (l : ServerView) (from : SocketAddrV4) (p : PacketView) (size now reached after : ℕ) → reached ≡ 0 → after ≡ due place l.pinged (server_unlimited l from p size now).noted
    → Bound place l from p size now (are_one_place from place) (is_registration p.header size)
    → (one_if (are_one_place from place && is_some (answer_of (packet_hears l from p size now))) + reached) + after ≤ due place l.pinged l.noted + 3 * one_if (are_one_place from place && is_registration p.header size)
unfolding Bound
bounded place l from p size now reached after none same most = omega (arith, none, same, most)

bound : (at registers : Bool) (place : SocketAddrV4) (l : ServerView) (from : SocketAddrV4) (p : PacketView) (size now : ℕ) → are_one_place from place ≡ at → is_registration p.header size ≡ registers
    → is_some (client_at place l.clients) ≡ false → is_joined_place place l.routers ≡ false → shows_node l.port place (Datagram from p size now) ≡ false → Bound place l from p size now at registers
unfolding Bound
bound false registers place l from p size now at is none apart hidden =
    let more = unlimited_due place l from p size now l.pinged in
    let here : due place l.pinged (server_unlimited l from p size now).noted ≤ due place l.pinged l.noted + (if false then 2 else 0) = subst (λ (b : Bool). due place l.pinged (server_unlimited l from p size now).noted ≤ due place l.pinged l.noted + (if b then 2 else 0)) at more in
    omega (arith, here)
bound true true place l from p size now at is none apart hidden =
    let more = unlimited_due place l from p size now l.pinged in
    let here : due place l.pinged (server_unlimited l from p size now).noted ≤ due place l.pinged l.noted + (if true then 2 else 0) = subst (λ (b : Bool). due place l.pinged (server_unlimited l from p size now).noted ≤ due place l.pinged l.noted + (if b then 2 else 0)) at more in
    omega (arith, here, answered true (is_some (answer_of (packet_hears l from p size now))))
bound true false place l from p size now at is none apart hidden =
    let aged : ServerView = server_aged now l in
    let met : ServerView = server_met from p.header size now aged in
    let heard : Disposition = server_hears met from p size now in
    let same : place ≡ from = sym (one_place from place at) in
    let there : is_some (client_at place met.clients) ≡ false = met_none place l from p size now none hidden in
    let routers : is_joined_place place met.routers ≡ false = ap (is_joined_place place) (met_routers (makes_client aged from p.header size now) from now aged) ∙ apart in
    let out = from_stranger met from p size now (subst (λ (q : SocketAddrV4). is_joined_place q met.routers ≡ false) same routers) (subst (λ (q : SocketAddrV4). is_some (client_at q met.clients) ≡ false) same there) is in
    let none_answered : is_some (answer_of (packet_hears l from p size now)) ≡ false = ap (λ (h : Disposition). is_some (answer_of (limited_hears (server_unlimited l from p size now) h from now))) out.1 in
    let noted : (server_unlimited l from p size now).noted ≡ met.noted = ap (λ (h : Disposition). (server_hearing h from now met).noted) out.1 in
    let less : due place l.pinged met.noted ≤ due place l.pinged l.noted = omega (arith, due_met (makes_client aged from p.header size now) from place now l.pinged aged, due_filter (is_to_be_asked l.pinged) place l.pinged l.noted) in
    omega (arith, less, ap (due place l.pinged) noted, ap one_if none_answered)

plus_none : (a b : ℕ) → a ≤ b → a ≤ b + 2 * 0
plus_none a b le = omega (arith, le)

step : (place : SocketAddrV4) (t : ℕ) (l : ServerView) (call : ServerCall) → IsStranger place t l → t ≤ time_of call → shows_node l.port place call ≡ false
    → sent_to place l call + due place (server_after l call).pinged (server_after l call).noted ≤ due place l.pinged l.noted + 3 * one_if (registers_from place call) + 2 * one_if (is_again_at place call)
step place t l (Datagram from p size now) (none, apart, early) le hidden =
    let call : ServerCall = Datagram from p size now in
    let after : ServerView = server_after l call in
    let reached = not_reached after (takers_of (packet_hears l from p size now)) place (still_none place l call none hidden) (ap (is_joined_place place) (after_routers l call) ∙ apart) in
    let most : Bound place l from p size now (are_one_place from place) (is_registration p.header size) = bound (are_one_place from place) (is_registration p.header size) place l from p size now refl refl none apart hidden in
    let kept : due place after.pinged after.noted ≡ due place l.pinged (server_unlimited l from p size now).noted =
    ap (λ (k : ℕ). due place k after.noted) (heard_pinged l from p size now) ∙ ap (due place l.pinged) (same_noted l from p size now) in
    plus_none _ _ (bounded place l from p size now (one_if (reaches_place after (takers_of (packet_hears l from p size now)) place)) (due place after.pinged after.noted) (ap one_if reached) kept most)
step place t l (NoPacket fault now) (none, apart, early) le hidden = omega (arith, due_filter (is_to_be_asked l.pinged) place l.pinged l.noted)
step place t l (OfCore node header size now) (none, apart, early) le hidden =
    let call : ServerCall = OfCore node header size now in
    let after : ServerView = server_after l call in
    let given : Result Recipients ServerDrop = packet_gives l node header size now in
    let reached : given_to_place after given place ≡ false = not_given after given place (still_none place l call none hidden) (ap (is_joined_place place) (after_routers l call) ∙ apart) in
    let noted : after.noted ≡ (server_aged now l).noted = giving_keeps (λ (v : ServerView). v.noted) (λ k f c d n. refl) given now (server_aged now l) in
    let pinged : after.pinged ≡ l.pinged = given_pinged given now (server_aged now l) in
    omega (arith, ap one_if reached, ap (λ (k : ℕ). due place k after.noted) pinged, ap (due place l.pinged) noted, due_filter (is_to_be_asked l.pinged) place l.pinged l.noted)
step place t l (Turn now) (none, apart, early) le hidden =
    let left : ServerView = server_pinging now l in
    let clients = none_pinged (is_client_at place) (is_pinged (record { before = l.pinged; now = now })) left.clients (still_none place l (Turn now) none hidden) in
    omega (arith, clients, turn_due place l.pinged now left.noted (omega (arith, early, le)), due_filter (is_to_be_asked l.pinged) place l.pinged l.noted)
step place t l (Again from now) (none, apart, early) le hidden =
    let b = is_some (client_at from l.clients) || is_joined_place from l.routers in
    let after : ServerView = server_after l (Again from now) in
    omega (arith, ap (λ (k : ℕ). due place k after.noted) (again_pinged b from now l), due_again b from place now l.pinged l)

-- ---- any calls

all_little : (place : SocketAddrV4) (port : ServerPort) (t : ℕ) (l : ServerView) (calls : List ServerCall) → IsStranger place t l → l.port ≡ port → InLine t calls → list_any (shows_node port place) calls ≡ false
    → all_sent_to place l calls ≤ due place l.pinged l.noted + 3 * registrations_from place calls + 2 * times_again place calls
unfolding InLine
all_little place port t l [] is same line hidden = omega arith
all_little place port t l (call ∷ calls) is same line hidden =
    let two = or_parts (shows_node port place call) (list_any (shows_node port place) calls) hidden in
    let first : shows_node l.port place call ≡ false = ap (λ (q : ServerPort). shows_node q place call) same ∙ two.0 in
    let next : ServerView = server_after l call in
    let rest = all_little place port (time_of call) next calls (next_stranger place t l call is line.0 first) (after_port l call ∙ same) line.1 two.1 in
    omega (arith, rest, step place t l call is line.0 first)

pub little : WhoShowsNothingGetsLittle
unfolding due
little port most routers calls place order hidden apart =
    omega (arith, all_little place port 0 (joined_server port most routers) calls (refl, apart, omega arith) refl (from_start calls order) hidden)
