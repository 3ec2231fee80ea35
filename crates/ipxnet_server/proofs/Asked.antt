-- Who stays noted is asked.
use Rattle.std.proofs.Common.{◌≡◌, ◌≤◌, ◌<◌, ◌+◌, ◌-◌, ℕ, zero, suc, List, [], ◌∷◌, ◌++◌, Bool, true, false, Option, Some, None, length, drop, filter, get_or, map, not, cond, arith, refl, sym, ap, subst, ◌∙◌, ltb-true}
use Rattle.std.specs.Prelude.{All, ◌&&◌, ◌||◌, Result, is_some, nat_le, nat_lt, if◌then◌else◌}
use Rattle.std.specs.List.{list_any}
use Rattle.std.proofs.lemmas.Bool.{and_from, and_parts, both_ways, le-leb, leb-false, leb-true, lt-ltb, ltb-false, or_left, or_parts, or_right}
use Rattle.std.proofs.lemmas.List.Elements.{All-cons, All-drop, All-filter, All-head, All-nil, All-push, All-tail, All-weaker, filter_passes}
use Rattle.std.specs.declared.net.socket_addr.SocketAddrV4.{SocketAddrV4}
use Rattle.ipx_wire.specs.Ipx.{PacketView}
use Rattle.ipx_wire.specs.declared.address.Node.{Node}
use Rattle.ipxnet_server.specs.declared.disposition.Disposition.{Disposition}
use Rattle.ipxnet_server.specs.declared.disposition.Disposition.TheVariants.{Registered, Pinged, ToClient, ToOthers, ToOthersAndCore, ToCore, PingAnswered, ToJoined, FromJoined, Dropped}
use Rattle.ipxnet_server.specs.declared.drops.ServerDrop.{ServerDrop}
use Rattle.ipxnet_server.specs.declared.noted.Noted.{Noted}
use Rattle.ipxnet_server.specs.declared.recipients.Recipients.{Recipients}
use Rattle.ipxnet_server.specs.declared.ask_times.NoteCause.{NoteCause}
use Rattle.ipxnet_server.specs.declared.ask_times.NoteCause.TheVariants.{Registration, Restart}
use Rattle.ipxnet_server.specs.AskTimes.{first_ask, first_ask_of, second_ask_of}
use Rattle.ipxnet_server.specs.NotedPlaces.{has_note_room, is_noted, is_noted_at, is_to_be_asked, max_noted, note_that_goes, noted_again, noted_but, noted_left, noted_with, places_noted, places_noted_again}
use Rattle.ipxnet_server.specs.Pings.{AreInOrder, asks_by, asks_in, is_asked}
use Rattle.ipxnet_server.specs.PeerServers.{is_joined_place}
use Rattle.ipxnet_server.specs.Restarts.{server_noting_again}
use Rattle.ipxnet_server.specs.ServerClients.{client_at, node_of_place}
use Rattle.ipxnet_server.specs.ServerFloods.{packet_gives, server_giving, server_limiting, server_unlimited, unlimited_hears}
use Rattle.ipxnet_server.specs.ServerHears.{ServerView, attempts_noted, joined_server, makes_client, server_admitting, server_aged, server_hearing, server_hears, server_learned, server_met}
use Rattle.ipxnet_server.specs.ServerRuns.{Again, Datagram, NoPacket, OfCore, ServerCall, Turn, WhoStaysNotedIsAsked, call_asks, run_asks, server_after, server_run, stays_noted, time_of}
use Rattle.ipxnet_server.proofs.Hears.{makes_new}
use Rattle.ipxnet_server.proofs.Limits.{ReadsNoToken, giving_keeps, limiting_keeps}
use Rattle.ipxnet_server.proofs.Once.{tails}
use Rattle.ipxnet_server.proofs.PingTimes.{asked_later, comes_soon, follows_soon, in_turn, two_at_most}
use Rattle.ipxnet_server.proofs.Still.{hearing_rest, new_found, one_place}

-- ---- how many pings are due

more_due : (one two x y : ℕ) (b d e f : Bool) → one ≤ first_ask → two ≤ one + first_ask → nat_le one x ≡ b → nat_le two x ≡ d → nat_le one y ≡ e → nat_le two y ≡ f → x < two → x + first_ask ≤ y
    → (if b then 1 else 0) + (if d then 1 else 0) < (if e then 1 else 0) + (if f then 1 else 0)
more_due one two x y b true e f soon close is second there last lt le = absurd (omega (arith, lt, leb-true two x second))
more_due one two x y b false false f soon close is second there last lt le = absurd (omega (arith, le, soon, leb-false one y there))
more_due one two x y true false true true soon close is second there last lt le = omega arith
more_due one two x y true false true false soon close is second there last lt le = absurd (omega (arith, le, close, leb-true one x is, leb-false two y last))
more_due one two x y false false true true soon close is second there last lt le = omega arith
more_due one two x y false false true false soon close is second there last lt le = omega arith

-- before the second is due, one more is due 5.5 s later
due_later : (cause : NoteCause) (x y : ℕ) → x < second_ask_of cause → x + first_ask ≤ y → asks_in (first_ask_of cause) (second_ask_of cause) x < asks_in (first_ask_of cause) (second_ask_of cause) y
due_later cause x y lt le =
    let one = first_ask_of cause in
    let two = second_ask_of cause in
    more_due one two x y (nat_le one x) (nat_le two x) (nat_le one y) (nat_le two y) (comes_soon cause) (follows_soon cause) refl refl refl refl lt le

both_due : (a b : Bool) → a ≡ true → b ≡ true → 2 ≤ (if a then 1 else 0) + (if b then 1 else 0)
both_due true true e f = omega arith
both_due true false e f = cc
both_due false b e f = cc

-- while one more will be due, the second is not
not_second : (one two x y : ℕ) (b : Bool) → one ≤ two → nat_le two x ≡ b → asks_in one two x < asks_in one two y → nat_lt x two ≡ true
not_second one two x y true turn is lt =
    let more : 2 ≤ asks_in one two x = both_due (nat_le one x) (nat_le two x) (le-leb one x (omega (arith, turn, leb-true two x is))) is in
    absurd (omega (arith, lt, more, two_at_most one two y))
not_second one two x y false turn is lt = lt-ltb x two (leb-false two x is)

-- after a turn at the first of these times, one more ping of a note at this address is due by the second
abbrev IsDue : SocketAddrV4 → ℕ → ℕ → Noted → Type 0
IsDue place pinged by n = is_noted_at place n ≡ true → asks_by pinged n < asks_by by n

-- ---- tests of notes

passes_more : (p : Noted → Bool) (x : Noted) (b : Bool) (ks : List Noted) → list_any p ks ≡ true → list_any p (cond b (x ∷ ks) ks) ≡ true
passes_more p x true ks e = or_right (p x) (list_any p ks) e
passes_more p x false ks e = e

any_by : (at keep p : Noted → Bool) (x : Noted) (xs : List Noted) (b : Bool) → at x ≡ b → (at x ≡ true → (keep x ≡ true) × (p x ≡ true)) → (list_any at xs ≡ true → list_any p (filter keep xs) ≡ true) → (b || list_any at xs) ≡ true
    → list_any p (cond (keep x) (x ∷ filter keep xs) (filter keep xs)) ≡ true
any_by at keep p x xs true is so rest has =
    ap (λ (b : Bool). list_any p (cond b (x ∷ filter keep xs) (filter keep xs))) (so is).0 ∙ or_left (p x) (list_any p (filter keep xs)) (so is).1
any_by at keep p x xs false is so rest has = passes_more p x (keep x) (filter keep xs) (rest has)

-- those at an address are kept, and pass
any_kept : (at keep p : Noted → Bool) (xs : List Noted) → All (λ n. at n ≡ true → (keep n ≡ true) × (p n ≡ true)) xs → list_any at xs ≡ true → list_any p (filter keep xs) ≡ true
any_kept at keep p [] so has = has
any_kept at keep p (x ∷ xs) so has =
    let Q = λ (n : Noted). at n ≡ true → (keep n ≡ true) × (p n ≡ true) in
    any_by at keep p x xs (at x) refl (All-head Q x xs so) (any_kept at keep p xs (All-tail Q x xs so)) has

none_passes : (p : Noted → Bool) (xs : List Noted) → list_any p xs ≡ false → All (λ n. p n ≡ false) xs
none_passes p [] e = All-nil (λ (n : Noted). p n ≡ false)
none_passes p (x ∷ xs) e =
    let parts = or_parts (p x) (list_any p xs) e in
    All-cons (λ (n : Noted). p n ≡ false) x xs parts.0 (none_passes p xs parts.1)

-- ---- what holds for each note after a call

abbrev noted_in : ServerView → List Noted
noted_in l = l.noted

reads_noted : ReadsNoToken noted_in
reads_noted l flooders copies limited counts = refl

module _ (P : Noted → Type 0) where
  all_but : (o : Option Noted) (xs : List Noted) → All P xs → All P (noted_but o xs)
  all_but None xs all = all
  all_but (Some n) xs all = All-filter (λ k. not (is_noted_at n.place k)) P xs all

  all_with : (place : SocketAddrV4) (now : ℕ) (xs : List Noted) → P (record { place = place; since = now; cause = Registration }) → All P xs → All P (noted_with place now xs)
  all_with place now xs new all =
      let kept : List Noted = noted_but (note_that_goes place xs) xs in
      let n = length kept + 1 - max_noted in
      All-push P (drop n kept) (record { place = place; since = now; cause = Registration }) (All-drop P n kept (all_but (note_that_goes place xs) xs all)) new

  all_placed : (b : Bool) (place : SocketAddrV4) (now : ℕ) (xs : List Noted) → is_noted place xs ≡ b → (is_noted place xs ≡ false → P (record { place = place; since = now; cause = Registration })) → All P xs → All P (if b then xs else noted_with place now xs)
  all_placed true place now xs is new all = all
  all_placed false place now xs is new all = all_with place now xs (new is) all

  -- an address that registers is noted anew only if no client is known there, and it is not noted
  all_noting : (b : Bool) (from : SocketAddrV4) (now : ℕ) (l : ServerView) → is_some (client_at from l.clients) ≡ b → (is_some (client_at from l.clients) ≡ false → is_noted from l.noted ≡ false → P (record { place = from; since = now; cause = Registration })) → All P l.noted
      → All P (if b then l else record l { noted = places_noted from now l.noted; attempts = attempts_noted from now l }).noted
  all_noting true from now l is new all = all
  all_noting false from now l is new all = all_placed (is_noted from l.noted) from now l.noted refl (new is) all

  all_told : (told : Option Node) (from : SocketAddrV4) (now : ℕ) (l : ServerView) → All P l.noted → All P (server_learned told from now l).noted
  all_told None from now l all = all
  all_told (Some node) from now l all = all

  all_hearing : (heard : Disposition) (from : SocketAddrV4) (now : ℕ) (l : ServerView) → (is_some (client_at from l.clients) ≡ false → is_noted from l.noted ≡ false → P (record { place = from; since = now; cause = Registration })) → All P l.noted
      → All P (server_hearing heard from now l).noted
  all_hearing (Registered answer) from now l new all = all_noting (is_some (client_at from l.clients)) from now l refl new all
  all_hearing (Pinged giver answer) from now l new all = all
  all_hearing (ToClient place) from now l new all = all
  all_hearing (ToOthers giver) from now l new all = all
  all_hearing (ToOthersAndCore giver) from now l new all = all
  all_hearing ToCore from now l new all = all
  all_hearing PingAnswered from now l new all = all
  all_hearing (ToJoined takers) from now l new all = all
  all_hearing (FromJoined told takers) from now l new all = all_told told from now l all
  all_hearing (Dropped d) from now l new all = all

  all_met : (b : Bool) (from : SocketAddrV4) (now : ℕ) (l : ServerView) → All P l.noted → All P (if b then server_admitting from now l else l).noted
  all_met true from now l all = All-filter (λ n. not (is_noted_at from n)) P l.noted all
  all_met false from now l all = all

  all_given : (given : Result Recipients ServerDrop) (now : ℕ) (l : ServerView) → All P l.noted → All P (server_giving given now l).noted
  all_given given now l all = subst (λ (noted : List Noted). All P noted) (sym (giving_keeps noted_in reads_noted given now l)) all

  all_limited : (heard : Disposition) (from : SocketAddrV4) (now : ℕ) (l : ServerView) → All P l.noted → All P (server_limiting l heard from now).noted
  all_limited heard from now l all = subst (λ (noted : List Noted). All P noted) (sym (limiting_keeps noted_in reads_noted l heard from now)) all

  all_heard : (l : ServerView) (from : SocketAddrV4) (p : PacketView) (size now : ℕ) → P (record { place = from; since = now; cause = Registration }) → All P (noted_left l.pinged l.noted) → All P (server_after l (Datagram from p size now)).noted
  all_heard l from p size now new all =
      let aged : ServerView = server_aged now l in
      let met : ServerView = server_met from p.header size now aged in
      all_limited (unlimited_hears l from p size now) from now (server_unlimited l from p size now)
      (all_hearing (server_hears met from p size now) from now met (λ none apart. new) (all_met (makes_client aged from p.header size now) from now aged all))

  -- an address is noted again only if it is not noted
  all_last : (b room : Bool) (place : SocketAddrV4) (now : ℕ) (xs : List Noted) → is_noted place xs ≡ b → (is_noted place xs ≡ false → P (record { place = place; since = now; cause = Restart (length xs) })) → All P xs
      → All P (if not b && room then noted_again place now xs else xs)
  all_last true room place now xs is new all = all
  all_last false true place now xs is new all = All-push P xs (record { place = place; since = now; cause = Restart (length xs) }) all (new is)
  all_last false false place now xs is new all = all

  all_again : (b : Bool) (place : SocketAddrV4) (now : ℕ) (l : ServerView) → (is_noted place l.noted ≡ false → P (record { place = place; since = now; cause = Restart (length l.noted) })) → All P l.noted
      → All P (if b then l else record l { noted = places_noted_again place now l.noted }).noted
  all_again true place now l new all = all
  all_again false place now l new all = all_last (is_noted place l.noted) (has_note_room place l.noted) place now l.noted refl new all

  all_after : (l : ServerView) (call : ServerCall) → ((from : SocketAddrV4) (cause : NoteCause) → P (record { place = from; since = time_of call; cause = cause })) → All P l.noted → All P (server_after l call).noted
  all_after l (Datagram from p size now) new all = all_heard l from p size now (new from Registration) (All-filter (is_to_be_asked l.pinged) P l.noted all)
  all_after l (NoPacket fault now) new all = All-filter (is_to_be_asked l.pinged) P l.noted all
  all_after l (OfCore node header size now) new all =
      all_given (packet_gives l node header size now) now (server_aged now l) (All-filter (is_to_be_asked l.pinged) P l.noted all)
  all_after l (Turn now) new all = All-filter (is_to_be_asked l.pinged) P l.noted all
  all_after l (Again place now) new all = all_again (is_some (client_at place l.clients) || is_joined_place place l.routers) place now l (λ apart. new place (Restart (length l.noted))) all

-- ---- when the last turn was

met_pinged : (b : Bool) (from : SocketAddrV4) (now : ℕ) (l : ServerView) → (if b then server_admitting from now l else l).pinged ≡ l.pinged
met_pinged true from now l = refl
met_pinged false from now l = refl

pub heard_pinged : (l : ServerView) (from : SocketAddrV4) (p : PacketView) (size now : ℕ) → (server_after l (Datagram from p size now)).pinged ≡ l.pinged
heard_pinged l from p size now =
    let aged : ServerView = server_aged now l in
    let met : ServerView = server_met from p.header size now aged in
    limiting_keeps (λ (v : ServerView). v.pinged) (λ k f c d n. refl) (server_unlimited l from p size now) (unlimited_hears l from p size now) from now
    ∙ ap (λ r. r.3) (hearing_rest (server_hears met from p size now) from now met) ∙ met_pinged (makes_client aged from p.header size now) from now aged

pub given_pinged : (given : Result Recipients ServerDrop) (now : ℕ) (l : ServerView) → (server_giving given now l).pinged ≡ l.pinged
given_pinged given now l = giving_keeps (λ (v : ServerView). v.pinged) (λ k f c d n. refl) given now l

pub again_pinged : (b : Bool) (place : SocketAddrV4) (now : ℕ) (l : ServerView) → (if b then l else record l { noted = places_noted_again place now l.noted }).pinged ≡ l.pinged
again_pinged true place now l = refl
again_pinged false place now l = refl

-- ---- calls while an address stays noted

-- the notes at an address that is due a ping are kept
still_noted : (place : SocketAddrV4) (pinged by : ℕ) (xs : List Noted) → All (IsDue place pinged by) xs → is_noted place xs ≡ true → is_noted place (noted_left pinged xs) ≡ true
still_noted place pinged by xs due has =
    let at = is_noted_at place in
    let keep = is_to_be_asked pinged in
    any_kept at keep at xs
    (All-weaker (IsDue place pinged by) (λ (n : Noted). at n ≡ true → (keep n ≡ true) × (at n ≡ true)) (λ n so is. (not_second (first_ask_of n.cause) (second_ask_of n.cause) (pinged - n.since) (by - n.since) (nat_le (second_ask_of n.cause) (pinged - n.since)) (in_turn n.cause) refl (so is), is)) xs due)
    has

-- so its note is no new one: it is noted, or its sender became a client
not_anew : (b : Bool) (l : ServerView) (from place : SocketAddrV4) (p : PacketView) (size now pinged by : ℕ) → makes_client l from p.header size now ≡ b → is_noted place l.noted ≡ true
    → is_some (client_at from (if b then server_admitting from now l else l).clients) ≡ false → is_noted from (if b then server_admitting from now l else l).noted ≡ false → IsDue place pinged by (record { place = from; since = now; cause = Registration })
not_anew true l from place p size now pinged by makes has none apart =
    let found = new_found l.max_clients now (node_of_place l.port from) from l.clients (makes_new l from p.header size now makes) in
    absurd (both_ways (is_some (client_at from (server_admitting from now l).clients)) none (ap is_some found))
not_anew false l from place p size now pinged by makes has none apart = λ at.
    let same : from ≡ place = one_place from place at in
    absurd (both_ways (is_noted place l.noted) (subst (λ (q : SocketAddrV4). is_noted q l.noted ≡ false) same apart) has)

-- nor is a note of a restart, whose address was not noted
not_again : (l : ServerView) (from place : SocketAddrV4) (now pinged by : ℕ) → is_noted place l.noted ≡ true → is_noted from l.noted ≡ false
    → IsDue place pinged by (record { place = from; since = now; cause = Restart (length l.noted) })
not_again l from place now pinged by has apart at =
    let same : from ≡ place = one_place from place at in
    absurd (both_ways (is_noted place l.noted) (subst (λ (q : SocketAddrV4). is_noted q l.noted ≡ false) same apart) has)

unasked : (at asked : Bool) → (at && asked) ≡ false → at ≡ true → asked ≡ false
unasked true asked e is = e
unasked false asked e is = cc

due_after : (place : SocketAddrV4) (by : ℕ) (l : ServerView) (call : ServerCall) → All (IsDue place l.pinged by) l.noted → is_noted place l.noted ≡ true → call_asks place l call ≡ false
    → All (IsDue place (server_after l call).pinged by) (server_after l call).noted
due_after place by l (Datagram from p size now) due has none =
    let P = IsDue place l.pinged by in
    let aged : ServerView = server_aged now l in
    let met : ServerView = server_met from p.header size now aged in
    let left : All P aged.noted = All-filter (is_to_be_asked l.pinged) P l.noted due in
    let still : is_noted place aged.noted ≡ true = still_noted place l.pinged by l.noted due has in
    let makes = makes_client aged from p.header size now in
    let unlimited = all_hearing P (server_hears met from p size now) from now met (not_anew makes aged from place p size now l.pinged by refl still) (all_met P makes from now aged left) in
    let all = all_limited P (unlimited_hears l from p size now) from now (server_unlimited l from p size now) unlimited in
    subst (λ (t : ℕ). All (IsDue place t by) (server_after l (Datagram from p size now)).noted) (sym (heard_pinged l from p size now)) all
due_after place by l (NoPacket fault now) due has none = All-filter (is_to_be_asked l.pinged) (IsDue place l.pinged by) l.noted due
due_after place by l (OfCore node header size now) due has none =
    let P = IsDue place l.pinged by in
    let aged : ServerView = server_aged now l in
    let given : Result Recipients ServerDrop = packet_gives l node header size now in
    subst (λ (t : ℕ). All (IsDue place t by) (server_giving given now aged).noted) (sym (given_pinged given now aged))
    (all_given P given now aged (All-filter (is_to_be_asked l.pinged) P l.noted due))
due_after place by l (Turn now) due has none =
    let P = IsDue place l.pinged by in
    let left : List Noted = noted_left l.pinged l.noted in
    let asks = λ (n : Noted). is_noted_at place n && is_asked (record { before = l.pinged; now = now }) n in
    let still : All P left = All-filter (is_to_be_asked l.pinged) P l.noted due in
    let quiet : All (λ n. asks n ≡ false) left = none_passes asks left none in
    λ k d lt at.
    let n = get_or left k d in
    let same : asks_by now n ≤ asks_by l.pinged n = ltb-false (asks_by l.pinged n) (asks_by now n) (unasked (is_noted_at place n) (nat_lt (asks_by l.pinged n) (asks_by now n)) (quiet k d lt) at) in
    omega (arith, same, still k d lt at)
due_after place by l (Again from now) due has none =
    let b = is_some (client_at from l.clients) || is_joined_place from l.routers in
    subst (λ (t : ℕ). All (IsDue place t by) (server_noting_again from now l).noted) (sym (again_pinged b from now l))
    (all_again (IsDue place l.pinged by) b from now l (not_again l from place now l.pinged by has) due)

-- a turn at that time, or later, asks
turn_asks : (place : SocketAddrV4) (by now : ℕ) (l : ServerView) → by ≤ now → All (IsDue place l.pinged by) l.noted → is_noted place l.noted ≡ true → call_asks place l (Turn now) ≡ true
turn_asks place by now l late due has =
    let at = is_noted_at place in
    let keep = is_to_be_asked l.pinged in
    let asked = is_asked (record { before = l.pinged; now = now }) in
    any_kept at keep (λ (n : Noted). at n && asked n) l.noted
    (All-weaker (IsDue place l.pinged by) (λ (n : Noted). at n ≡ true → (keep n ≡ true) × ((at n && asked n) ≡ true)) (λ n so is.
    let more : asks_by by n ≤ asks_by now n = asked_later (first_ask_of n.cause) (second_ask_of n.cause) (by - n.since) (now - n.since) (omega (arith, late)) in (
      not_second (first_ask_of n.cause) (second_ask_of n.cause) (l.pinged - n.since) (by - n.since) (nat_le (second_ask_of n.cause) (l.pinged - n.since)) (in_turn n.cause) refl (so is),
      and_from (at n) (asked n) is (lt-ltb (asks_by l.pinged n) (asks_by now n) (omega (arith, more, so is))),
    )) l.noted due)
    has

or_later : (b rest : Bool) → (b ≡ false → rest ≡ true) → (b || rest) ≡ true
or_later true rest so = refl
or_later false rest so = so refl

asked_by : (place : SocketAddrV4) (by now : ℕ) → by ≤ now → (l : ServerView) (calls : List ServerCall) → All (IsDue place l.pinged by) l.noted → is_noted place l.noted ≡ true → stays_noted place l calls ≡ true
    → run_asks place l (calls ++ Turn now ∷ []) ≡ true
asked_by place by now late l [] due has stays = or_left (call_asks place l (Turn now)) false (turn_asks place by now l late due has)
asked_by place by now late l (call ∷ calls) due has stays =
    let next : ServerView = server_after l call in
    let both = and_parts (is_noted place next.noted) (stays_noted place next calls) stays in
    or_later (call_asks place l call) (run_asks place next (calls ++ Turn now ∷ []))
    (λ none. asked_by place by now late next calls (due_after place by l call due has none) both.0 both.1)

-- ---- calls before

-- nothing is noted later than this time, nor was the last turn
abbrev IsKnown : ℕ → ServerView → Type 0
IsKnown t l = (l.pinged ≤ t) × All (λ n. n.since ≤ t) l.noted

known_later : (t u : ℕ) (l : ServerView) → t ≤ u → IsKnown t l → IsKnown u l
known_later t u l le known = (
  omega (arith, le, known.0),
  All-weaker (λ (n : Noted). n.since ≤ t) (λ (n : Noted). n.since ≤ u) (λ n early. omega (arith, le, early)) l.noted known.1,
)

pinged_after : (t : ℕ) (l : ServerView) (call : ServerCall) → t ≤ time_of call → l.pinged ≤ t → (server_after l call).pinged ≤ time_of call
pinged_after t l (Datagram from p size now) le early = omega (arith, le, early, heard_pinged l from p size now)
pinged_after t l (NoPacket fault now) le early = omega (arith, le, early)
pinged_after t l (OfCore node header size now) le early =
    omega (arith, le, early, given_pinged (packet_gives l node header size now) now (server_aged now l))
pinged_after t l (Turn now) le early = omega arith
pinged_after t l (Again place now) le early =
    omega (arith, le, early, again_pinged (is_some (client_at place l.clients) || is_joined_place place l.routers) place now l)

known_after : (t : ℕ) (l : ServerView) (call : ServerCall) → t ≤ time_of call → IsKnown t l → IsKnown (time_of call) (server_after l call)
known_after t l call le known =
    let P = λ (n : Noted). n.since ≤ time_of call in
    let later = known_later t (time_of call) l le known in
    (pinged_after t l call le known.0, all_after P l call (λ from cause. omega arith) later.1)

unfoldable pub InLine : ℕ → List ServerCall → Type 0
InLine t [] = t ≤ t
InLine t (call ∷ calls) = (t ≤ time_of call) × InLine (time_of call) calls

in_line : (t : ℕ) (calls : List ServerCall) → AreInOrder (t ∷ map time_of calls) → InLine t calls
unfolding InLine
in_line t [] order = omega arith
in_line t (call ∷ calls) order =
    (order zero (suc zero) t (omega arith) (omega arith), in_line (time_of call) calls (tails (λ (a b : ℕ). a ≤ b) t (map time_of (call ∷ calls)) order))

pub from_start : (calls : List ServerCall) → AreInOrder (map time_of calls) → InLine 0 calls
unfolding InLine
from_start [] order = omega arith
from_start (call ∷ calls) order = (omega arith, in_line (time_of call) calls order)

known_run : (t : ℕ) (l : ServerView) (calls : List ServerCall) (call : ServerCall) → IsKnown t l → InLine t (calls ++ call ∷ []) → IsKnown (time_of call) (server_run l calls)
unfolding InLine
known_run t l [] call known line = known_later t (time_of call) l line.0 known
known_run t l (first ∷ calls) call known line =
    known_run (time_of first) (server_after l first) calls call (known_after t l first line.0 known) line.1

run_then : (l : ServerView) (calls : List ServerCall) (call : ServerCall) → server_run l (calls ++ call ∷ []) ≡ server_after (server_run l calls) call
run_then l [] call = refl
run_then l (first ∷ calls) call = run_then (server_after l first) calls call

-- ---- an address that is noted after a datagram

due_first : (place from : SocketAddrV4) (p : PacketView) (size time : ℕ) (l : ServerView) → IsKnown time l
    → All (IsDue place (server_after l (Datagram from p size time)).pinged (time + first_ask)) (server_after l (Datagram from p size time)).noted
due_first place from p size time l known =
    let call : ServerCall = Datagram from p size time in
    let keep = is_to_be_asked l.pinged in
    let left : List Noted = noted_left l.pinged l.noted in
    let P = λ (n : Noted). (n.since ≤ time) × (keep n ≡ true) in
    let early = All-filter keep (λ (n : Noted). n.since ≤ time) l.noted known.1 in
    let kept = filter_passes keep l.noted in
    let both : All P left = λ k d lt. (early k d lt, kept k d lt) in
    let all : All P (server_after l call).noted = all_heard P l from p size time (omega arith, lt-ltb (l.pinged - time) (second_ask_of Registration) (omega (arith, known.0))) both in
    subst (λ (t : ℕ). All (IsDue place t (time + first_ask)) (server_after l call).noted) (sym (heard_pinged l from p size time))
    (All-weaker P (IsDue place l.pinged (time + first_ask)) (λ n so at. due_later n.cause (l.pinged - n.since) (time + first_ask - n.since) (ltb-true (l.pinged - n.since) (second_ask_of n.cause) so.1) (omega (arith, so.0, known.0))) (server_after l call).noted all)

pub asked : WhoStaysNotedIsAsked
asked port most routers earlier later place p size time now order stays late =
    let start : ServerView = joined_server port most routers in
    let l : ServerView = server_run start earlier in
    let call : ServerCall = Datagram place p size time in
    let next : ServerView = server_after l call in
    let none : IsKnown 0 start = (omega arith, All-nil (λ (n : Noted). n.since ≤ 0)) in
    let known : IsKnown time l = known_run 0 start earlier call none (from_start (earlier ++ call ∷ []) order) in
    let both = and_parts (is_noted place next.noted) (stays_noted place next later) stays in
    subst (λ (v : ServerView). run_asks place v (later ++ Turn now ∷ []) ≡ true) (sym (run_then start earlier call))
    (asked_by place (time + first_ask) now late next later (due_first place place p size time l known) both.0 both.1)
