-- How often a client's floods are passed on.
use Rattle.std.proofs.Common.{◌≡◌, ◌≤◌, ◌<◌, ◌∙◌, ℕ, zero, suc, ◌+◌, ◌-◌, ◌*◌, Bool, true, false, not, cond, List, [], ◌∷◌, ◌++◌, Option, Some, None, filter, max, arith, refl, ap, subst}
use Rattle.std.specs.Prelude.{◌&&◌, ◌||◌, Result, Ok, Err, is_some, nat_le, nat_lt, if◌then◌else◌}
use Rattle.std.proofs.Math.Nat.{mul-le-mul_left, mul-sub}
use Rattle.std.proofs.lemmas.Bool.{and_parts, both_ways, leb-true}
use Rattle.std.proofs.lemmas.Bool.Decides.{nat_tests}
use Rattle.std.specs.declared.net.socket_addr.SocketAddrV4.{SocketAddrV4}
use Rattle.ipx_wire.specs.Ipx.{PacketView}
use Rattle.ipx_wire.specs.declared.address.Node.{Node}
use Rattle.token_bucket.specs.TokenBucket.{back_after, bucket_clock, has_tokens, most_in}
use Rattle.token_bucket.proofs.Rates.{at_most, has, none_more, one_more}
use Rattle.ipxnet_server.specs.declared.disposition.Disposition.{Disposition}
use Rattle.ipxnet_server.specs.declared.disposition.Disposition.TheVariants.{Registered, Pinged, ToClient, ToOthers, ToOthersAndCore, ToCore, PingAnswered, ToJoined, FromJoined, Dropped}
use Rattle.ipxnet_server.specs.declared.drops.ServerDrop.{ServerDrop}
use Rattle.ipxnet_server.specs.declared.drops.ServerDrop.TheVariants.{Busy, RateLimited}
use Rattle.ipxnet_server.specs.declared.flooders.Flooder.{Flooder}
use Rattle.ipxnet_server.specs.declared.recipients.Recipients.{Recipients}
use Rattle.ipxnet_server.specs.FloodRuns.{ClientsFloodSeldom, floods_passed, passes_flood}
use Rattle.ipxnet_server.specs.Flooders.{flood_limit, flooder_back, flooders_after, is_other_flooder, may_flood}
use Rattle.ipxnet_server.specs.ServerClients.{are_one_place, client_at}
use Rattle.ipxnet_server.specs.ServerFloods.{is_client_flood, is_client_limited, is_port_busy, limited_hears, packet_gives, server_flooding, server_giving, server_limiting, server_rate_limiting, server_unlimited, unlimited_hears}
use Rattle.ipxnet_server.specs.ServerHears.{ServerView, attempts_noted, makes_client, server_admitting, server_aged, server_dropping, server_hearing, server_learned, server_met, takers_of}
use Rattle.ipxnet_server.specs.NotedPlaces.{places_noted, places_noted_again}
use Rattle.ipxnet_server.specs.PeerServers.{is_joined_place}
use Rattle.ipxnet_server.specs.ServerRuns.{Again, Datagram, NoPacket, OfCore, ServerCall, Turn, server_after, time_of}
use Rattle.ipxnet_server.proofs.Asked.{InLine, from_start}
use Rattle.ipxnet_server.proofs.Once.{same_place}
use Rattle.ipxnet_server.proofs.Still.{one_place}

-- ---- tokens of an address after one took one

back_own : (place : SocketAddrV4) (clock x : ℕ) (xs : List Flooder) → flooder_back place (filter (is_other_flooder place clock) xs ++ record { place = place; back = x } ∷ []) ≡ x
back_own place clock x [] = rw (same_place place)
back_own place clock x (f ∷ rest) =
    let ih = back_own place clock x rest in
    let last : List Flooder = record { place = place; back = x } ∷ [] in
    let kept = filter (is_other_flooder place clock) rest in
    let goal : Bool → Bool → Type 0 = λ s w.
    flooder_back place (cond (not s && w) (f ∷ kept) kept ++ last) ≡ x in
    let go : (s w : Bool) → are_one_place f.place place ≡ s → goal s w = elim [
      | true ↦ λ w e. ih
      | false ↦ elim [ true ↦ λ e. rw e ih | false ↦ λ e. ih ]
    ] in
    go (are_one_place f.place place) (nat_lt clock f.back) refl

late : (clock back : ℕ) → nat_lt clock back ≡ false → back ≤ clock
late clock back e = grind (arith, nat_tests)

back_other : (place o : SocketAddrV4) (clock x : ℕ) (xs : List Flooder) → are_one_place place o ≡ false → flooder_back o xs ≤ max (flooder_back o (filter (is_other_flooder place clock) xs ++ record { place = place; back = x } ∷ [])) clock
back_other place o clock x [] apart = omega arith
back_other place o clock x (f ∷ rest) apart =
    let ih = back_other place o clock x rest apart in
    let last : List Flooder = record { place = place; back = x } ∷ [] in
    let kept = filter (is_other_flooder place clock) rest in
    let goal : Bool → Bool → Bool → Type 0 = λ r s w.
    cond r f.back (flooder_back o rest) ≤ max (flooder_back o (cond (not s && w) (f ∷ kept) kept ++ last)) clock in
    let go : (r s w : Bool) → are_one_place f.place o ≡ r → are_one_place f.place place ≡ s → nat_lt clock f.back ≡ w → goal r s w = elim [
      | true ↦ elim [
        | true ↦ λ w er es ew.
            let same : f.place ≡ place = one_place f.place place es in
            let no : are_one_place place o ≡ true = subst (λ (q : SocketAddrV4). are_one_place q o ≡ true) same er in
            absurd (both_ways (are_one_place place o) apart no)
        | false ↦ elim [
          | true ↦ λ er es ew. rw er (omega arith)
          | false ↦ λ er es ew. let old : f.back ≤ clock = late clock f.back ew in omega arith
        ]
      ]
      | false ↦ elim [
        | true ↦ λ w er es ew. ih
        | false ↦ elim [ true ↦ λ er es ew. rw er ih | false ↦ λ er es ew. ih ]
      ]
    ] in
    go (are_one_place f.place o) (are_one_place f.place place) (nat_lt clock f.back) refl refl refl

-- whoever takes a token, no missing token is back sooner
grows_by : (b : Bool) (place o : SocketAddrV4) (clock x : ℕ) (xs : List Flooder) → are_one_place place o ≡ b → flooder_back place xs ≤ x → flooder_back o xs ≤ max (flooder_back o (filter (is_other_flooder place clock) xs ++ record { place = place; back = x } ∷ [])) clock
grows_by false place o clock x xs apart more = back_other place o clock x xs apart
grows_by true place o clock x xs is more =
    let same : place ≡ o = one_place place o is in
    let own = back_own place clock x xs in
    subst (λ (q : SocketAddrV4). flooder_back q xs ≤ max (flooder_back q (filter (is_other_flooder place clock) xs ++ record { place = place; back = x } ∷ [])) clock) same (omega (arith, more, own))

grows : (place o : SocketAddrV4) (now : ℕ) (xs : List Flooder) → flooder_back o xs ≤ max (flooder_back o (flooders_after place now xs)) (bucket_clock flood_limit now)
grows place o now xs =
    let clock = bucket_clock flood_limit now in
    let x = back_after 1 (flooder_back place xs) clock in
    let more : flooder_back place xs ≤ x = omega arith in
    grows_by (are_one_place place o) place o clock x xs refl more

-- ---- what a datagram changes of the tokens without limits: nothing

told_tokens : (told : Option Node) (from : SocketAddrV4) (now : ℕ) (l : ServerView) → (server_learned told from now l).flooders ≡ l.flooders
told_tokens None from now l = refl
told_tokens (Some node) from now l = refl

noted_tokens : (b : Bool) (l m : ServerView) → m.flooders ≡ l.flooders → (if b then l else m).flooders ≡ l.flooders
noted_tokens true l m same = refl
noted_tokens false l m same = same

hearing_tokens : (heard : Disposition) (from : SocketAddrV4) (now : ℕ) (l : ServerView) → (server_hearing heard from now l).flooders ≡ l.flooders
hearing_tokens (Registered answer) from now l = noted_tokens (is_some (client_at from l.clients)) l (record l { noted = places_noted from now l.noted; attempts = attempts_noted from now l }) refl
hearing_tokens (Pinged giver answer) from now l = refl
hearing_tokens (ToClient place) from now l = refl
hearing_tokens (ToOthers giver) from now l = refl
hearing_tokens (ToOthersAndCore giver) from now l = refl
hearing_tokens ToCore from now l = refl
hearing_tokens PingAnswered from now l = refl
hearing_tokens (ToJoined takers) from now l = refl
hearing_tokens (FromJoined told takers) from now l = told_tokens told from now l
hearing_tokens (Dropped drop) from now l = refl

met_tokens : (b : Bool) (from : SocketAddrV4) (now : ℕ) (l : ServerView) → (if b then server_admitting from now l else l).flooders ≡ l.flooders
met_tokens true from now l = refl
met_tokens false from now l = refl

unlimited_tokens : (l : ServerView) (from : SocketAddrV4) (p : PacketView) (size now : ℕ) → (server_unlimited l from p size now).flooders ≡ l.flooders
unlimited_tokens l from p size now =
    let aged : ServerView = server_aged now l in
    hearing_tokens (unlimited_hears l from p size now) from now (server_met from p.header size now aged)
    ∙ met_tokens (makes_client aged from p.header size now) from now aged

-- ---- what a call changes of the tokens

left_grows : (b : Bool) (from place : SocketAddrV4) (now : ℕ) (xs : List Flooder) → flooder_back place xs ≤ max (flooder_back place (if b then flooders_after from now xs else xs)) (bucket_clock flood_limit now)
left_grows true from place now xs = grows from place now xs
left_grows false from place now xs = omega arith

limiting_grows : (a b : Bool) (u : ServerView) (heard : Disposition) (from place : SocketAddrV4) (now : ℕ)
    → flooder_back place u.flooders ≤ max (flooder_back place (if a then server_rate_limiting from now u else if b then server_dropping Busy u else server_flooding heard from now u).flooders) (bucket_clock flood_limit now)
limiting_grows true b u heard from place now = omega arith
limiting_grows false true u heard from place now = omega arith
limiting_grows false false u heard from place now = left_grows (is_client_flood heard) from place now u.flooders

given_tokens : (given : Result Recipients ServerDrop) (now : ℕ) (l : ServerView) → (server_giving given now l).flooders ≡ l.flooders
given_tokens (Ok takers) now l = refl
given_tokens (Err drop) now l = refl

again_tokens : (b : Bool) (from : SocketAddrV4) (now : ℕ) (l : ServerView) → (if b then l else record l { noted = places_noted_again from now l.noted }).flooders ≡ l.flooders
again_tokens true from now l = refl
again_tokens false from now l = refl

call_grows : (place : SocketAddrV4) (l : ServerView) (call : ServerCall) → flooder_back place l.flooders ≤ max (flooder_back place (server_after l call).flooders) (bucket_clock flood_limit (time_of call))
call_grows place l (Datagram from p size now) =
    let u : ServerView = server_unlimited l from p size now in
    let heard : Disposition = unlimited_hears l from p size now in
    subst (λ (xs : List Flooder). flooder_back place xs ≤ max (flooder_back place (server_limiting u heard from now).flooders) (bucket_clock flood_limit now)) (unlimited_tokens l from p size now)
    (limiting_grows (is_client_limited u heard from now) (is_port_busy u (takers_of heard) now) u heard from place now)
call_grows place l (NoPacket fault now) = omega arith
call_grows place l (OfCore node header size now) =
    omega (arith, ap (flooder_back place) (given_tokens (packet_gives l node header size now) now (server_aged now l)))
call_grows place l (Turn now) = omega arith
call_grows place l (Again from now) = omega (arith, ap (flooder_back place) (again_tokens (is_some (client_at from l.clients) || is_joined_place from l.routers) from now l))

-- a flood that is passed on took a token of its client
Took : SocketAddrV4 → ℕ → List Flooder → List Flooder → Type 0
Took from now before after = (may_flood from now before ≡ true) × (after ≡ flooders_after from now before)

free : (a b : Bool) → (a && not b) ≡ false → a ≡ true → b ≡ true
free true true e is = refl
free true false e is = cc
free false b e is = cc

took_by : (a b : Bool) (u : ServerView) (heard : Disposition) (from : SocketAddrV4) (now : ℕ) → is_client_limited u heard from now ≡ a
    → is_client_flood (if a then Dropped (RateLimited from) else if b then Dropped Busy else heard) ≡ true
    → Took from now u.flooders (if a then server_rate_limiting from now u else if b then server_dropping Busy u else server_flooding heard from now u).flooders
unfolding Took
took_by true b u heard from now limited passed = cc
took_by false true u heard from now limited passed = cc
took_by false false u heard from now limited passed =
    (free (is_client_flood heard) (may_flood from now u.flooders) limited passed, ap (λ (b : Bool). if b then flooders_after from now u.flooders else u.flooders) passed)

took : (l : ServerView) (from : SocketAddrV4) (p : PacketView) (size now : ℕ) → is_client_flood (limited_hears (server_unlimited l from p size now) (unlimited_hears l from p size now) from now) ≡ true
    → Took from now l.flooders (server_after l (Datagram from p size now)).flooders
took l from p size now passed =
    let u : ServerView = server_unlimited l from p size now in
    let heard : Disposition = unlimited_hears l from p size now in
    subst (λ (xs : List Flooder). Took from now xs (server_limiting u heard from now).flooders) (unlimited_tokens l from p size now)
    (took_by (is_client_limited u heard from now) (is_port_busy u (takers_of heard) now) u heard from now refl passed)

-- a call that passes a flood of an address, by the clock of its bucket
record IsTaken (place : SocketAddrV4) (a b : ℕ) (l : ServerView) (call : ServerCall) : Type 0 where
  first : a ≤ time_of call
  last : time_of call ≤ b
  token : max (flooder_back place l.flooders) (bucket_clock flood_limit (time_of call)) + 1000 ≤ bucket_clock flood_limit (time_of call) + 1000 * 256
  taken : flooder_back place (server_after l call).flooders ≡ max (flooder_back place l.flooders) (bucket_clock flood_limit (time_of call)) + 1000

taken_of : (place from : SocketAddrV4) (now : ℕ) (before after : List Flooder) → from ≡ place → Took from now before after
    → (max (flooder_back place before) (bucket_clock flood_limit now) + 1000 ≤ bucket_clock flood_limit now + 1000 * 256)
    × (flooder_back place after ≡ max (flooder_back place before) (bucket_clock flood_limit now) + 1000)
unfolding Took
taken_of place from now before after same (may, is) =
    let clock = bucket_clock flood_limit now in
    let mine : may_flood place now before ≡ true = subst (λ (q : SocketAddrV4). may_flood q now before ≡ true) same may in
    let became : after ≡ flooders_after place now before = is ∙ ap (λ (q : SocketAddrV4). flooders_after q now before) same in
    let two = and_parts (has_tokens 256 1 (flooder_back place before) clock) _ mine in
    (has 256 1 (flooder_back place before) clock two.0, ap (flooder_back place) became ∙ back_own place clock (back_after 1 (flooder_back place before) clock) before)

is_taken : (place : SocketAddrV4) (a b : ℕ) (l : ServerView) (call : ServerCall) → passes_flood place a b l call ≡ true → IsTaken place a b l call
is_taken place a b l (Datagram from p size now) passes =
    let flood = is_client_flood (limited_hears (server_unlimited l from p size now) (unlimited_hears l from p size now) from now) in
    let outer = and_parts (are_one_place from place && (nat_le a now && nat_le now b)) flood passes in
    let inner = and_parts (are_one_place from place) (nat_le a now && nat_le now b) outer.0 in
    let times = and_parts (nat_le a now) (nat_le now b) inner.1 in
    let token = taken_of place from now l.flooders (server_after l (Datagram from p size now)).flooders (one_place from place inner.0) (took l from p size now outer.1) in
    record { first = leb-true a now times.0; last = leb-true now b times.1; token = token.0; taken = token.1 }
is_taken place a b l (NoPacket fault now) passes = cc
is_taken place a b l (OfCore node header size now) passes = cc
is_taken place a b l (Turn now) passes = cc
is_taken place a b l (Again from now) passes = cc

-- ---- any calls

Bounded : ℕ → ℕ → ℕ → ℕ → ℕ → Type 0
Bounded a b back from n = max (max back (bucket_clock flood_limit from)) (bucket_clock flood_limit a) + 1000 * n ≤ bucket_clock flood_limit b + 1000 * 256

few_by : (w : Bool) (place : SocketAddrV4) (a b from : ℕ) (l : ServerView) (call : ServerCall) (m : ℕ) → passes_flood place a b l call ≡ w → from ≤ time_of call
    → (0 < m → Bounded a b (flooder_back place (server_after l call).flooders) (time_of call) m)
    → 0 < (if w then 1 else 0) + m → Bounded a b (flooder_back place l.flooders) from ((if w then 1 else 0) + m)
unfolding Bounded
few_by true place a b from l call m passes le rest some =
    let t = is_taken place a b l call passes in
    let r : ℕ = 128 in
    let back = flooder_back place l.flooders in
    let now = bucket_clock flood_limit (time_of call) in
    let later : r * from ≤ now = mul-le-mul_left r le in
    let first : r * a ≤ now = mul-le-mul_left r t.first in
    let last : now ≤ r * b = mul-le-mul_left r t.last in
    one_more back (r * from) (r * a) (r * b) now 256 1 (1 + m) m later first last t.token (omega arith)
    (λ more. subst (λ (x : ℕ). max (max x now) (r * a) + 1000 * m ≤ r * b + 1000 * 256) t.taken (rest more))
few_by false place a b from l call m passes le rest some =
    let r : ℕ = 128 in
    let later : r * from ≤ bucket_clock flood_limit (time_of call) = mul-le-mul_left r le in
    let same : m ≡ 0 + m = omega arith in
    subst (λ (k : ℕ). Bounded a b (flooder_back place l.flooders) from k) same
    (none_more (flooder_back place l.flooders) (flooder_back place (server_after l call).flooders) (r * from) (r * a) (r * b) (bucket_clock flood_limit (time_of call)) m 256 later (call_grows place l call) (rest (omega (arith, some))))

few : (place : SocketAddrV4) (a b from : ℕ) (l : ServerView) (calls : List ServerCall) → InLine from calls → 0 < floods_passed place a b l calls
    → Bounded a b (flooder_back place l.flooders) from (floods_passed place a b l calls)
unfolding InLine
few place a b from l [] line some = absurd (omega (arith, some))
few place a b from l (call ∷ calls) line some =
    few_by (passes_flood place a b l call) place a b from l call (floods_passed place a b (server_after l call) calls) refl line.0
    (λ more. few place a b (time_of call) (server_after l call) calls line.1 more) some

seldom_by : (n back a b : ℕ) → (0 < n → Bounded a b back 0 n) → n ≤ most_in flood_limit a b
unfolding Bounded
seldom_by zero back a b most = omega arith
seldom_by (suc n) back a b most =
    let apart : 128 * (b - a) ≡ 128 * b - 128 * a = mul-sub 128 b a in
    at_most back (128 * 0) (128 * a) (128 * b) (128 * (b - a)) 256 (suc n) (most (omega arith)) apart

pub seldom : ClientsFloodSeldom
seldom l calls place a b order =
    seldom_by (floods_passed place a b l calls) (flooder_back place l.flooders) a b (few place a b 0 l calls (from_start calls order))
