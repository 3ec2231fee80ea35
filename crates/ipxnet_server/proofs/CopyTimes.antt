-- How many copies of floods are sent.
use Rattle.std.proofs.Common.{◌≡◌, ◌≤◌, ◌<◌, ◌∙◌, ℕ, zero, suc, ◌+◌, ◌-◌, ◌*◌, Bool, true, false, not, List, [], ◌∷◌, Option, Some, None, max, arith, refl, sym, ap, subst}
use Rattle.std.specs.Prelude.{◌&&◌, ◌||◌, Result, Ok, Err, is_some, nat_le, if◌then◌else◌}
use Rattle.std.proofs.Math.Nat.{mul-le-mul_left, mul-sub}
use Rattle.std.proofs.lemmas.Bool.{and_parts, leb-true}
use Rattle.std.specs.declared.net.socket_addr.SocketAddrV4.{SocketAddrV4}
use Rattle.ipx_wire.specs.Ipx.{PacketView}
use Rattle.ipx_wire.specs.declared.address.Node.{Node}
use Rattle.token_bucket.specs.declared.bucket.TokenBucket.{TokenBucket}
use Rattle.token_bucket.specs.TokenBucket.{bucket_clock, bucket_has, bucket_taken, most_in}
use Rattle.token_bucket.proofs.Rates.{at_most, has, none_more, one_more}
use Rattle.ipxnet_server.specs.declared.disposition.Disposition.{Disposition}
use Rattle.ipxnet_server.specs.declared.disposition.Disposition.TheVariants.{Registered, Pinged, ToClient, ToOthers, ToOthersAndCore, ToCore, PingAnswered, ToJoined, FromJoined, Dropped}
use Rattle.ipxnet_server.specs.declared.drops.ServerDrop.{ServerDrop}
use Rattle.ipxnet_server.specs.declared.drops.ServerDrop.TheVariants.{Busy, RateLimited}
use Rattle.ipxnet_server.specs.declared.recipients.Recipients.{Recipients}
use Rattle.ipxnet_server.specs.CopyRuns.{CopiesAreLimited, copies_between, copies_sent, flood_copies, given_copies}
use Rattle.ipxnet_server.specs.PeerServers.{is_joined_place}
use Rattle.ipxnet_server.specs.NotedPlaces.{places_noted, places_noted_again}
use Rattle.ipxnet_server.specs.ServerClients.{client_at}
use Rattle.ipxnet_server.specs.ServerFloods.{copies_left, copies_of, is_client_limited, is_flood, is_port_busy, limited_gives, server_flooding, server_giving, server_rate_limiting, server_unlimited, unlimited_hears}
use Rattle.ipxnet_server.specs.ServerHears.{ServerView, attempts_noted, copies_limit, joined_server, makes_client, server_admitting, server_aged, server_dropping, server_gives, server_hearing, server_learned, server_met, takers_of}
use Rattle.ipxnet_server.specs.ServerRuns.{Again, Datagram, NoPacket, OfCore, ServerCall, Turn, server_after, time_of}
use Rattle.ipxnet_server.proofs.Asked.{InLine, from_start}

-- ---- what a datagram changes of the tokens without limits: nothing

told_bucket : (told : Option Node) (from : SocketAddrV4) (now : ℕ) (l : ServerView) → (server_learned told from now l).copies ≡ l.copies
told_bucket None from now l = refl
told_bucket (Some node) from now l = refl

noted_bucket : (b : Bool) (l m : ServerView) → m.copies ≡ l.copies → (if b then l else m).copies ≡ l.copies
noted_bucket true l m same = refl
noted_bucket false l m same = same

hearing_bucket : (heard : Disposition) (from : SocketAddrV4) (now : ℕ) (l : ServerView) → (server_hearing heard from now l).copies ≡ l.copies
hearing_bucket (Registered answer) from now l = noted_bucket (is_some (client_at from l.clients)) l (record l { noted = places_noted from now l.noted; attempts = attempts_noted from now l }) refl
hearing_bucket (Pinged giver answer) from now l = refl
hearing_bucket (ToClient place) from now l = refl
hearing_bucket (ToOthers giver) from now l = refl
hearing_bucket (ToOthersAndCore giver) from now l = refl
hearing_bucket ToCore from now l = refl
hearing_bucket PingAnswered from now l = refl
hearing_bucket (ToJoined takers) from now l = refl
hearing_bucket (FromJoined told takers) from now l = told_bucket told from now l
hearing_bucket (Dropped drop) from now l = refl

met_bucket : (b : Bool) (from : SocketAddrV4) (now : ℕ) (l : ServerView) → (if b then server_admitting from now l else l).copies ≡ l.copies
met_bucket true from now l = refl
met_bucket false from now l = refl

unlimited_bucket : (l : ServerView) (from : SocketAddrV4) (p : PacketView) (size now : ℕ) → (server_unlimited l from p size now).copies ≡ l.copies
unlimited_bucket l from p size now =
    let aged : ServerView = server_aged now l in
    hearing_bucket (unlimited_hears l from p size now) from now (server_met from p.header size now aged)
    ∙ met_bucket (makes_client aged from p.header size now) from now aged

-- ---- what a call takes

-- so many tokens were taken of a bucket at a time, or nothing changed
data IsTaken (before after : TokenBucket) (now n : ℕ) : Type 0 where
  Nothing : n ≡ 0 → after ≡ before → IsTaken before after now n
  Tokens : bucket_has before n now ≡ true → after ≡ bucket_taken before n now → IsTaken before after now n

free : (a b : Bool) → (a && not b) ≡ false → a ≡ true → b ≡ true
free true true e is = refl
free true false e is = cc
free false b e is = cc

-- bytes for these are sent, since the port is not busy
sent_by : (f : Bool) (u : ServerView) (takers : Recipients) (now : ℕ) → is_flood takers ≡ f → is_port_busy u takers now ≡ false
    → IsTaken u.copies (copies_left u takers now) now (flood_copies u takers)
sent_by true u takers now flood idle =
    let n : copies_of u takers ≡ flood_copies u takers = ap (λ (b : Bool). if b then copies_of u takers else 0) (sym flood) in
    let taken : copies_left u takers now ≡ bucket_taken u.copies (copies_of u takers) now = ap (λ (b : Bool). if b then bucket_taken u.copies (copies_of u takers) now else u.copies) flood in
    subst (λ (k : ℕ). IsTaken u.copies (copies_left u takers now) now k) n
    (Tokens (free (is_flood takers) (bucket_has u.copies (copies_of u takers) now) idle flood) taken)
sent_by false u takers now flood idle =
    Nothing (ap (λ (b : Bool). if b then copies_of u takers else 0) flood) (ap (λ (b : Bool). if b then bucket_taken u.copies (copies_of u takers) now else u.copies) flood)

heard_by : (a b : Bool) (u : ServerView) (heard : Disposition) (from : SocketAddrV4) (now : ℕ) → is_port_busy u (takers_of heard) now ≡ b
    → IsTaken u.copies (if a then server_rate_limiting from now u else if b then server_dropping Busy u else server_flooding heard from now u).copies now
    (flood_copies (if a then server_rate_limiting from now u else if b then server_dropping Busy u else server_flooding heard from now u) (takers_of (if a then Dropped (RateLimited from) else if b then Dropped Busy else heard)))
heard_by true b u heard from now busy = Nothing refl refl
heard_by false true u heard from now busy = Nothing refl refl
heard_by false false u heard from now busy = sent_by (is_flood (takers_of heard)) u (takers_of heard) now refl busy

given_by : (b : Bool) (l : ServerView) (takers : Recipients) (now : ℕ) → is_port_busy l takers now ≡ b
    → IsTaken l.copies (server_giving (if b then Err Busy else Ok takers) now l).copies now (given_copies (server_giving (if b then Err Busy else Ok takers) now l) (if b then Err Busy else Ok takers))
given_by true l takers now busy = Nothing refl refl
given_by false l takers now busy = sent_by (is_flood takers) l takers now refl busy

given_taken : (given : Result Recipients ServerDrop) (l : ServerView) (now : ℕ)
    → IsTaken l.copies (server_giving (limited_gives l given now) now l).copies now (given_copies (server_giving (limited_gives l given now) now l) (limited_gives l given now))
given_taken (Ok takers) l now = given_by (is_port_busy l takers now) l takers now refl
given_taken (Err drop) l now = Nothing refl refl

again_bucket : (b : Bool) (from : SocketAddrV4) (now : ℕ) (l : ServerView) → (if b then l else record l { noted = places_noted_again from now l.noted }).copies ≡ l.copies
again_bucket true from now l = refl
again_bucket false from now l = refl

call_taken : (l : ServerView) (call : ServerCall) → IsTaken l.copies (server_after l call).copies (time_of call) (copies_sent l call)
call_taken l (Datagram from p size now) =
    let u : ServerView = server_unlimited l from p size now in
    let heard : Disposition = unlimited_hears l from p size now in
    subst (λ (before : TokenBucket). IsTaken before (server_after l (Datagram from p size now)).copies now (copies_sent l (Datagram from p size now))) (unlimited_bucket l from p size now)
    (heard_by (is_client_limited u heard from now) (is_port_busy u (takers_of heard) now) u heard from now refl)
call_taken l (NoPacket fault now) = Nothing refl refl
call_taken l (OfCore node header size now) = given_taken (server_gives (server_aged now l) node header size) (server_aged now l) now
call_taken l (Turn now) = Nothing refl refl
call_taken l (Again from now) = Nothing refl (again_bucket (is_some (client_at from l.clients) || is_joined_place from l.routers) from now l)

-- ---- the limit stays

limit_stays : (before after : TokenBucket) (now n : ℕ) → IsTaken before after now n → before.limit ≡ copies_limit → after.limit ≡ copies_limit
limit_stays before after now n (Nothing none same) is = ap (λ (b : TokenBucket). b.limit) same ∙ is
limit_stays before after now n (Tokens there taken) is = ap (λ (b : TokenBucket). b.limit) taken ∙ is

-- ---- any calls

Bounded : ℕ → ℕ → ℕ → ℕ → ℕ → Type 0
Bounded a b back from n = max (max back (bucket_clock copies_limit from)) (bucket_clock copies_limit a) + 1000 * n ≤ bucket_clock copies_limit b + 1000 * 200000

step_of : (before after : TokenBucket) (now n : ℕ) → before.limit ≡ copies_limit → IsTaken before after now n → before.back ≤ max after.back (bucket_clock copies_limit now)
step_of before after now n is (Nothing none same) = omega (arith, ap (λ (b : TokenBucket). b.back) same)
step_of before after now n is (Tokens there taken) =
    let clock : bucket_clock before.limit now ≡ bucket_clock copies_limit now = ap (λ r. bucket_clock r now) is in
    omega (arith, ap (λ (b : TokenBucket). b.back) taken, clock)

there_of : (before : TokenBucket) (now n : ℕ) → before.limit ≡ copies_limit → bucket_has before n now ≡ true → max before.back (bucket_clock copies_limit now) + 1000 * n ≤ bucket_clock copies_limit now + 1000 * 200000
there_of before now n is there =
    has 200000 n before.back (bucket_clock copies_limit now) (subst (λ r. bucket_has (record before { limit = r }) n now ≡ true) is there)

few_in : (a b from m n : ℕ) (before after : TokenBucket) (now : ℕ) → IsTaken before after now n → before.limit ≡ copies_limit → from ≤ now → a ≤ now → now ≤ b
    → (0 < m → Bounded a b after.back now m) → 0 < n + m → Bounded a b before.back from (n + m)
unfolding Bounded
few_in a b from m n before after now (Nothing none same) is le la lb rest some =
    let r : ℕ = 100000 in
    let later : r * from ≤ bucket_clock copies_limit now = mul-le-mul_left r le in
    let k : m ≡ n + m = omega (arith, none) in
    subst (λ (j : ℕ). Bounded a b before.back from j) k
    (none_more before.back after.back (r * from) (r * a) (r * b) (bucket_clock copies_limit now) m 200000 later (omega (arith, ap (λ (t : TokenBucket). t.back) same)) (rest (omega (arith, some, none))))
few_in a b from m n before after now (Tokens there taken) is le la lb rest some =
    let r : ℕ = 100000 in
    let clock = bucket_clock copies_limit now in
    let later : r * from ≤ clock = mul-le-mul_left r le in
    let first : r * a ≤ clock = mul-le-mul_left r la in
    let last : clock ≤ r * b = mul-le-mul_left r lb in
    let back : after.back ≡ max before.back clock + 1000 * n = ap (λ (t : TokenBucket). t.back) taken ∙ ap (λ q. max before.back (bucket_clock q now) + 1000 * n) is in
    one_more before.back (r * from) (r * a) (r * b) clock 200000 n (n + m) m later first last (there_of before now n is there) (omega arith)
    (λ more. subst (λ (x : ℕ). max (max x clock) (r * a) + 1000 * m ≤ r * b + 1000 * 200000) back (rest more))

few_out : (a b from m : ℕ) (before after : TokenBucket) (now n : ℕ) → IsTaken before after now n → before.limit ≡ copies_limit → from ≤ now
    → (0 < m → Bounded a b after.back now m) → 0 < m → Bounded a b before.back from m
unfolding Bounded
few_out a b from m before after now n taken is le rest some =
    let r : ℕ = 100000 in
    let later : r * from ≤ bucket_clock copies_limit now = mul-le-mul_left r le in
    none_more before.back after.back (r * from) (r * a) (r * b) (bucket_clock copies_limit now) m 200000 later (step_of before after now n is taken) (rest some)

few_by : (w : Bool) (a b from m n : ℕ) (before after : TokenBucket) (now : ℕ) → (nat_le a now && nat_le now b) ≡ w → IsTaken before after now n → before.limit ≡ copies_limit → from ≤ now
    → (0 < m → Bounded a b after.back now m) → 0 < (if w then n else 0) + m → Bounded a b before.back from ((if w then n else 0) + m)
few_by true a b from m n before after now within taken is le rest some =
    let times = and_parts (nat_le a now) (nat_le now b) within in
    few_in a b from m n before after now taken is le (leb-true a now times.0) (leb-true now b times.1) rest some
few_by false a b from m n before after now within taken is le rest some =
    let same : m ≡ 0 + m = omega arith in
    subst (λ (k : ℕ). Bounded a b before.back from k) same (few_out a b from m before after now n taken is le rest (omega (arith, some)))

few : (a b from : ℕ) (l : ServerView) (calls : List ServerCall) → l.copies.limit ≡ copies_limit → InLine from calls → 0 < copies_between a b l calls
    → Bounded a b l.copies.back from (copies_between a b l calls)
unfolding InLine
few a b from l [] is line some = absurd (omega (arith, some))
few a b from l (call ∷ calls) is line some =
    let now = time_of call in
    let taken = call_taken l call in
    let stays = limit_stays l.copies (server_after l call).copies now (copies_sent l call) taken is in
    few_by (nat_le a now && nat_le now b) a b from (copies_between a b (server_after l call) calls) (copies_sent l call) l.copies (server_after l call).copies now refl taken is line.0
    (λ more. few a b now (server_after l call) calls stays line.1 more) some

limited_by : (n back a b : ℕ) → (0 < n → Bounded a b back 0 n) → n ≤ most_in copies_limit a b
unfolding Bounded
limited_by zero back a b most = omega arith
limited_by (suc n) back a b most =
    let apart : 100000 * (b - a) ≡ 100000 * b - 100000 * a = mul-sub 100000 b a in
    at_most back (100000 * 0) (100000 * a) (100000 * b) (100000 * (b - a)) 200000 (suc n) (most (omega arith)) apart

pub limited : CopiesAreLimited
limited port most routers calls a b order =
    limited_by (copies_between a b (joined_server port most routers) calls) 0 a b
    (few a b 0 (joined_server port most routers) calls refl (from_start calls order))
