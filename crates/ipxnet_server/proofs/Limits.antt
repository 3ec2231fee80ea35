-- What limits leave as it is of a server, and of what becomes of a datagram.
use Rattle.std.proofs.Common.{◌≡◌, ℕ, Bool, true, false, List, Option, refl}
use Rattle.std.specs.Prelude.{Result, Ok, Err, if◌then◌else◌}
use Rattle.std.specs.declared.net.socket_addr.SocketAddrV4.{SocketAddrV4}
use Rattle.token_bucket.specs.declared.bucket.TokenBucket.{TokenBucket}
use Rattle.ipxnet_server.specs.declared.counts.ServerCounts.{ServerCounts}
use Rattle.ipxnet_server.specs.declared.disposition.Disposition.{Disposition}
use Rattle.ipxnet_server.specs.declared.disposition.Disposition.TheVariants.{Dropped}
use Rattle.ipxnet_server.specs.declared.drops.ServerDrop.{ServerDrop}
use Rattle.ipxnet_server.specs.declared.drops.ServerDrop.TheVariants.{Busy, RateLimited}
use Rattle.ipxnet_server.specs.declared.flooders.Flooder.{Flooder}
use Rattle.ipxnet_server.specs.declared.limiting.LimitedFlood.{LimitedFlood}
use Rattle.ipxnet_server.specs.declared.recipients.Recipients.{Recipients}
use Rattle.ipxnet_server.specs.ServerFloods.{is_client_limited, is_port_busy, limited_gives, limited_hears, server_flooding, server_giving, server_limiting, server_rate_limiting}
use Rattle.ipxnet_server.specs.ServerHears.{ServerView, goes_to_core, is_of_client, server_dropping, takers_of}
use Rattle.ipxnet_server.specs.ServerInside.{IsSoundHearing}
use Rattle.ipxnet_server.proofs.Hears.{dropped_hears}

-- ---- a datagram is dropped, or what becomes of it stays

limited_by : (P : Disposition → Type 0) (a b : Bool) (d e : ServerDrop) (heard : Disposition) → ((drop : ServerDrop) → P (Dropped drop)) → P heard → P (if a then Dropped d else if b then Dropped e else heard)
limited_by P true b d e heard dropped same = dropped d
limited_by P false true d e heard dropped same = dropped e
limited_by P false false d e heard dropped same = same

pub limited : (P : Disposition → Type 0) (l : ServerView) (heard : Disposition) (from : SocketAddrV4) (now : ℕ) → ((drop : ServerDrop) → P (Dropped drop)) → P heard → P (limited_hears l heard from now)
limited P l heard from now dropped same =
    limited_by P (is_client_limited l heard from now) (is_port_busy l (takers_of heard) now) (RateLimited from) Busy heard dropped same

pub sound_limited : (l k : ServerView) (heard : Disposition) (from : SocketAddrV4) (size now : ℕ) → IsSoundHearing l from size heard → IsSoundHearing l from size (limited_hears k heard from now)
sound_limited l k heard from size now sound =
    limited (λ (h : Disposition). IsSoundHearing l from size h) k heard from now (λ drop. dropped_hears l from size drop) sound

pub client_limited : (l : ServerView) (heard : Disposition) (from : SocketAddrV4) (now : ℕ) → is_of_client (limited_hears l heard from now) ≡ true → is_of_client heard ≡ true
client_limited l heard from now =
    limited (λ (h : Disposition). is_of_client h ≡ true → is_of_client heard ≡ true) l heard from now (λ drop e. cc) (λ e. e)

pub core_limited : (l : ServerView) (heard : Disposition) (from : SocketAddrV4) (now : ℕ) → goes_to_core (limited_hears l heard from now) ≡ true → goes_to_core heard ≡ true
core_limited l heard from now =
    limited (λ (h : Disposition). goes_to_core h ≡ true → goes_to_core heard ≡ true) l heard from now (λ drop e. cc) (λ e. e)

-- what is dropped already stays so
pub dropped_stays : (l : ServerView) (drop : ServerDrop) (from : SocketAddrV4) (now : ℕ) → limited_hears l (Dropped drop) from now ≡ Dropped drop
dropped_stays l drop from now = refl

pub dropped_leaves : (l : ServerView) (drop : ServerDrop) (from : SocketAddrV4) (now : ℕ) → server_limiting l (Dropped drop) from now ≡ l
dropped_leaves l drop from now = refl

-- ---- only the tokens, the counts, and who was limited last change

abbrev pub ReadsNoToken : {A : Type 0} → (ServerView → A) → Type 0
ReadsNoToken f = (l : ServerView) (flooders : List Flooder) (copies : TokenBucket) (limited : Option LimitedFlood) (counts : ServerCounts)
    → f (record l { flooders = flooders; copies = copies; limited = limited; counts = counts }) ≡ f l

module _ {A : Type 0} (f : ServerView → A) (reads : ReadsNoToken f) where
  limiting_by : (a b : Bool) (l : ServerView) (heard : Disposition) (from : SocketAddrV4) (now : ℕ)
      → f (if a then server_rate_limiting from now l else if b then server_dropping Busy l else server_flooding heard from now l) ≡ f l
  limiting_by true b l heard from now =
      let m : ServerView = server_rate_limiting from now l in
      reads l m.flooders m.copies m.limited m.counts
  limiting_by false true l heard from now =
      let m : ServerView = server_dropping Busy l in
      reads l m.flooders m.copies m.limited m.counts
  limiting_by false false l heard from now =
      let m : ServerView = server_flooding heard from now l in
      reads l m.flooders m.copies m.limited m.counts

  pub limiting_keeps : (l : ServerView) (heard : Disposition) (from : SocketAddrV4) (now : ℕ) → f (server_limiting l heard from now) ≡ f l
  limiting_keeps l heard from now = limiting_by (is_client_limited l heard from now) (is_port_busy l (takers_of heard) now) l heard from now

  pub giving_keeps : (given : Result Recipients ServerDrop) (now : ℕ) (l : ServerView) → f (server_giving given now l) ≡ f l
  giving_keeps (Ok takers) now l =
      let m : ServerView = server_giving (Ok takers) now l in
      reads l m.flooders m.copies m.limited m.counts
  giving_keeps (Err drop) now l =
      let m : ServerView = server_dropping drop l in
      reads l m.flooders m.copies m.limited m.counts

-- ---- a packet of the core is dropped, or who gets it stays

given_by : (P : Result Recipients ServerDrop → Type 0) (b : Bool) (takers : Recipients) → ((drop : ServerDrop) → P (Err drop)) → P (Ok takers) → P (if b then Err Busy else Ok takers)
given_by P true takers dropped same = dropped Busy
given_by P false takers dropped same = same

pub given_limited : (P : Result Recipients ServerDrop → Type 0) (l : ServerView) (given : Result Recipients ServerDrop) (now : ℕ) → ((drop : ServerDrop) → P (Err drop)) → P given → P (limited_gives l given now)
given_limited P l (Ok takers) now dropped same = given_by P (is_port_busy l takers now) takers dropped same
given_limited P l (Err drop) now dropped same = same
