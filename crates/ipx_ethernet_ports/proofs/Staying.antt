-- What stays of the sockets as one of them sends or receives.
use Rattle.std.proofs.Common.{◌≡◌, ℕ, false, true, List, Option, Some, None, Result, Ok, Err, ap, refl, subst, sym, ◌∙◌, slice_index_or, slice_set}
use Rattle.std.proofs.Math.Seq.{map-set_same}
use Rattle.std.proofs.lemmas.Option.{get_or_from_slice_get}
use Rattle.std.specs.Prelude.{IfSome, OnErr, OnOk, is_err, slice_get}
use Rattle.std.specs.declared.net.socket_addr.SocketAddrV4.{SocketAddrV4}
use Rattle.ipx_carrier.specs.Counting.{raised}
use Rattle.ipx_ethernet_ports.specs.EthernetAddresses.{KnowsNoPlace, RefusesFrame, SendsFrame, frame_refused, frame_sent, place_of_end, remote_count, remote_counts, sent_counted}
use Rattle.ipx_ethernet_ports.specs.declared.socket.EthernetSocket.{EthernetSocket}

-- a socket with as many remotes takes the place of one: each port has as many as before
pub counts_stay : (ethernet : List EthernetSocket) (port : ℕ) (w after : EthernetSocket) → w ≡ slice_index_or ethernet port w
    → remote_count after.remotes ≡ remote_count w.remotes → remote_counts (slice_set ethernet port after) ≡ remote_counts ethernet
counts_stay ethernet port w after there same =
    map-set_same (λ (s : EthernetSocket). remote_count s.remotes) ethernet port after w
    (same ∙ ap (λ (s : EthernetSocket). remote_count s.remotes) there)

-- what holds of a socket holds of the one at its port
at_port : (P : EthernetSocket → Type 0) (found : Option EthernetSocket) (w : EthernetSocket) → ((v : EthernetSocket) → found ≡ Some v → v ≡ w)
    → P w → IfSome found P
at_port P None w same p = tt
at_port P (Some v) w same p = subst P (sym (same v refl)) p

-- what holds of the socket of a port
pub asks_there : (P : EthernetSocket → Type 0) (ethernet : List EthernetSocket) (port : ℕ) (w : EthernetSocket) → w ≡ slice_index_or ethernet port w → P w
    → IfSome (slice_get ethernet port) P
asks_there P ethernet port w there p = at_port P (slice_get ethernet port) w (λ v e. sym (there ∙ get_or_from_slice_get ethernet port v w e)) p

-- what holds after a call that did not fail
pub not_failed : {T E P : Type 0} (r : Result T E) → is_err r ≡ false → OnOk r P → P
not_failed (Ok t) e p = p
not_failed (Err f) e p = absurd (cc)

-- what holds after a call that failed
pub failed : {T E P : Type 0} (r : Result T E) → is_err r ≡ true → OnErr r P → P
failed (Ok t) e p = absurd (cc)
failed (Err f) e p = p

-- what holds of a socket and of the place of its remote
placed : (P : SocketAddrV4 → EthernetSocket → Type 0) (end : ℕ) (to : SocketAddrV4) (found : Option EthernetSocket) → IfSome found (λ s. place_of_end s.remotes end ≡ Some to)
    → IfSome found (P to) → IfSome found (λ s. (t : SocketAddrV4) × (place_of_end s.remotes end ≡ Some t) × P t s)
placed P end to None known p = tt
placed P end to (Some s) known p = (to, known, p)

module _ (ethernet : List EthernetSocket) (port end : ℕ) (bytes : List ℕ) (v w wire : EthernetSocket) (to : SocketAddrV4) (found : v ≡ slice_index_or ethernet port v) (known : place_of_end v.remotes end ≡ Some to) (there : w ≡ slice_index_or ethernet port w) where
  -- the socket of a port sent a frame
  pub sends_there : wire ≡ record w { socket = frame_sent w.tunnel to bytes w.socket } → SendsFrame port end bytes ethernet (slice_set ethernet port wire)
  sends_there is =
      placed (λ t s. slice_set ethernet port wire ≡ slice_set ethernet port (record s { socket = frame_sent s.tunnel t bytes s.socket })) end to (slice_get ethernet port)
      (asks_there (λ s. place_of_end s.remotes end ≡ Some to) ethernet port v found known)
      (asks_there (λ s. slice_set ethernet port wire ≡ slice_set ethernet port (record s { socket = frame_sent s.tunnel to bytes s.socket })) ethernet port w there (ap (slice_set ethernet port) is))

  -- the system refused the frame
  pub refuses_there : wire ≡ record w { socket = frame_refused w.tunnel to bytes w.socket } → RefusesFrame port end bytes ethernet (slice_set ethernet port wire)
  refuses_there is =
      placed (λ t s. slice_set ethernet port wire ≡ slice_set ethernet port (record s { socket = frame_refused s.tunnel t bytes s.socket })) end to (slice_get ethernet port)
      (asks_there (λ s. place_of_end s.remotes end ≡ Some to) ethernet port v found known)
      (asks_there (λ s. slice_set ethernet port wire ≡ slice_set ethernet port (record s { socket = frame_refused s.tunnel to bytes s.socket })) ethernet port w there (ap (slice_set ethernet port) is))

-- how many frames were sent then
counted_at : (place : Option SocketAddrV4) (to : SocketAddrV4) (sent more : ℕ) → place ≡ Some to → more ≡ raised sent → more ≡ sent_counted place sent
counted_at place to sent more known is = rw known is

not_counted_at : (place : Option SocketAddrV4) (sent : ℕ) → place ≡ None → sent ≡ sent_counted place sent
not_counted_at place sent unknown = rw unknown refl

module _ (ethernet : List EthernetSocket) (port end : ℕ) (v : EthernetSocket) (found : v ≡ slice_index_or ethernet port v) where
  pub counts_there : (to : SocketAddrV4) (sent more : ℕ) → place_of_end v.remotes end ≡ Some to → more ≡ raised sent
      → IfSome (slice_get ethernet port) (λ s. more ≡ sent_counted (place_of_end s.remotes end) sent)
  counts_there to sent more known is =
      asks_there (λ s. more ≡ sent_counted (place_of_end s.remotes end) sent) ethernet port v found (counted_at (place_of_end v.remotes end) to sent more known is)

  pub counts_none : (sent : ℕ) → place_of_end v.remotes end ≡ None
      → IfSome (slice_get ethernet port) (λ s. sent ≡ sent_counted (place_of_end s.remotes end) sent)
  counts_none sent unknown =
      asks_there (λ s. sent ≡ sent_counted (place_of_end s.remotes end) sent) ethernet port v found (not_counted_at (place_of_end v.remotes end) sent unknown)

  pub knows_none : place_of_end v.remotes end ≡ None → KnowsNoPlace port end ethernet ethernet
  knows_none unknown =
      (asks_there (λ s. place_of_end s.remotes end ≡ None) ethernet port v found unknown, refl)
