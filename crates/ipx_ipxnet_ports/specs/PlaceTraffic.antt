-- What passes through the sockets of ipxnet servers: which bytes came to a port from which address, and which
-- were sent to which. Defined by this project.
use Rattle.std.specs.Prelude.{◌≡◌, ℕ, zero, suc, List, [], ◌∷◌, ◌++◌, Bool, not, Option, Some, None, Result, Ok, Err, IfSome, count_by, filter, map, take}
use Rattle.ipx_carrier.specs.declared.fault.DeviceFault.{DeviceFault}
use Rattle.ipx_carrier.specs.Counting.{raised}
use Rattle.std.specs.declared.net.socket_addr.SocketAddrV4.{SocketAddrV4}
use Rattle.ipx_ipxnet_ports.specs.declared.place_sockets.DatagramCame.{DatagramCame}

-- bytes that came to a port from an address, or were sent from there to it
pub record PlaceDatagram : Type 0 where
  pub port : ℕ
  pub place : SocketAddrV4
  pub bytes : List ℕ

-- all that passed so far, in order
pub record PlaceTraffic : Type 0 where
  pub came : List PlaceDatagram
  pub went : List PlaceDatagram

-- the same bytes for an address
abbrev pub place_datagram : ℕ → List ℕ → SocketAddrV4 → PlaceDatagram
place_datagram port bytes place = record { port = port; place = place; bytes = bytes }

-- what came is at the front of the buffer
abbrev pub came_from_place : ℕ → List ℕ → Option DatagramCame → Option PlaceDatagram
came_from_place port room None = None
came_from_place port room (Some c) = Some (place_datagram port (take c.size room) c.from)

-- the datagram that sockets answered at a port, if one came
abbrev pub datagram_answered : ℕ → List ℕ → Result (Option DatagramCame) DeviceFault → Option PlaceDatagram
datagram_answered port room (Ok came) = came_from_place port room came
datagram_answered port room (Err _) = None

-- one datagram or none, as a list
abbrev pub place_datagrams : Option PlaceDatagram → List PlaceDatagram
place_datagrams None = []
place_datagrams (Some d) = d ∷ []

-- sockets that record what passes record this after what they recorded before
abbrev pub PlacesPass : Option PlaceTraffic → Option PlaceTraffic → List PlaceDatagram → List PlaceDatagram → Type 0
PlacesPass old new came went =
    IfSome old (λ t. new ≡ Some (record { came = t.came ++ came; went = t.went ++ went }))

-- a count after this many failures, which stays at the greatest
abbrev pub raised_by : ℕ → ℕ → ℕ
raised_by zero n = n
raised_by (suc k) n = raised (raised_by k n)

-- the same after one call
abbrev pub failures_with : {T E : Type 0} → Result T E → ℕ → ℕ
failures_with (Ok x) n = n
failures_with (Err e) n = raised n

-- a datagram that was handed to sockets, and whether they took it
pub record HandedDatagram : Type 0 where
  pub datagram : PlaceDatagram
  pub taken : Bool

-- after the datagrams that came, others were handed to the sockets, one after another. Those that they took
-- were sent, and one failure was counted for each of the others
pub record HandsOver (datagrams came : List PlaceDatagram) (old new : Option PlaceTraffic) (failed failed_after : ℕ) : Type 0 where
  pub handed : List HandedDatagram
  pub all : map (λ h. h.datagram) handed ≡ datagrams
  pub went : PlacesPass old new came (map (λ h. h.datagram) (filter (λ h. h.taken) handed))
  pub failures : failed_after ≡ raised_by (count_by (λ h. not h.taken) handed) failed
