-- What passes through a device that sends and receives datagrams, and the times that a clock gives.
use Rattle.std.specs.Prelude.{◌≡◌, ℕ, List, [], ◌∷◌, ◌++◌, Option, Some, None, IfSome, take}
use Rattle.ipx_wire.specs.declared.address.Network.{Network}

-- a datagram that was sent: from a port of the device, to an IP address
pub record Datagram : Type 0 where
  pub port : ℕ
  pub to : List ℕ
  pub bytes : List ℕ

-- what a port gave when it was asked for a datagram: its bytes, or none
pub record Reception : Type 0 where
  pub port : ℕ
  pub bytes : Option (List ℕ)

-- all that passed so far, in order: what was received, and what was sent, of any kind
pub record TrafficOf (A : Type 0) : Type 0 where
  pub received : List Reception
  pub sent : List A

-- the same if datagrams are sent
abbrev pub Traffic : Type 0
Traffic = TrafficOf Datagram

-- the bytes received are at the front of the buffer, as many as the count says
abbrev pub received_in : List ℕ → Option ℕ → Option (List ℕ)
received_in room None = None
received_in room (Some count) = Some (take count room)

-- who may send and receive at a port of a device: the port's network, where it sends to, from where it
-- receives, and which of these may pass on what others sent. These are IP addresses; None means any
pub record Access : Type 0 where
  pub network : Network
  pub sends : Option (List (List ℕ))
  pub hears : Option (List (List ℕ))
  pub routers : Option (List (List ℕ))

-- traffic with more received and sent
abbrev pub with_more : {A : Type 0} → TrafficOf A → List Reception → List A → TrafficOf A
with_more t received sent =
    record { received = t.received ++ received; sent = t.sent ++ sent }

-- a device that records its traffic records this after what it recorded before
abbrev pub Passes : {A : Type 0} → Option (TrafficOf A) → Option (TrafficOf A) → List Reception
    → List A → Type 0
Passes old new received sent = IfSome old (λ t. new ≡ Some (with_more t received sent))

-- a clock is read once for each of these times, in order
module _ {K : Type 0} (tells : K → ℕ → K → Type 0) where
  abbrev pub TellsMoments : K → K → List ℕ → Type 0
  TellsMoments old new [] = new ≡ old
  TellsMoments old new (moment ∷ moments) = (mid : K) × tells old moment mid × TellsMoments mid new moments
