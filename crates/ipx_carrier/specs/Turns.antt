-- The turns of a core over a device: what each of them received and sent. The entry points are `Turns`, and
-- `FailsMidTurn` for the turn that a fault ends.
use Rattle.std.specs.Prelude.{Vec, ◌≡◌, ◌<◌, ◌≤◌, ◌⊎◌, ℕ, ◌+◌, List, [], ◌∷◌, ◌++◌, length, map, flat_map, slice_get, Option, Some, None, option_map, unwrap_or, if◌then◌else◌}
use Rattle.std.specs.Global.{Global}
use Rattle.ipx_wire.specs.declared.address.Node.{Node}
use Rattle.ipx_router.specs.RouterPackets.{broadcast}
use Rattle.ipx_router.specs.Classify.{is_node}
use Rattle.ipx_carrier.specs.declared.fault.RunFault.{RunFault}
use Rattle.ipx_carrier.specs.declared.fault.RunFault.TheVariants.{Device, OutOfMemory}
use Rattle.ipx_carrier.specs.Mapping.{ip_at}
use Rattle.ipx_carrier.specs.Device.{Datagram, Reception}

-- a packet that a core gives: from a port, to a node there
pub record Given : Type 0 where
  pub port : ℕ
  pub node : Node
  pub bytes : List ℕ

-- one turn: the time read, what the ports gave, and the packets that the core gave
pub record Turn : Type 0 where
  pub moment : ℕ
  pub answers : List Reception
  pub packets : List Given

-- the peers of each port, as IP addresses
abbrev pub Peers : Type 0
Peers = List (List (List ℕ))

abbrev pub peers_of : List (Vec (List ℕ) Global) → Peers
peers_of peers = map (λ v. v.items) peers

abbrev pub datagram_to : Given → List ℕ → Datagram
datagram_to p to = record { port = p.port; to = to; bytes = p.bytes }

-- the copies that are sent for each packet; None if its node has no address
abbrev pub Ways : Type 0 → Type 0
Ways A = Given → Option (List A)

-- over IP: a broadcast is a datagram to each peer of its port, in order. A packet for one node is a datagram
-- to its IP address, if it has one
abbrev pub by_ip : Peers → Ways Datagram
by_ip peers p =
    if is_node p.node broadcast then Some (map (datagram_to p) (unwrap_or (slice_get peers p.port) []))
    else option_map (λ to. datagram_to p to ∷ []) (ip_at p.node)

-- the copies that are sent for a packet
abbrev pub copies_of : {A : Type 0} → Ways A → Given → List A
copies_of transmissions p = unwrap_or (transmissions p) []

-- what turns read, received, and sent
abbrev pub moments_of : List Turn → List ℕ
moments_of turns = map (λ t. t.moment) turns

abbrev pub received_of : List Turn → List Reception
received_of turns = flat_map (λ t. t.answers) turns

abbrev pub packets_of : List Turn → List Given
packets_of turns = flat_map (λ t. t.packets) turns

abbrev pub sent_of : {A : Type 0} → Ways A → List Given → List A
sent_of transmissions packets = flat_map (copies_of transmissions) packets

-- a part of a list from its start, without its last items
abbrev pub IsFrontOf : {A : Type 0} → List A → List A → Type 0
IsFrontOf {A} front whole = (next : A) × (rest : List A) × (whole ≡ front ++ next ∷ rest)

-- packets were given, and the last of them was not sent whole. All copies of those before it were sent, and
-- its own before the one that failed
abbrev pub FailsInLast : {A : Type 0} → Ways A → List Given → List A → Type 0
FailsInLast {A} transmissions packets sent = (before : List Given) × (last : Given) × (front : List A)
    × (packets ≡ before ++ last ∷ []) × IsFrontOf front (copies_of transmissions last)
    × (sent ≡ sent_of transmissions before ++ front)

module _ {C : Type 0} (hears : C → ℕ → List ℕ → ℕ → C → Type 0) where
  -- a core receives what a port gave, if that is a datagram
  abbrev pub HearsAnswer : ℕ → ℕ → Option (List ℕ) → C → C → Type 0
  HearsAnswer now port None old new = new ≡ old
  HearsAnswer now port (Some bytes) old new = hears old port bytes now new

  -- one answer of each port, in order, starting at this port
  abbrev pub HearsEach : ℕ → ℕ → List Reception → C → C → Type 0
  HearsEach now port [] old new = new ≡ old
  HearsEach now port (r ∷ rs) old new = (mid : C) × (r.port ≡ port)
      × HearsAnswer now port r.bytes old mid × HearsEach now (port + 1) rs mid new

module _ {C : Type 0} (gives : C → ℕ → Option Given → C → Type 0) where
  -- a core is asked for packets, and gives these
  abbrev pub GivesEach : ℕ → List Given → C → C → Type 0
  GivesEach now [] old new = new ≡ old
  GivesEach now (p ∷ ps) old new = (mid : C) × gives old now (Some p) mid × GivesEach now ps mid new

  -- it is asked until it gives none, or until it gave 64
  abbrev pub GivesAll : ℕ → List Given → C → C → Type 0
  GivesAll now packets old new =
      (GivesEach now packets old new × (length packets ≡ 64))
      ⊎ ((mid : C) × GivesEach now packets old mid × (length packets < 64) × gives mid now None new)

module _ {C : Type 0} (hears : C → ℕ → List ℕ → ℕ → C → Type 0)
    (gives : C → ℕ → Option Given → C → Type 0) where
  -- a whole turn: each port answers once, and then the core is asked
  abbrev pub IsTurn : ℕ → Turn → C → C → Type 0
  IsTurn ports t old new = (length t.answers ≡ ports) × (mid : C)
      × HearsEach hears t.moment 0 t.answers old mid × GivesAll gives t.moment t.packets mid new

  abbrev pub Turns : ℕ → List Turn → C → C → Type 0
  Turns ports [] old new = new ≡ old
  Turns ports (t ∷ ts) old new = (mid : C) × IsTurn ports t old mid × Turns ports ts mid new

module _ {C : Type 0} (hear_out_of_memory : C → ℕ → List ℕ → ℕ → C → Type 0) where
  -- how a fault ends the asking of a port: the device fails and nothing was received, or a datagram was
  -- received and the core runs out of memory
  abbrev pub FailsAtPort : ℕ → ℕ → List Reception → RunFault → C → C → Type 0
  FailsAtPort now port last Device old new = (last ≡ []) × (new ≡ old)
  FailsAtPort now port last OutOfMemory old new = (bytes : List ℕ)
      × (last ≡ record { port = port; bytes = Some bytes } ∷ []) × hear_out_of_memory old port bytes now new

module _ {C : Type 0} (gives : C → ℕ → Option Given → C → Type 0)
    (next_out_of_memory : C → ℕ → C → Type 0) {A : Type 0} where
  -- how a fault ends the asking for packets: the device fails in the last packet, or the core runs out of
  -- memory for the next. The packets before it were sent
  abbrev pub FailsAfter : ℕ → ℕ → Ways A → List Given → List A → RunFault → C → C → Type 0
  FailsAfter most now transmissions packets sent Device old new = GivesEach gives now packets old new
      × (length packets ≤ most) × FailsInLast transmissions packets sent
  FailsAfter most now transmissions packets sent OutOfMemory old new = (last : C)
      × GivesEach gives now packets old last × (length packets < most)
      × (sent ≡ sent_of transmissions packets) × next_out_of_memory last now new

module _ {C : Type 0} (hears hear_out_of_memory : C → ℕ → List ℕ → ℕ → C → Type 0)
    (gives : C → ℕ → Option Given → C → Type 0) (next_out_of_memory : C → ℕ → C → Type 0) {A : Type 0} where
  -- a fault ends the turn as its ports are asked: the core received the answers before, and nothing was sent
  abbrev pub BreaksOffHearing : ℕ → Turn → List A → RunFault → C → C → Type 0
  BreaksOffHearing ports t sent fault old new = (heard last : List Reception) × (mid : C)
      × (t.answers ≡ heard ++ last) × (length heard < ports)
      × HearsEach hears t.moment 0 heard old mid
      × FailsAtPort hear_out_of_memory t.moment (length heard) last fault mid new
      × (t.packets ≡ []) × (sent ≡ [])

  -- a fault ends the turn as its core is asked: the core received each answer
  abbrev pub BreaksOffSending : ℕ → Ways A → Turn → List A → RunFault → C → C → Type 0
  BreaksOffSending ports transmissions t sent fault old new = (length t.answers ≡ ports) × (mid : C)
      × HearsEach hears t.moment 0 t.answers old mid
      × FailsAfter gives next_out_of_memory 64 t.moment transmissions t.packets sent fault mid new

  -- a turn that a fault ends, what it sent, and the core then
  abbrev pub FailsMidTurn : ℕ → Ways A → Turn → List A → RunFault → C → C → Type 0
  FailsMidTurn ports transmissions t sent fault old new = BreaksOffHearing ports t sent fault old new
      ⊎ BreaksOffSending ports transmissions t sent fault old new
