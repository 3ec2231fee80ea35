-- The poll of an endpoint: its links are polled in the order of their ids until one gives a packet, which is
-- written.
use Rattle.std.specs.Prelude.{ℕ, ◌≡◌, ◌<◌, ◌≤◌, List, take, drop, Option, Some, None, if◌then◌else◌, ◌==◌, ◌||◌}
use Rattle.ipx_wire.specs.Assigned.{spx_max_packet_size}
use Rattle.ipx_wire.specs.Spx.{HasFreeBitsClear}
use Rattle.ipx_wire.specs.declared.address.Node.{Node}
use Rattle.ipx_wire.specs.declared.address.Address.{Address}
use Rattle.spx_link.specs.Links.{count_of}
use Rattle.spx_link.specs.Poll.{OutgoingView, poll_link}
use Rattle.spx_messages.specs.WrittenPackets.{Home, IsWrittenPacket}
use Rattle.spx_messages.specs.Changes.{SameSelf}
use Rattle.spx_messages.specs.EndpointView.{EndpointView, Held, held_at}

abbrev pub home_of : EndpointView → Home
home_of e = record { network = e.network; node = e.node }

abbrev pub polled_held : Held → ℕ → Held
polled_held h now = record h { link = (poll_link h.link now).1 }

-- the link of an id, if there is one, was polled and gave nothing
pub record RestsAt (old new : EndpointView) (now id : ℕ) : Type 0 where
  pub asked : (h : Held) → held_at old id ≡ Some h
      → ((poll_link h.link now).0 ≡ None) × (held_at new id ≡ Some (polled_held h now))
  pub none : held_at old id ≡ None → held_at new id ≡ None

-- the destination node if its network is the host's own or 0, and otherwise the router
abbrev pub next_node : EndpointView → Address → Node
next_node e to = if (to.network.0 == e.network.0) || (to.network.0 == 0) then to.node else e.router

-- the link of the lowest id that has a packet to send gives it; the free bits of the control byte are 0
pub record FirstLinkGives (old : EndpointView) (now : ℕ) (node : Node) (n : ℕ) (room written : List ℕ)
    (new : EndpointView) : Type 0 where
  pub id : ℕ
  pub held : Held
  pub given : OutgoingView
  pub at : held_at old id ≡ Some held
  pub gives : (poll_link held.link now).0 ≡ Some given
  pub becomes : held_at new id ≡ Some (polled_held held now)
  pub below : (q : ℕ) → q < id → RestsAt old new now q
  pub above : (q : ℕ) → id < q → held_at new q ≡ held_at old q
  pub said : new.said ≡ Some (id, given.what)
  pub short : n ≤ spx_max_packet_size
  pub is : IsWrittenPacket (home_of old) held.link given (take n written)
  pub clear : HasFreeBitsClear is.packet.body
  pub behind : drop n written ≡ drop n room
  pub next : node ≡ next_node old held.link.remote

pub record GivesNothing (old : EndpointView) (now : ℕ) (room written : List ℕ)
    (new : EndpointView) : Type 0 where
  pub each : (q : ℕ) → RestsAt old new now q
  pub said : new.said ≡ None
  pub room' : written ≡ room

abbrev pub PollGives : EndpointView → ℕ → Option (Node × ℕ) → List ℕ → List ℕ
    → EndpointView → Type 0
PollGives old now None room written new = GivesNothing old now room written new
PollGives old now (Some r) room written new = FirstLinkGives old now r.0 r.1 room written new

pub record Polls (old : EndpointView) (now : ℕ) (result : Option (Node × ℕ))
    (room written : List ℕ) (new : EndpointView) : Type 0 where
  pub gives : PollGives old now result room written new
  pub self : SameSelf old new
  pub last : new.links.last ≡ old.links.last
  pub count : count_of new.links ≡ count_of old.links
  pub heard : new.heard ≡ old.heard
