-- The fields of an SPX packet as positions of the machine: of a packet that is read, and of a packet that a
-- link gives.
use Rattle.std.specs.Prelude.{ℕ, ◌+◌, ◌<◌, ◌≤◌, ◌≡◌, true, false, List, length, Option, None, Some, slice_get}
use Rattle.ipx_wire.specs.declared.spx.packet.SpxHeader.{SpxHeader}
use Rattle.spx_link.specs.declared.unit.Unit.{Unit}
use Rattle.spx_link.specs.declared.outgoing.Sent.{Sent}
use Rattle.spx_link.specs.declared.outgoing.Sent.TheVariants as Sents
use Rattle.spx_link.specs.SequenceMarks.{mark}
use Rattle.spx_link.specs.Poll.{OutgoingView}
use Rattle.spx_link.specs.Receive.{is_system}
use Rattle.spx_link.specs.Machine.{End, Packet, packet_now, one_more_sent}
use Rattle.spx_theory.specs.Tracks.{Core, Tracks}

-- a header has a packet's two numbers
pub record Spells (p : Packet) (h : SpxHeader) : Type 0 where
  pub ack : h.ack ≡ mark p.read
  pub limit : h.limit ≡ mark (p.allows + 65535)

-- a packet carries the unit of its position, or none
abbrev pub Carries : Option ℕ → List Unit → SpxHeader → List ℕ → Type 0
Carries None units h body = is_system h ≡ true
Carries (Some n) units h body =
    (is_system h ≡ false) × (h.seq ≡ mark n)
    × (slice_get units n
    ≡ Some (record { stream = h.stream; last = h.last; body = record { items = body } }))

-- the given packet is that of this position, and the link is its end after that
pub record Says (l : Core) (g : OutgoingView) (position : Option ℕ) (c d : End) : Type 0 where
  pub tracks : Tracks l c d
  pub spells : Spells (packet_now position c d) g.header
  pub carries : Carries position c.units g.header g.body

-- a poll gave a packet without a unit, with the next unit, or with one that is outstanding
abbrev pub Spoke : Sent → Core → OutgoingView → End → End → Type 0
Spoke Sents.Request l g c d = Says l g None c d
Spoke Sents.Reply l g c d = Says l g None c d
Spoke Sents.Confirm l g c d = Says l g None c d
Spoke Sents.Unit l g c d =
    (c.sent < c.limit) × (c.sent < length c.units) × Says l g (Some c.sent) (one_more_sent c) d
Spoke Sents.Again l g c d = (n : ℕ) × (c.base ≤ n) × (n < c.sent) × Says l g (Some n) c d
Spoke Sents.Ack l g c d = Says l g None c d
Spoke Sents.Probe l g c d = Says l g None c d

abbrev pub PolledTo : Option OutgoingView → Core → End → End → Type 0
PolledTo None l c d = Tracks l c d
PolledTo (Some g) l c d = Spoke g.what l g c d
