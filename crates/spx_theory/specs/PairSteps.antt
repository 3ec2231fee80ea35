-- Each call of a link is a step of the machine: receive of a recent packet, poll, take, offer and end.
use Rattle.std.specs.Prelude.{ℕ, ◌≡◌, ◌≢◌, ◌<◌, ◌≤◌, ◌+◌, ◌++◌, Bool, List, [], ◌∷◌, None, Some, slice_get}
use Rattle.ipx_wire.specs.declared.spx.packet.SpxHeader.{SpxHeader}
use Rattle.spx_link.specs.declared.unit.Unit.{Unit}
use Rattle.spx_link.specs.declared.received.Received.TheVariants.{Stranger}
use Rattle.spx_link.specs.Limits.{most_units, end_stream}
use Rattle.spx_link.specs.LinkView.{LinkView}
use Rattle.spx_link.specs.Poll.{poll_link}
use Rattle.spx_link.specs.Receive.{receive_link}
use Rattle.spx_link.specs.Offer.{refusal, offer_link, end_link, take_link, the_end}
use Rattle.spx_link.specs.Machine.{End, Packet, WasSent, AreSound, got}
use Rattle.spx_link.specs.Fresh.{IsRecentPacket}
use Rattle.spx_theory.specs.Tracks.{Formed, Follows, IsOpen, core}
use Rattle.spx_theory.specs.Spelling.{Spells, Carries, PolledTo}

-- the packet q of d, which c reads now: it is recent, and the header and body spell it
pub record IsReadNow (l : LinkView) (h : SpxHeader) (body : List ℕ) (q : Packet)
    (c d : End) : Type 0 where
  pub follows : Follows l c d
  pub line : AreSound c d
  pub was : WasSent d c q
  pub fresh : IsRecentPacket c d q
  pub small : d.buffers ≤ most_units
  pub formed : (closed : Bool) × Formed d.units closed
  pub spells : Spells q h
  pub carries : Carries q.position d.units h body

pub record Polled (l : LinkView) (now : ℕ) (c d : End) : Type 0 where
  pub to : PolledTo (poll_link l now).0 (core (poll_link l now).1) c d
  pub open' : IsOpen (poll_link l now).1

pub record TakesTo (l : LinkView) (u : Unit) (c d : End) : Type 0 where
  pub some : c.taken < c.read
  pub is : slice_get d.units c.taken ≡ Some u
  pub follows : Follows (take_link l).1 (record c { taken = c.taken + 1 }) d

-- a link that follows its end still follows it after each call
pub record StepLaws : Type 0 where
  pub receives : (l : LinkView) (h : SpxHeader) (body : List ℕ) (q : Packet) (c d : End)
      → IsReadNow l h body q c d → (receive_link l h body).0 ≢ Stranger
      → Follows (receive_link l h body).1 (got q c) d
  pub polls : (l : LinkView) (now : ℕ) (c d : End)
      → Follows l c d → AreSound c d → Polled l now c d
  pub takes : (l : LinkView) (u : Unit) (c d : End)
      → Follows l c d → AreSound c d → (take_link l).0 ≡ Some u → TakesTo l u c d
  pub offers : (l : LinkView) (us : List Unit) (c d : End)
      → Follows l c d → AreSound c d → refusal l.state ≡ None
      → ((k : ℕ) (u : Unit) → slice_get us k ≡ Some u → u.stream < end_stream)
      → Follows (offer_link l us) (record c { units = c.units ++ us }) d
  pub ends : (l : LinkView) (c d : End)
      → Follows l c d → AreSound c d → refusal l.state ≡ None
      → Follows (end_link l) (record c { units = c.units ++ the_end ∷ [] }) d
