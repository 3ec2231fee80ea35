-- What is done with a datagram, without its place in memory.
use Rattle.std.specs.Prelude.{ℕ, List, []}
use Rattle.ipx_wire.specs.declared.address.Node.{Node}
use Rattle.ipx_router.specs.declared.outcome.Outcome.{Outcome}
use Rattle.ipx_router.specs.declared.outcome.Outcome.TheVariants as outcomes
use Rattle.ipx_router.specs.declared.reason.Reason.{Reason}
use Rattle.ipx_router.specs.RouterPackets.{SendingView, sendings}
use Rattle.ipx_router.specs.Ports.{AreOnPorts, IsPortNumber}

pub data OutcomeView : Type 0 where
  Forward : ℕ → Node → List ℕ → OutcomeView
  Replies : List SendingView → OutcomeView
  Heard : ℕ → OutcomeView
  Dropped : Reason → OutcomeView

abbrev pub router_outcome : Outcome → OutcomeView
router_outcome (outcomes.Forward r) = Forward r.port r.next r.bytes.items
router_outcome (outcomes.Replies rs) = Replies (sendings rs.items)
router_outcome (outcomes.Heard n) = Heard n
router_outcome (outcomes.Dropped reason) = Dropped reason

-- the packets that the router made itself: the replies, but not a packet that it forwards
abbrev pub replies_of : OutcomeView → List SendingView
replies_of (Forward port next bytes) = []
replies_of (Replies sent) = sent
replies_of (Heard n) = []
replies_of (Dropped reason) = []

-- what is sent leaves by a port that exists
abbrev pub IsOnPort : ℕ → OutcomeView → Type 0
IsOnPort count (Forward port next bytes) = IsPortNumber count port
IsOnPort count (Replies sent) = AreOnPorts count sent
IsOnPort count (Heard n) = Unit {0}
IsOnPort count (Dropped reason) = Unit {0}
