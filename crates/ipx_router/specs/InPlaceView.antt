-- What is done with a datagram in a buffer that the router may change, without its place in memory.
use Rattle.std.specs.Prelude.{◌≡◌, ◌≤◌, ℕ, List, length, take, drop}
use Rattle.ipx_router.specs.declared.outcome.InPlace.{InPlace}
use Rattle.ipx_router.specs.declared.outcome.InPlace.TheVariants as in_place
use Rattle.ipx_router.specs.RouterPackets.{sendings}
use Rattle.ipx_router.specs.OutcomeView.{OutcomeView, Forward, Replies, Heard, Dropped}

-- the answer, with the bytes of the buffer after the call: a forwarded packet is the first `count` of them
abbrev pub outcome_in : List ℕ → InPlace → OutcomeView
outcome_in room (in_place.Forward port next count) = Forward port next (take count room)
outcome_in room (in_place.Replies rs) = Replies (sendings rs.items)
outcome_in room (in_place.Heard n) = Heard n
outcome_in room (in_place.Dropped reason) = Dropped reason

-- only a forwarded packet is changed: bytes after it stay, and if none is forwarded all bytes stay
abbrev pub ChangesOnlyPacket : List ℕ → List ℕ → InPlace → Type 0
ChangesOnlyPacket old new (in_place.Forward port next count) =
    (count ≤ length old) × (drop count new ≡ drop count old)
ChangesOnlyPacket old new (in_place.Replies rs) = new ≡ old
ChangesOnlyPacket old new (in_place.Heard n) = new ≡ old
ChangesOnlyPacket old new (in_place.Dropped reason) = new ≡ old
