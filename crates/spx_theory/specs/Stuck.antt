-- No state that a network reaches is stuck: whatever was lost, duplicated or delayed before, rounds without
-- loss are enough for what an end has queued.
use Rattle.std.specs.Prelude.{ℕ, ◌≤◌, ◌≡◌, List, length, drop}
use Rattle.spx_link.specs.declared.unit.Unit.{Unit}
use Rattle.spx_link.specs.declared.state.State.TheVariants as States
use Rattle.spx_link.specs.ByClock.{IsUnpaced}
use Rattle.spx_link.specs.LinkView.{LinkView}
use Rattle.spx_theory.specs.Addresses.{AddressesDiffer, NothingReleased}
use Rattle.spx_theory.specs.Handed.{taken_of, units_of}
use Rattle.spx_theory.specs.Note.{Note}
use Rattle.spx_theory.specs.Peers.{ArePeers, IsFresh, NothingInjected, Premises}
use Rattle.spx_theory.specs.Scene.{Scene, PresentEnd, IsPresent}
use Rattle.spx_theory.specs.RoundsDeliver.{HasNotGivenUp, IsDelivered, IsSending}
use Rattle.spx_theory.specs.LosslessRounds.{LosslessRounds, rounds_for}

-- the links of an end and its peer: the first still sends, the second is live, neither has given up, and
-- both have the window and the retransmission of a new link
pub record CanGoOn (a b : LinkView) : Type 0 where
  pub sends : IsSending a.state
  pub live : b.state ≡ States.Live
  pub first : HasNotGivenUp a
  pub second : HasNotGivenUp b
  pub unpaced : IsUnpaced a
  pub unpaced_b : IsUnpaced b

-- the units of c that d has not taken
abbrev pub untaken : ℕ → ℕ → List Note → List Unit
untaken c d log = drop (length (taken_of d log)) (units_of c log)

-- so many rounds of the links of c and its peer d deliver everything that c's user handed in
abbrev pub PeersGoOn : Scene → Type 0
PeersGoOn s =
    (c d : ℕ) → ArePeers s.log c d → (e f : PresentEnd) (a b a' b' : LinkView)
    → IsPresent s c e a → IsPresent s d f b → CanGoOn a b
    → (moments : List ℕ) (units_b units_a : List Unit) → LosslessRounds a b moments a' b' units_b units_a
    → rounds_for a b ≤ length moments → IsDelivered a b a' b' (untaken c d s.log) units_b

abbrev pub NoStateIsStuck : Scene → Type 0
NoStateIsStuck s = Premises s.log → PeersGoOn s

-- in both directions at once, if both are live
abbrev pub NoPairIsStuck : Scene → Type 0
NoPairIsStuck s =
    Premises s.log → (c d : ℕ) → ArePeers s.log c d → (e f : PresentEnd) (a b a' b' : LinkView)
    → IsPresent s c e a → IsPresent s d f b → CanGoOn a b → CanGoOn b a
    → (moments : List ℕ) (units_b units_a : List Unit) → LosslessRounds a b moments a' b' units_b units_a
    → rounds_for a b ≤ length moments → rounds_for b a ≤ length moments
    → IsDelivered a b a' b' (untaken c d s.log) units_b
    × IsDelivered b a b' a' (untaken d c s.log) units_a

-- if addresses identify ends, as `spx_theory`'s law says, no premise is needed about whose packets are read
abbrev pub NothingIsStuckByAddresses : Scene → Type 0
NothingIsStuckByAddresses s =
    AddressesDiffer s → NothingReleased s.log → NothingInjected s.log → IsFresh s.log → PeersGoOn s
