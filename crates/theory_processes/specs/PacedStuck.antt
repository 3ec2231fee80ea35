-- No state that a network reaches is stuck for a sender that is paced: whatever was lost, duplicated or delayed before,
-- rounds with plans are enough for what an end has queued. Defined by this project.
use Rattle.std.specs.Prelude.{ℕ, ◌≤◌, ◌≡◌, List, length}
use Rattle.spx_link.specs.declared.unit.Unit.{Unit}
use Rattle.spx_link.specs.declared.state.State.TheVariants as States
use Rattle.spx_link.specs.ByClock.{IsUnpaced}
use Rattle.spx_link.specs.LinkView.{LinkView}
use Rattle.spx_congestion.specs.Pacing.{PacerView}
use Rattle.spx_theory.specs.Peers.{ArePeers, Premises}
use Rattle.spx_theory.specs.RoundsDeliver.{HasNotGivenUp, IsDelivered, IsSending}
use Rattle.spx_theory.specs.Scene.{Scene, PresentEnd, IsPresent}
use Rattle.spx_theory.specs.Stuck.{untaken}
use Rattle.theory_processes.specs.PacedDelivers.{CanPace, HasNotGivenUpManually, paced_rounds_for}
use Rattle.theory_processes.specs.PacedRounds.{PacedRounds}

-- the links of an end and its peer, and the pacer of the first: the first still sends, the second is live and nobody
-- paces it, and none has given up
pub record CanGoOnPaced (a : LinkView) (p : PacerView) (b : LinkView) : Type 0 where
  pub sends : IsSending a.state
  pub live : b.state ≡ States.Live
  pub first : HasNotGivenUpManually a
  pub second : HasNotGivenUp b
  pub unpaced_b : IsUnpaced b
  pub paces : CanPace p (length a.queue)

-- so many rounds of the links of c and its peer d deliver everything that c's user handed in
abbrev pub NoPacedStateIsStuck : Scene → Type 0
NoPacedStateIsStuck s =
    Premises s.log → (c d : ℕ) → ArePeers s.log c d → (e f : PresentEnd) (a b a' b' : LinkView) (p p' : PacerView)
    → IsPresent s c e a → IsPresent s d f b → CanGoOnPaced a p b
    → (moments : List ℕ) (units_b units_a : List Unit) → PacedRounds a p b moments a' p' b' units_b units_a
    → paced_rounds_for a ≤ length moments → IsDelivered a b a' b' (untaken c d s.log) units_b
