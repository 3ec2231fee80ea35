-- The laws of lower crates that the proofs here use: of the machine and of one link. Each field is a clause
-- of a public function of `spx_link` or `spx_theory`.
use Rattle.std.specs.Prelude.{ℕ, ◌≡◌, List}
use Rattle.ipx_wire.specs.declared.spx.packet.SpxHeader.{SpxHeader}
use Rattle.spx_link.specs.ByClock.{pace_of}
use Rattle.spx_link.specs.PolledPackets.{StaysOrIsLost}
use Rattle.spx_link.specs.LinkView.{LinkView}
use Rattle.spx_link.specs.Poll.{poll_link}
use Rattle.spx_link.specs.Receive.{receive_link}
use Rattle.spx_link.specs.Units.{SameEndings, SameUnits}
use Rattle.spx_link.specs.Machine.{End, Machine, Packet, Step, IsStep, WasSent, AreSound, got}
use Rattle.spx_theory.specs.Allowances.{AllowanceLaws}
use Rattle.spx_theory.specs.PairSteps.{StepLaws}

pub record LinkLaws : Type 0 where
  -- the machine, one step at a time
  pub step : (s : Step) (m n : Machine)
      → IsStep s m n → AreSound m.one m.two → AreSound n.one n.two
  pub gets : (c d : End) (p : Packet) → AreSound c d → WasSent d c p → AreSound (got p c) d
  -- a link and its end of it
  pub steps : StepLaws
  -- what each call of a link keeps
  pub allowances : AllowanceLaws
  pub units : (l : LinkView) (now : ℕ) → SameUnits l (poll_link l now).1
  pub endings : (l : LinkView) (now : ℕ) → SameEndings l (poll_link l now).1
  pub state : (l : LinkView) (now : ℕ)
      → StaysOrIsLost l.state (poll_link l now).1.state (poll_link l now).0
  -- a read keeps the window and the way of retransmission
  pub paces : (l : LinkView) (h : SpxHeader) (body : List ℕ)
      → pace_of (receive_link l h body).1 ≡ pace_of l
