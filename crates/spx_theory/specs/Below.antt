-- The laws of lower crates that the proofs here use: of bytes, of the machine and of one link. Each field is
-- a clause of a public function of `ipx_wire`, `spx_link` or `spx_theory`.
use Rattle.std.specs.Prelude.{ℕ, ◌≡◌, List}
use Rattle.ipx_wire.specs.Connection.{IsConnectionPacket, sequence_in}
use Rattle.ipx_wire.specs.Ipx.{PacketView, IsIpx}
use Rattle.ipx_wire.specs.Spx.{IsSpx}
use Rattle.ipx_wire.specs.declared.spx.packet.SpxHeader.{SpxHeader}
use Rattle.spx_link.specs.Machine.{End, Machine, Packet, Step, Grows, IsRun, IsStep, WasSent, AreSound, new_end, got}
use Rattle.spx_theory.specs.Allowances.{AllowanceLaws}
use Rattle.spx_theory.specs.Confirmed.{CloseLaws}
use Rattle.spx_theory.specs.Lasting.{LastingLaws}
use Rattle.spx_theory.specs.Names.{NameLaws}
use Rattle.spx_theory.specs.PairQueues.{QueueLaws}
use Rattle.spx_theory.specs.States.{StateLaws}
use Rattle.spx_theory.specs.PairSteps.{StepLaws}

pub record LawsBelow : Type 0 where
  -- bytes are at most one packet
  pub one_packet : (p q : PacketView) (bytes s t : List ℕ)
      → IsIpx p bytes s → IsIpx q bytes t → (p ≡ q) × (s ≡ t)
  pub one_spx : (h k : SpxHeader) (body other bytes : List ℕ)
      → IsSpx h body bytes → IsSpx k other bytes → (h ≡ k) × (body ≡ other)
  pub sequence : (p : PacketView) (h : SpxHeader) (body bytes : List ℕ)
      → IsConnectionPacket p h body bytes → sequence_in bytes ≡ h.seq
  -- the machine, one step at a time
  pub start : (a b : ℕ) → AreSound (new_end a) (new_end b)
  pub step : (s : Step) (m n : Machine)
      → IsStep s m n → AreSound m.one m.two → AreSound n.one n.two
  pub gets : (c d : End) (p : Packet) → AreSound c d → WasSent d c p → AreSound (got p c) d
  pub grows_one : (steps : List Step) (m n : Machine) → IsRun steps m n → Grows m.one n.one
  pub grows_two : (steps : List Step) (m n : Machine) → IsRun steps m n → Grows m.two n.two
  -- a link
  pub steps : StepLaws
  pub states : StateLaws
  pub queues : QueueLaws
  pub names : NameLaws
  pub lasting : LastingLaws
  pub close : CloseLaws
  pub allowances : AllowanceLaws
