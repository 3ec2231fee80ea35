-- The laws of lower crates that the proofs here use: of one link, of the machine and of a pacer. Each field is a
-- clause of a public function of `spx_link`, `spx_congestion` or `spx_theory`.
use Rattle.std.specs.Prelude.{ℕ, ◌≡◌, List, length}
use Rattle.ipx_wire.specs.declared.spx.packet.SpxHeader.{SpxHeader}
use Rattle.spx_link.specs.Effects.{numbers_after_poll, numbers_after_received}
use Rattle.spx_link.specs.LinkTurns.{newly_held}
use Rattle.spx_link.specs.LinkView.{LinkView, numbers_of}
use Rattle.spx_link.specs.Poll.{poll_link}
use Rattle.spx_link.specs.Receive.{receive_link}
use Rattle.spx_congestion.specs.Saving.{PlansGoOn}
use Rattle.spx_congestion.specs.Waiting.{WaitsAreBounded}
use Rattle.spx_theory.specs.LinkLaws.{LinkLaws}

pub record PacingLaws : Type 0 where
  pub links : LinkLaws
  pub goes_on : PlansGoOn
  pub waits : WaitsAreBounded
  pub numbers : (l : LinkView) (h : SpxHeader) (body : List ℕ)
      → numbers_of (receive_link l h body).1
      ≡ numbers_after_received (receive_link l h body).0 (length (newly_held l h body)) h (numbers_of l)
  pub polled : (l : LinkView) (now : ℕ)
      → numbers_of (poll_link l now).1 ≡ numbers_after_poll (poll_link l now).0 (numbers_of l)
