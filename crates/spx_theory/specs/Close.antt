-- The close of a connection (Novell SPX: end of connection and its confirmation): the units of a confirmed
-- end were all read, and an end that took its peer's end took everything.
use Rattle.std.specs.Prelude.{ℕ, ◌≡◌, ◌⊎◌, true, [], ◌++◌, length, Contains}
use Rattle.spx_link.specs.declared.unit.Unit.{Unit}
use Rattle.spx_link.specs.declared.state.State.TheVariants.{Confirmed}
use Rattle.spx_link.specs.Limits.{end_stream}
use Rattle.spx_link.specs.LinkView.{LinkView}
use Rattle.spx_link.specs.Machine.{End}
use Rattle.spx_messages.specs.Joining.{join_all}
use Rattle.spx_theory.specs.Note.{TakesUnit, AsksEnd}
use Rattle.spx_theory.specs.Scan.{scan}
use Rattle.spx_theory.specs.Peers.{AreJoined, ArePeers, Premises}
use Rattle.spx_theory.specs.Handed.{handed_in, handed_out, units_of}
use Rattle.spx_theory.specs.Scene.{Scene, PresentEnd, IsPresent}
use Rattle.spx_theory.specs.InStep.{pair_in}

-- every message of c was handed out at d, or is complete in what d has as partial message and holds
abbrev pub HoldsAll : Scene → ℕ → ℕ → Type 0
HoldsAll s c d = (e : PresentEnd) (l : LinkView) → IsPresent s d e l
    → (handed_in c s.log
    ≡ handed_out d s.log ++ (join_all (record { messages = []; rest = e.rest }) l.held).messages)

-- c has the peer d, whose end of the machine is `two`: c's end was asked for, d read all units of c and has
-- all its messages
pub record IsClosed (s : Scene) (c d : ℕ) (two : End) : Type 0 where
  pub peers : ArePeers s.log c d
  pub asked : Contains s.log (AsksEnd c)
  pub all : two.read ≡ length (units_of c s.log)
  pub holds : HoldsAll s c d

-- d's end in the machine of the two, whichever dialled
abbrev pub IsEndInMachine : Scene → ℕ → ℕ → End → Type 0
IsEndInMachine s d c two =
    (AreJoined (scan s.log) c d × (two ≡ (pair_in s c d).two.end))
    ⊎ (AreJoined (scan s.log) d c × (two ≡ (pair_in s d c).one.end))

abbrev pub ConfirmedIsRead : Scene → Type 0
ConfirmedIsRead s =
    Premises s.log → (c : ℕ) (e : PresentEnd) (l : LinkView) → IsPresent s c e l → l.state ≡ Confirmed
    → (d : ℕ) × (two : End) × IsEndInMachine s d c two × IsClosed s c d two

-- even if no confirmation arrived: the end was queued, and the queue is empty
abbrev pub AcknowledgedIsRead : Scene → Type 0
AcknowledgedIsRead s =
    Premises s.log → (c : ℕ) (e : PresentEnd) (l : LinkView) → IsPresent s c e l
    → l.end_queued ≡ true → l.queue ≡ []
    → (d : ℕ) × (two : End) × IsEndInMachine s d c two × IsClosed s c d two

abbrev pub EndTakenIsWhole : Scene → Type 0
EndTakenIsWhole s =
    Premises s.log → (d : ℕ) (u : Unit) → Contains s.log (TakesUnit d u) → u.stream ≡ end_stream
    → (c : ℕ) × ArePeers s.log c d × (handed_out d s.log ≡ handed_in c s.log)
