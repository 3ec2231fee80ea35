-- The turns of a core over ports with marks: what the ports answered, which the core heard, explains the
-- marks, and the driver goes from state to state by these answers and the packets that the core gave. The entry
-- points are `TakesMarkedTurn`, and `BreaksMarkedTurn` for a turn that a fault ends. Defined by this project.
use Rattle.std.specs.Prelude.{◌≡◌, ◌<◌, ◌⊎◌, ℕ, List, [], ◌∷◌, ◌++◌, length, Option}
use Rattle.ipx_carrier.specs.declared.fault.RunFault.{RunFault}
use Rattle.ipx_carrier.specs.declared.fault.RunFault.TheVariants.{Device, OutOfMemory}
use Rattle.ipx_carrier.specs.declared.report.Report.{Report}
use Rattle.ipx_carrier.specs.Counts.{heard_in, report_of}
use Rattle.ipx_carrier.specs.Device.{Reception}
use Rattle.ipx_carrier.specs.DriverTurns.{AsksEach, EndsAsking, SendsEach, SendsUntil}
use Rattle.ipx_carrier.specs.Readiness.{MarksFollow, Readiness}
use Rattle.ipx_carrier.specs.Turns.{FailsAtPort, FailsMidTurn, Given, HearsEach, IsTurn, Turn, Ways}

module _ {C S : Type 0} (hears : C → ℕ → List ℕ → ℕ → C → Type 0)
    (receives : S → ℕ → ℕ → Option (List ℕ) → S → Type 0) (marked : S → Readiness) where
  -- this many ports were asked in order, each into a buffer of this size. The core received what they gave, and
  -- the marks follow from it
  abbrev pub AsksMarkedPorts : ℕ → ℕ → ℕ → S → S → C → C → ℕ → Type 0
  AsksMarkedPorts now size ports driver driver_after old new count = (rs : List Reception) × (length rs ≡ ports)
      × HearsEach hears now 0 rs old new × (count ≡ heard_in rs) × MarksFollow rs (marked driver) (marked driver_after)
      × AsksEach receives size rs driver driver_after

module _ {C S : Type 0} (hears hear_out_of_memory : C → ℕ → List ℕ → ℕ → C → Type 0)
    (receives : S → ℕ → ℕ → Option (List ℕ) → S → Type 0) (fails_to_receive : S → ℕ → ℕ → S → Type 0)
    (marked : S → Readiness) where
  -- some of the ports were asked in order, the last one ended in a fault, and the marks follow from what they
  -- gave. If memory ran out, nothing more happened to the driver; otherwise it failed to receive at that port
  abbrev pub AsksSomeMarkedPorts : ℕ → ℕ → ℕ → RunFault → S → S → C → C → Type 0
  AsksSomeMarkedPorts now size ports fault driver driver_after old new = (heard last : List Reception) × (mid : C)
      × (length heard < ports) × HearsEach hears now 0 heard old mid
      × FailsAtPort hear_out_of_memory now (length heard) last fault mid new
      × MarksFollow (heard ++ last) (marked driver) (marked driver_after)
      × (asked : S) × AsksEach receives size (heard ++ last) driver asked
      × EndsAsking fails_to_receive (length heard) size fault asked driver_after

module _ {C K S : Type 0} (hears : C → ℕ → List ℕ → ℕ → C → Type 0)
    (gives : C → ℕ → Option Given → C → Type 0) (tells : K → ℕ → K → Type 0)
    (receives : S → ℕ → ℕ → Option (List ℕ) → S → Type 0) (sends : S → Given → S → Type 0)
    (marked : S → Readiness) (ports size : ℕ) where
  -- a whole turn: it reads the time once, and the report counts what it received and sent. The marks follow from
  -- its answers. Its ports gave just these answers, and just the packets of its core were sent then
  abbrev pub TakesMarkedTurn : {A : Type 0} → Ways A → S → S → K → K → C → C → Report → Type 0
  TakesMarkedTurn transmissions driver driver_after clock clock_after old new report = (t : Turn)
      × IsTurn hears gives ports t old new × tells clock t.moment clock_after
      × (report ≡ report_of transmissions (t ∷ [])) × MarksFollow t.answers (marked driver) (marked driver_after)
      × (asked : S) × AsksEach receives size t.answers driver asked × SendsEach sends t.packets asked driver_after

module _ {S : Type 0} (sends : S → Given → S → Type 0) (fails_to_receive : S → ℕ → ℕ → S → Type 0)
    (fails_to_send : S → Given → S → Type 0) where
  -- a fault ended a turn, after its ports gave their answers. If memory ran out, its packets were sent, and
  -- nothing more happened to the driver. If the driver failed, it failed to send the last packet; or, before any
  -- packet, to receive at the next port
  abbrev pub EndsTurn : ℕ → Turn → RunFault → S → S → Type 0
  EndsTurn size t OutOfMemory old new = SendsEach sends t.packets old new
  EndsTurn size t Device old new = SendsUntil sends fails_to_send t.packets Device old new
      ⊎ ((t.packets ≡ []) × fails_to_receive old (length t.answers) size new)

module _ {C K S : Type 0} (hears hear_out_of_memory : C → ℕ → List ℕ → ℕ → C → Type 0)
    (gives : C → ℕ → Option Given → C → Type 0) (next_out_of_memory : C → ℕ → C → Type 0)
    (tells : K → ℕ → K → Type 0) (receives : S → ℕ → ℕ → Option (List ℕ) → S → Type 0)
    (sends : S → Given → S → Type 0) (fails_to_receive : S → ℕ → ℕ → S → Type 0)
    (fails_to_send : S → Given → S → Type 0) (marked : S → Readiness) (ports size : ℕ) where
  -- a turn that a fault ends: it reads the time once, and the marks follow from the answers before the fault. Its
  -- ports gave just these, just the packets before the fault were sent then, and the driver is as the fault left it
  abbrev pub BreaksMarkedTurn : {A : Type 0} → Ways A → RunFault → S → S → K → K → C → C → Type 0
  BreaksMarkedTurn {A} transmissions fault driver driver_after clock clock_after old new = (t : Turn) × (sent : List A)
      × FailsMidTurn hears hear_out_of_memory gives next_out_of_memory ports transmissions t sent fault old new
      × tells clock t.moment clock_after × MarksFollow t.answers (marked driver) (marked driver_after)
      × (asked : S) × AsksEach receives size t.answers driver asked
      × EndsTurn sends fails_to_receive fails_to_send size t fault asked driver_after
