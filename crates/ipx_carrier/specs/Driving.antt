-- What one turn of a core over a device leaves, and what consecutive turns do for as long as there is work.
-- The entry points are `TakesTurn`, and `CanBegin` for when a turn is possible. `TakesTurnBy` and `CanBeginBy`
-- are the same over any port driver, and `BurstsBy` is a batch of turns. Defined by this project.
use Rattle.std.specs.Prelude.{◌≡◌, ◌<◌, ◌≤◌, ℕ, zero, suc, ◌+◌, ◌^◌, List, [], ◌∷◌, ◌++◌, length, sum_by, All, Bool, true, false, Option, Some, None, Result, Ok, Err}
use Rattle.ipx_carrier.specs.declared.fault.RunFault.{RunFault}
use Rattle.ipx_carrier.specs.declared.fault.RunFault.TheVariants.{Device, OutOfMemory}
use Rattle.ipx_carrier.specs.declared.report.Batch.{Batch}
use Rattle.ipx_carrier.specs.declared.report.Report.{Report}
use Rattle.ipx_carrier.specs.Counting.{counted}
use Rattle.ipx_carrier.specs.Device.{Traffic, TrafficOf}
use Rattle.ipx_carrier.specs.MarkedTurns.{BreaksMarkedTurn, TakesMarkedTurn}
use Rattle.ipx_carrier.specs.Readiness.{Readiness}
use Rattle.ipx_carrier.specs.Turns.{Given, Peers, Ways, by_ip}
use Rattle.ipx_carrier.specs.Runs.{EndsEarlyBy, RunsBy}

-- a turn can begin over a port driver: it has as many ports as the core, and can count one more failure
abbrev pub CanBeginBy : ℕ → ℕ → ℕ → Type 0
CanBeginBy ports driver_ports failed = (driver_ports ≡ ports) × (failed + 1 < 2 ^ 64)

-- a turn can begin: the device and the lists of peers are for as many ports as the core has, and the device
-- can count one more failure
abbrev pub CanBegin : ℕ → ℕ → ℕ → ℕ → Type 0
CanBegin ports device_ports peer_lists failed =
    (device_ports ≡ ports) × (peer_lists ≡ ports) × (failed + 1 < 2 ^ 64)

module _ {C : Type 0} (hears hear_out_of_memory : C → ℕ → List ℕ → ℕ → C → Type 0)
    (gives : C → ℕ → Option Given → C → Type 0) (next_out_of_memory : C → ℕ → C → Type 0)
    {K : Type 0} (tells : K → ℕ → K → Type 0) (ports : ℕ) where
  -- one turn, as `run` takes it; or a part of one, which a fault ends
  abbrev pub TakesTurnBy : {A : Type 0} → Ways A → Option (TrafficOf A) → Option (TrafficOf A) → K → K
      → C → C → Result Report RunFault → Type 0
  TakesTurnBy transmissions before after clock clock_after old new (Ok report) =
      RunsBy hears gives tells ports transmissions 1 before after clock clock_after old new report
  TakesTurnBy transmissions before after clock clock_after old new (Err fault) =
      EndsEarlyBy hears hear_out_of_memory gives next_out_of_memory tells ports transmissions 1 before after clock clock_after fault old new

  abbrev pub TakesTurn : Peers → Option Traffic → Option Traffic → K → K → C → C → Result Report RunFault
      → Type 0
  TakesTurn peers = TakesTurnBy (by_ip peers)

-- a batch of no turns
abbrev pub no_turns : Batch
no_turns = record { heard = 0; sent = 0; unmapped = 0; fault = None; quiet = false }

-- the batch if no turn can begin: the first turn fails, if there is one to take
abbrev pub refused : ℕ → Batch
refused zero = no_turns
refused (suc n) = record no_turns { fault = Some Device }

-- how often a device has failed after a batch that this ended
abbrev pub failed_after : Option RunFault → ℕ → ℕ
failed_after None before = before
failed_after (Some OutOfMemory) before = before
failed_after (Some Device) before = before + 1

-- a whole turn: its report, and how many datagrams its device had filtered before and after
pub record TurnTaken : Type 0 where
  pub report : Report
  pub before : ℕ
  pub after : ℕ

-- the turn received, sent and filtered nothing
abbrev pub IsIdle : TurnTaken → Type 0
IsIdle t = (t.report.heard ≡ 0) × (t.report.sent ≡ 0) × (t.after ≡ t.before)

-- none of these turns is idle
abbrev pub AreBusy : List TurnTaken → Type 0
AreBusy turns = All (λ t. IsIdle t → ⊥) turns

-- the last of these turns is idle, and no other
abbrev pub EndsIdle : List TurnTaken → Type 0
EndsIdle turns = (busy : List TurnTaken) × (last : TurnTaken) × (turns ≡ busy ++ last ∷ [])
    × AreBusy busy × IsIdle last

-- a batch counts what its whole turns report
abbrev pub CountsTurns : List TurnTaken → Batch → Type 0
CountsTurns turns b = (b.heard ≡ counted (sum_by (λ t. t.report.heard) turns))
    × (b.sent ≡ counted (sum_by (λ t. t.report.sent) turns))
    × (b.unmapped ≡ counted (sum_by (λ t. t.report.unmapped) turns))

-- why no further turn is taken, of at most `most`: a fault ended one, the last one was idle, or `most` were
-- taken. No earlier one was idle
abbrev pub Stops : ℕ → List TurnTaken → Option RunFault → Bool → Type 0
Stops most turns (Some f) quiet = (length turns < most) × AreBusy turns × (quiet ≡ false)
Stops most turns None true = (length turns ≤ most) × EndsIdle turns
Stops most turns None false = (length turns ≡ most) × AreBusy turns

module _ {C K S : Type 0} (hears : C → ℕ → List ℕ → ℕ → C → Type 0)
    (gives : C → ℕ → Option Given → C → Type 0) (tells : K → ℕ → K → Type 0)
    (receives : S → ℕ → ℕ → Option (List ℕ) → S → Type 0) (sends : S → Given → S → Type 0)
    (filtered : S → ℕ) (marked : S → Readiness) (ports size : ℕ) where
  -- consecutive whole turns, each from the driver that the turn before left. The driver's count of filtered
  -- datagrams never falls, and the marks of its ports follow from what they answer in each turn
  abbrev pub ChainBy : {A : Type 0} → Ways A → List TurnTaken → S → S → K → K → C → C → Type 0
  ChainBy transmissions [] driver driver_after clock clock_after old new =
      (driver_after ≡ driver) × (clock_after ≡ clock) × (new ≡ old)
  ChainBy transmissions (t ∷ ts) driver driver_after clock clock_after old new =
      (there : S) × (tick : K) × (mid : C)
      × (t.before ≡ filtered driver) × (t.after ≡ filtered there) × (t.before ≤ t.after)
      × TakesMarkedTurn hears gives tells receives sends marked ports size transmissions driver there clock tick old mid t.report
      × ChainBy transmissions ts there driver_after tick clock_after mid new

module _ {C K S : Type 0} (hears hear_out_of_memory : C → ℕ → List ℕ → ℕ → C → Type 0)
    (gives : C → ℕ → Option Given → C → Type 0) (next_out_of_memory : C → ℕ → C → Type 0)
    (tells : K → ℕ → K → Type 0) (receives : S → ℕ → ℕ → Option (List ℕ) → S → Type 0)
    (sends : S → Given → S → Type 0) (fails_to_receive : S → ℕ → ℕ → S → Type 0)
    (fails_to_send : S → Given → S → Type 0) (filtered : S → ℕ) (marked : S → Readiness) (ports size : ℕ)
    {A : Type 0} (transmissions : Ways A) where
  -- no fault, and nothing more happens; or a fault ends a turn that had begun
  abbrev pub EndsBy : Option RunFault → S → S → K → K → C → C → Type 0
  EndsBy None driver driver_after clock clock_after old new =
      (driver_after ≡ driver) × (clock_after ≡ clock) × (new ≡ old)
  EndsBy (Some f) driver driver_after clock clock_after old new = (filtered driver ≤ filtered driver_after)
      × BreaksMarkedTurn hears hear_out_of_memory gives next_out_of_memory tells receives sends fails_to_receive fails_to_send marked ports size transmissions f driver driver_after clock clock_after old new

  -- at most `most` whole turns, which are counted, and then that end
  abbrev pub BurstsBy : ℕ → Batch → S → S → K → K → C → C → Type 0
  BurstsBy most b driver driver_after clock clock_after old new = (turns : List TurnTaken)
      × (there : S) × (tick : K) × (mid : C)
      × ChainBy hears gives tells receives sends filtered marked ports size transmissions turns driver there clock tick old mid
      × EndsBy b.fault there driver_after tick clock_after mid new
      × CountsTurns turns b × Stops most turns b.fault b.quiet
