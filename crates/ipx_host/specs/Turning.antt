-- What one turn of a running host does to its core, its clock and its port. The entry points are `TakesHostTurn`
-- and `DrivesTurn`. Nothing here is from a public standard.
use mathlib.Core.Logic.{inl, inr}
use Rattle.std.specs.Prelude.{◌≡◌, ◌<◌, ◌↔◌, ◌⊎◌, ℕ, IsTrue, false, true, List, [], ◌∷◌, Option}
use Rattle.ipx_carrier.specs.declared.fault.RunFault.TheVariants.{OutOfMemory}
use Rattle.ipx_carrier.specs.declared.report.Report.{Report}
use Rattle.ipx_carrier.specs.Counting.{raised}
use Rattle.ipx_carrier.specs.Counts.{report_of}
use Rattle.ipx_carrier.specs.Device.{Datagram}
use Rattle.ipx_carrier.specs.Turns.{FailsMidTurn, Given, IsTurn, Peers, Turn, by_ip}
use Rattle.ipx_sockets.specs.PortTurns.{DrivesPort, HostPort}
use Rattle.ipx_sockets.specs.Steady.{NeverGoesBack}
use Rattle.ipx_sockets.specs.declared.clock.SteadyClock.{SteadyClock}
use Rattle.ipx_host.specs.Barring.{HearAllowedOutOfMemory, HearsAllowed}
use Rattle.ipx_host.specs.Paced.{GivesOnceTold}
use Rattle.ipx_host.specs.declared.paced_host_core.PacedHostCore.{PacedHostCore}
use Rattle.ipx_host.specs.declared.running_host.Activity.{Activity}

-- a core of one port reads everything except requests from those who may not connect. It sends what its pacer
-- and its endpoint give, once the host has noted an accepted connection, and withholds nothing. If out of
-- memory, it loses a datagram as its endpoint does. It notes the last datagram, and the time
abbrev pub hears : PacedHostCore → ℕ → List ℕ → ℕ → PacedHostCore → Type 0
hears old port bytes now new = HearsAllowed old bytes now new

abbrev pub gives : PacedHostCore → ℕ → Option Given → PacedHostCore → Type 0
gives old now given new = GivesOnceTold old now given new

abbrev pub hear_out_of_memory : PacedHostCore → ℕ → List ℕ → ℕ → PacedHostCore → Type 0
hear_out_of_memory old port bytes now new = HearAllowedOutOfMemory old bytes now new

abbrev pub next_out_of_memory : PacedHostCore → ℕ → PacedHostCore → Type 0
next_out_of_memory old now new = ⊥

-- what is around the core of a host: its clock and its port
pub record Around (R : Type 0) : Type 0 where
  pub clock : SteadyClock R
  pub port : HostPort

abbrev pub around : {R : Type 0} → SteadyClock R → HostPort → Around R
around clock port = record { clock = clock; port = port }

-- a turn there: the clock is read once, and then the port is driven
abbrev pub DrivesTurn : {R : Type 0} → Around R → Turn → Around R → Type 0
DrivesTurn old t new = NeverGoesBack old.clock t.moment new.clock × DrivesPort old.port t new.port

-- the report of a whole turn: whether a datagram was read, and whether anything happened. Filtered datagrams
-- are not part of the report
pub record TellsOf (report : Report) (turn : Activity) : Type 0 where
  pub heard : IsTrue turn.heard ↔ (0 < report.heard)
  pub active : IsTrue turn.active
      ↔ ((0 < report.heard) ⊎ ((0 < report.sent) ⊎ ((0 < report.unmapped) ⊎ IsTrue turn.kept)))

-- one turn of a core, and of what is around it, with its report. If out of memory, it is only a part of a turn,
-- and nothing was read
abbrev pub TakesHostTurn : {K : Type 0} → K → K → (K → Turn → K → Type 0) → Peers → PacedHostCore → PacedHostCore → Activity → Type 0
TakesHostTurn before after drives peers old new turn =
    ((t : Turn) × IsTurn hears gives 1 t old new × drives before t after
    × TellsOf (report_of (by_ip peers) (t ∷ [])) turn)
    ⊎ ((t : Turn) × (sent : List Datagram)
    × FailsMidTurn hears hear_out_of_memory gives next_out_of_memory 1 (by_ip peers) t sent OutOfMemory old new
    × drives before t after × (turn.heard ≡ false) × (turn.active ≡ true))

-- how often a host ran out of memory, after a turn before which it was so often: once more if it was only a part
-- of a turn
abbrev pub refused_after : {Whole Part : Type 0} → Whole ⊎ Part → ℕ → ℕ
refused_after (inl whole) count = count
refused_after (inr part) count = raised count
