-- What one round of a running router does to its core and its clock, and how long it waits then. Defined by
-- this project.
use Rattle.std.specs.Prelude.{◌≡◌, ◌⊎◌, ℕ, ◌+◌, length, min, Bool, false, true, if◌then◌else◌, Option, Some, None}
use Rattle.ipx_carrier.specs.declared.datagrams.Datagrams as OfDevice
use Rattle.ipx_carrier.specs.declared.fault.RunFault.{RunFault}
use Rattle.ipx_carrier.specs.declared.report.Batch.{Batch}
use Rattle.ipx_carrier.specs.Driving.{BurstsBy}
use Rattle.ipx_ethernet_ports.specs.declared.end_sockets.EndSockets as OfSockets
use Rattle.ipx_ethernet_ports.specs.declared.sockets.EthernetSockets.{EthernetSockets}
use Rattle.ipx_ipxnet_ports.specs.declared.place_sockets.PlaceSockets as OfPlaces
use Rattle.ipx_ipxnet_ports.specs.declared.sockets.ServerSockets.{ServerSockets}
use Rattle.ipx_sockets.specs.declared.source_filter.SourceFilter.{SourceFilter}
use Rattle.ipx_sockets.specs.declared.sockets.UdpSockets.{UdpSockets}
use Rattle.ipx_sockets.specs.Moments.{IsTimeUntilDue}
use Rattle.ipx_site.specs.IdleTime.{IsToAskAgain}
use Rattle.ipx_site.specs.PortCalls.{FailsToReceiveAt, FailsToSendBy, ReceivesAtPort, SendsByPort}
use Rattle.ipx_site.specs.PortsView.{SitePortsRun, filtered_in_ports, ways_in}
use Rattle.ipx_site.specs.RouterPings.{BeginsTurns}
use Rattle.ipx_site.specs.SiteMarks.{marks_of_ports}
use Rattle.ipx_site.specs.SiteCore.{SiteAsksAgain, SiteCore, SiteGives, SiteHears, SiteHearOutOfMemory, SiteNextOutOfMemory}

-- its router gives the packets of its start once more if it is time to repeat them, and never otherwise
abbrev pub AsksAgain : ℕ → ℕ → ℕ → SiteCore → SiteCore → Type 0
AsksAgain now times times_after old new =
    (IsToAskAgain times now × (times_after ≡ times + 1) × SiteAsksAgain old new)
    ⊎ ((IsToAskAgain times now → ⊥) × (times_after ≡ times) × (new ≡ old))

-- one round, at the time at which the clock is stopped. It repeats requests if it is time. Its ports then have
-- that time, and send the pings that are due. It then takes a batch of at most 32 turns with such a stopped clock.
-- In each turn its ports receive and send as `ReceivesAtPort` and `SendsByPort` say, their count of drops never
-- falls, and a port loses its mark only if it gave nothing. Its core hears static entries when due, drops what
-- fails a source check, and limits queries and directed broadcasts
abbrev pub IsRound : {K : Type 0} {gd : OfDevice.Ghosts (SourceFilter UdpSockets)} {ge : OfSockets.Ghosts EthernetSockets} {gl : OfPlaces.Ghosts ServerSockets} → K → K → (K → ℕ → K → Type 0) → (K → ℕ → K → Type 0) → SitePortsRun gd ge gl → SitePortsRun gd ge gl → ℕ → ℕ → SiteCore → SiteCore → ℕ → Batch → Type 0
IsRound {K} {gd} {ge} {gl} clock clock_after stops tells ports ports_after times times_after old new moment b = (now : ℕ) × (tick : K)
    × (mid : SiteCore) × (begun : SitePortsRun gd ge gl) × stops clock now tick
    × (moment ≡ now) × AsksAgain now times times_after old mid × BeginsTurns now ports begun
    × BurstsBy SiteHears SiteHearOutOfMemory SiteGives SiteNextOutOfMemory tells
    ReceivesAtPort SendsByPort FailsToReceiveAt FailsToSendBy filtered_in_ports marks_of_ports (length old.core.core.core.router.ports) 1536
    (ways_in ports) 32 b begun ports_after tick clock_after mid new

-- how long it waits, and when. After a fault it waits 100 ms. After a batch that was not quiet it does not
-- wait, but learns where something came. After a quiet batch it stops the clock and waits as long as there is
-- nothing to do. If a port is still marked, which then fails, it waits at most 100 ms
abbrev pub SleepsAfter : {K : Type 0} → (ℕ → Type 0) → Bool → K → K → (K → ℕ → K → Type 0) → ℕ → Option RunFault → Bool → Type 0
SleepsAfter todo marked clock clock_after stops time (Some f) quiet =
    (time ≡ 100) × (clock_after ≡ clock)
SleepsAfter todo marked clock clock_after stops time None false =
    (time ≡ 0) × (clock_after ≡ clock)
SleepsAfter todo marked clock clock_after stops time None true = (now until : ℕ)
    × stops clock now clock_after × IsTimeUntilDue todo now until
    × (time ≡ (if marked then min until 100 else until))
