-- One round of a running router.
use Rattle.std.proofs.Common.{◌≡◌, ◌∙◌, ℕ, List, length, min, Bool, true, false, if◌then◌else◌, Option, Some, None, is_some, sym, ap, subst, inl, inr}
use Rattle.ipx_carrier.specs.declared.datagrams.Datagrams as OfDevice
use Rattle.ipx_carrier.specs.declared.fault.RunFault.{RunFault}
use Rattle.ipx_carrier.specs.Turns.{Ways}
use Rattle.ipx_carrier.specs.declared.report.Batch.{Batch}
use Rattle.ipx_carrier.specs.Driving.{BurstsBy}
use Rattle.ipx_ethernet_ports.specs.declared.end_sockets.EndSockets as OfSockets
use Rattle.ipx_ethernet_ports.specs.declared.sockets.EthernetSockets.{EthernetSockets}
use Rattle.ipx_ipxnet_ports.specs.declared.place_sockets.PlaceSockets as OfPlaces
use Rattle.ipx_ipxnet_ports.specs.declared.sockets.ServerSockets.{ServerSockets}
use Rattle.ipx_sockets.specs.declared.source_filter.SourceFilter.{SourceFilter}
use Rattle.ipx_sockets.specs.declared.sockets.UdpSockets.{UdpSockets}
use Rattle.ipxnet_server.specs.ServerHears.{ServerView}
use Rattle.ipx_site.specs.IdleTime.{Deadlines, EventCounts, IsDue, deadlines}
use Rattle.ipx_sockets.specs.Moments.{IsTimeUntilDue}
use Rattle.ipx_site.specs.declared.client_log.ClientLog.{ClientLog}
use Rattle.ipx_site.specs.declared.warnings.Warnings.{Warnings}
use Rattle.ipx_site.specs.SiteCore.{SiteCore, SiteGives, SiteHears, SiteHearOutOfMemory, SiteNextOutOfMemory}
use Rattle.ipx_site.specs.PortCalls.{FailsToReceiveAt, FailsToSendBy, ReceivesAtPort, SendsByPort}
use Rattle.ipx_site.specs.PortsView.{SitePortsRun, filtered_in_ports, ways_in}
use Rattle.ipx_site.specs.RouterPings.{BeginsTurns}
use Rattle.ipx_site.specs.RouterPorts.{PortCopy}
use Rattle.ipx_site.specs.RouterRounds.{AsksAgain, IsRound, SleepsAfter}
use Rattle.ipx_site.specs.SiteMarks.{marks_of_ports}

-- a core that repeats its requests keeps its ports
pub same_ports : (now times times_after : ℕ) (old mid : SiteCore) → AsksAgain now times times_after old mid
    → length mid.core.core.core.router.ports ≡ length old.core.core.core.router.ports
same_ports now times times_after old mid (inl h) = ap (λ (v : SiteCore). length v.core.core.core.router.ports) h.2
same_ports now times times_after old mid (inr h) = ap (λ (v : SiteCore). length v.core.core.core.router.ports) h.2

module _ {K : Type 0} {gd : OfDevice.Ghosts (SourceFilter UdpSockets)} {ge : OfSockets.Ghosts EthernetSockets} {gl : OfPlaces.Ghosts ServerSockets} (stops tells : K → ℕ → K → Type 0) where
  pub is_round : (ports begun ports_after : SitePortsRun gd ge gl) (clock told tick clock_after : K) (now moment times times_after : ℕ) (old mid new : SiteCore) (b : Batch)
      → stops clock now told → tick ≡ told → moment ≡ now → AsksAgain now times times_after old mid → BeginsTurns now ports begun → ways_in begun ≡ ways_in ports
      → BurstsBy SiteHears SiteHearOutOfMemory SiteGives SiteNextOutOfMemory tells ReceivesAtPort SendsByPort FailsToReceiveAt FailsToSendBy filtered_in_ports marks_of_ports (length mid.core.core.core.router.ports) 1536 (ways_in begun) 32 b begun ports_after tick clock_after mid new
      → IsRound clock clock_after stops tells ports ports_after times times_after old new moment b
  is_round ports begun ports_after clock told tick clock_after now moment times times_after old mid new b h e m asks begins same bursts =
      let at = subst (λ (n : ℕ). BurstsBy SiteHears SiteHearOutOfMemory SiteGives SiteNextOutOfMemory tells ReceivesAtPort SendsByPort FailsToReceiveAt FailsToSendBy filtered_in_ports marks_of_ports n 1536 (ways_in begun) 32 b begun ports_after tick clock_after mid new)
      (same_ports now times times_after old mid asks) bursts in
      let by = subst (λ (it : Ways PortCopy). BurstsBy SiteHears SiteHearOutOfMemory SiteGives SiteNextOutOfMemory tells ReceivesAtPort SendsByPort FailsToReceiveAt FailsToSendBy filtered_in_ports marks_of_ports (length old.core.core.core.router.ports) 1536 it 32 b begun ports_after tick clock_after mid new) same at in
      (now, tick, mid, begun, subst (λ it. stops clock now it) (sym e) h, m, asks, begins, by)

  -- what holds of a round and the wait after it does not depend on what stays the same after them
  pub round_then : (ports ended : SitePortsRun gd ge gl) (clock clock' : K) (asked asked' asked'' : ℕ) (old new new' : SiteCore) (moment moment' : ℕ) (b : Batch)
      → asked'' ≡ asked' → new' ≡ new → moment' ≡ moment
      → IsRound clock clock' stops tells ports ended asked asked' old new moment b → IsRound clock clock' stops tells ports ended asked asked'' old new' moment' b
  round_then ports ended clock clock' asked asked' asked'' old new new' moment moment' b f g h round =
      let one = subst (λ it. IsRound clock clock' stops tells ports ended asked it old new moment b) (sym f) round in
      let two = subst (λ it. IsRound clock clock' stops tells ports ended asked asked'' old it moment b) (sym g) one in
      subst (λ it. IsRound clock clock' stops tells ports ended asked asked'' old new' it b) (sym h) two

-- how long a router waits, by how its batch ended
pub rests : {K : Type 0} (todo : ℕ → Type 0) (marked : Bool) (clock clock' : K) (stops : K → ℕ → K → Type 0) (asked : ℕ)
    (fault : Option RunFault) (quiet : Bool) → is_some fault ≡ true → asked ≡ 100 → clock' ≡ clock
    → SleepsAfter todo marked clock clock' stops asked fault quiet
rests todo marked clock clock' stops asked (Some f) quiet e at same = (at, same)
rests todo marked clock clock' stops asked None quiet e at same = absurd (cc)

pub sleeps : {K : Type 0} (todo : ℕ → Type 0) (marked : Bool) (clock clock' : K) (stops : K → ℕ → K → Type 0) (asked : ℕ)
    (fault : Option RunFault) (quiet : Bool) → is_some fault ≡ false → quiet ≡ true → (now time : ℕ) → stops clock now clock'
    → IsTimeUntilDue todo now time → asked ≡ (if marked then min time 100 else time) → SleepsAfter todo marked clock clock' stops asked fault quiet
sleeps todo marked clock clock' stops asked (Some f) quiet e q now time told time_until_due at = absurd (cc)
sleeps todo marked clock clock' stops asked None true e q now time told time_until_due at = (now, time, told, time_until_due, at)
sleeps todo marked clock clock' stops asked None false e q now time told time_until_due at = absurd (cc)

pub goes_on : {K : Type 0} (todo : ℕ → Type 0) (marked : Bool) (clock clock' : K) (stops : K → ℕ → K → Type 0) (asked : ℕ)
    (fault : Option RunFault) (quiet : Bool) → is_some fault ≡ false → quiet ≡ false → asked ≡ 0 → clock' ≡ clock
    → SleepsAfter todo marked clock clock' stops asked fault quiet
goes_on todo marked clock clock' stops asked (Some f) quiet e q at same = absurd (cc)
goes_on todo marked clock clock' stops asked None true e q at same = absurd (cc)
goes_on todo marked clock clock' stops asked None false e q at same = (at, same)

pub sleeps_then : {K : Type 0} (a b : Deadlines) (marked : Bool) (clock clock' : K) (stops : K → ℕ → K → Type 0) (asked : ℕ)
    (fault : Option RunFault) (quiet : Bool) → b ≡ a → SleepsAfter (IsDue a) marked clock clock' stops asked fault quiet
    → SleepsAfter (IsDue b) marked clock clock' stops asked fault quiet
sleeps_then a b marked clock clock' stops asked fault quiet e h =
    subst (λ it. SleepsAfter (IsDue it) marked clock clock' stops asked fault quiet) (sym e) h

-- deadlines, part by part
pub same_deadlines : (asked asked' : ℕ) (looked looked' : Option ℕ) (responses responses' : ℕ) (written written' : Option ℕ)
    (core core' : SiteCore) (warnings warnings' : Warnings) (clients clients' : ClientLog) (count count' : EventCounts) (servers servers' : List ServerView)
    → asked' ≡ asked → looked' ≡ looked → responses' ≡ responses → written' ≡ written → core' ≡ core → warnings' ≡ warnings → clients' ≡ clients → count' ≡ count → servers' ≡ servers
    → deadlines asked' looked' responses' written' core' warnings' clients' count' servers' ≡ deadlines asked looked responses written core warnings clients count servers
same_deadlines asked asked' looked looked' responses responses' written written' core core' warnings warnings' clients clients' count count' servers servers' a l r w c t o n s =
    ap (λ it. deadlines it looked' responses' written' core' warnings' clients' count' servers') a
    ∙ ap (λ it. deadlines asked it responses' written' core' warnings' clients' count' servers') l
    ∙ ap (λ it. deadlines asked looked it written' core' warnings' clients' count' servers') r
    ∙ ap (λ it. deadlines asked looked responses it core' warnings' clients' count' servers') w
    ∙ ap (λ it. deadlines asked looked responses written it warnings' clients' count' servers') c
    ∙ ap (λ it. deadlines asked looked responses written core it clients' count' servers') t
    ∙ ap (λ it. deadlines asked looked responses written core warnings it count' servers') o
    ∙ ap (λ it. deadlines asked looked responses written core warnings clients it servers') n
    ∙ ap (λ it. deadlines asked looked responses written core warnings clients count it) s
