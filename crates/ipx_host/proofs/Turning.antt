-- One turn of a running host.
use Rattle.std.proofs.Common.{◌≡◌, ◌∙◌, ℕ, Bool, List, [], ◌∷◌, Result, Ok, Err, IfOk, IfErr, OnErr, false, true, inl, inr, is_err, subst}
use Rattle.ipx_carrier.specs.declared.fault.RunFault.{RunFault}
use Rattle.ipx_carrier.specs.declared.fault.RunFault.TheVariants.{Device, OutOfMemory}
use Rattle.ipx_carrier.specs.declared.report.Report.{Report}
use Rattle.ipx_carrier.specs.Counts.{report_of}
use Rattle.ipx_carrier.specs.Device.{Reception}
use Rattle.ipx_carrier.specs.DriverTurns.{AsksEach, SendsEach, SendsSomeOf}
use Rattle.ipx_carrier.specs.MarkedTurns.{BreaksMarkedTurn, TakesMarkedTurn}
use Rattle.ipx_carrier.specs.Readiness.{Readiness}
use Rattle.ipx_carrier.specs.RunFaultNumbers.{failures_after}
use Rattle.ipx_carrier.specs.Turns.{Given, by_ip, copies_of, peers_of}
use Rattle.ipx_sockets.specs.PortTurns.{HostPort, ReceivesAtPort, SendsAtPort, marked_port}
use Rattle.ipx_sockets.specs.SocketCalls.{FailsThroughFilter, SendsDatagram, SendsThroughFilter}
use Rattle.ipx_sockets.specs.Steady.{NeverGoesBack}
use Rattle.ipx_host.specs.declared.paced_host_core.PacedHostCore.{PacedHostCore}
use Rattle.ipx_host.specs.declared.running_host.Activity.{Activity}
use Rattle.ipx_host.specs.Sessions.{raised_if}
use Rattle.ipx_host.specs.Turning.{Around, DrivesTurn, TakesHostTurn, TellsOf, gives, hears, hear_out_of_memory, next_out_of_memory, refused_after}

-- a port keeps its peers as it is asked, and as it sends
peers_asked : (rs : List Reception) (x y : HostPort) → AsksEach ReceivesAtPort 1536 rs x y → y.peers ≡ x.peers
peers_asked [] x y h = cc
peers_asked (r ∷ rs) x y h = peers_asked rs h.0 y h.2 ∙ h.1.0

peers_sent : (ps : List Given) (x y : HostPort) → SendsEach SendsAtPort ps x y → y.peers ≡ x.peers
peers_sent [] x y h = cc
peers_sent (p ∷ ps) x y h = peers_sent ps h.0 y h.2 ∙ h.1.0

-- asking the port fails, and sending by it, only if the sockets fail, which they never do
abbrev pub fails_to_receive_at : HostPort → ℕ → ℕ → HostPort → Type 0
fails_to_receive_at old port size new = (new.peers ≡ old.peers) × FailsThroughFilter (λ d e. ⊥) old.device new.device

abbrev pub fails_to_send_at : HostPort → Given → HostPort → Type 0
fails_to_send_at old packet new = (new.peers ≡ old.peers) × SendsSomeOf (SendsThroughFilter SendsDatagram) (λ d datagram e. FailsThroughFilter (λ a b. ⊥) d e)
    (copies_of (by_ip (peers_of old.peers.items)) packet) old.device new.device

module _ {R : Type 0} (marks : HostPort → Readiness) (fails_to_receive : HostPort → ℕ → ℕ → HostPort → Type 0)
    (fails_to_send : HostPort → Given → HostPort → Type 0) (before after : Around R) (old new : PacedHostCore) where
  -- a turn over the port of a host, by its result
  abbrev pub Took : HostPort → Report → Type 0
  Took there report = TakesMarkedTurn hears gives NeverGoesBack ReceivesAtPort SendsAtPort marks 1 1536 (by_ip (peers_of there.peers.items)) there after.port before.clock after.clock old new report

  abbrev pub Broke : HostPort → RunFault → Type 0
  Broke there f = BreaksMarkedTurn hears hear_out_of_memory gives next_out_of_memory NeverGoesBack ReceivesAtPort SendsAtPort fails_to_receive fails_to_send marks 1 1536 (by_ip (peers_of there.peers.items)) f there after.port before.clock after.clock old new

  -- it never fails: it is complete, or it ran out of memory, which is counted
  pub took : (there : HostPort) (ran : Result Report RunFault) (turn : Activity) (n m : ℕ)
      → there ≡ marked_port before.port → 0 ≡ failures_after ran 0
      → IfOk ran (λ report. Took there report) → IfErr ran (λ f. Broke there f)
      → IfOk ran (λ report. TellsOf report turn) → OnErr ran ((turn.heard ≡ false) × (turn.active ≡ true)) → m ≡ raised_if (is_err ran) n
      → (taken : TakesHostTurn before after DrivesTurn (peers_of before.port.peers.items) old new turn) × (m ≡ refused_after taken n)
  took there (Ok report) turn n m e none whole part told ended counts =
      let h : Took (marked_port before.port) report = subst (λ (p : HostPort). Took p report) e whole in
      (inl (h.0, h.1, (h.2, (h.5, h.6, h.7)), subst (λ (r : Report). TellsOf r turn) h.3 told), counts)
  took there (Err OutOfMemory) turn n m e none whole part told ended counts =
      let h : Broke (marked_port before.port) OutOfMemory = subst (λ (p : HostPort). Broke p OutOfMemory) e part in
      (inr (h.0, h.1, h.2, (h.3, (h.5, h.6, h.7)), ended.0, ended.1), counts)
  took there (Err Device) turn n m e none whole part told ended counts = absurd (cc)

  -- its peers stay
  pub peers_stay : (there : HostPort) (ran : Result Report RunFault) → 0 ≡ failures_after ran 0
      → IfOk ran (λ report. Took there report) → IfErr ran (λ f. Broke there f) → after.port.peers ≡ there.peers
  peers_stay there (Ok report) none h part = peers_sent h.0.packets h.5 after.port h.7 ∙ peers_asked h.0.answers there h.5 h.6
  peers_stay there (Err OutOfMemory) none whole h = peers_sent h.0.packets h.5 after.port h.7 ∙ peers_asked h.0.answers there h.5 h.6
  peers_stay there (Err Device) none whole h = absurd (cc)
