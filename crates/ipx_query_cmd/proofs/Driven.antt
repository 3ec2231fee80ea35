-- One turn of a core over the port of a host, and turns there one after another.
use Rattle.std.proofs.Common.{◌≡◌, ℕ, List, [], ◌∷◌, ◌++◌, Option, subst}
use Rattle.ipx_carrier.specs.Counts.{report_of}
use Rattle.ipx_carrier.specs.MarkedTurns.{TakesMarkedTurn}
use Rattle.ipx_carrier.specs.Readiness.{Readiness}
use Rattle.ipx_carrier.specs.Turns.{Given, IsTurn, Turn, by_ip, peers_of}
use Rattle.ipx_carrier.specs.declared.report.Report.{Report}
use Rattle.ipx_sockets.specs.PortTurns.{DrivesPort, HostPort, ReceivesAtPort, SendsAtPort, marked_port}
use Rattle.ipx_query_cmd.specs.QueryPorts.{DrivesPortOn}

module _ {C K : Type 0} (hears : C → ℕ → List ℕ → ℕ → C → Type 0) (gives : C → ℕ → Option Given → C → Type 0) (tells : K → ℕ → K → Type 0) (marks : HostPort → Readiness) (ports : ℕ)
    (old new : C) (clock clock_after : K) (after : HostPort) (report : Report) where
  abbrev pub Took : HostPort → Type 0
  Took there = TakesMarkedTurn hears gives tells ReceivesAtPort SendsAtPort marks ports 1536 (by_ip (peers_of there.peers.items)) there after clock clock_after old new report

  -- a turn before which the port was marked
  pub driven : (before there : HostPort) → there ≡ marked_port before → Took there
      → (turn : Turn) × IsTurn hears gives ports turn old new × tells clock turn.moment clock_after × DrivesPort before turn after
      × (report ≡ report_of (by_ip (peers_of before.peers.items)) (turn ∷ []))
  driven before there is taken =
      let h : Took (marked_port before) = subst Took is taken in
      (h.0, h.1, h.2, (h.5, h.6, h.7), h.3)

-- turns, followed by more turns
pub drives_after : (ts us : List Turn) (p q r : HostPort) → DrivesPortOn ts p q → DrivesPortOn us q r → DrivesPortOn (ts ++ us) p r
drives_after [] us p q r h k = subst (λ (x : HostPort). DrivesPortOn us x r) h k
drives_after (t ∷ ts) us p q r h k = (h.0, h.1, drives_after ts us h.0 q r h.2 k)
