-- The peers of the ports of a host or a router stay over a turn.
use Rattle.std.proofs.Common.{◌≡◌, ◌∙◌, ℕ, List, [], ◌∷◌, Option, inl, inr, length}
use Rattle.ipx_carrier.specs.declared.fault.RunFault.{RunFault}
use Rattle.ipx_carrier.specs.declared.fault.RunFault.TheVariants.{Device, OutOfMemory}
use Rattle.ipx_carrier.specs.declared.report.Report.{Report}
use Rattle.ipx_carrier.specs.Device.{Reception}
use Rattle.ipx_carrier.specs.DriverTurns.{AsksEach, SendsEach, SendsFront}
use Rattle.ipx_carrier.specs.MarkedTurns.{BreaksMarkedTurn, EndsTurn, TakesMarkedTurn}
use Rattle.ipx_carrier.specs.Turns.{Given, Turn, by_ip, peers_of}
use Rattle.ipx_sim_udp.specs.RunnerTurns.{all_ready}
use Rattle.ipx_sim_udp.specs.UdpPorts.{PortFails, PortGives, PortRefuses, PortSends, UdpPorts}

asked_peers : (rs : List Reception) (x y : UdpPorts) → AsksEach PortGives 1536 rs x y → y.peers ≡ x.peers
asked_peers [] x y h = cc
asked_peers (r ∷ rs) x y h = asked_peers rs h.0 y h.2 ∙ h.1.0

sent_peers : (ps : List Given) (x y : UdpPorts) → SendsEach PortSends ps x y → y.peers ≡ x.peers
sent_peers [] x y h = cc
sent_peers (p ∷ ps) x y h = sent_peers ps h.0 y h.2 ∙ h.1.0

module _ (fails : UdpPorts → ℕ → ℕ → UdpPorts → Type 0) (refuses : UdpPorts → Given → UdpPorts → Type 0)
    (failed : (x : UdpPorts) (port size : ℕ) (y : UdpPorts) → fails x port size y → y.peers ≡ x.peers)
    (refused : (x : UdpPorts) (p : Given) (y : UdpPorts) → refuses x p y → y.peers ≡ x.peers) where
  front_peers : (ps : List Given) (x y : UdpPorts) → SendsFront PortSends refuses ps [] x y → y.peers ≡ x.peers
  front_peers ps x y h = refused h.3 h.1 y h.5 ∙ sent_peers h.0 x h.3 h.4

  ended_peers : (t : Turn) (f : RunFault) (x y : UdpPorts) → EndsTurn PortSends fails refuses 1536 t f x y → y.peers ≡ x.peers
  ended_peers t OutOfMemory x y h = sent_peers t.packets x y h
  ended_peers t Device x y (inl h) = front_peers t.packets x y h
  ended_peers t Device x y (inr h) = failed x (length t.answers) 1536 y h.1

module _ {C K : Type 0} (hears hear_out_of_memory : C → ℕ → List ℕ → ℕ → C → Type 0) (gives : C → ℕ → Option Given → C → Type 0) (next_out_of_memory : C → ℕ → C → Type 0)
    (tells : K → ℕ → K → Type 0) (ports : ℕ) (x y : UdpPorts) (clock clock_after : K) (old new : C) where
  pub whole_turn_peers : (report : Report) → TakesMarkedTurn hears gives tells PortGives PortSends all_ready ports 1536 (by_ip (peers_of x.peers.items)) x y clock clock_after old new report
      → y.peers ≡ x.peers
  whole_turn_peers report h = sent_peers h.0.packets h.5 y h.7 ∙ asked_peers h.0.answers x h.5 h.6

  pub broken_turn_peers : (f : RunFault)
      → BreaksMarkedTurn hears hear_out_of_memory gives next_out_of_memory tells PortGives PortSends PortFails PortRefuses all_ready ports 1536 (by_ip (peers_of x.peers.items)) f x y clock clock_after old new
      → y.peers ≡ x.peers
  broken_turn_peers f h =
      ended_peers PortFails PortRefuses (λ a port size b k. k.0) (λ a p b k. k.0) h.0 f h.5 y h.7
      ∙ asked_peers h.0.answers x h.5 h.6
