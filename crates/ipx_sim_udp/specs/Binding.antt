-- A host of a script, as its socket is bound. Defined by this project.
use Rattle.std.specs.Prelude.{◌≡◌, ◌≢◌, ℕ, List, [], ◌∷◌, IfSome, None, Some, length}
use Rattle.ipx_wire.specs.declared.address.Socket.{Socket}
use Rattle.spx_messages.specs.EndpointView.{buffers_at, held_at}
use Rattle.ipx_carrier.specs.Turns.{peers_of}
use Rattle.ipx_carrier.specs.declared.host_core.HostCore.{HostCore}
use Rattle.ipx_carrier.specs.declared.clock.SteppedClock.{SteppedClock}
use Rattle.ipx_net.specs.declared.host.Host.{Host}
use Rattle.ipx_net.specs.declared.place.Place.TheVariants as Places
use Rattle.ipx_sim.specs.declared.names.ScriptTarget.{ScriptTarget}
use Rattle.ipx_sim_udp.specs.Mapped.{ArePeersAt}
use Rattle.ipx_sim_udp.specs.declared.runner.Runner.{Runner}

-- a clock at 0 that advances by 10 milliseconds a turn
abbrev pub IsAtStart : SteppedClock → Type 0
IsAtStart clock = (clock.moment ≡ 0) × (clock.step ≡ 10)

-- a host has the address of its line, no link, and one socket; it listens if its line says so, and only there
pub record IsHostOf (spots : List ScriptTarget) (number : ℕ) (h : Host) (r : Runner HostCore) : Type 0 where
  pub network : r.core.endpoint.network ≡ h.network
  pub node : r.core.endpoint.node ≡ h.node
  pub router : r.core.endpoint.router ≡ h.router
  pub none : (id : ℕ) → held_at r.core.endpoint id ≡ None
  pub last : r.core.endpoint.links.last ≡ 0
  pub listens : IfSome h.listen (λ l. buffers_at r.core.endpoint l.0 ≡ Some l.1)
  pub alone : (s : Socket) → IfSome h.listen (λ l. s.0 ≢ l.0.0)
      → buffers_at r.core.endpoint s ≡ None
  pub socket : length r.ports.device.sockets.items ≡ 1
  pub peers : (peers : List (List ℕ)) × (peers_of r.ports.peers.items ≡ peers ∷ [])
      × ArePeersAt spots (Places.Host number) h.network peers
  pub clock : IsAtStart r.clock
