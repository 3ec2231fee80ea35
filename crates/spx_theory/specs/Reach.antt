-- Worlds that steps reach from one in which nothing happened yet.
use Rattle.std.specs.Prelude.{ℕ, ◌≡◌, ◌≢◌, ◌<◌, ◌≤◌, [], Some, None, slice_get}
use Rattle.ipx_wire.specs.declared.address.Socket.{Socket}
use Rattle.spx_link.specs.Limits.{most_units}
use Rattle.spx_messages.specs.EndpointView.{held_at, buffers_at}
use Rattle.spx_theory.specs.World.{World, HostState}
use Rattle.spx_theory.specs.WorldStep.{WorldStep}

-- a host without links; its network is not 0, and its listening sockets have buffers in range
pub record HasNoLinks (s : HostState) : Type 0 where
  pub network : s.endpoint.network.0 ≢ 0
  pub none : (q : ℕ) → held_at s.endpoint q ≡ None
  pub here : s.here ≡ []
  pub range : (socket : Socket) (buffers : ℕ) → buffers_at s.endpoint socket ≡ Some buffers
      → (0 < buffers) × (buffers ≤ most_units)

pub record IsNewWorld (w : World) : Type 0 where
  pub hosts : (k : ℕ) (s : HostState) → slice_get w.hosts k ≡ Some s → HasNoLinks s
  pub ends : w.ends ≡ []
  pub parcels : w.parcels ≡ []
  pub log : w.log ≡ []

pub data CameTo : World → Type 0 where
  new : {w : World} → IsNewWorld w → CameTo w
  stepped : {w : World} (old : World) → CameTo old → WorldStep old w → CameTo w
