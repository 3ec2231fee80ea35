-- What a router's `receive` does to its routes is a step of a run.
use Rattle.std.specs.Prelude.{◌≡◌, ◌⊎◌, ℕ, List, [], take}
use Rattle.ipx_wire.specs.declared.address.Network.{Network}
use Rattle.ipx_wire.specs.Ipx.{PacketView, IsIpx}
use Rattle.ipx_control.specs.declared.rip.packet.RipEntry.{RipEntry}
use Rattle.ipx_control.specs.Rip.{IsRip}
use Rattle.ipx_control.specs.Rip as rip
use Rattle.ipx_tables.specs.declared.source.Source.{Source}
use Rattle.ipx_tables.specs.Content.{after_age}
use Rattle.ipx_router.specs.Answer.{Receives}
use Rattle.ipx_router.specs.Hearing.{after_routes}
use Rattle.ipx_router.specs.Knowledge.{routes_in}
use Rattle.ipx_router.specs.OutcomeView.{OutcomeView}
use Rattle.ipx_router.specs.RouterView.{RouterView}

-- a RIP response as bytes, whose entries begin with these
pub record IsInResponse (bytes : List ℕ) (port : ℕ) (source : Source)
    (taken : List RipEntry) : Type 0 where
  pub packet : PacketView
  pub padding : List ℕ
  pub is_packet : IsIpx packet bytes padding
  pub entries : List RipEntry
  pub rest : List ℕ
  pub is_response : IsRip (rip.Response entries) packet.body rest
  pub count : ℕ
  pub first : taken ≡ take count entries
  pub came_by : source ≡ record { port = port; neighbour = packet.header.from.node }

-- it ages its table, and learns entries: none, or the first ones of the response that arrived
pub record IsRunStep (old : RouterView) (port : ℕ) (bytes : List ℕ) (now : ℕ)
    (new : RouterView) : Type 0 where
  pub source : Source
  pub taken : List RipEntry
  pub leaves : (p : Network × Source) → routes_in new.routes p
      ≡ after_routes old.ports source now (after_age (routes_in old.routes) now) taken p
  pub are : (taken ≡ []) ⊎ IsInResponse bytes port source taken

abbrev pub ReceivingIsAStep : Type 0
ReceivingIsAStep = (old new : RouterView) (port : ℕ) (bytes : List ℕ) (now : ℕ) (a : OutcomeView)
    → Receives old port bytes now a new → IsRunStep old port bytes now new
