-- What a neighbour knows after it received the last packets of a router. The entry point is `FarewellIsHeard`.
use Rattle.std.specs.Prelude.{◌≡◌, ◌≢◌, ℕ, true, List, [], ◌∷◌, Contains, None}
use Rattle.ipx_control.specs.declared.rip.packet.RipEntry.{RipEntry}
use Rattle.ipx_control.specs.declared.sap.packet.ServiceEntry.{ServiceEntry}
use Rattle.ipx_tables.specs.declared.source.Source.{Source}
use Rattle.ipx_router.specs.declared.port.Port.{Port}
use Rattle.ipx_router.specs.AdvertisedEntries.{key_of_service}
use Rattle.ipx_router.specs.Answer.{Receives}
use Rattle.ipx_router.specs.Hearing.{is_heard}
use Rattle.ipx_router.specs.Knowledge.{routes_in, services_in}
use Rattle.ipx_router.specs.OutcomeView.{OutcomeView}
use Rattle.ipx_router.specs.Placing.{advertised_of_other_ports}
use Rattle.ipx_router.specs.Ports.{IsPort}
use Rattle.ipx_router.specs.RouterPackets.{SendingView}
use Rattle.ipx_router.specs.RouterView.{RouterView}
use Rattle.ipx_farewell.specs.Farewell.{AreFarewell, BestRoutes, BestServices, advertised_networks}

-- a router receives these packets on a port, one after another, each at some time
abbrev pub ReceivesEach : ℕ → RouterView → List SendingView → RouterView → Type 0
ReceivesEach port old [] new = new ≡ old
ReceivesEach port old (s ∷ later) new = (now : ℕ) × (a : OutcomeView) × (next : RouterView)
    × Receives old port s.bytes now a next × ReceivesEach port next later new

-- no route and no service is left that this neighbour advertised. Networks that a router never learns are left out:
-- those of its own ports, 0 and FFFFFFFF
pub record IsForgotten (networks : List RipEntry) (services : List ServiceEntry) (source : Source)
    (new : RouterView) : Type 0 where
  pub no_route : (e : RipEntry) → Contains networks e → is_heard new.ports e ≡ true
      → routes_in new.routes (e.network, source) ≡ None
  pub no_service : (e : ServiceEntry) → Contains services e
      → services_in new.services (key_of_service e, source) ≡ None

-- a router on the network of a port receives what another one says there as it stops, whatever it knew before. Then
-- it has nothing left that the other advertised there
abbrev pub FarewellIsHeard : Type 0
FarewellIsHeard = (ports : List Port) (number : ℕ) (far : Port) (heard : BestRoutes) (offered : BestServices)
    (sent : List SendingView) (near : Port) (port : ℕ) (old new : RouterView)
    → AreFarewell ports number far heard offered sent → IsPort old.ports port near
    → far.network ≡ near.network → far.node ≢ near.node
    → ReceivesEach port old sent new
    → IsForgotten (advertised_networks ports number far heard) (advertised_of_other_ports number offered)
    (record { port = port; neighbour = far.node }) new
