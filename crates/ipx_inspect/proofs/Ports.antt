-- The ports of the router of `hop` make a router that knows no routes yet.
use Rattle.std.proofs.Common.{◌≡◌, [], Some, None}
use Rattle.ipx_router.specs.declared.fault.NewFault.{NewFault}
use Rattle.ipx_router.specs.RouterView.{RouterView}
use Rattle.ipx_router.specs.NewRouter.{first_twin, ports_fault}
use Rattle.ipx_inspect.specs.Hop.{hop_routing}

pub hop_ports-no_fault : (f : NewFault) → ports_fault hop_routing.ports ≡ Some f → ⊥
unfolding first_twin
hop_ports-no_fault f e = cc

pub hop_routing-new : (r : RouterView) → r.ports ≡ hop_routing.ports → (r.routes.offers ≡ []) × (r.services.offers ≡ []) × (r.advertised_at ≡ None) → (r.routes.capacity ≡ 1024) × (r.services.capacity ≡ 4096) → r ≡ hop_routing
hop_routing-new r ports none room = λ i. record {
  ports = ports i;
  routes = record { capacity = room.0 i; offers = none.0 i };
  services = record { capacity = room.1 i; offers = none.1 i };
  advertised_at = none.2 i;
}
