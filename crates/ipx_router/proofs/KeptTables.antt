-- Tables stay tables.
use Rattle.std.proofs.Common.{◌≡◌, ℕ, List, [], length, ◌∙◌, arith}
use Rattle.std.specs.declared.cmp.Ordering.{Ordering}
use Rattle.ipx_wire.specs.declared.address.Network.{Network}
use Rattle.ipx_tables.specs.declared.route.RouteMetric.{RouteMetric}
use Rattle.ipx_tables.specs.declared.service.ServiceKey.{ServiceKey}
use Rattle.ipx_tables.specs.declared.service.ServiceMetric.{ServiceMetric}
use Rattle.ipx_tables.specs.declared.source.Source.{Source}
use Rattle.ipx_tables.specs.Content.{IsTable, Table, after_age}
use Rattle.ipx_tables.specs.Route.{network_cmp}
use Rattle.ipx_tables.specs.Service.{service_key_cmp}
use Rattle.ipx_router.specs.declared.port.Port.{Port}
use Rattle.ipx_router.specs.Knowledge.{AreTables, Tables, routes_in, services_in}
use Rattle.ipx_router.specs.Ports.{AreFromPorts, IsSound}
use Rattle.ipx_router.proofs.HearingLemmas.{sources_aged}

IsTable-empty : {K M : Type 0} (cmp : K → K → Ordering) (t : Table K M) → t.offers ≡ [] → IsTable cmp t
IsTable-empty cmp t empty = record { apart = rw empty tt; within = rw empty (omega arith) }

-- tables of no offers
pub tables_empty : (routes : Table Network RouteMetric) (services : Table ServiceKey ServiceMetric) → routes.offers ≡ [] → services.offers ≡ [] → routes.capacity ≡ 1024 → services.capacity ≡ 4096 → AreTables (routes, services)
tables_empty routes services no_routes no_services most_routes most_services = record {
  routes = IsTable-empty network_cmp routes no_routes;
  services = IsTable-empty service_key_cmp services no_services;
  most_routes = most_routes;
  most_services = most_services;
}

-- tables of the same size whose offers came by ports that exist
pub sound_kept : (ports : List Port) (old new : Tables) → IsSound ports old → IsTable network_cmp new.0 → IsTable service_key_cmp new.1
    → new.0.capacity ≡ old.0.capacity → new.1.capacity ≡ old.1.capacity → AreFromPorts (length ports) (routes_in new.0) → AreFromPorts (length ports) (services_in new.1) → IsSound ports new
sound_kept ports old new is routes services most_routes most_services routes_from services_from = record {
  some = is.some;
  count = is.count;
  networks = is.networks;
  routes_from = routes_from;
  services_from = services_from;
  tables = record {
    routes = routes;
    services = services;
    most_routes = most_routes ∙ is.tables.most_routes;
    most_services = most_services ∙ is.tables.most_services;
  };
}

-- tables without the offers that are old
pub sound_aged : (ports : List Port) (now : ℕ) (old new : Tables) → IsSound ports old → IsTable network_cmp new.0 → IsTable service_key_cmp new.1
    → new.0.capacity ≡ old.0.capacity → new.1.capacity ≡ old.1.capacity
    → ((p : Network × Source) → routes_in new.0 p ≡ after_age (routes_in old.0) now p) → ((p : ServiceKey × Source) → services_in new.1 p ≡ after_age (services_in old.1) now p) → IsSound ports new
sound_aged ports now old new is routes services most_routes most_services aged_routes aged_services =
    sound_kept ports old new is routes services most_routes most_services
    (sources_aged (length ports) (routes_in old.0) (routes_in new.0) now is.routes_from aged_routes)
    (sources_aged (length ports) (services_in old.1) (services_in new.1) now is.services_from aged_services)
