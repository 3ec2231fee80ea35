-- The route to a network: by a port on that network, or by the neighbour with the best offer.
use Rattle.std.specs.Prelude.{◌≡◌, ℕ, ◌+◌, ◌==◌, List, Option, Some, None, MatchOption, position}
use Rattle.ipx_wire.specs.declared.address.Network.{Network}
use Rattle.ipx_tables.specs.declared.route.RouteMetric.{RouteMetric}
use Rattle.ipx_tables.specs.declared.source.Source.{Source}
use Rattle.ipx_tables.specs.Best.{IsBest, NoneCounts}
use Rattle.ipx_tables.specs.Route.{route_before}
use Rattle.ipx_router.specs.declared.port.Port.{Port}
use Rattle.ipx_router.specs.declared.route.Route.{Route}
use Rattle.ipx_router.specs.Knowledge.{Routes}

-- the index in the list of the port that is on this network, if there is one
abbrev pub direct_route : List Port → Network → Option ℕ
direct_route ports network = position (λ p. p.network.0 == network.0) ports

-- a port's own network is no hop and no tick away, and never gets old
abbrev pub over_port : ℕ → Route
over_port place = record {
  port = place + 1;
  neighbour = None;
  metric = record { ticks = 0; hops = 0 };
}

abbrev pub over_neighbour : Source × RouteMetric → Route
over_neighbour best =
    record { port = best.0.port; neighbour = Some best.0.neighbour; metric = best.1 }

-- the best offer of a network is its route
abbrev pub IsHeardRoute : Routes → ℕ → Network → Route → Type 0
IsHeardRoute routes now network route =
    (best : Source × RouteMetric) × IsBest route_before routes network now best
    × (route ≡ over_neighbour best)

abbrev pub IsRouteTo : List Port → Routes → ℕ → Network → Route → Type 0
IsRouteTo ports routes now network route =
    MatchOption (direct_route ports network)
    (IsHeardRoute routes now network route) (λ place. route ≡ over_port place)

-- the route to a network, or that there is none
abbrev pub IsRouteOrNone : List Port → Routes → ℕ → Network → Option Route → Type 0
IsRouteOrNone ports routes now network None =
    (direct_route ports network ≡ None) × NoneCounts routes network now
IsRouteOrNone ports routes now network (Some route) = IsRouteTo ports routes now network route
