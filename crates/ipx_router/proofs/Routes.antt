-- The route to a network that is no port's own.
use Rattle.std.proofs.Common.{◌≡◌, ℕ, List, Option, Some, None, sym, subst}
use Rattle.std.specs.Prelude.{MatchOption}
use Rattle.ipx_wire.specs.declared.address.Network.{Network}
use Rattle.ipx_tables.specs.Best.{NoneCounts}
use Rattle.ipx_router.specs.declared.port.Port.{Port}
use Rattle.ipx_router.specs.declared.route.Route.{Route}
use Rattle.ipx_router.specs.Knowledge.{Routes}
use Rattle.ipx_router.specs.RouteChoice.{IsHeardRoute, IsRouteOrNone, direct_route, over_port}

pub route_by_offer : (ports : List Port) (routes : Routes) (now : ℕ) (network : Network) (o : Option Route) → direct_route ports network ≡ None → MatchOption o (NoneCounts routes network now) (IsHeardRoute routes now network)
    → IsRouteOrNone ports routes now network o
route_by_offer ports routes now network None none r = (none, r)
route_by_offer ports routes now network (Some route) none r =
    subst (λ (p : Option ℕ). MatchOption p (IsHeardRoute routes now network route) (λ place. route ≡ over_port place)) (sym none) r
