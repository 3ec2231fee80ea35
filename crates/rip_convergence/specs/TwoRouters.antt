-- A network of two routers, for which it is proved that fair runs exist.
use Rattle.std.specs.Prelude.{◌≡◌, ℕ, ◌+◌, ◌-◌, ◌*◌, ◌<◌, ◌≤◌, List, [], ◌∷◌, Some, None}
use Rattle.ipx_wire.specs.declared.address.Network.{Network}
use Rattle.ipx_wire.specs.declared.address.Node.{Node}
use Rattle.ipx_tables.specs.declared.route.RouteMetric.{RouteMetric}
use Rattle.ipx_tables.specs.declared.source.Source.{Source}
use Rattle.ipx_router.specs.declared.port.Port.{Port}
use Rattle.ipx_router.specs.declared.route.Route.{Route}
use Rattle.ipx_router.specs.Knowledge.{Routes}
use Rattle.ipx_router.specs.RouteChoice.{over_neighbour}
use Rattle.rip_convergence.specs.Fair.{IsFairRun}
use Rattle.rip_convergence.specs.Histories.{Clock, Internet, Routing}
use Rattle.rip_convergence.specs.RouterRuns.{NodesDiffer}
use Rattle.rip_convergence.specs.Ways.{CostsWithin, LeastWaysExtend}

abbrev pub own_node : ℕ → Node
own_node router = record { 0 = 0 ∷ 0 ∷ 0 ∷ 0 ∷ 0 ∷ (router + 1) ∷ [] }

-- the ports of router 0 and of router 1: each is on network 1, and on a network of its own, 2 or 3
abbrev pub ports_of_two : ℕ → List Port
ports_of_two router =
    record { network = record { 0 = 1 }; node = own_node router; cost = 1 }
    ∷ record { network = record { 0 = router + 2 }; node = own_node router; cost = 1 } ∷ []

abbrev pub two_routers : Internet
two_routers = ports_of_two 0 ∷ ports_of_two 1 ∷ []

-- a step each half minute
abbrev pub by_half_minutes : Clock
by_half_minutes n = n * 30000

-- the source from which a router learns routes of the other
abbrev pub from_other : ℕ → Source
from_other router = record { port = 1; neighbour = own_node (1 - router) }

-- what the tables hold at first came from the other router, whoever made it up
abbrev pub IsFromOther : (ℕ → Routes) → Type 0
IsFromOther first = (r : ℕ) (p : Network × Source) (w : RouteMetric × ℕ) → first r p ≡ Some w
    → (p.1 ≡ from_other r) × (w.1 ≡ 0)

-- everything that the theorems require of a network of routers, and a fair run of it from these tables
pub record MeetsAllPremises (net : Internet) (d : Network) (clock : Clock) (x : Routing)
    (first : ℕ → Routes) : Type 0 where
  pub nodes : NodesDiffer net
  pub costs : CostsWithin 1 net
  pub extend : LeastWaysExtend net d
  pub fair : IsFairRun net d clock x
  pub begins : fair.one.says 0 ≡ first

-- from any such tables there is a run in which the two advertise to each other in turn
abbrev pub FairRunsExist : Type 0
FairRunsExist = (d : Network) (first : ℕ → Routes) → IsFromOther first
    → (x : Routing) × MeetsAllPremises two_routers d by_half_minutes x first

-- a network that is no port's, and a route to it over the other router
abbrev pub gone_network : Network
gone_network = record { 0 = 7 }

abbrev pub forged_route : ℕ → Route
forged_route router = over_neighbour (from_other router, record { ticks = 2; hops = 2 })

-- there is one that starts with such a route at both, and 48 minutes later neither has one
abbrev pub ForgedRouteGoes : Type 0
ForgedRouteGoes = (x : Routing) × IsFairRun two_routers gone_network by_half_minutes x
    × ((r : ℕ) → r < 2 → x 0 r ≡ Some (forged_route r))
    × ((n r : ℕ) → 16 * 180000 ≤ by_half_minutes n → x n r ≡ None)
