-- Paths to a network, and the shortest one.
use Rattle.std.specs.Prelude.{◌≡◌, ◌⊎◌, ℕ, ◌≤◌, false, List, Some, slice_get}
use Rattle.ipx_wire.specs.declared.address.Network.{Network}
use Rattle.ipx_router.specs.declared.port.Port.{Port}
use Rattle.ipx_router.specs.declared.route.Route.{Route}
use Rattle.ipx_router.specs.Ports.{IsPort}
use Rattle.rip_convergence.specs.Histories.{Internet, Owns, TellsRoute, better_route}

-- routers that advertise a network to one another, the first of them on it: the route at the last
pub data Way (net : Internet) (d : Network) : ℕ → Route → Type 0 where
  own : {r : ℕ} {b : Route} → Owns net d r b → Way net d r b
  over : {s r : ℕ} {a b : Route} → Way net d s a → TellsRoute net d s a r b → Way net d r b

-- no path of the router is better
pub record IsLeastWay (net : Internet) (d : Network) (r : ℕ) (b : Route) : Type 0 where
  pub way : Way net d r b
  pub least : (c : Route) → Way net d r c → better_route c b ≡ false

-- a shortest path is one router longer than another shortest path: this holds if no shortest path is cut off
-- at 16 hops or at 65,535 ticks
abbrev pub LeastWaysExtend : Internet → Network → Type 0
LeastWaysExtend net d = (r : ℕ) (b : Route) → IsLeastWay net d r b → Owns net d r b
    ⊎ ((s : ℕ) × (a : Route) × IsLeastWay net d s a × TellsRoute net d s a r b)

-- each port costs at least one tick, and at most this many
abbrev pub CostsWithin : ℕ → Internet → Type 0
CostsWithin most net = (s q : ℕ) (ports : List Port) (port : Port) → slice_get net s ≡ Some ports
    → IsPort ports q port → (1 ≤ port.cost) × (port.cost ≤ most)

-- each port costs at most this many ticks
abbrev pub CostsUpTo : ℕ → Internet → Type 0
CostsUpTo most net = (s q : ℕ) (ports : List Port) (port : Port) → slice_get net s ≡ Some ports
    → IsPort ports q port → port.cost ≤ most
