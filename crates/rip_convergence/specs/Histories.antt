-- What the routers of a network say of one network, step by step, and what one advertises to another.
use Rattle.std.specs.Prelude.{◌≡◌, ◌≢◌, ◌⊎◌, ℕ, ◌+◌, ◌<◌, ◌≤◌, Bool, true, false, List, Option, Some, None, not, ◌==◌, ◌||◌, slice_get}
use Rattle.std.specs.List.{list_any}
use Rattle.ipx_wire.specs.Assigned.{all_networks, local_network}
use Rattle.ipx_wire.specs.declared.address.Network.{Network}
use Rattle.ipx_wire.specs.declared.address.Node.{Node}
use Rattle.ipx_tables.specs.declared.route.RouteMetric.{RouteMetric}
use Rattle.ipx_tables.specs.declared.source.Source.{Source}
use Rattle.ipx_tables.specs.Best.{is_better}
use Rattle.ipx_tables.specs.Route.{route_before, route_dead}
use Rattle.ipx_router.specs.declared.port.Port.{Port}
use Rattle.ipx_router.specs.declared.route.Route.{Route}
use Rattle.ipx_router.specs.Ports.{IsPort}
use Rattle.ipx_router.specs.RouteChoice.{direct_route, over_neighbour, over_port}
use Rattle.ipx_router.specs.AdvertisedEntries.{advertised_hops, advertised_ticks}

-- the routers of a network, by index: the ports of each
abbrev pub Internet : Type 0
Internet = List (List Port)

-- two routers are on one network, the first by its port q, the second by its port p
pub record Meet (net : Internet) (s q r p : ℕ) : Type 0 where
  pub theirs : List Port
  pub ours : List Port
  pub far : Port
  pub near : Port
  pub teller : slice_get net s ≡ Some theirs
  pub hearer : slice_get net r ≡ Some ours
  pub at_far : IsPort theirs q far
  pub at_near : IsPort ours p near
  pub one_network : far.network ≡ near.network
  pub two : s ≢ r

-- a route's metric as it is advertised on a port of this cost
abbrev pub advertised_metric : ℕ → RouteMetric → RouteMetric
advertised_metric cost m = record { ticks = advertised_ticks m.ticks cost; hops = advertised_hops m.hops }

-- the network is a port's own: the route that always exists
pub record Owns (net : Internet) (d : Network) (r : ℕ) (b : Route) : Type 0 where
  pub ours : List Port
  pub place : ℕ
  pub router : slice_get net r ≡ Some ours
  pub direct : direct_route ours d ≡ Some place
  pub is : b ≡ over_port place

-- a router learns the network: it is neither 0 nor FFFFFFFF, nor a port's own
abbrev pub is_foreign : List Port → Network → Bool
is_foreign ports d = not ((d.0 == local_network) || (d.0 == all_networks)
    || list_any (λ p. p.network.0 == d.0) ports)

-- router s, whose route to the network is a, advertises it to router r, which learns it as the route b.
-- Nothing is advertised on the port that the route leaves by, nor learned of a router's own network, and 16
-- hops remove a route
pub record TellsRoute (net : Internet) (d : Network) (s : ℕ) (a : Route) (r : ℕ) (b : Route) : Type 0 where
  pub q : ℕ
  pub p : ℕ
  pub meet : Meet net s q r p
  pub elsewhere : a.port ≢ q
  pub foreign : is_foreign meet.ours d ≡ true
  pub no_port : direct_route meet.ours d ≡ None
  pub best : Source × RouteMetric
  pub from : best.0 ≡ record { port = p; neighbour = meet.far.node }
  pub metric : best.1 ≡ advertised_metric meet.far.cost a.metric
  pub alive : route_dead best.1 ≡ false
  pub is : b ≡ over_neighbour best

-- a route as an offer, with no node where there is no neighbour
abbrev pub node_or_none : Option Node → Node
node_or_none None = record { 0 = List.[] }
node_or_none (Some n) = n

abbrev pub as_offer : Route → Source × RouteMetric
as_offer a = (record { port = a.port; neighbour = node_or_none a.neighbour }, a.metric)

-- the first is the better route: by ticks, hops, port, neighbour
abbrev pub better_route : Route → Route → Bool
better_route a b = is_better route_before (as_offer a) (as_offer b)

-- the route of each router before each step
abbrev pub Routing : Type 0
Routing = ℕ → ℕ → Option Route

-- the time of each step
abbrev pub Clock : Type 0
Clock = ℕ → ℕ

module _ (net : Internet) (d : Network) (window : ℕ) (clock : Clock) (x : Routing) where
  -- a route was advertised at a step before, within the window, by a router whose route it then came from
  pub record WasAdvertised (t r : ℕ) (b : Route) : Type 0 where
    pub who : ℕ
    pub route : Route
    pub step : ℕ
    pub before : step < t
    pub recent : clock t < clock step + window
    pub had : x step who ≡ Some route
    pub tells : TellsRoute net d who route r b

  -- the router has a route that is as good
  pub record HasAsGood (t r : ℕ) (b : Route) : Type 0 where
    pub best : Route
    pub has : x t r ≡ Some best
    pub not_worse : better_route b best ≡ false

  -- nothing is made up: after a window every route is the router's own or was advertised within the window
  abbrev pub IsSourced : ℕ → Type 0
  IsSourced from = (t r : ℕ) (b : Route) → from + window ≤ clock t → x t r ≡ Some b
      → Owns net d r b ⊎ WasAdvertised t r b

  -- what a router had to advertise through a whole window was advertised, learned and kept
  abbrev pub IsHeardThroughout : ℕ → Type 0
  IsHeardThroughout from = (t s r : ℕ) (a b : Route) → from + window ≤ clock t → TellsRoute net d s a r b
      → ((u : ℕ) → u ≤ t → clock t < clock u + window → x u s ≡ Some a) → HasAsGood t r b

  -- from a time on nothing is made up, and from a later time on nothing is missed: what the tables held at
  -- the first step is open
  pub record IsHistory (start heard_from : ℕ) : Type 0 where
    pub own : (t r : ℕ) (b : Route) → Owns net d r b → x t r ≡ Some b
    pub sourced : IsSourced start
    pub heard : IsHeardThroughout heard_from
