-- When the routes of a run converge. Defined by this project.
use Rattle.std.specs.Prelude.{◌≡◌, ◌⊎◌, ℕ, ◌+◌, ◌*◌, ◌≤◌, false, Option, Some, None}
use Rattle.ipx_wire.specs.declared.address.Network.{Network}
use Rattle.ipx_router.specs.declared.route.Route.{Route}
use Rattle.rip_convergence.specs.Histories.{Clock, Internet, Owns, Routing, TellsRoute, better_route}
use Rattle.rip_convergence.specs.RouterRuns.{AllIsHeard, AreRoutes, Hearing, IsRun, NodesDiffer, NothingForged, Saying}
use Rattle.rip_convergence.specs.Ways.{CostsUpTo, CostsWithin, IsLeastWay, LeastWaysExtend, Way}

-- the routes that the routers have to a network in a run in which nothing is forged of that network from the
-- first step on. What the tables held at the first step is open, and so is what is learned of other networks
pub record IsHonestRun (net : Internet) (d : Network) (clock : Clock) (x : Routing) : Type 0 where
  pub says : Saying
  pub heard : ℕ → Hearing
  pub run : IsRun net clock says heard
  pub honest : NothingForged net clock says heard d
  pub routes : AreRoutes net d clock says x

-- and in which from 48 minutes later on no neighbour goes unheard for three minutes
pub record IsFairRun (net : Internet) (d : Network) (clock : Clock) (x : Routing) : Type 0 where
  pub one : IsHonestRun net d clock x
  pub often : AllIsHeard net clock one.says one.heard d (clock 0 + 16 * 180000)

-- after 48 minutes each route follows a path that exists
abbrev pub RunsTakeWays : Type 0
RunsTakeWays = (net : Internet) (d : Network) (clock : Clock) (x : Routing)
    → IsHonestRun net d clock x → (n r : ℕ) (b : Route) → clock 0 + 16 * 180000 ≤ clock n
    → x n r ≡ Some b → Way net d r b

-- and a network that no path leads to has no route
abbrev pub RunsForget : Type 0
RunsForget = (net : Internet) (d : Network) (clock : Clock) (x : Routing)
    → IsHonestRun net d clock x → ((r : ℕ) (b : Route) → Way net d r b → ⊥)
    → (n r : ℕ) → clock 0 + 16 * 180000 ≤ clock n → x n r ≡ None

-- any two runs reach the same routes, and keep them
abbrev pub RunsSettle : Type 0
RunsSettle = (net : Internet) (d : Network) (most : ℕ) (clock clock' : Clock) (x y : Routing)
    → NodesDiffer net → CostsWithin most net → most ≤ 4368 → IsFairRun net d clock x
    → IsFairRun net d clock' y → (n n' r : ℕ)
    → clock 0 + (17 + 15 * most) * 180000 ≤ clock n
    → clock' 0 + (17 + 15 * most) * 180000 ≤ clock' n' → x n r ≡ y n' r

-- if shortest paths extend one another, they are the routes, three minutes later for each hop
abbrev pub RunsTakeLeastWays : Type 0
RunsTakeLeastWays = (net : Internet) (d : Network) (clock : Clock) (x : Routing) → NodesDiffer net
    → LeastWaysExtend net d → IsFairRun net d clock x → (n r : ℕ) (b : Route)
    → IsLeastWay net d r b → clock 0 + (16 + b.metric.hops) * 180000 ≤ clock n → x n r ≡ Some b

-- the routes that the routers then have solve their own equations: a router on the network has its own route,
-- each other route is advertised for another router's route, and no advertised route is better
pub record IsSolution (net : Internet) (d : Network) (now : ℕ → Option Route) : Type 0 where
  pub own : (r : ℕ) (b : Route) → Owns net d r b → now r ≡ Some b
  pub told : (r : ℕ) (b : Route) → now r ≡ Some b → Owns net d r b
      ⊎ ((s : ℕ) × (a : Route) × (now s ≡ Some a) × TellsRoute net d s a r b)
  pub best : (s r : ℕ) (a b : Route) → now s ≡ Some a → TellsRoute net d s a r b
      → (g : Route) × (now r ≡ Some g) × (better_route b g ≡ false)

abbrev pub RunsSolve : Type 0
RunsSolve = (net : Internet) (d : Network) (most : ℕ) (clock : Clock) (x : Routing)
    → NodesDiffer net → CostsWithin most net → most ≤ 4368 → IsFairRun net d clock x → (n : ℕ)
    → clock 0 + (18 + 15 * most) * 180000 ≤ clock n → IsSolution net d (x n)

-- the same if ports may cost nothing, somewhat later
abbrev pub RunsSettleAtAnyCost : Type 0
RunsSettleAtAnyCost =
    (net : Internet) (d : Network) (most : ℕ) (clock clock' : Clock) (x y : Routing)
    → NodesDiffer net → CostsUpTo most net → most ≤ 4368 → IsFairRun net d clock x
    → IsFairRun net d clock' y → (n n' r : ℕ)
    → clock 0 + (32 + 240 * most) * 180000 ≤ clock n
    → clock' 0 + (32 + 240 * most) * 180000 ≤ clock' n' → x n r ≡ y n' r

-- and the equations have one solution at most
abbrev pub SolutionsAreOne : Type 0
SolutionsAreOne = (net : Internet) (d : Network) (most : ℕ) (x y : ℕ → Option Route)
    → CostsUpTo most net → most ≤ 4368 → IsSolution net d x → IsSolution net d y
    → (r : ℕ) → x r ≡ y r
