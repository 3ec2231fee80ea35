-- A run of the routers of a network, as what their tables say: at each step one router learns some entries of
-- one response.
use Rattle.std.specs.Prelude.{◌≡◌, ◌≢◌, ◌⊎◌, ℕ, ◌+◌, ◌<◌, ◌≤◌, List, Some, None, Contains, slice_get, suc}
use Rattle.ipx_wire.specs.declared.address.Network.{Network}
use Rattle.ipx_control.specs.declared.rip.packet.RipEntry.{RipEntry}
use Rattle.ipx_tables.specs.declared.route.RouteMetric.{RouteMetric}
use Rattle.ipx_tables.specs.declared.source.Source.{Source}
use Rattle.ipx_tables.specs.Content.{after_age}
use Rattle.ipx_router.specs.declared.port.Port.{Port}
use Rattle.ipx_router.specs.Hearing.{after_routes}
use Rattle.ipx_router.specs.Knowledge.{Routes}
use Rattle.ipx_router.specs.RouteChoice.{IsRouteOrNone}
use Rattle.ipx_router.specs.AdvertisedEntries.{IsAdvertisedRoute}
use Rattle.rip_convergence.specs.Histories.{Clock, Internet, IsHistory, Meet, Routing}

-- the router that learns, the source, and the entries that it took
pub record Hearing : Type 0 where
  pub router : ℕ
  pub source : Source
  pub entries : List RipEntry

-- what each router's table says before each step
abbrev pub Saying : Type 0
Saying = ℕ → ℕ → Routes

module _ (net : Internet) (clock : Clock) (c : Saying) (heard : ℕ → Hearing) where
  -- the router that learns ages its table and learns the entries as `receive` does; the others age theirs or
  -- leave them unchanged
  pub record IsRun : Type 0 where
    pub rises : (n : ℕ) → clock n ≤ clock (suc n)
    pub past : (r : ℕ) (p : Network × Source) (m : RouteMetric) (moment : ℕ)
        → c 0 r p ≡ Some (m, moment) → moment ≤ clock 0
    pub hears : (n : ℕ) (ours : List Port) → slice_get net (heard n).router ≡ Some ours
        → (p : Network × Source) → c (suc n) (heard n).router p
        ≡ after_routes ours (heard n).source (clock n)
        (after_age (c n (heard n).router) (clock n)) (heard n).entries p
    pub hearer : (n : ℕ) → (ours : List Port) × (slice_get net (heard n).router ≡ Some ours)
    pub others : (n r : ℕ) (p : Network × Source) → r ≢ (heard n).router
        → (c (suc n) r p ≡ c n r p) ⊎ (c (suc n) r p ≡ after_age (c n r) (clock n) p)

  -- at a step at the same time, router s advertises on port q to the routers on the network of port p of
  -- router r
  pub record TellsTo (n : ℕ) (r : ℕ) (source : Source) : Type 0 where
    pub s : ℕ
    pub q : ℕ
    pub p : ℕ
    pub meet : Meet net s q r p
    pub is : source ≡ record { port = p; neighbour = meet.far.node }
    pub advertised_at : ℕ
    pub before : advertised_at ≤ n
    pub same_time : clock advertised_at ≡ clock n

  -- an entry is what that router then advertised
  abbrev pub IsInAdvertisement : (n r : ℕ) (source : Source) → TellsTo n r source → RipEntry → Type 0
  IsInAdvertisement n r source t = IsAdvertisedRoute t.meet.theirs (c t.advertised_at t.s)
      (record { number = t.q; port = t.meet.far; now = clock t.advertised_at })

  -- nothing is forged of the network: each entry of it that is learned was advertised
  abbrev pub NothingForged : Network → Type 0
  NothingForged d = (n : ℕ) (e : RipEntry) → Contains (heard n).entries e → e.network ≡ d
      → (t : TellsTo n (heard n).router (heard n).source)
      × IsInAdvertisement n (heard n).router (heard n).source t e

  -- if a neighbour has the same to advertise of the network through a whole window, from a time on, it is
  -- learned at least once in that window
  abbrev pub AllIsHeard : Network → ℕ → Type 0
  AllIsHeard d from = (n s q r p : ℕ) → from + 180000 ≤ clock n → (meet : Meet net s q r p)
      → (e : RipEntry) → e.network ≡ d → ((m : ℕ) → m ≤ n → clock n < clock m + 180000
      → IsAdvertisedRoute meet.theirs (c m s)
      (record { number = q; port = meet.far; now = clock m }) e)
      → (k : ℕ) × (k < n) × (clock n < clock k + 180000) × ((heard k).router ≡ r)
      × ((heard k).source ≡ record { port = p; neighbour = meet.far.node })
      × Contains (heard k).entries e

-- no two routers of a segment have one node
abbrev pub NodesDiffer : Internet → Type 0
NodesDiffer net = (s q s' q' r p r' p' : ℕ) (a : Meet net s q r p) (b : Meet net s' q' r' p')
    → r ≡ r' → p ≡ p' → a.far.node ≡ b.far.node → (s ≡ s') × (q ≡ q')

-- the routes of routers whose tables say this
pub record AreRoutes (net : Internet) (d : Network) (clock : Clock) (c : Saying)
    (x : Routing) : Type 0 where
  pub of_router : (n r : ℕ) (ours : List Port) → slice_get net r ≡ Some ours
      → IsRouteOrNone ours (c n r) (clock n) d (x n r)
  pub no_router : (n r : ℕ) → slice_get net r ≡ None → x n r ≡ None

-- the routes of a run are a history, with the age limit of offers as window
abbrev pub RunsAreHistories : Type 0
RunsAreHistories = (net : Internet) (d : Network) (clock : Clock) (c : Saying)
    (heard : ℕ → Hearing) (x : Routing) (from : ℕ) → NodesDiffer net → IsRun net clock c heard
    → NothingForged net clock c heard d → AllIsHeard net clock c heard d from
    → AreRoutes net d clock c x → IsHistory net d 180000 clock x (clock 0) from
