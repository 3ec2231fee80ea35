-- A core over a core that limits how often nodes send general and narrow queries, and how many directed
-- broadcasts leave by its ports. Defined by this project.
use Rattle.std.specs.Prelude.{◌≡◌, ◌⊎◌, ℕ, true, false, List, Option, None, Some, slice_get}
use Rattle.ipx_wire.specs.Ipx.{BeginsWith, PacketView}
use Rattle.ipx_control.specs.declared.rip.packet.RipEntry.{RipEntry}
use Rattle.ipx_control.specs.Rip.{IsRip}
use Rattle.ipx_control.specs.Rip as rip
use Rattle.ipx_control.specs.Sap.{IsSap}
use Rattle.ipx_control.specs.Sap as sap
use Rattle.ipx_router.specs.declared.classify.PacketClass.{PacketClass}
use Rattle.ipx_router.specs.declared.classify.PacketClass.TheVariants as classes
use Rattle.ipx_router.specs.declared.port.Port.{Port}
use Rattle.ipx_router.specs.Classify.{class_of}
use Rattle.ipx_router.specs.Replying.{asks_all}
use Rattle.ipx_carrier.specs.Counting.{raised}
use Rattle.ipx_carrier.specs.Turns.{Given}
use Rattle.ipx_rate_limits.specs.declared.directed_broadcast.DirectedBroadcast.{DirectedBroadcast}
use Rattle.ipx_rate_limits.specs.declared.directed_broadcast.DirectedDrops.{DirectedDrops}
use Rattle.ipx_rate_limits.specs.declared.querier.Querier.{Querier}
use Rattle.ipx_rate_limits.specs.declared.querier.QueryDrops.{QueryDrops}
use Rattle.ipx_rate_limits.specs.DirectedBroadcasts.{IsDirectedBroadcast, one_more_directed}
use Rattle.ipx_rate_limits.specs.PortBuckets.{at_port, directed_has, with_directed_taken}
use Rattle.ipx_rate_limits.specs.TokenBuckets.{TokenBucketsView, HasNarrowToken, HasToken, with_narrow_token_taken, with_token_taken}

-- a body asks for all routes
abbrev pub AsksAllRoutes : List ℕ → Type 0
AsksAllRoutes body = (asked : List RipEntry) × (tail : List ℕ)
    × IsRip (rip.Request asked) body tail × (asks_all asked ≡ true)

-- a body asks for all services, or for all of one type
abbrev pub AsksAllServices : List ℕ → Type 0
AsksAllServices body = (kind : ℕ) × (tail : List ℕ) × IsSap (sap.Query false kind) body tail

-- a body asks for all, given the kind of its packet: RIP or SAP for the router
abbrev pub AsksForAll : PacketClass → List ℕ → Type 0
AsksForAll classes.Rip body = AsksAllRoutes body
AsksForAll classes.Sap body = AsksAllServices body
AsksForAll classes.Forward body = ⊥
AsksForAll (classes.Dropped reason) body = ⊥

-- bytes are a packet that asks for all, at the port with this number, and this node sent it
abbrev pub AsksAt : Port → ℕ → List ℕ → Querier → Type 0
AsksAt at port bytes who = (p : PacketView) × BeginsWith bytes p
    × AsksForAll (class_of at p.header) p.body
    × (who ≡ record { port = port; node = p.header.from.node })

-- bytes are a general query at a port that exists
abbrev pub IsGeneralQuery : List Port → ℕ → List ℕ → Querier → Type 0
IsGeneralQuery ports port bytes who =
    (at : Port) × (slice_get ports port ≡ Some at) × AsksAt at port bytes who

-- a body asks for the routes of the networks that it names
abbrev pub AsksNamedRoutes : List ℕ → Type 0
AsksNamedRoutes body = (asked : List RipEntry) × (tail : List ℕ)
    × IsRip (rip.Request asked) body tail × (asks_all asked ≡ false)

-- a body asks for the nearest service of a type
abbrev pub AsksNearestService : List ℕ → Type 0
AsksNearestService body = (kind : ℕ) × (tail : List ℕ) × IsSap (sap.Query true kind) body tail

-- a body asks narrowly, given the kind of its packet, SAP or RIP for the router: for the nearest service, or for
-- the routes of named networks
abbrev pub AsksNarrowly : PacketClass → List ℕ → Type 0
AsksNarrowly classes.Rip body = AsksNamedRoutes body
AsksNarrowly classes.Sap body = AsksNearestService body
AsksNarrowly classes.Forward body = ⊥
AsksNarrowly (classes.Dropped reason) body = ⊥

-- bytes are a packet that asks so, at the port with this number, and this node sent it
abbrev pub AsksNarrowlyAt : Port → ℕ → List ℕ → Querier → Type 0
AsksNarrowlyAt at port bytes who = (p : PacketView) × BeginsWith bytes p
    × AsksNarrowly (class_of at p.header) p.body
    × (who ≡ record { port = port; node = p.header.from.node })

-- bytes are a narrow query at a port that exists
abbrev pub IsNarrowQuery : List Port → ℕ → List ℕ → Querier → Type 0
IsNarrowQuery ports port bytes who =
    (at : Port) × (slice_get ports port ≡ Some at) × AsksNarrowlyAt at port bytes who

-- no query has been dropped; one more was dropped, of this querier
abbrev pub no_query_drops : QueryDrops
no_query_drops = record { count = 0; last = None }

abbrev pub one_more_query : QueryDrops → Querier → QueryDrops
one_more_query drops who = record { count = raised drops.count; last = Some who }

-- the core below, its ports, the tokens, the dropped queries, and the dropped directed broadcasts
pub record RateLimiterView (C : Type 0) : Type 0 where
  pub core : C
  pub ports : List Port
  pub buckets : TokenBucketsView
  pub kept : QueryDrops
  pub directed : DirectedDrops

-- the core below repeats its requests to its neighbours
abbrev pub asking_below : {C : Type 0} → (C → C) → RateLimiterView C → RateLimiterView C
asking_below asking_again s = record s { core = asking_again s.core }

module _ {C : Type 0} (hears : C → ℕ → List ℕ → ℕ → C → Type 0) where
  -- the core below hears a general query of this querier, which then has one token less, as has its port
  abbrev pub HearsWithToken : RateLimiterView C → ℕ → List ℕ → ℕ → RateLimiterView C → Querier → Type 0
  HearsWithToken old port bytes now new who = IsGeneralQuery old.ports port bytes who
      × HasToken old.buckets who now × hears old.core port bytes now new.core
      × (new ≡ record old { core = new.core; buckets = with_token_taken old.buckets who now })

  -- a general query of a querier without a token is dropped and counted, and the core below is unchanged
  abbrev pub CountsFiltered : RateLimiterView C → ℕ → List ℕ → ℕ → RateLimiterView C → Type 0
  CountsFiltered old port bytes now new = (who : Querier) × IsGeneralQuery old.ports port bytes who
      × (HasToken old.buckets who now → ⊥)
      × (new ≡ record old { kept = one_more_query old.kept who })

  -- the core below hears a narrow query of this node, which then has one token less, as has its port
  abbrev pub HearsNarrowWithToken : RateLimiterView C → ℕ → List ℕ → ℕ → RateLimiterView C → Querier → Type 0
  HearsNarrowWithToken old port bytes now new who = IsNarrowQuery old.ports port bytes who
      × HasNarrowToken old.buckets who now × hears old.core port bytes now new.core
      × (new ≡ record old { core = new.core; buckets = with_narrow_token_taken old.buckets who now })

  -- if it or its port has no token, the query takes none of either. It is dropped and counted, and the core
  -- below is unchanged
  abbrev pub DropsNarrow : RateLimiterView C → ℕ → List ℕ → ℕ → RateLimiterView C → Type 0
  DropsNarrow old port bytes now new = (who : Querier) × IsNarrowQuery old.ports port bytes who
      × (HasNarrowToken old.buckets who now → ⊥)
      × (new ≡ record old { kept = one_more_query old.kept who })

  -- the core below hears a directed broadcast, and the port by which it leaves then has one token less
  abbrev pub HearsDirected : RateLimiterView C → ℕ → List ℕ → ℕ → RateLimiterView C → DirectedBroadcast → Type 0
  HearsDirected old port bytes now new it = IsDirectedBroadcast old.ports old.buckets.ports port bytes it
      × (directed_has (at_port old.buckets.ports it.leaves_by) now ≡ true)
      × hears old.core port bytes now new.core
      × (new ≡ record old {
        core = new.core;
        buckets = record old.buckets { ports = with_directed_taken old.buckets.ports it.leaves_by now };
      })

  -- if that port has no token, the broadcast is dropped and counted, and the core below is unchanged
  abbrev pub DropsDirected : RateLimiterView C → ℕ → List ℕ → ℕ → RateLimiterView C → Type 0
  DropsDirected old port bytes now new = (it : DirectedBroadcast)
      × IsDirectedBroadcast old.ports old.buckets.ports port bytes it
      × (directed_has (at_port old.buckets.ports it.leaves_by) now ≡ false)
      × (new ≡ record old { directed = one_more_directed old.directed it.from })

  -- the core below hears anything else
  abbrev pub HearsBelow : RateLimiterView C → ℕ → List ℕ → ℕ → RateLimiterView C → Type 0
  HearsBelow old port bytes now new =
      ((who : Querier) → IsGeneralQuery old.ports port bytes who → ⊥)
      × ((who : Querier) → IsNarrowQuery old.ports port bytes who → ⊥)
      × ((it : DirectedBroadcast) → IsDirectedBroadcast old.ports old.buckets.ports port bytes it → ⊥)
      × hears old.core port bytes now new.core × (new ≡ record old { core = new.core })

  -- a general query is heard or dropped, and so are a narrow query and a directed broadcast
  abbrev pub HearsQuery : RateLimiterView C → ℕ → List ℕ → ℕ → RateLimiterView C → Type 0
  HearsQuery old port bytes now new =
      ((who : Querier) × HearsWithToken old port bytes now new who) ⊎ CountsFiltered old port bytes now new

  abbrev pub HearsNarrow : RateLimiterView C → ℕ → List ℕ → ℕ → RateLimiterView C → Type 0
  HearsNarrow old port bytes now new =
      ((who : Querier) × HearsNarrowWithToken old port bytes now new who) ⊎ DropsNarrow old port bytes now new

  abbrev pub HearsBroadcast : RateLimiterView C → ℕ → List ℕ → ℕ → RateLimiterView C → Type 0
  HearsBroadcast old port bytes now new =
      ((it : DirectedBroadcast) × HearsDirected old port bytes now new it) ⊎ DropsDirected old port bytes now new

  -- one of the four
  abbrev pub HearsRateLimited : RateLimiterView C → ℕ → List ℕ → ℕ → RateLimiterView C → Type 0
  HearsRateLimited old port bytes now new = HearsQuery old port bytes now new
      ⊎ (HearsNarrow old port bytes now new
      ⊎ (HearsBroadcast old port bytes now new ⊎ HearsBelow old port bytes now new))

  -- the core below does this with what comes in. A general query, a narrow query and a directed broadcast took their
  -- tokens
  abbrev pub PassesOn : RateLimiterView C → ℕ → List ℕ → ℕ → RateLimiterView C → Type 0
  PassesOn old port bytes now new = ((who : Querier) × HearsWithToken old port bytes now new who)
      ⊎ (((who : Querier) × HearsNarrowWithToken old port bytes now new who)
      ⊎ (((it : DirectedBroadcast) × HearsDirected old port bytes now new it) ⊎ HearsBelow old port bytes now new))

-- the core below runs out of memory for what it was passed
abbrev pub HearOutOfMemoryBelow : {C : Type 0} → (C → ℕ → List ℕ → ℕ → C → Type 0)
    → RateLimiterView C → ℕ → List ℕ → ℕ → RateLimiterView C → Type 0
HearOutOfMemoryBelow hear_out_of_memory old port bytes now new = PassesOn hear_out_of_memory old port bytes now new

-- it gives what the core below gives
abbrev pub GivesBelow : {C : Type 0} → (C → ℕ → Option Given → C → Type 0)
    → RateLimiterView C → ℕ → Option Given → RateLimiterView C → Type 0
GivesBelow gives old now given new =
    gives old.core now given new.core × (new ≡ record old { core = new.core })

-- or that runs out of memory
abbrev pub NextOutOfMemoryBelow : {C : Type 0} → (C → ℕ → C → Type 0)
    → RateLimiterView C → ℕ → RateLimiterView C → Type 0
NextOutOfMemoryBelow next_out_of_memory old now new =
    next_out_of_memory old.core now new.core × (new ≡ record old { core = new.core })
