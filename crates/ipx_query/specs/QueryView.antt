-- A host that asks routers of its own network what they know: which routers, the question, and what it has
-- learned. Defined by this project.
use Rattle.std.specs.Prelude.{◌≡◌, ◌^◌, ℕ, ◌-◌, ◌*◌, Bool, false, List, [], length, map, min, Option, None, unwrap_or}
use Rattle.ipx_wire.specs.declared.address.Address.{Address}
use Rattle.ipx_wire.specs.declared.address.Network.{Network}
use Rattle.ipx_wire.specs.declared.address.Node.{Node}
use Rattle.ipx_tables.specs.declared.route.RouteMetric.{RouteMetric}
use Rattle.ipx_tables.specs.declared.service.ServiceKey.{ServiceKey}
use Rattle.ipx_tables.specs.declared.service.ServiceMetric.{ServiceMetric}
use Rattle.ipx_tables.specs.Content.{Table}
use Rattle.ipx_query.specs.declared.question.TableQuery.{TableQuery}
use Rattle.ipx_query.specs.declared.queried_router.QueriedRouter.{QueriedRouter}

pub record AskView : Type 0 where
  -- the host's network, node and socket
  pub own : Address
  pub question : TableQuery
  -- the routers that are asked, in order
  pub routers : List QueriedRouter
  -- the time at which the first query was asked for
  pub begun : Option ℕ
  -- the time of the last answer
  pub heard_at : ℕ
  -- what was learned from answers
  pub routes : Table Network RouteMetric
  pub services : Table ServiceKey ServiceMetric
  -- whether a table was full before all that was advertised was learned
  pub cut : Bool

-- a router that was not asked yet
abbrev pub unasked : Node → QueriedRouter
unasked node = record { node = node; rounds = 0; answered = false; ended = false }

-- a table has the room of a router's own for each router that is asked, up to the greatest of 64 bits
abbrev pub space_for : ℕ → ℕ → ℕ
space_for most count = min (most * count) (2 ^ 64 - 1)

-- no router was asked yet, and nothing was learned
pub record IsNewAsk (own : Address) (question : TableQuery) (nodes : List Node)
    (ask : AskView) : Type 0 where
  pub address : ask.own ≡ own
  pub asks : ask.question ≡ question
  pub target : ask.routers ≡ map unasked nodes
  pub unbegun : ask.begun ≡ None
  pub unheard : ask.heard_at ≡ 0
  pub no_routes : ask.routes.offers ≡ []
  pub no_services : ask.services.offers ≡ []
  pub most_routes : ask.routes.capacity ≡ space_for 1024 (length nodes)
  pub most_services : ask.services.capacity ≡ space_for 4096 (length nodes)
  pub whole : ask.cut ≡ false

-- how long ago the first query was asked for; 0 if it was not yet
abbrev pub asked_for : AskView → ℕ → ℕ
asked_for ask now = now - unwrap_or ask.begun now
