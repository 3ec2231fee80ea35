-- An event has one outcome, unless out of memory.
use Rattle.std.specs.Prelude.{ℕ, ◌≡◌, ◌⊎◌, length, Some, slice_get}
use Rattle.ipx_router.specs.Knowledge.{HoldsRoutes, HoldsServices, KeepsAllButOffers, routes_in, services_in}
use Rattle.ipx_net_hosts.specs.Refusing.{want, no_memory_for_link, no_memory_for_queue}
use Rattle.spx_messages.specs.Changes.{SameBut}
use Rattle.spx_theory.specs.World.{HostState, end_at}
use Rattle.ipx_net.specs.AnswerView.{AnswerView, Refused}
use Rattle.ipx_net.specs.NetEvents.{Happens}
use Rattle.ipx_net.specs.NetView.{NetNow}
use Rattle.ipx_net.specs.declared.event.Event.{Event}
use Rattle.ipx_net.specs.declared.routers.RouterNow.{RouterNow}

-- an end refused as out of memory
abbrev pub IsForMemory : AnswerView → Type 0
IsForMemory a = (a ≡ Refused want) ⊎ (a ≡ Refused no_memory_for_link) ⊎ (a ≡ Refused no_memory_for_queue)

-- two hosts with the same address and listeners, the same links under each id, and the same ends
pub record AreAlike (x y : HostState) : Type 0 where
  pub endpoint : SameBut x.endpoint y.endpoint
  pub here : (id : ℕ) → end_at y.here id ≡ end_at x.here id

-- two routers with the same ports, and the same offers of each network and each service. They last advertised
-- at the same time, and both asked their neighbours when they started, or neither did
pub record AreAlikeRouters (x y : RouterNow) : Type 0 where
  pub kept : KeepsAllButOffers x.router y.router
  pub routes : HoldsRoutes x.router.routes (routes_in y.router.routes)
  pub services : HoldsServices x.router.services (services_in y.router.services)
  pub told : y.router.advertised_at ≡ x.router.advertised_at
  pub started : y.started ≡ x.started

-- two networks with alike hosts and alike routers that are otherwise the same
pub record AreSameNets (x y : NetNow) : Type 0 where
  pub count : length y.world.hosts ≡ length x.world.hosts
  pub hosts : (k : ℕ) (a b : HostState) → slice_get x.world.hosts k ≡ Some a
      → slice_get y.world.hosts k ≡ Some b → AreAlike a b
  pub ends : y.world.ends ≡ x.world.ends
  pub parcels : y.world.parcels ≡ x.world.parcels
  pub log : y.world.log ≡ x.world.log
  pub moment : y.world.moment ≡ x.world.moment
  pub router_count : length y.routers ≡ length x.routers
  pub routers : (k : ℕ) (a b : RouterNow) → slice_get x.routers k ≡ Some a
      → slice_get y.routers k ≡ Some b → AreAlikeRouters a b

abbrev pub EventsHaveOneOutcome : Type 0
EventsHaveOneOutcome =
    (event : Event) (a b : AnswerView) (old x y : NetNow)
    → Happens event a old x → Happens event b old y → ¬ IsForMemory a → ¬ IsForMemory b
    → (b ≡ a) × AreSameNets x y
