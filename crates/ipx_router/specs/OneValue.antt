-- What a router advertises and asks is determined. Two lists of packets that meet the contract of `tell` are
-- equal, byte for byte and in order. So are two lists that meet the contract of `start`.
use Rattle.std.specs.Prelude.{◌≡◌, ℕ, List, Option}
use Rattle.ipx_wire.specs.declared.address.Network.{Network}
use Rattle.ipx_tables.specs.declared.service.ServiceKey.{ServiceKey}
use Rattle.ipx_tables.specs.declared.source.Source.{Source}
use Rattle.ipx_router.specs.declared.port.Port.{Port}
use Rattle.ipx_router.specs.Knowledge.{HoldsKnown, HoldsRoutes, HoldsServices, Known, Tables, routes_in, services_in}
use Rattle.ipx_router.specs.RouterPackets.{SendingView}
use Rattle.ipx_router.specs.Starting.{AreStarts}
use Rattle.ipx_router.specs.Advertisements.{TellsIfDue}

-- the same ports, and the same known of each network, service and source
pub record IsKnownAlike (k other : Known) : Type 0 where
  pub ports : k.ports ≡ other.ports
  pub routes : (p : Network × Source) → k.routes p ≡ other.routes p
  pub services : (p : ServiceKey × Source) → k.services p ≡ other.services p

-- two routers that know the same and advertised last at the same time advertise the same packets now, and
-- have the same time of the last advertisement after that
abbrev pub AdvertisementsAreDetermined : Type 0
AdvertisementsAreDetermined = (k other : Known) (last : Option ℕ) (now : ℕ) (a b : List SendingView)
    (told_a told_b : Option ℕ) → IsKnownAlike k other → TellsIfDue k last now a told_a
    → TellsIfDue other last now b told_b → (a ≡ b) × (told_a ≡ told_b)

-- tables that hold what is known hold the same
abbrev pub IsOneHolding : Type 0
IsOneHolding = (k : Known) (new other : Tables) → HoldsKnown k new → HoldsKnown k other
    → HoldsRoutes new.0 (routes_in other.0) × HoldsServices new.1 (services_in other.1)

-- the packets by which a router asks on ports, which are numbered from a first number on
abbrev pub IsOneStart : Type 0
IsOneStart = (number : ℕ) (ports : List Port) (a b : List SendingView)
    → AreStarts number ports a → AreStarts number ports b → a ≡ b
