-- Static routes and services in the file of a router: tables `[[route]]` and `[[service]]`. Defined by this
-- project.
use Rattle.std.specs.Prelude.{◌≡◌, ◌⊎◌, ℕ, List, None}
use Rattle.toml.specs.Data.{Members}
use Rattle.ipx_wire.specs.declared.address.Address.{Address}
use Rattle.ipx_wire.specs.declared.address.Network.{Network}
use Rattle.ipx_control.specs.declared.rip.packet.RipEntry.{RipEntry}
use Rattle.ipx_control.specs.declared.sap.packet.ServiceEntry.{ServiceEntry}
use Rattle.ipx_config.specs.declared.fault.ConfigError.{ConfigError}
use Rattle.ipx_config.specs.declared.statics.StaticEntry.{StaticEntry}
use Rattle.ipx_config.specs.declared.statics.StaticKind.{StaticKind}
use Rattle.ipx_config.specs.declared.statics.StaticKind.TheVariants as Of
use Rattle.ipx_config.specs.declared.statics.StaticItem.TheVariants as Says
use Rattle.ipx_config.specs.declared.static_fields.NextHop.{NextHop}
use Rattle.ipx_config.specs.declared.key.Key.TheVariants as Key
use Rattle.ipx_config.specs.declared.site.PortConfig.{PortConfig}
use Rattle.ipx_config.specs.Keys.{first_unknown, route_keys, service_keys}
use Rattle.ipx_config.specs.Fields.{Holds, HoldsOr, IsFault, IsUnknown, IsWrong}
use Rattle.ipx_config.specs.StaticFields.{IsRemoteNetwork, IsRemoteNetworkFault, IsNear, IsNearFault, IsServiceName, IsServicePlace, IsServicePlaceFault, IsServiceType, IsServiceTypeFault}
use Rattle.ipx_config.specs.Values.{IsCount}

-- what a route gives: a network, its hops, and its ticks. By default the ticks are the cost of sending to the
-- next hop
pub record IsPath (ports : List PortConfig) (ms : Members) (cost : ℕ) (route : RipEntry) : Type 0 where
  pub network : IsRemoteNetwork ports ms route.network
  pub hops : HoldsOr (IsCount 14) Key.Hops ms 1 route.hops
  pub ticks : HoldsOr (IsCount 65535) Key.Ticks ms cost route.ticks

abbrev pub IsPathFault : List PortConfig → Members → ℕ → ConfigError → Type 0
IsPathFault ports ms table f = IsRemoteNetworkFault ports ms table f
    ⊎ ((n : Network) × IsRemoteNetwork ports ms n × (IsWrong (IsCount 14) Key.Hops ms table f
    ⊎ ((hops : ℕ) × HoldsOr (IsCount 14) Key.Hops ms 1 hops
    × IsWrong (IsCount 65535) Key.Ticks ms table f)))

-- what a service gives: its type, its name, its address, and its hops
pub record IsOffered (ms : Members) (service : ServiceEntry) : Type 0 where
  pub kind : IsServiceType ms service.kind
  pub name : Holds IsServiceName Key.Name ms service.name
  pub at : IsServicePlace ms service.at
  pub hops : HoldsOr (IsCount 14) Key.Hops ms 1 service.hops

abbrev pub IsOfferedFault : Members → ℕ → ConfigError → Type 0
IsOfferedFault ms table f = IsServiceTypeFault ms table f
    ⊎ ((kind : ℕ) × IsServiceType ms kind × (IsFault IsServiceName Key.Name ms table f
    ⊎ ((name : List ℕ) × Holds IsServiceName Key.Name ms name × (IsServicePlaceFault ms table f
    ⊎ ((a : Address) × IsServicePlace ms a × IsWrong (IsCount 14) Key.Hops ms table f)))))

-- a table describes a route, and a service
pub record IsRouteTable (ports : List PortConfig) (ms : Members) (e : StaticEntry) : Type 0 where
  pub known : first_unknown route_keys ms ≡ None
  pub says : (near : NextHop) × (route : RipEntry) × IsNear ports ms near
      × IsPath ports ms near.cost route × (e ≡ record { by = near.by; word = Says.Route route })

pub record IsServiceTable (ports : List PortConfig) (ms : Members) (e : StaticEntry) : Type 0 where
  pub known : first_unknown service_keys ms ≡ None
  pub says : (near : NextHop) × (service : ServiceEntry) × IsNear ports ms near
      × IsOffered ms service × (e ≡ record { by = near.by; word = Says.Service service })

-- their first fault: a name that is no key, the neighbour, and then the other keys in order
abbrev pub IsRouteFault : List PortConfig → Members → ℕ → ConfigError → Type 0
IsRouteFault ports ms table f = IsUnknown route_keys ms table f
    ⊎ ((first_unknown route_keys ms ≡ None) × (IsNearFault ports ms table f
    ⊎ ((near : NextHop) × IsNear ports ms near × IsPathFault ports ms table f)))

abbrev pub IsServiceFault : List PortConfig → Members → ℕ → ConfigError → Type 0
IsServiceFault ports ms table f = IsUnknown service_keys ms table f
    ⊎ ((first_unknown service_keys ms ≡ None) × (IsNearFault ports ms table f
    ⊎ ((near : NextHop) × IsNear ports ms near × IsOfferedFault ms table f)))

-- the same for either kind
abbrev pub IsEntryTable : StaticKind → List PortConfig → Members → StaticEntry → Type 0
IsEntryTable Of.Route ports ms e = IsRouteTable ports ms e
IsEntryTable Of.Service ports ms e = IsServiceTable ports ms e

abbrev pub IsEntryFault : StaticKind → List PortConfig → Members → ℕ → ConfigError → Type 0
IsEntryFault Of.Route ports ms table f = IsRouteFault ports ms table f
IsEntryFault Of.Service ports ms table f = IsServiceFault ports ms table f
