-- A new network: its hosts and routers, before anything happens.
use Rattle.std.specs.Prelude.{◌≡◌, ◌≢◌, ◌<◌, ◌≤◌, false, All, filter_map, List, [], Option, None, IfSome, Vec, slice_get}
use Rattle.std.specs.Global.{Global}
use Rattle.std.specs.List.{AllZip}
use Rattle.ipx_wire.specs.Assigned.{all_networks, local_network}
use Rattle.spx_link.specs.Limits.{most_units}
use Rattle.ipx_router.specs.NewRouter.{IsOwnNetwork, ports_fault}
use Rattle.ipx_router.specs.declared.fault.NewFault.{NewFault}
use Rattle.ipx_router.specs.declared.port.Port.{Port}
use Rattle.ipx_net_hosts.specs.HostBeginnings.{BeginsAt}
use Rattle.spx_theory.specs.World.{HostState}
use Rattle.ipx_net.specs.NetView.{NetView}
use Rattle.ipx_net.specs.declared.host.Host.{Host}
use Rattle.ipx_net.specs.declared.routers.RouterNow.{RouterNow}

-- the ports of each router
abbrev pub PortLists : Type 0
PortLists = List (Vec Port Global)

-- ---- what the caller must pass

-- of a host: a network that a port may have, and 1 to 8,192 buffers if it listens
pub record IsHostOwed (h : Host) : Type 0 where
  pub not_local : h.network.0 ≢ local_network
  pub not_all : h.network.0 ≢ all_networks
  pub range : IfSome h.listen (λ l. (0 < l.1) × (l.1 ≤ most_units))

abbrev pub ArePortsOwed : Vec Port Global → Type 0
ArePortsOwed ports = All IsOwnNetwork ports.items

-- ---- what is made

abbrev pub IsStationOf : Host → HostState → Type 0
IsStationOf h s = BeginsAt h.network h.node h.router h.listen s

-- a router that knows nothing and has asked no neighbour yet
pub record IsRouterOf (ports : Vec Port Global) (r : RouterNow) : Type 0 where
  pub ports_are : r.router.ports ≡ ports.items
  pub routes : r.router.routes.offers ≡ []
  pub services : r.router.services.offers ≡ []
  pub most_routes : r.router.routes.capacity ≡ 1024
  pub most_services : r.router.services.capacity ≡ 4096
  pub told : r.router.advertised_at ≡ None
  pub started : r.started ≡ false

-- each one in order
abbrev pub AreHosts : List Host → List HostState → Type 0
AreHosts hosts stations = AllZip IsStationOf hosts stations

abbrev pub AreRouters : PortLists → List RouterNow → Type 0
AreRouters ports routers = AllZip IsRouterOf ports routers

pub record IsNewNet (hosts : List Host) (ports : PortLists) (n : NetView) : Type 0 where
  pub stations : AreHosts hosts n.now.world.hosts
  pub routers : AreRouters ports n.now.routers
  pub ends : n.now.world.ends ≡ []
  pub parcels : n.now.world.parcels ≡ []
  pub log : n.now.world.log ≡ []
  pub moment : n.now.world.moment ≡ 0
  pub spent : n.spent ≡ false

-- ---- what is refused

-- the faults of the routers that are refused, in their order
abbrev pub router_faults : PortLists → List NewFault
router_faults ports = filter_map (λ p. ports_fault p.items) ports

-- the first of these
abbrev pub first_refusal : PortLists → Option NewFault
first_refusal ports = slice_get (router_faults ports) 0
