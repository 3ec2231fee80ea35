-- A core that started as a file says: its ports are on networks that a port may have.
use Rattle.std.proofs.Common.{◌≡◌, List, [], ◌∷◌, ◌++◌, All, inl, inr, sym, subst}
use Rattle.std.specs.Prelude.{Contains}
use Rattle.std.proofs.lemmas.List.Elements.{All-nil, All-cons}
use Rattle.toml.specs.Data.{Items, Members, no_items, item}
use Rattle.ipx_router.specs.NewRouter.{IsOwnNetwork}
use Rattle.ipx_carrier.specs.PriorityRouterCore.{PriorityQueues, nothing_waits}
use Rattle.ipx_config.specs.declared.site.PortConfig.{PortConfig}
use Rattle.ipx_config.specs.declared.site.PortConfig.TheVariants.{Rfc1234, Ethernet, Ipxnet}
use Rattle.ipx_config.specs.EthernetTable.{IsTableOfKind}
use Rattle.ipx_config.specs.Site.{ArePorts}
use Rattle.ipx_config.specs.SitePorts.{router_port_of_kind, router_ports}
use Rattle.ipx_site.specs.RoutingRuns.{StartsByFile}
use Rattle.ipx_site.specs.SiteCore.{SiteCore}
use Rattle.ipx_site.specs.declared.running_router.RunningRouter.{RunningRouter}
use Rattle.ipx_carrier.specs.Turns.{Given}
use Rattle.theory_processes.specs.Lives.{WaitsIn, router_in}
use Rattle.theory_processes.specs.Together.{IsNewSiteCore}
use Rattle.theory_processes.proofs.Lists.{contains_none}

own_one : (ms : Members) (p : PortConfig) → IsTableOfKind ms p → IsOwnNetwork (router_port_of_kind p)
own_one ms (Rfc1234 p) h = let network = h.network.2 in (network.2.1, network.2.2)
own_one ms (Ethernet p) h = let network = h.network.2 in (network.2.1, network.2.2)
own_one ms (Ipxnet p) h = let network = h.network.2 in (network.2.1, network.2.2)

own_of : (earlier : List PortConfig) (ds : Items) (ps : List PortConfig) → ArePorts earlier ds ps → All IsOwnNetwork (router_ports ps)
own_of earlier no_items ps h =
    subst (λ (xs : List PortConfig). All IsOwnNetwork (router_ports xs)) (sym h) (All-nil IsOwnNetwork)
own_of earlier (item d ds) ps h =
    let (ms, is, (kind, table)) = h.3 in
    subst (λ (xs : List PortConfig). All IsOwnNetwork (router_ports xs)) (sym h.2)
    (All-cons IsOwnNetwork (router_port_of_kind h.0) (router_ports h.1) (own_one ms h.0 table) (own_of (earlier ++ h.0 ∷ []) ds h.1 h.5))

nothing : (core : SiteCore) → (router_in core).queues ≡ nothing_waits → (g : Given) → WaitsIn core g → ⊥
nothing core empty g is = elim is.1 [
  | inl forwarded ↦ contains_none is.0 (subst (λ (q : PriorityQueues). Contains q.forwarded is.0) empty forwarded)
  | inr own ↦ contains_none is.0 (subst (λ (q : PriorityQueues). Contains q.own is.0) empty own)
]

pub started : {R : Type 0} (first : RunningRouter R) → StartsByFile first → IsNewSiteCore first.core
started first s =
    let site = s.1.0 in
    let ports = s.1.2.2.ports in
    let starts = s.1.3 in
    record {
      sound = record {
        networks = subst (All IsOwnNetwork) (sym starts.ports) (own_of [] ports.0 site.ports.items ports.2);
        neighbours = starts.statics.0;
        statics = starts.statics.2;
      };
      none = nothing first.core starts.empty;
    }
