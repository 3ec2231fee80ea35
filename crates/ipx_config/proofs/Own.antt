-- The networks of the ports of a file are those that a router's ports may have.
use Rattle.std.proofs.Common.{List, [], ◌∷◌, ◌++◌, All, sym, subst}
use Rattle.std.proofs.lemmas.List.Elements.{All-nil, All-cons}
use Rattle.toml.specs.Data.{Items, Members, no_items, item}
use Rattle.ipx_router.specs.NewRouter.{IsOwnNetwork}
use Rattle.ipx_config.specs.declared.site.PortConfig.{PortConfig}
use Rattle.ipx_config.specs.declared.site.PortConfig.TheVariants.{Rfc1234, Ethernet, Ipxnet}
use Rattle.ipx_config.specs.EthernetTable.{IsTableOfKind}
use Rattle.ipx_config.specs.Site.{ArePorts}
use Rattle.ipx_config.specs.SitePorts.{router_port_of_kind, router_ports}

own_one : (ms : Members) (p : PortConfig) → IsTableOfKind ms p → IsOwnNetwork (router_port_of_kind p)
own_one ms (Rfc1234 p) h = let network = h.network.2 in (network.2.1, network.2.2)
own_one ms (Ethernet p) h = let network = h.network.2 in (network.2.1, network.2.2)
own_one ms (Ipxnet p) h = let network = h.network.2 in (network.2.1, network.2.2)

pub own_of : (earlier : List PortConfig) (ds : Items) (ps : List PortConfig) → ArePorts earlier ds ps → All IsOwnNetwork (router_ports ps)
own_of earlier no_items ps h =
    subst (λ (xs : List PortConfig). All IsOwnNetwork (router_ports xs)) (sym h) (All-nil IsOwnNetwork)
own_of earlier (item d ds) ps h =
    let (ms, is, (kind, table)) = h.3 in
    subst (λ (xs : List PortConfig). All IsOwnNetwork (router_ports xs)) (sym h.2)
    (All-cons IsOwnNetwork (router_port_of_kind h.0) (router_ports h.1) (own_one ms h.0 table) (own_of (earlier ++ h.0 ∷ []) ds h.1 h.5))
