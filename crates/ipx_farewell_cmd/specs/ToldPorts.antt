-- The packets that `ipx farewell` sends by each port of a router's file. Defined by this project.
use Rattle.std.specs.Prelude.{◌≡◌, ℕ, List, []}
use Rattle.ipx_config.specs.SitePorts.{router_port_of_kind, router_ports}
use Rattle.ipx_config.specs.declared.site.PortConfig.{PortConfig}
use Rattle.ipx_config.specs.declared.site.PortConfig.TheVariants.{Ethernet, Ipxnet, Rfc1234}
use Rattle.ipx_router.specs.declared.port.Port.{Port}
use Rattle.ipx_router.specs.RouterPackets.{SendingView}
use Rattle.ipx_farewell.specs.Farewell.{AreFarewell, BestRoutes, BestServices}

-- by the port of this number: what is taken back there, and nothing by a port for ipxnet
abbrev pub AreToldAt : List Port → BestRoutes → BestServices → ℕ → PortConfig → List SendingView → Type 0
AreToldAt ports routes services number (Rfc1234 port) sent =
    AreFarewell ports number (router_port_of_kind (Rfc1234 port)) routes services sent
AreToldAt ports routes services number (Ethernet port) sent =
    AreFarewell ports number (router_port_of_kind (Ethernet port)) routes services sent
AreToldAt ports routes services number (Ipxnet port) sent = sent ≡ []
