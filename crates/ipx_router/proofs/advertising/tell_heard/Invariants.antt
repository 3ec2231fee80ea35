use Rattle.std.proofs.Common.{◌+◌, ◌++◌, List, drop}
use Rattle.ipx_tables.specs.Listing.{IsListing}
use Rattle.ipx_tables.specs.Route.{network_cmp, route_before}
use Rattle.ipx_tables.specs.Service.{service_before, service_key_cmp}
use Rattle.ipx_router.specs.Knowledge.{Routes, Services}
use Rattle.ipx_router.specs.RouterPackets.{SendingView, sendings}
use Rattle.ipx_router.specs.Advertisements.{AreAdvertisements}
use Rattle.ipx_router.proofs.advertising.tell_heard.Given as goal

-- the packets so far, with any packets of the ports from here on, are the packets of all ports
abbrev pub invariant-loop-i : goal.invariant-loop-i
invariant-loop-i l = (routes : Routes) (services : Services) → IsListing network_cmp route_before routes l.now l.heard_routes
    → IsListing service_key_cmp service_before services l.now l.heard_services → (later : List SendingView)
    → AreAdvertisements l.ports routes services l.now (l.i + 1) (drop l.i l.ports) later
    → AreAdvertisements l.ports routes services l.now 1 l.ports (sendings l.told.items ++ later)
