use Rattle.std.proofs.Common.{◌≡◌, ◌++◌, List, take}
use Rattle.ipx_control.specs.declared.rip.packet.RipEntry.{RipEntry}
use Rattle.ipx_router.specs.RouterPackets.{AreRoutePackets}
use Rattle.ipx_router.specs.Adding.{ArePacked}
use Rattle.ipx_router.proofs.packing.RoutePackets.put_all.Given as goal

-- the routes so far were added
abbrev pub invariant-loop-route : goal.invariant-loop-route
invariant-loop-route l = record {
  to : l.self.to ≡ l.fn.self.to;
  put : (routes : List RipEntry) → ArePacked (AreRoutePackets l.fn.self.to) routes l.fn.self.sent.items l.fn.self.hand.items
      → ArePacked (AreRoutePackets l.fn.self.to) (routes ++ take l.route-index l.list) l.self.sent.items l.self.hand.items;
}
