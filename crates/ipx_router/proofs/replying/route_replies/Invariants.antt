use Rattle.std.proofs.Common.{◌≡◌, ◌++◌, List}
use Rattle.ipx_control.specs.declared.rip.packet.RipEntry.{RipEntry}
use Rattle.ipx_router.specs.RouterPackets.{AreRoutePackets}
use Rattle.ipx_router.specs.Adding.{ArePacked}
use Rattle.ipx_router.proofs.AllRoutes.{AreLeft, told_items}
use Rattle.ipx_router.proofs.Merging.{merged}
use Rattle.ipx_router.proofs.replying.route_replies.Given as goal

-- the entries that were added, with those that the walk has left, are all
abbrev pub invariant-loop-item : goal.invariant-loop-item
invariant-loop-item l = record {
  all : l.yielded ++ l.item-iterator ≡ l.initial.item-iterator;
  to : l.packets.to ≡ l.fn.to;
  entries : List RipEntry;
  packed : ArePacked (AreRoutePackets l.fn.to) entries l.packets.sent.items l.packets.hand.items;
  left : AreLeft l.ports l.at l.rest l.item-iterator (merged l.initial.rest (told_items l.ports l.at l.initial.item-iterator)) entries;
}
