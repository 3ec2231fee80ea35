use Rattle.std.proofs.Common.{◌≡◌, ◌++◌, List, false}
use Rattle.ipx_control.specs.declared.sap.packet.ServiceEntry.{ServiceEntry}
use Rattle.ipx_router.specs.RouterPackets.{AreServicePackets}
use Rattle.ipx_router.specs.Adding.{ArePacked}
use Rattle.ipx_router.proofs.AllServices.{AreLeft, asked_items}
use Rattle.ipx_router.proofs.replying.service_replies.Given as goal

-- the entries that were added, with those that the walk has left, are all
abbrev pub invariant-loop-item : goal.invariant-loop-item
invariant-loop-item l = record {
  all : l.yielded ++ l.item-iterator ≡ l.initial.item-iterator;
  to : l.packets.to ≡ l.fn.to;
  entries : List ServiceEntry;
  packed : ArePacked (AreServicePackets l.fn.to false) entries l.packets.sent.items l.packets.hand.items;
  left : AreLeft l.at l.kind l.item-iterator (asked_items l.at l.kind l.initial.item-iterator) entries;
}
