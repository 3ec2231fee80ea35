use Rattle.std.proofs.Common.{◌≡◌, [], false}
use Rattle.ipx_net.specs.NetBeginnings.{AreRouters, router_faults}
use Rattle.ipx_net.proofs.making.routers_of.Given as goal

abbrev pub invariant-loop-ports : goal.invariant-loop-ports
invariant-loop-ports l =
    record {
      can : (goal.iterator-loop-ports).can_next l.ports-iterator;
      finite : (goal.iterator-loop-ports).is_finite l.ports-iterator;
      sound : router_faults l.yielded ≡ [];
      are : l.out_of_memory ≡ false → AreRouters l.yielded l.made.items;
    }
