use Rattle.std.proofs.Common.{◌≡◌, take, drop, []}
use Rattle.ipx_router.specs.NewRouter.{first_twin}
use Rattle.ipx_router.proofs.networks.duplicate_network.Given as goal

abbrev pub invariant-loop-i : goal.invariant-loop-i
invariant-loop-i l = first_twin (take l.i l.ports) (drop l.i l.ports) ≡ first_twin [] l.ports
