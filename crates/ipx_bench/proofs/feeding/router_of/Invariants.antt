use Rattle.std.proofs.Common.{◌≡◌, All, length}
use Rattle.ipx_router.specs.NewRouter.{IsOwnNetwork}
use Rattle.ipx_bench.proofs.feeding.router_of.Given as goal

abbrev pub invariant-loop-place : goal.invariant-loop-place
invariant-loop-place l = (length l.ports.items ≡ l.place) × All IsOwnNetwork l.ports.items
