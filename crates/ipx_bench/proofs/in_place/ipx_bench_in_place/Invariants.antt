use Rattle.std.proofs.Common.{◌≡◌, length}
use Rattle.ipx_bench.proofs.in_place.ipx_bench_in_place.Given as goal

abbrev pub invariant-loop : goal.invariant-loop
invariant-loop l = length l.router.ports ≡ 3
