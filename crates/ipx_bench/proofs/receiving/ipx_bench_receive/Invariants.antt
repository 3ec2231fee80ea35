use Rattle.std.proofs.Common.{◌≡◌, length}
use Rattle.ipx_bench.proofs.receiving.ipx_bench_receive.Given as goal

abbrev pub invariant-loop : goal.invariant-loop
invariant-loop l = length l.router.ports ≡ 3
