use Rattle.std.proofs.Common.{◌≡◌, length}
use Rattle.ipx_bench.proofs.timing.ipx_bench_receive_each.Given as goal

abbrev pub invariant-loop : goal.invariant-loop
invariant-loop l = length l.router.ports ≡ 3
