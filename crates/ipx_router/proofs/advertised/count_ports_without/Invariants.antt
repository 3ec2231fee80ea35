use Rattle.std.proofs.Common.{◌≤◌}
use Rattle.ipx_router.proofs.advertised.count_ports_without.Given as goal

abbrev pub invariant-loop-port : goal.invariant-loop-port
invariant-loop-port l = l.count ≤ l.port
