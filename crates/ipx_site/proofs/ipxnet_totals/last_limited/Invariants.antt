use Rattle.std.proofs.Common.{take}
use Rattle.ipx_site.specs.IpxnetTotals.{IsLastFlood}
use Rattle.ipx_site.proofs.ipxnet_totals.last_limited.Given as goal

abbrev pub invariant-loop-server : goal.invariant-loop-server
invariant-loop-server l = IsLastFlood (take l.server-index l.servers) l.last
