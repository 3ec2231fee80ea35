use Rattle.std.proofs.Common.{◌≡◌, take}
use Rattle.ipx_site.specs.IpxnetTotals.{rate_limited_in}
use Rattle.ipx_site.proofs.ipxnet_totals.rate_limited.Given as goal

abbrev pub invariant-loop-server : goal.invariant-loop-server
invariant-loop-server l = l.total ≡ rate_limited_in (take l.server-index l.servers)
