use Rattle.std.proofs.Common.{◌≡◌, take}
use Rattle.ipx_site.specs.IpxnetTotals.{client_count_in}
use Rattle.ipx_site.proofs.ipxnet_totals.client_count.Given as goal

abbrev pub invariant-loop-server : goal.invariant-loop-server
invariant-loop-server l = l.total ≡ client_count_in (take l.server-index l.servers)
