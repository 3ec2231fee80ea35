use Rattle.std.proofs.Common.{◌≡◌, take}
use Rattle.ipx_site.specs.IpxnetTotals.{busy_in}
use Rattle.ipx_site.proofs.ipxnet_totals.busy.Given as goal

abbrev pub invariant-loop-server : goal.invariant-loop-server
invariant-loop-server l = l.total ≡ busy_in (take l.server-index l.servers)
