use Rattle.ipx_site.proofs.LastFlood.{last_more}
use Rattle.ipx_site.proofs.ipxnet_totals.last_limited.Goals as goal

pub loop-server-preserved : goal.loop-server-preserved
loop-server-preserved c =
    last_more c.args.servers.now c.loop-server.server-index c.server-item.result c.loop-server.last c.last_limited.result c.later-last.result c.loop-server-test.true c.server-item.is c.last_limited.ensures c.later-last.ensures c.loop-server.invariant
