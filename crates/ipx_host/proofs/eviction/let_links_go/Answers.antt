use Rattle.std.proofs.Common.{arith}
use Rattle.ipx_host.proofs.Holding.{links_on}
use Rattle.ipx_host.proofs.eviction.let_links_go.Goals as goal

pub loop-session-preserved : goal.loop-session-preserved
loop-session-preserved c =
    links_on c.args.sessions.now c.loop-session.session-index _ c.args.endpoint.now c.loop-session.endpoint c.let_link_go.new.endpoint (omega arith) c.loop-session.invariant c.let_link_go.ensures
