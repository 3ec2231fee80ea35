use Rattle.std.proofs.Common.{arith}
use Rattle.ipx_host.specs.Sessions.{heard_by}
use Rattle.ipx_host.proofs.Holding.{heard_more}
use Rattle.ipx_host.proofs.sessions.hear_one.Goals as goal

pub loop-session-preserved : goal.loop-session-preserved
loop-session-preserved c =
    heard_more (heard_by c.args.heard c.args.moment) c.args.sessions.now c.loop-session.sessions c.loop-session.session-index _ c.note.new.self (omega arith) (omega arith) c.loop-session.invariant c.note.ensures
