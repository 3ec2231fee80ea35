use Rattle.std.proofs.Common.{arith, refl}
use Rattle.ipx_host.proofs.Slept.{up_to_all, up_to_more}
use Rattle.ipx_host.proofs.idle.rest_of.Goals as goal

pub loop-session-preserved : goal.loop-session-preserved
loop-session-preserved c =
    up_to_more c.args.core.now c.args.sessions.now c.args.sessions.now c.loop-session.session-index _ c.loop-session.least
    c.stay_of.result c.min-least.result refl (omega arith) c.loop-session.invariant c.stay_of.ensures c.min-least.ensures

pub returns : goal.returns
returns c =
    up_to_all c.args.core.now c.args.sessions.now c.loop-session.session-index c.loop-session.least (omega arith) c.loop-session.invariant
