use Rattle.std.proofs.Common.{arith}
use Rattle.ipx_query.specs.QueryAnswers.{router_heard}
use Rattle.ipx_query.proofs.HearingSteps.{map_one_more}
use Rattle.ipx_query.proofs.queried_router.hear_router.Goals as goal

pub loop-router-preserved : goal.loop-router-preserved
loop-router-preserved c =
    map_one_more (router_heard c.args.node c.args.ended) c.args.routers.now c.loop-router.routers c.loop-router.router-index _ c.hear.new.self (omega arith) (omega arith) c.loop-router.invariant c.hear.ensures
