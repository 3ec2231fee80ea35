use Rattle.std.proofs.Common.{◌≡◌, ◌++◌, drop, map, take}
use Rattle.ipx_query.specs.QueryAnswers.{router_heard}
use Rattle.ipx_query.proofs.queried_router.hear_router.Given as goal

-- the routers up to here are marked, if they answered
abbrev pub invariant-loop-router : goal.invariant-loop-router
invariant-loop-router l =
    l.routers ≡ map (router_heard l.node l.ended) (take l.router-index l.fn.routers) ++ drop l.router-index l.fn.routers
