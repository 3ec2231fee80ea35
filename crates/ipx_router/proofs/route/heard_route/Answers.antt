use Rattle.ipx_router.proofs.route.heard_route.Goals as goal

pub returns-in-Some-clause-port : goal.returns-in-Some-clause-port
returns-in-Some-clause-port c = λ count from. from (c.args.network, c.in-Some.best.0) _ c.in-Some.ensures.least.stands
