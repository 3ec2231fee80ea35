use Rattle.ipx_site.proofs.RanRounds.{not_well, routes_well}
use Rattle.ipx_site.proofs.routing.do_route.Goals as goal

pub returns-in-Ok-clause-well : goal.returns-in-Ok-clause-well
returns-in-Ok-clause-well g c = routes_well c.in-Ok.router c.run_router.new.router c.run_router.result c.in-Ok.ensures.starts c.run_router.ensures.runs

pub returns-in-Err-clause-well : goal.returns-in-Err-clause-well
returns-in-Err-clause-well g c = not_well c.in-Err.status c.in-Err.ensures.refused
