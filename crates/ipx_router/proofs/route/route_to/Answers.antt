use Rattle.std.proofs.Common.{◌∙◌, length, sym}
use Rattle.ipx_router.specs.Knowledge.{routes_in}
use Rattle.ipx_router.proofs.Routes.{route_by_offer}
use Rattle.ipx_router.proofs.route.route_to.Goals as goal

pub returns-in-None-clause-port : goal.returns-in-None-clause-port
returns-in-None-clause-port c = c.heard_route.ensures.port (length c.args.ports.now)

pub returns-in-None-clause-route : goal.returns-in-None-clause-route
returns-in-None-clause-route c = route_by_offer c.args.ports.now (routes_in c.args.routes.now) c.args.now c.args.network c.heard_route.result (sym c.direct_port.ensures ∙ c.in-None.is) c.heard_route.ensures.route
