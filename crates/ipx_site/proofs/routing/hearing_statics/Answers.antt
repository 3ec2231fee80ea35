use Rattle.std.proofs.Common.{All, length, subst, sym}
use Rattle.ipx_router.specs.Ports.{IsPortNumber}
use Rattle.ipx_router.specs.RouterView.{RouterView}
use Rattle.ipx_static.specs.declared.neighbour.StaticNeighbour.{StaticNeighbour}
use Rattle.ipx_site.proofs.routing.hearing_statics.Goals as goal

pub new-requires-2 : goal.new-requires-2
new-requires-2 c = subst (λ (r : RouterView). All (λ (n : StaticNeighbour). IsPortNumber (length r.ports) n.port) c.args.neighbours.now)
    (sym c.in_ok-counted.ensures.router) c.requires
