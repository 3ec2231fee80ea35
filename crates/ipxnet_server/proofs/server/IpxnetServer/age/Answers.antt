use Rattle.std.proofs.Common.{sym, subst}
use Rattle.std.specs.Prelude.{All}
use Rattle.ipxnet_server.specs.ServerClients.{HasPlaceNode}
use Rattle.ipxnet_server.specs.ServerInside.{ClientsView}
use Rattle.ipxnet_server.proofs.Once.{nodes_left}
use Rattle.ipxnet_server.proofs.server.IpxnetServer.age.Goals as goal

pub invariant_of-self : goal.invariant_of-self
invariant_of-self c =
    subst (λ (v : ClientsView). All (HasPlaceNode c.self.inside.port) v.known) (sym c.age.ensures.left)
    (nodes_left c.self.inside.port c.args.now c.self.inside.clients.known c.self.invariant)
