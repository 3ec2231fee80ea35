use Rattle.std.proofs.Common.{sym, subst}
use Rattle.std.specs.Prelude.{All}
use Rattle.ipx_wire.specs.declared.address.Node.{Node}
use Rattle.ipxnet_server.specs.ServerClients.{HasPlaceNode, clients_with}
use Rattle.ipxnet_server.specs.ServerInside.{ClientsView}
use Rattle.ipxnet_server.proofs.Once.{nodes_with}
use Rattle.ipxnet_server.proofs.server.IpxnetServer.admit.Goals as goal

pub invariant_of-self : goal.invariant_of-self
invariant_of-self c =
    let port = c.self.inside.port in
    let most = c.self.inside.clients.max_clients in
    let known = c.self.inside.clients.known in
    subst (λ (v : ClientsView). All (HasPlaceNode port) v.known) (sym c.put.ensures.put)
    (subst (λ (n : Node). All (HasPlaceNode port) (clients_with most n c.args.from c.args.now known)) (sym c.node_of-node.ensures) (nodes_with port most c.args.now c.args.from known c.self.invariant))
