use Rattle.std.proofs.Common.{sym, subst}
use Rattle.std.specs.Prelude.{All}
use Rattle.ipxnet_server.specs.ServerClients.{HasPlaceNode}
use Rattle.ipxnet_server.specs.ServerInside.{ClientsView}
use Rattle.ipxnet_server.proofs.Once.{nodes_heard}
use Rattle.ipxnet_server.proofs.server.IpxnetServer.note_heard.Goals as goal

pub invariant_of-self : goal.invariant_of-self
invariant_of-self c =
    let port = c.self.inside.port in
    subst (λ (v : ClientsView). All (HasPlaceNode port) v.known) (sym c.hear.ensures.heard)
    (nodes_heard port c.args.from c.args.now c.self.inside.clients.known c.self.invariant)
