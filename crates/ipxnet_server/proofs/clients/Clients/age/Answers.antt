use Rattle.std.proofs.Common.{ℕ, List, sym, subst}
use Rattle.std.specs.Vec.{vec_capacity}
use Rattle.ipxnet_server.specs.declared.clients.Client.{Client}
use Rattle.ipxnet_server.specs.ServerClients.{EachClientOnce}
use Rattle.ipxnet_server.specs.ServerInside.{AreClients}
use Rattle.ipxnet_server.proofs.Once.{once_left}
use Rattle.ipxnet_server.proofs.clients.Clients.age.Goals as goal

pub invariant_of-self : goal.invariant_of-self
invariant_of-self c =
    let most = c.self.inside.max_clients in
    let room = vec_capacity c.self.inside.known in
    let left = once_left c.args.now most room c.self.inside.known.items c.self.invariant in
    let all : AreClients most c.leave_out_silent.new.known.items room = subst (λ (l : List Client). AreClients most l room) (sym c.leave_out_silent.ensures.items) left in
    subst (λ (n : ℕ). AreClients most c.leave_out_silent.new.known.items n) (sym c.leave_out_silent.ensures.capacity) all

pub returns-clause-once : goal.returns-clause-once
returns-clause-once c =
    let left = once_left c.args.now c.self.inside.max_clients (vec_capacity c.self.inside.known) c.self.inside.known.items c.self.invariant in
    subst EachClientOnce (sym c.leave_out_silent.ensures.items) left.once
