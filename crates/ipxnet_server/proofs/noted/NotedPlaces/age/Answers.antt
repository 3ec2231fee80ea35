use Rattle.std.proofs.Common.{ℕ, List, sym, subst}
use Rattle.std.specs.Vec.{vec_capacity}
use Rattle.ipxnet_server.specs.declared.noted.Noted.{Noted}
use Rattle.ipxnet_server.specs.NotedPlaces.{is_to_be_asked}
use Rattle.ipxnet_server.specs.ServerInside.{AreNoted}
use Rattle.ipxnet_server.proofs.Notes.{few_left}
use Rattle.ipxnet_server.proofs.noted.NotedPlaces.age.Goals as goal

pub invariant_of-self : goal.invariant_of-self
invariant_of-self c =
    let room = vec_capacity c.self.inside.known in
    let left = few_left (is_to_be_asked c.args.pinged) room c.self.inside.known.items c.self.invariant in
    let all : AreNoted c.leave_out_asked.new.known.items room = subst (λ (l : List Noted). AreNoted l room) (sym c.leave_out_asked.ensures.items) left in
    subst (λ (n : ℕ). AreNoted c.leave_out_asked.new.known.items n) (sym c.leave_out_asked.ensures.capacity) all
