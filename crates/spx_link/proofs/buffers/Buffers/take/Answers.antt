use Rattle.std.proofs.Common.{ap}
use Rattle.spx_link.proofs.Laying.{take_becomes}
use Rattle.spx_link.proofs.buffers.Buffers.take.Goals as goal

pub invariant_of-self : goal.invariant_of-self
invariant_of-self c =
    (take_becomes c.self.inside.ring.items c.pop_front.new.self.items c.self.inside.ring.capacity c.pop_front.new.self.capacity c.self.inside.count c.self.inside.size c.args.self.now c.self.invariant c.self.view_is (ap (λ b. b.items) c.pop_front.ensures.items) (ap (λ b. b.capacity) c.pop_front.ensures.items) c.if-self-eq0.false).laid
