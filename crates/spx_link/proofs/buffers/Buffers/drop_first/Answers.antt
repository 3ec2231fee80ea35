use Rattle.std.proofs.Common.{◌≡◌, ◌∙◌, ◌-◌, ap, arith, length, drop}
use Rattle.spx_link.proofs.Laying.{take_becomes}
use Rattle.spx_link.proofs.buffers.Buffers.drop_first.Goals as goal

pub invariant_of-self : goal.invariant_of-self
invariant_of-self c =
    let items = c.self.inside.ring.items in
    let some : length items - (c.len.result - 1) ≡ 1 = omega (arith, c.len.ensures.len, c.self.invariant.within, c.if-self-eq0.false) in
    let left : c.truncate_front.new.self.items ≡ drop 1 items = ap (λ b. b.items) c.truncate_front.ensures ∙ ap (λ n. drop n items) some in
    (take_becomes items c.truncate_front.new.self.items c.self.inside.ring.capacity c.truncate_front.new.self.capacity c.self.inside.count c.self.inside.size c.args.self.now c.self.invariant c.self.view_is left (ap (λ b. b.capacity) c.truncate_front.ensures) c.if-self-eq0.false).laid
