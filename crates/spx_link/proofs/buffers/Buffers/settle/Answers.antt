use Rattle.std.proofs.Common.{◌+◌, ◌≤◌, ap, sym, ◌∙◌, ℕ, length, drop, take, arith}
use Rattle.spx_link.specs.Receive.{leading, any_end}
use Rattle.spx_link.proofs.Laying.{settle_fits, open_becomes, cut_becomes}
use Rattle.spx_link.proofs.buffers.Buffers.settle.Goals as goal

pub overflow_add-self : goal.overflow_add-self
overflow_add-self c =
    let f = c.self.inside in
    let many = c.leading-risen.ensures.count ∙ ap (λ (n : ℕ). length (leading (drop n f.ring.items))) c.from.ensures in
    let fits : f.count + c.leading-risen.result.count ≤ f.size = settle_fits f.ring.items f.ring.capacity f.count f.size c.leading-risen.result.count c.self.invariant many in
    omega (arith, c.self.ranges)

pub invariant_of-self : goal.invariant_of-self
invariant_of-self c =
    let f = c.self.inside in
    let many = c.leading-risen.ensures.count ∙ ap (λ (n : ℕ). length (leading (drop n f.ring.items))) c.from.ensures in
    let ends = sym (ap (λ (n : ℕ). any_end (leading (drop n f.ring.items))) c.from.ensures) ∙ sym c.leading-risen.ensures.ended ∙ c.if-risen.true in
    let cut = ap (λ b. b.items) c.truncate_back.ensures ∙ ap (λ (n : ℕ). take n f.ring.items) c.from-then-risen.ensures in
    (cut_becomes f.ring.items c.truncate_back.new.self.items f.ring.capacity c.truncate_back.new.self.capacity f.count f.size c.leading-risen.result.count c.args.self.now c.self.invariant c.self.view_is many ends cut (ap (λ b. b.capacity) c.truncate_back.ensures)).laid

pub invariant_of-self-else-risen : goal.invariant_of-self-else-risen
invariant_of-self-else-risen c =
    let f = c.self.inside in
    let many = c.leading-risen.ensures.count ∙ ap (λ (n : ℕ). length (leading (drop n f.ring.items))) c.from.ensures in
    let goes = sym (ap (λ (n : ℕ). any_end (leading (drop n f.ring.items))) c.from.ensures) ∙ sym c.leading-risen.ensures.ended ∙ c.if-risen.false in
    (open_becomes f.ring.items f.ring.capacity f.count f.size c.leading-risen.result.count c.args.self.now c.self.invariant c.self.view_is many goes).laid

pub returns-then-risen-clause-leaves : goal.returns-then-risen-clause-leaves
returns-then-risen-clause-leaves c =
    let f = c.self.inside in
    let many = c.leading-risen.ensures.count ∙ ap (λ (n : ℕ). length (leading (drop n f.ring.items))) c.from.ensures in
    let ends = sym (ap (λ (n : ℕ). any_end (leading (drop n f.ring.items))) c.from.ensures) ∙ sym c.leading-risen.ensures.ended ∙ c.if-risen.true in
    let cut = ap (λ b. b.items) c.truncate_back.ensures ∙ ap (λ (n : ℕ). take n f.ring.items) c.from-then-risen.ensures in
    (cut_becomes f.ring.items c.truncate_back.new.self.items f.ring.capacity c.truncate_back.new.self.capacity f.count f.size c.leading-risen.result.count c.args.self.now c.self.invariant c.self.view_is many ends cut (ap (λ b. b.capacity) c.truncate_back.ensures)).is

pub returns-else-risen-clause-leaves : goal.returns-else-risen-clause-leaves
returns-else-risen-clause-leaves c =
    let f = c.self.inside in
    let many = c.leading-risen.ensures.count ∙ ap (λ (n : ℕ). length (leading (drop n f.ring.items))) c.from.ensures in
    let goes = sym (ap (λ (n : ℕ). any_end (leading (drop n f.ring.items))) c.from.ensures) ∙ sym c.leading-risen.ensures.ended ∙ c.if-risen.false in
    (open_becomes f.ring.items f.ring.capacity f.count f.size c.leading-risen.result.count c.args.self.now c.self.invariant c.self.view_is many goes).is
