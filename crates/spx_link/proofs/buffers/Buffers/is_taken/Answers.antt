use Rattle.std.proofs.Common.{◌≡◌, ◌+◌, subst, ◌∙◌, slice_get, arith}
use Rattle.spx_link.specs.Buffers.{BuffersView, unit_there}
use Rattle.spx_link.specs.Receive.{is_taken}
use Rattle.spx_link.proofs.Laying.{some_copied, taken_there}
use Rattle.spx_link.proofs.buffers.Buffers.is_taken.Goals as goal

pub returns : goal.returns
returns c =
    let f = c.self.inside in
    let place = c.from.result + c.from-2.result in
    let at : place ≡ f.count + c.args.place = omega (arith, c.from.ensures, c.from-2.ensures) in
    let P : BuffersView → Type 0 = λ b. c.is_some.result ≡ is_taken c.args.place b.ahead in
    subst P c.self.view_is (c.is_some.ensures ∙ some_copied c.unit_at.result (unit_there (slice_get f.ring.items place)) c.unit_at.ensures ∙ taken_there f.ring.items f.ring.capacity f.count f.size place c.args.place c.self.invariant at)
