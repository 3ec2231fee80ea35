use Rattle.std.proofs.Common.{◌≡◌, ◌↔◌, ℕ, length, arith, subst}
use Rattle.ipx_sockets.specs.Moments.{counts_of, IsOneDueOf, IsReached}
use Rattle.ipx_sockets.proofs.OneDue.{one_more}
use Rattle.ipx_sockets.proofs.warning.next_of.Goals as goal

pub loop-place-init : goal.loop-place-init
loop-place-init c t h = (λ none. absurd none, λ (place, lt, due). absurd (omega (arith, lt)))

pub loop-place-preserved : goal.loop-place-preserved
loop-place-preserved c t h =
    one_more c.args.causes.now (counts_of c.args.warnings.now) c.loop-place.place t (c.sooner-first.ensures t) (c.loop-place.invariant t h)
    (rw c.count_at.ensures at c.next.ensures.reached t h)

pub returns : goal.returns
returns c t h =
    let same : c.loop-place.place ≡ length c.args.causes.now = omega (arith, c.loop-place-test.false, c.loop-place.auto.place-end) in
    subst (λ (n : ℕ). IsReached c.loop-place.first t ↔ IsOneDueOf n c.args.causes.now (counts_of c.args.warnings.now) t) same (c.loop-place.invariant t h)
