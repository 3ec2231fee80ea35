use Rattle.std.proofs.Common.{◌≡◌, ◌+◌, ◌∙◌, ap, sym, if◌then◌else◌, arith}
use Rattle.spx_link.proofs.Counting.{counts_on}
use Rattle.spx_link.proofs.buffers.count_from.Goals as goal
use Rattle.spx_link.proofs.buffers.count_from.Goals.{then-is_some, else-is_some}

pub loop-place-preserved : goal.loop-place-preserved
loop-place-preserved c =
    let items = c.args.ring.now.items in
    let at = c.loop-place.place in
    let goes_on = counts_on items at c.loop-place.count c.if-is_some.count c.unit_at.result c.is_some.result c.unit_at.ensures c.is_some.ensures in
    let none : c.loop-place.count ≡ c.loop-place.count + 0 = omega arith in
    elim c.if-is_some.branch [
      | then-is_some w ↦ record {
        count = goes_on (w.count-is ∙ sym (ap (λ b. c.loop-place.count + (if b then 1 else 0)) w.if-is_some.true)) ∙ c.loop-place.invariant.count;
        steps = omega (arith, w.count-is, c.loop-place.invariant.steps);
      }
      | else-is_some w ↦ record {
        count = goes_on (w.count-is ∙ none ∙ sym (ap (λ b. c.loop-place.count + (if b then 1 else 0)) w.if-is_some.false)) ∙ c.loop-place.invariant.count;
        steps = omega (arith, w.count-is, c.loop-place.invariant.steps);
      }
    ]
