use Rattle.std.proofs.Common.{ℕ, ◌<◌, ap, sym, ◌∙◌, Option, Some, length, arith}
use Rattle.std.proofs.lemmas.Option.{get_or_from_slice_get}
use Rattle.spx_link.specs.Due.{earlier}
use Rattle.spx_link.specs.Sequences.{with_stamp}
use Rattle.spx_link.proofs.Waiting.{earliest_next}
use Rattle.spx_link.proofs.queue.earliest.Goals as goal

pub loop-place-preserved : goal.loop-place-preserved
loop-place-preserved c =
    let units = c.args.units.now in
    let q = with_stamp c.get.result.0.now c.get.result.1 in
    let less : c.loop-place.place < length units = omega arith in
    let f : Option ℕ → Option ℕ = λ r. Some (earlier q.at r) in
    ap Some c.earlier.ensures ∙ ap f c.loop-place.invariant ∙ sym (earliest_next units c.loop-place.place q less (sym (get_or_from_slice_get units c.loop-place.place q q c.get.ensures)))
