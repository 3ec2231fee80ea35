use Rattle.std.proofs.Common.{ℕ, ◌<◌, ap, sym, ◌∙◌, Option, length, arith}
use Rattle.spx_link.specs.Due.{sooner, due_link}
use Rattle.spx_link.proofs.Sooner.{soonest_next}
use Rattle.spx_link.proofs.due.soonest.Goals as goal

pub loop-link-preserved : goal.loop-link-preserved
loop-link-preserved c =
    let x = c.link-item.result in
    let less : c.loop-link.link-index < length c.args.links.now = omega arith in
    let f : Option ℕ → Option ℕ = λ r. sooner r c.loop-link.soonest in
    let g : Option ℕ → Option ℕ = λ r. sooner (due_link x) r in
    c.sooner-soonest.ensures ∙ ap f c.due.ensures ∙ ap g c.loop-link.invariant ∙ sym (soonest_next c.args.links.now c.loop-link.link-index x less c.link-item.is)
