use Rattle.std.proofs.Common.{◌≡◌, ℕ, Option, ap, sym, subst, ◌∙◌, take, ◌+◌, arith, ◌<◌, length}
use Rattle.spx_link.specs.Leasts.{IsLeastId, lesser_of, HasGreaterId}
use Rattle.spx_link.specs.Sound.{own_of}
use Rattle.spx_link.proofs.Lesser.{least_step}
use Rattle.spx_link.proofs.links.lookup.least_above.Goals as goal

pub loop-link-preserved : goal.loop-link-preserved
loop-link-preserved c =
    let x = c.link-item.result in
    let Q : Option ℕ → Type 0 = λ r. IsLeastId (HasGreaterId c.args.id) (take (c.loop-link.link-index + 1) c.args.links.now) r in
    let own : c.link.inside.own ≡ x.own = ap own_of c.link.view_is in
    let within : c.loop-link.link-index < length c.args.links.now = omega arith in
    let is : lesser_of x.own c.is_over.result c.loop-link.least ≡ c.lesser-least.result = sym (c.lesser-least.ensures ∙ ap (λ (n : ℕ). lesser_of n c.is_over.result c.loop-link.least) own) in
    subst Q is (least_step (HasGreaterId c.args.id) c.is_over.result c.args.links.now c.loop-link.link-index x c.loop-link.least within c.link-item.is c.is_over.ensures.0 c.is_over.ensures.1 c.loop-link.invariant)
