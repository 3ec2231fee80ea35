use Rattle.std.proofs.Common.{◌≡◌, true, sym, ◌∙◌, ap, arith}
use Rattle.ipx_net.specs.Places.{PlacesView}
use Rattle.ipx_net.proofs.Counting.{times-between, times-count}
use Rattle.ipx_net.proofs.places.UnitPlaces.between.Goals as goal

pub returns-then-not-self : goal.returns-then-not-self
returns-then-not-self c = c.count_between.ensures ∙ sym (times-count c.args.who _)

pub returns : goal.returns
returns c =
    let whole : c.args.self.now.whole ≡ true = sym (ap (λ (p : PlacesView). p.whole) c.self.view_is) ∙ c.if-not-self.false in
    let is = c.list-list.ensures ∙ c.requires whole c.args.who in
    let last = c.places_below.ensures c.args.sent.now c.args.who is in
    let first = c.places_below-2.ensures c.args.sent.now c.args.who is in
    omega (arith, times-between c.args.who c.args.from c.args.to c.args.sent.now, last, first)
