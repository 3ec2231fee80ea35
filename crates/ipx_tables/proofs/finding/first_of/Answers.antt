use Rattle.std.proofs.Common.{◌≡◌, ℕ, ◌+◌, ◌-◌, ◌/◌, ◌<◌, ◌^◌, true, false, ap, ◌∙◌, sym, arith, get_or, length}
use Rattle.std.specs.Ordering.{is_lt}
use Rattle.std.proofs.lemmas.List.{get_or_default}
use Rattle.ipx_tables.specs.declared.offer.Offer.{Offer}
use Rattle.ipx_tables.proofs.Halving.{halving, low_keys, high_keys}
use Rattle.ipx_tables.proofs.finding.first_of.Goals as goal

pub read-offer-requires-clause-few : goal.read-offer-requires-clause-few
read-offer-requires-clause-few g c =
    let few : length c.args.offer_store.now < 2 ^ 64 = omega (arith, c.len-high.ensures.len, c.len-high.ensures.few) in
    omega (arith, (c.loop-low.invariant.cost 64 few).0, c.requires)

pub loop-low-preserved-then-is_lt : goal.loop-low-preserved-then-is_lt
loop-low-preserved-then-is_lt g c =
    let i = c.loop-low.invariant in
    let os = c.args.offer_store.now in
    let mid : ℕ = c.loop-low.low + (c.loop-low.high - c.loop-low.low) / 2 in
    let test : c.loop-low.low < c.loop-low.high = c.loop-low-test.true in
    let within : mid < length os = omega (arith, i.within) in
    let below : (o : Offer g.row.K.Denot g.row.M.Denot) → is_lt (g.K.Ord.cmp (get_or os mid o).key c.args.key) ≡ true = λ o.
    ap (λ (v : Offer g.row.K.Denot g.row.M.Denot). is_lt (g.K.Ord.cmp v.key c.args.key)) (get_or_default os mid o c.read-offer.result.now within ∙ sym c.read-offer.ensures.offer) ∙ ap is_lt (sym c.cmp.ensures) ∙ sym c.is_lt.ensures ∙ c.if-is_lt.true in
    record {
      ordered = omega arith;
      within = i.within;
      below = λ j o lt. low_keys g.met.K.Ord.total os c.len-high.ensures.rising c.args.key j mid o (omega arith) within (below o);
      above = i.above;
      more = omega (arith, i.more, c.read-offer.ensures.steps);
      cost = λ digits long. halving (c.loop-low.high - c.loop-low.low) _ _ _ _ digits (omega arith) (omega arith) c.read-offer.ensures.steps (i.cost digits long);
    }

pub loop-low-preserved : goal.loop-low-preserved
loop-low-preserved g c =
    let i = c.loop-low.invariant in
    let os = c.args.offer_store.now in
    let mid : ℕ = c.loop-low.low + (c.loop-low.high - c.loop-low.low) / 2 in
    let test : c.loop-low.low < c.loop-low.high = c.loop-low-test.true in
    let within : mid < length os = omega (arith, i.within) in
    let above : (o : Offer g.row.K.Denot g.row.M.Denot) → is_lt (g.K.Ord.cmp (get_or os mid o).key c.args.key) ≡ false = λ o.
    ap (λ (v : Offer g.row.K.Denot g.row.M.Denot). is_lt (g.K.Ord.cmp v.key c.args.key)) (get_or_default os mid o c.read-offer.result.now within ∙ sym c.read-offer.ensures.offer) ∙ ap is_lt (sym c.cmp.ensures) ∙ sym c.is_lt.ensures ∙ c.if-is_lt.false in
    record {
      ordered = omega arith;
      within = omega (arith, i.within);
      below = i.below;
      above = λ j o le lt. high_keys g.met.K.Ord.total os c.len-high.ensures.rising c.args.key mid j o le lt (above o);
      more = omega (arith, i.more, c.read-offer.ensures.steps);
      cost = λ digits long. halving (c.loop-low.high - c.loop-low.low) _ _ _ _ digits (omega arith) (omega arith) c.read-offer.ensures.steps (i.cost digits long);
    }
