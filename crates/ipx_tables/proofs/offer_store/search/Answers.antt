use Rattle.std.proofs.Common.{◌≡◌, ℕ, ◌+◌, ◌-◌, ◌/◌, ◌<◌, ◌∙◌, sym, length, arith}
use Rattle.std.specs.declared.cmp.Ordering.TheVariants.{Less, Greater}
use Rattle.ipx_tables.specs.Content.{pair_cmp, pair_of}
use Rattle.ipx_tables.proofs.Lists.{pair_total}
use Rattle.ipx_tables.proofs.Sought.{low_half, high_half}
use Rattle.ipx_tables.proofs.offer_store.search.Goals as goal

pub loop-low-preserved-in-Less : goal.loop-low-preserved-in-Less
loop-low-preserved-in-Less g c =
    let i = c.loop-low.invariant in
    let test : c.loop-low.low < c.loop-low.high = c.loop-low-test.true in
    let mid : ℕ = c.loop-low.low + (c.loop-low.high - c.loop-low.low) / 2 in
    let within : mid < length c.args.offers.now.items = omega (arith, i.within) in
    let less : pair_cmp g.K.Ord.cmp (pair_of c.get.result.now) (c.args.key, c.args.source) ≡ Less = sym c.pair_order.ensures ∙ c.in-Less.is in
    record {
      ordered = omega arith;
      within = i.within;
      below = λ j d lt. low_half (pair_total g.met.K.Ord.total) pair_of c.args.offers.now.items c.requires.rising (c.args.key, c.args.source) mid c.get.result.now within c.get.ensures less j d (omega arith);
      above = i.above;
    }

pub loop-low-preserved : goal.loop-low-preserved
loop-low-preserved g c =
    let i = c.loop-low.invariant in
    let test : c.loop-low.low < c.loop-low.high = c.loop-low-test.true in
    let mid : ℕ = c.loop-low.low + (c.loop-low.high - c.loop-low.low) / 2 in
    let within : mid < length c.args.offers.now.items = omega (arith, i.within) in
    let more : pair_cmp g.K.Ord.cmp (pair_of c.get.result.now) (c.args.key, c.args.source) ≡ Greater = sym c.pair_order.ensures ∙ c.in-Greater.is in
    record {
      ordered = omega arith;
      within = omega (arith, i.within);
      below = i.below;
      above = λ j d le lt. high_half (pair_total g.met.K.Ord.total) pair_of c.args.offers.now.items c.requires.rising (c.args.key, c.args.source) mid c.get.result.now within c.get.ensures more j d le lt;
    }
