use Rattle.std.proofs.Common.{◌≡◌, ◌<◌, ◌∙◌, sym, length, arith}
use Rattle.std.specs.declared.cmp.Ordering.TheVariants.{Less, Greater}
use Rattle.ipx_tables.specs.Content.{pair_cmp, pair_of}
use Rattle.ipx_tables.proofs.Lists.{pair_total}
use Rattle.ipx_tables.proofs.Sought.{low_half, high_half}
use Rattle.ipx_tables.proofs.offer_store.place_in.Goals as goal

pub search-requires-in-Less-clause-below : goal.search-requires-in-Less-clause-below
search-requires-in-Less-clause-below g c =
    let items = c.args.offers.now.items in
    let within : c.args.first < length items = omega (arith, c.len-end.ensures.len, c.if-first-end.false) in
    let less : pair_cmp g.K.Ord.cmp (pair_of c.get.result.now) (c.args.key, c.args.source) ≡ Less = sym c.pair_order.ensures ∙ c.in-Less.is in
    λ j d lt. low_half (pair_total g.met.K.Ord.total) pair_of items c.requires (c.args.key, c.args.source) c.args.first c.get.result.now within c.get.ensures less j d (omega (arith, lt))

pub search-requires-in-Greater-clause-above : goal.search-requires-in-Greater-clause-above
search-requires-in-Greater-clause-above g c =
    let items = c.args.offers.now.items in
    let within : c.args.first < length items = omega (arith, c.len-end.ensures.len, c.if-first-end.false) in
    let more : pair_cmp g.K.Ord.cmp (pair_of c.get.result.now) (c.args.key, c.args.source) ≡ Greater = sym c.pair_order.ensures ∙ c.in-Greater.is in
    λ j d le lt. high_half (pair_total g.met.K.Ord.total) pair_of items c.requires (c.args.key, c.args.source) c.args.first c.get.result.now within c.get.ensures more j d le lt
