use Rattle.std.proofs.Common.{◌≡◌, ℕ, ◌-◌, ◌<◌, ◌≤◌, length, get_or}
use Rattle.std.specs.declared.cmp.Ordering.TheVariants.{Less, Greater}
use Rattle.ipx_tables.specs.declared.offer.Offer.{Offer}
use Rattle.ipx_tables.specs.Content.{pair_cmp, pair_of}
use Rattle.ipx_tables.proofs.offer_store.search.Given as goal

-- all before the range is below the key and source, and all after it is above
abbrev pub invariant-loop-low : goal.invariant-loop-low
invariant-loop-low g l = record {
  ordered : l.low ≤ l.high;
  within : l.high ≤ length l.offers.items;
  below : (j : ℕ) (d : Offer g.row.K.Denot g.row.M.Denot) → j < l.low → pair_cmp g.K.Ord.cmp (pair_of (get_or l.offers.items j d)) (l.key, l.source) ≡ Less;
  above : (j : ℕ) (d : Offer g.row.K.Denot g.row.M.Denot) → l.high ≤ j → j < length l.offers.items → pair_cmp g.K.Ord.cmp (pair_of (get_or l.offers.items j d)) (l.key, l.source) ≡ Greater;
}

abbrev pub decreases-loop-low : goal.decreases-loop-low
decreases-loop-low g l = l.high - l.low
