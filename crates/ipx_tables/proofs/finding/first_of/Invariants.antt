use Rattle.std.proofs.Common.{◌≡◌, ℕ, ◌+◌, ◌-◌, ◌^◌, ◌<◌, ◌≤◌, length, get_or, true, false}
use Rattle.std.specs.Ordering.{is_lt}
use Rattle.ipx_tables.specs.declared.offer.Offer.{Offer}
use Rattle.ipx_tables.proofs.finding.first_of.Given as goal

-- all before the range is below the key, all after it is not, and each offer that was read used up a digit
abbrev pub invariant-loop-low : goal.invariant-loop-low
invariant-loop-low g l = record {
  ordered : l.low ≤ l.high;
  within : l.high ≤ length l.offer_store;
  below : (j : ℕ) (o : Offer g.row.K.Denot g.row.M.Denot) → j < l.low → is_lt (g.K.Ord.cmp (get_or l.offer_store j o).key l.key) ≡ true;
  above : (j : ℕ) (o : Offer g.row.K.Denot g.row.M.Denot) → l.high ≤ j → j < length l.offer_store → is_lt (g.K.Ord.cmp (get_or l.offer_store j o).key l.key) ≡ false;
  more : l.initial.steps ≤ l.steps;
  cost : (digits : ℕ) → length l.offer_store < 2 ^ digits → (l.steps ≤ l.initial.steps + digits) × (l.high - l.low < 2 ^ (l.initial.steps + digits - l.steps));
}

abbrev pub decreases-loop-low : goal.decreases-loop-low
decreases-loop-low g l = l.high - l.low
