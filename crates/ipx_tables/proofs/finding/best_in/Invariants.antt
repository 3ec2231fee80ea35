use Rattle.std.proofs.Common.{◌≡◌, ℕ, ◌+◌, ◌-◌, ◌^◌, ◌<◌, ◌≤◌, length, get_or, drop, take, None, false, count_by, option_copied}
use Rattle.std.specs.Ordering.{is_lt, is_eq}
use Rattle.ipx_tables.specs.declared.offer.Offer.{Offer}
use Rattle.ipx_tables.specs.OfferScan.{best_from, is_candidate, offer_beats}
use Rattle.ipx_tables.proofs.finding.best_in.Given as goal

-- the best so far, with what is left, gives the best of all; each offer that was read is of the key
abbrev pub invariant-loop-at : goal.invariant-loop-at
invariant-loop-at g l =
    let best = best_from (is_candidate g.K.Ord.cmp l.key l.now) (offer_beats g.M.Metric.before) in
    record {
      within : l.at ≤ length l.offer_store;
      above : (j : ℕ) (o : Offer g.row.K.Denot g.row.M.Denot) → l.at ≤ j → j < length l.offer_store → is_lt (g.K.Ord.cmp (get_or l.offer_store j o).key l.key) ≡ false;
      best : best (option_copied l.best) (drop l.at l.offer_store) ≡ best None l.offer_store;
      cost : (digits : ℕ) → length l.offer_store < 2 ^ digits → l.steps ≤ count_by (λ o. is_eq (g.K.Ord.cmp o.key l.key)) (take l.at l.offer_store) + digits;
      all_read : count_by (λ o. is_eq (g.K.Ord.cmp o.key l.key)) (take l.at l.offer_store) ≤ l.steps;
    }

abbrev pub decreases-loop-at : goal.decreases-loop-at
decreases-loop-at g l = length l.offer_store - l.at
