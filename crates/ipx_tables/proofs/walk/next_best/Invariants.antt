use Rattle.std.proofs.Common.{◌≡◌, ◌-◌, length, drop, option_copied}
use Rattle.ipx_tables.specs.Walk.{bests_of}
use Rattle.ipx_tables.proofs.Walks.{IsLow, put_held}
use Rattle.ipx_tables.proofs.walk.next_best.Given as goal

-- the held offer and the offers that are left give the same bests as all offers that there were at first
abbrev pub invariant-loop-at : goal.invariant-loop-at
invariant-loop-at g l =
    let bests = bests_of g.K.Ord.cmp g.M.Metric.before l.now in
    record {
      left : put_held g.K.Ord.cmp g.M.Metric.before (option_copied l.held) (bests (drop l.at l.offer_store)) ≡ bests (drop l.from l.offer_store);
      low : IsLow g.K.Ord.cmp l.offer_store l.at (option_copied l.held);
    }

abbrev pub decreases-loop-at : goal.decreases-loop-at
decreases-loop-at g l = length l.offer_store - l.at
