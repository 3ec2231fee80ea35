use Rattle.std.proofs.Common.{◌≡◌, ◌++◌}
use Rattle.ipx_router.proofs.NearestWalk.{IsNearestOf}
use Rattle.ipx_router.proofs.replying.nearest_service.Given as goal

-- the items so far and those that the walk has left are all items; the held one is the nearest so far
abbrev pub invariant-loop-item : goal.invariant-loop-item
invariant-loop-item l = record {
  all : l.yielded ++ l.item-iterator ≡ l.initial.item-iterator;
  nearest : IsNearestOf l.at l.kind l.yielded l.nearest;
}
