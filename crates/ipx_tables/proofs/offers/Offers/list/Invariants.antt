use Rattle.std.proofs.Common.{◌≡◌, ◌++◌}
use Rattle.ipx_tables.proofs.offers.Offers.list.Given as goal

-- the items so far and those that the walk has left are all items
abbrev pub invariant-loop-item : goal.invariant-loop-item
invariant-loop-item g l = l.listed.items ++ l.item-iterator ≡ l.initial.item-iterator
