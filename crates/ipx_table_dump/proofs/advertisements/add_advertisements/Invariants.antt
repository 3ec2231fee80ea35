use Rattle.std.proofs.Common.{◌≡◌, ◌++◌, take}
use Rattle.ipx_table_dump.specs.Advertisers.{advertisements}
use Rattle.ipx_table_dump.proofs.advertisements.add_advertisements.Given as goal

abbrev pub invariant-loop-offer : goal.invariant-loop-offer
invariant-loop-offer g l = l.said.items ≡ l.fn.said.items ++ advertisements l.of_network (take l.offer-index l.offers)
