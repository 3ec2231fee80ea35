use Rattle.std.proofs.Common.{◌≡◌, drop}
use Rattle.ipx_config.specs.EthernetValues.{are_places_distinct}
use Rattle.ipx_config.proofs.ethernet_values.are_distinct.Given as goal

-- a place is listed twice exactly if one of the remaining ones is
abbrev pub invariant-loop-index : goal.invariant-loop-index
invariant-loop-index l = are_places_distinct l.places ≡ are_places_distinct (drop l.index l.places)
