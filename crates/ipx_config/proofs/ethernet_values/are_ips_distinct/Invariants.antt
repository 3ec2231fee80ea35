use Rattle.std.proofs.Common.{◌≡◌, drop}
use Rattle.ipx_config.specs.EthernetValues.{are_ips_distinct}
use Rattle.ipx_config.proofs.ethernet_values.are_ips_distinct.Given as goal

-- an IP address is listed twice exactly if one of the remaining ones is
abbrev pub invariant-loop-index : goal.invariant-loop-index
invariant-loop-index l = are_ips_distinct l.places ≡ are_ips_distinct (drop l.index l.places)
