use Rattle.std.proofs.Common.{◌≡◌, take}
use Rattle.ipx_site.specs.EthernetTotals.{encapsulated_otherwise_in}
use Rattle.ipx_site.proofs.ethernet_totals.in_other_encapsulations.Given as goal

abbrev pub invariant-loop-switch : goal.invariant-loop-switch
invariant-loop-switch l = l.total ≡ encapsulated_otherwise_in (take l.switch-index l.switches)
