use Rattle.std.proofs.Common.{◌≡◌, take}
use Rattle.ipx_site.specs.EthernetTotals.{unframed_in}
use Rattle.ipx_site.proofs.ethernet_totals.unframed.Given as goal

abbrev pub invariant-loop-switch : goal.invariant-loop-switch
invariant-loop-switch l = l.total ≡ unframed_in (take l.switch-index l.switches)
