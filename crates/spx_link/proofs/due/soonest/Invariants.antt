use Rattle.std.proofs.Common.{◌≡◌, take}
use Rattle.spx_link.specs.Due.{soonest}
use Rattle.spx_link.proofs.due.soonest.Given as goal

abbrev pub invariant-loop-link : goal.invariant-loop-link
invariant-loop-link l = l.soonest ≡ soonest (take l.link-index l.links)
