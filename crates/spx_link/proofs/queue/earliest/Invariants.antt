use Rattle.std.proofs.Common.{◌≡◌, take}
use Rattle.spx_link.specs.Due.{earliest}
use Rattle.spx_link.proofs.queue.earliest.Given as goal

abbrev pub invariant-loop-place : goal.invariant-loop-place
invariant-loop-place l = l.least ≡ earliest (take l.place l.units)
