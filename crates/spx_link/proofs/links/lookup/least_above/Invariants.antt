use Rattle.std.proofs.Common.{take}
use Rattle.spx_link.specs.Leasts.{IsLeastId, HasGreaterId}
use Rattle.spx_link.proofs.links.lookup.least_above.Given as goal

-- it is the least of the links so far
abbrev pub invariant-loop-link : goal.invariant-loop-link
invariant-loop-link l = IsLeastId (HasGreaterId l.id) (take l.link-index l.links) l.least
