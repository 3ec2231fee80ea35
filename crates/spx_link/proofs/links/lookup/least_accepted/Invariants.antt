use Rattle.std.proofs.Common.{take}
use Rattle.spx_link.specs.Leasts.{IsLeastId, IsFrom}
use Rattle.spx_link.proofs.links.lookup.least_accepted.Given as goal

-- it is the least of the links so far
abbrev pub invariant-loop-link : goal.invariant-loop-link
invariant-loop-link l = IsLeastId (IsFrom l.from l.peer_id) (take l.link-index l.links) l.least
