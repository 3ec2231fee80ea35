use Rattle.std.proofs.Common.{◌+◌, ◌<◌, take}
use Rattle.spx_link.specs.Queues.{IsSince}
use Rattle.spx_link.proofs.queue.search.Given as goal

abbrev pub invariant-loop-place : goal.invariant-loop-place
invariant-loop-place l = record { first : IsSince l.since (take l.place l.units); early : l.now < l.since + 500 }
