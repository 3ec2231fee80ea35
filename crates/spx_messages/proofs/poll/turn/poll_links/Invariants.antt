use Rattle.std.proofs.Common.{◌≡◌, ◌-◌}
use Rattle.spx_messages.specs.EndpointTurns.{RestsTo}
use Rattle.spx_messages.proofs.poll.turn.poll_links.Given as goal

abbrev pub invariant-loop-next : goal.invariant-loop-next
invariant-loop-next l = RestsTo l.fn.links l.links l.now l.id × (l.room ≡ l.fn.room)

abbrev pub decreases-loop-next : goal.decreases-loop-next
decreases-loop-next l = 65536 - l.id
