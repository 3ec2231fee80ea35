use Rattle.spx_link.specs.Links.{IsLive}
use Rattle.ipx_bench.proofs.playing.played.Given as goal

abbrev pub invariant-loop-event : goal.invariant-loop-event
invariant-loop-event l =
    IsLive l.pair.near.links l.pair.near.id ×
    IsLive l.pair.far.links l.pair.far.id ×
    (goal.iterator-loop-event).can_next l.event-iterator ×
    (goal.iterator-loop-event).is_finite l.event-iterator
