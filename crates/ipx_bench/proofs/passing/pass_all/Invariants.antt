use Rattle.spx_link.specs.Links.{IsLive}
use Rattle.ipx_bench.proofs.passing.pass_all.Given as goal

abbrev pub invariant-loop-part : goal.invariant-loop-part
invariant-loop-part l =
    IsLive l.pair.near.links l.pair.near.id ×
    IsLive l.pair.far.links l.pair.far.id ×
    (goal.iterator-loop-part).can_next l.part-iterator ×
    (goal.iterator-loop-part).is_finite l.part-iterator
