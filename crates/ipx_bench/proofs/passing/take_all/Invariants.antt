use Rattle.spx_link.specs.Links.{IsLive}
use Rattle.ipx_bench.proofs.passing.take_all.Given as goal

abbrev pub invariant-loop-count : goal.invariant-loop-count
invariant-loop-count l = IsLive l.end.links l.end.id
