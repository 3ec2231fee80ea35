use Rattle.spx_link.specs.Links.{IsLive}
use Rattle.ipx_bench.proofs.passing.ipx_bench_pass.Given as goal

abbrev pub invariant-loop-round : goal.invariant-loop-round
invariant-loop-round l = IsLive l.pair.near.links l.pair.near.id × IsLive l.pair.far.links l.pair.far.id
