use Rattle.spx_link.specs.Links.{IsLive}
use Rattle.ipx_bench.proofs.passing.pump.Given as goal

abbrev pub invariant-loop : goal.invariant-loop
invariant-loop l = IsLive l.pair.near.links l.pair.near.id × IsLive l.pair.far.links l.pair.far.id
