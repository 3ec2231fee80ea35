use Rattle.spx_link.specs.Links.{IsLive}
use Rattle.ipx_bench.proofs.passing.carry_all.Given as goal

abbrev pub invariant-loop : goal.invariant-loop
invariant-loop l = IsLive l.from.links l.from.id × IsLive l.to.links l.to.id
