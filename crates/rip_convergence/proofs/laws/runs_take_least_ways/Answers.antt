use Rattle.rip_convergence.proofs.Theorems as proof
use Rattle.rip_convergence.proofs.laws.runs_take_least_ways.Goals as goal

pub returns : goal.returns
returns c = proof.take_least c.laws_below.ensures
