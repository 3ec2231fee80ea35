use Rattle.rip_convergence.proofs.Theorems as proof
use Rattle.rip_convergence.proofs.laws.runs_take_ways.Goals as goal

pub returns : goal.returns
returns c = proof.take_ways c.laws_below.ensures
