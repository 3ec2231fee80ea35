use Rattle.rip_convergence.proofs.Theorems as proof
use Rattle.rip_convergence.proofs.laws.runs_solve.Goals as goal

pub returns : goal.returns
returns c = proof.solve c.laws_below.ensures
