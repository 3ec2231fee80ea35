use Rattle.rip_convergence.proofs.Theorems as proof
use Rattle.rip_convergence.proofs.laws.solutions_are_one.Goals as goal

pub returns : goal.returns
returns c = proof.one_solution c.laws_below.ensures
